-- Text that is held back and written in pieces.
use Rattle.std.proofs.Common.{ℕ, List, ◌++◌, ap, sym, ◌∙◌, subst, append_assoc}
use Rattle.std.specs.declared.option.Option.{Option}
use Rattle.causes.specs.Written.{Leaves, WritesPart}
use Rattle.causes.proofs.WritesInTurn.{leaves_less, part_of_all, part_of_front}

-- one more text is held back
pub held_grows : (old now : Option (List ℕ)) (all held text rest : List ℕ) →
    Leaves old now all (held ++ (text ++ rest)) → Leaves old now all (held ++ text ++ rest)
held_grows old now all held text rest before =
    let P : List ℕ → Type 0 = λ left. Leaves old now all left in subst P (sym (append_assoc held text rest)) before

-- of what is held back a front was written
pub held_shrinks : (old now new : Option (List ℕ)) (all held rest left : List ℕ) →
    Leaves old now all (held ++ rest) → Leaves now new held left → Leaves old new all (left ++ rest)
held_shrinks old now new all held rest left before some =
    leaves_less old now new all some.written (left ++ rest)
    (let P : List ℕ → Type 0 = λ text. Leaves old now all text in
    subst P (ap (λ (text : List ℕ). text ++ rest) (sym some.whole) ∙ append_assoc some.written left rest) before)
    some.appended

-- a write of it failed
pub held_fails : (old now new : Option (List ℕ)) (all held rest : List ℕ) →
    Leaves old now all (held ++ rest) → WritesPart now new held → WritesPart old new all
held_fails old now new all held rest before part =
    part_of_all old now new all (held ++ rest) before (part_of_front now new held rest part)
