-- A message that is noted byte by byte.
use Rattle.std.proofs.Common.{◌≡◌, ℕ, zero, suc, ◌+◌, ◌<◌, ◌==◌, Bool, false, List, [], ◌∷◌, ◌++◌, length, drop, get_or, refl, sym, ap, ◌∙◌, arith, append_assoc}
use Rattle.serial_link.specs.declared.talk.TalkItem.{TalkItem}
use Rattle.serial_link.specs.declared.talk.TalkItem.TheVariants.{Said}
use Rattle.serial_link.specs.Talk.{message}

said_next : (bs : List ℕ) (i : ℕ) → i < length bs → message (drop i bs) ≡ Said (get_or bs i 0) (i + 1 == length bs) ∷ message (drop (i + 1) bs)
said_next [] i below = absurd (omega arith)
said_next (b ∷ []) zero below = refl
said_next (b ∷ c ∷ bs) zero below =
    let e : (0 + 1 == length (b ∷ c ∷ bs)) ≡ false = grind arith in
    ap (λ t. Said b t ∷ message (c ∷ bs)) (sym e)
said_next (b ∷ bs) (suc i) below =
    let e : (i + 1 == length bs) ≡ (suc i + 1 == length (b ∷ bs)) = grind arith in
    let d : suc (i + 1) ≡ suc i + 1 = omega arith in
    said_next bs i (omega arith) ∙ ap (λ t. Said (get_or bs i 0) t ∷ message (drop (i + 1) bs)) e ∙ ap (λ n. Said (get_or bs i 0) (suc i + 1 == length (b ∷ bs)) ∷ message (drop n (b ∷ bs))) d

-- with one more byte said, what was said and what is left are still the message
pub said_more : (bs : List ℕ) (i b : ℕ) (ends : Bool) (s : List TalkItem) → i < length bs → b ≡ get_or bs i 0 → ends ≡ (i + 1 == length bs) → s ++ message (drop i bs) ≡ message bs → (s ++ Said b ends ∷ []) ++ message (drop (i + 1) bs) ≡ message bs
said_more bs i b ends s below is last before =
    append_assoc s (Said b ends ∷ []) (message (drop (i + 1) bs)) ∙ ap (λ x. s ++ Said x ends ∷ message (drop (i + 1) bs)) is
    ∙ ap (λ t. s ++ Said (get_or bs i 0) t ∷ message (drop (i + 1) bs)) last ∙ ap (λ l. s ++ l) (sym (said_next bs i below)) ∙ before
