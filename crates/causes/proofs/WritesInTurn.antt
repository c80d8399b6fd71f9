-- Writes to a sink, one after another.
use Rattle.std.proofs.Common.{ℕ, List, [], ◌++◌, Some, None, refl, sym, ap, ◌∙◌, append_assoc, subst}
use Rattle.std.proofs.lemmas.List.{append-nil}
use Rattle.std.specs.declared.option.Option.{Option}
use Rattle.std.specs.Io.KnownBytes.{Appends}
use Rattle.causes.specs.Written.{Leaves, WritesPart}

-- no bytes were appended
pub Appends-nil : (known : Option (List ℕ)) → Appends known known []
Appends-nil None = tt
Appends-nil (Some xs) = sym (append-nil xs)

-- before the first write all is left
pub leaves_all : (known : Option (List ℕ)) (all : List ℕ) → Leaves known known all all
leaves_all known all = record { written = []; appended = Appends-nil known; whole = refl }

-- a write that failed may have written nothing
pub writes_nothing : (known : Option (List ℕ)) (all : List ℕ) → WritesPart known known all
writes_nothing known all = record { left = all; leaves = leaves_all known all }

-- two writes are one of both
Appends-append : (a b c : Option (List ℕ)) (xs ys : List ℕ) → Appends a b xs → Appends b c ys → Appends a c (xs ++ ys)
Appends-append None b c xs ys first second = tt
Appends-append (Some a) None c xs ys first second = absurd first
Appends-append (Some a) (Some b) None xs ys first second = absurd second
Appends-append (Some a) (Some b) (Some c) xs ys first second =
    second ∙ ap (λ (zs : List ℕ). zs ++ ys) first ∙ append_assoc a xs ys

-- what is left after one more write
pub leaves_less : (old now new : Option (List ℕ)) (all bytes rest : List ℕ) →
    Leaves old now all (bytes ++ rest) → Appends now new bytes → Leaves old new all rest
leaves_less old now new all bytes rest before more = record {
  written = before.written ++ bytes;
  appended = Appends-append old now new before.written bytes before.appended more;
  whole = append_assoc before.written bytes rest ∙ before.whole;
}

-- nothing is left
pub leaves_none : (old new : Option (List ℕ)) (all : List ℕ) → Leaves old new all [] → Appends old new all
leaves_none old new all done =
    let P : List ℕ → Type 0 = λ written. Appends old new written in
    subst P (sym (append-nil done.written) ∙ done.whole) done.appended

-- a part of what was left is a part of all
pub part_of_all : (old now new : Option (List ℕ)) (all rest : List ℕ) →
    Leaves old now all rest → WritesPart now new rest → WritesPart old new all
part_of_all old now new all rest before part = record {
  left = part.left;
  leaves = leaves_less old now new all part.leaves.written part.left
      (let P : List ℕ → Type 0 = λ rest. Leaves old now all rest in subst P (sym part.leaves.whole) before)
      part.leaves.appended;
}

-- a part of the front is a part of all
pub part_of_front : (old new : Option (List ℕ)) (front back : List ℕ) → WritesPart old new front → WritesPart old new (front ++ back)
part_of_front old new front back part = record {
  left = part.left ++ back;
  leaves = record {
    written = part.leaves.written;
    appended = part.leaves.appended;
    whole = sym (append_assoc part.leaves.written part.left back) ∙ ap (λ (zs : List ℕ). zs ++ back) part.leaves.whole;
  };
}
