-- Changes, one after another.
use Rattle.std.proofs.Common.{◌≡◌, ℕ, suc, ◌+◌, ◌-◌, ◌<◌, true, List, [], ◌∷◌, ◌++◌, All, length, take, set, get_or, replicate, length-set, length-take-le, Option, Some, None, IfSome, refl, ap, sym, ◌∙◌, arith}
use Rattle.std.specs.Option.{option_or}
use Rattle.std.proofs.lemmas.List.{take_more, take_more_set, length-append}
use Rattle.std.proofs.lemmas.List.Elements.{All-push}
use Rattle.station_base.specs.LastStamp.{exceeds}
use Rattle.station_base.proofs.LastStamps.{Rises-append}
use Rattle.settings_file.specs.declared.change.Change.{Change}
use Rattle.settings_file.specs.Changes.{IsChange, AreChanges, change_start, last_start, last_given, blank_change}
use Rattle.settings_file.specs.ChangesStored.{AreStored}

-- one more change behind the others
pub AreChanges-more : (changes : List Change) (x : Change) → AreChanges changes → length changes < 16 → IsChange x
    → exceeds (last_start changes) (Some x.from) ≡ true → AreChanges (changes ++ x ∷ [])
AreChanges-more changes x are room is later = record {
  few = omega (arith, length-append changes (x ∷ []));
  each = All-push IsChange changes x are.each is;
  rising = Rises-append change_start None changes (x ∷ []) are.rising (later, tt);
}

set_behind : {A : Type 0} (ys : List A) (m : ℕ) (b x : A) → set (ys ++ replicate (suc m) b) (length ys) x ≡ (ys ++ x ∷ []) ++ replicate m b
set_behind [] m b x = refl
set_behind (y ∷ ys) m b x = ap (λ zs. y ∷ zs) (set_behind ys m b x)

set_blank : {A : Type 0} (all ys : List A) (count m n : ℕ) (b x : A) → all ≡ ys ++ replicate n b → n ≡ suc m → length ys ≡ count
    → set all count x ≡ (ys ++ x ∷ []) ++ replicate m b
set_blank all ys count m n b x is more long = rw (is, more, ← long) (set_behind ys m b x)

-- in the first place that is blank
pub AreStored-more : (count : ℕ) (all : List Change) (x : Change) → AreStored count all → count < 16 → AreChanges (take count all ++ x ∷ [])
    → AreStored (count + 1) (set all count x)
AreStored-more count all x stored room valid =
    let long : length (take count all) ≡ count = length-take-le count all (omega (arith, stored.taken, stored.room)) in
    let within : count < length all = omega (arith, stored.room) in
    let front : take (count + 1) (set all count x) ≡ take count all ++ x ∷ [] = take_more_set all count x within in
    let less : 16 - (count + 1) ≡ 15 - count = omega arith in
    let rest = set_blank all (take count all) count (15 - count) (16 - count) blank_change x stored.blank (omega arith) long in
    record {
      taken = omega arith;
      room = length-set all count x ∙ stored.room;
      blank = rw (front, less) rest;
      valid = rw front valid;
    }

none_behind : {A : Type 0} (o : Option A) → option_or None o ≡ option_or o None
none_behind None = refl
none_behind (Some x) = refl

or_both : {A : Type 0} (a b c : Option A) → option_or (option_or a b) c ≡ option_or a (option_or b c)
or_both None b c = refl
or_both (Some x) b c = refl

-- of one more change the last that gives anything is this one, or else as before
pub last_given-more : {A : Type 0} (given : Change → Option A) (changes : List Change) (x : Change)
    → last_given given (changes ++ x ∷ []) ≡ option_or (given x) (last_given given changes)
last_given-more given [] x = none_behind (given x)
last_given-more given (c ∷ changes) x = rw (last_given-more given changes x) (or_both (given x) (last_given given changes) (given c))

-- so of the first changes and the next one
pub last_given-step : {A : Type 0} (given : Change → Option A) (changes : List Change) (i : ℕ) (last : Option A) (x : Change)
    → i < length changes → last ≡ last_given given (take i changes) → x ≡ get_or changes i x
    → option_or (given x) last ≡ last_given given (take (i + 1) changes)
last_given-step given changes i last x within so_far is =
    ap (option_or (given x)) so_far ∙ sym (last_given-more given (take i changes) x)
    ∙ ap (last_given given) (ap (λ y. take i changes ++ y ∷ []) is ∙ sym (take_more changes i x within))

-- one or the other is in its range
pub either_within : {A : Type 0} (P : A → Type 0) (a b : Option A) → IfSome a P → IfSome b P → IfSome (option_or a b) P
either_within P None b pa pb = pb
either_within P (Some x) b pa pb = pa

-- each change is one
pub change_at : (changes : List Change) (i : ℕ) (x : Change) → All IsChange changes → i < length changes → x ≡ get_or changes i x → IsChange x
change_at changes i x are within is = rw is (are i x within)
