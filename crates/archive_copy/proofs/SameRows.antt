-- Rows that are the same.
use Rattle.std.proofs.Common.{◌≡◌, ℕ, ℤ, Bool, true, false, not, List, Option, Some, None, int_eq, refl, sym, ◌∙◌, ap}
use Rattle.std.specs.Bool.{Decides}
use Rattle.std.specs.Cmp.Lexicographic.{pointwise}
use Rattle.std.specs.Option.{option_eq}
use Rattle.std.proofs.lemmas.Bool.Decides.{Decides-int_eq}
use Rattle.std.proofs.lemmas.Slice.Eq.{slice_eq-Decides}
use Rattle.station_base.specs.CivilMinute.{CivilMinute, IsCivilMinute}
use Rattle.station_base.specs.Stamp.{date_word_of, time_word_of, stamp_of_words}
use Rattle.station_base.specs.declared.row.Row.{Row}
use Rattle.station_base.proofs.Words.{stamp_of_words-of}

some_same : {A : Type 0} (a b : A) → Some a ≡ Some b → a ≡ b
some_same a b is = cc

-- the words of a minute tell it
pub same_words : (a b : CivilMinute) → IsCivilMinute a → IsCivilMinute b → date_word_of a ≡ date_word_of b → time_word_of a ≡ time_word_of b → a ≡ b
same_words a b one two date time =
    some_same a b
    (sym (stamp_of_words-of a one) ∙ ap (λ d. stamp_of_words d (time_word_of a)) date ∙ ap (λ t. stamp_of_words (date_word_of b) t) time ∙ stamp_of_words-of b two)

agrees : (a b : Option ℤ) → Decides (option_eq int_eq a b) (a ≡ b)
agrees None None = (λ _. refl, λ _. refl)
agrees None (Some w) = (λ e. absurd cc, λ e. absurd cc)
agrees (Some v) None = (λ e. absurd cc, λ e. absurd cc)
agrees (Some v) (Some w) = (λ e. ap Some ((Decides-int_eq v w).0 e), λ e. (Decides-int_eq v w).1 (some_same v w e))

-- the test of values tells whether they are the same
pub values_decide : (xs ys : List (Option ℤ)) → Decides (pointwise (option_eq int_eq) xs ys) (xs ≡ ys)
values_decide xs ys = slice_eq-Decides agrees xs ys (pointwise (option_eq int_eq) xs ys) refl

-- rows of which all is the same
pub same_row : (a b : Row) → a.stamp ≡ b.stamp → a.interval ≡ b.interval → a.values ≡ b.values → a.limited ≡ b.limited → a ≡ b
same_row a b stamp interval values limited =
    ap (λ (x : CivilMinute). record { stamp = x; interval = a.interval; values = a.values; limited = a.limited }) stamp
    ∙ ap (λ (x : ℕ). record { stamp = b.stamp; interval = x; values = a.values; limited = a.limited }) interval
    ∙ ap (λ (x : List (Option ℤ)). record { stamp = b.stamp; interval = b.interval; values = x; limited = a.limited }) values
    ∙ ap (λ (x : ℕ). record { stamp = b.stamp; interval = b.interval; values = b.values; limited = x }) limited

pub not_so : (a : Bool) → not a ≡ true → a ≡ false
not_so true is = cc
not_so false is = refl

pub so : (a : Bool) → not a ≡ false → a ≡ true
so true is = refl
so false is = cc
