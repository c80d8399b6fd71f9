-- Days that ascend.
use Rattle.std.proofs.Common.{◌≡◌, ℕ, zero, suc, ◌<◌, ◌≤◌, ◌-◌, ℤ, pos, negsuc, Bool, true, List, [], ◌∷◌, Some, None, length, get_or, refl, sym, ap, ◌∙◌, ⊎_elim, cond, arith}
use Rattle.std.specs.Prelude.{filter, int_le, int_lt, slice_get, unsigned_abs}
use Rattle.std.proofs.Math.Nat.{eq-or-lt_of_le}
use Rattle.std.proofs.lemmas.Option.{slice_get_within, get_or_from_slice_get}
use Rattle.std.proofs.lemmas.Bool.{and_from}
use Rattle.jiff_core.proofs.SignedLemmas.{signed_arith}
use Rattle.station_base.specs.DayText.{IsDayNumber}
use Rattle.station_base.specs.declared.day.DayNumber.{DayNumber}
use Rattle.packed_rows.specs.Days.{Ascend}
use Rattle.weather_reports.specs.Report.{is_among}

lt_trans : (a b c : ℤ) → int_lt a b ≡ true → int_lt b c ≡ true → int_lt a c ≡ true
lt_trans a b c ab bc = grind (arith, signed_arith)

-- each comes after the one that stands before all
pub above : (last : ℤ) (days : List ℤ) → Ascend (Some last) days → (j : ℕ) (d : ℤ) → j < length days → int_lt last (get_or days j d) ≡ true
above last [] up j d lt = absurd (omega arith)
above last (day ∷ days) up zero d lt = up.0
above last (day ∷ days) up (suc j) d lt =
    lt_trans last day (get_or days j d) up.0 (above day days up.1 j d (omega arith))

-- a later one comes after an earlier one
later : (days : List ℤ) → Ascend None days → (i j : ℕ) (d : ℤ) → i < j → j < length days → int_lt (get_or days i d) (get_or days j d) ≡ true
later [] up i j d before lt = absurd (omega arith)
later (day ∷ days) up zero zero d before lt = absurd (omega arith)
later (day ∷ days) up zero (suc j) d before lt = above day days up j d (omega arith)
later (day ∷ days) up (suc i) zero d before lt = absurd (omega arith)
later (day ∷ days) up (suc i) (suc j) d before lt = later_some day days up i j d (omega arith) (omega arith)
  where
    later_some : (last : ℤ) (days : List ℤ) → Ascend (Some last) days → (i j : ℕ) (d : ℤ) → i < j → j < length days
        → int_lt (get_or days i d) (get_or days j d) ≡ true
    later_some last [] up i j d before lt = absurd (omega arith)
    later_some last (day ∷ days) up zero zero d before lt = absurd (omega arith)
    later_some last (day ∷ days) up zero (suc j) d before lt = above day days up.1 j d (omega arith)
    later_some last (day ∷ days) up (suc i) zero d before lt = absurd (omega arith)
    later_some last (day ∷ days) up (suc i) (suc j) d before lt = later_some day days up.1 i j d (omega arith) (omega arith)

-- the same of their numbers
pub later_number : (days : List ℤ) → Ascend None days → (i j : ℕ) (a b : ℤ) → slice_get days i ≡ Some a → slice_get days j ≡ Some b
    → IsDayNumber a → i < j → unsigned_abs a < unsigned_abs b
later_number days up i j a b at_i at_j range before =
    let less = later days up i j a before (slice_get_within days j b at_j) in
    let x = get_or_from_slice_get days i a a at_i in let y = get_or_from_slice_get days j b a at_j in
    numbers a b range (rw (x, y) at less)
  where
    numbers : (a b : ℤ) → IsDayNumber a → int_lt a b ≡ true → unsigned_abs a < unsigned_abs b
    numbers (pos m) (pos n) range less = grind (arith, signed_arith)
    numbers (pos m) (negsuc n) range less = absurd (omega (arith, signed_arith, less))
    numbers (negsuc m) b range less = absurd (omega (arith, signed_arith, range.0))

-- a list of which each passes is kept whole
all_kept : (p : ℤ → Bool) (days : List ℤ) (d : ℤ) → ((i : ℕ) → i < length days → p (get_or days i d) ≡ true) → filter p days ≡ days
all_kept p [] d all = refl
all_kept p (day ∷ days) d all =
    ap (λ (b : Bool). cond b (day ∷ filter p days) (filter p days)) (all 0 (omega arith))
    ∙ ap (λ (ds : List ℤ). day ∷ ds) (all_kept p days d (λ i lt. all (suc i) (omega arith)))

le_lt : (a b : ℤ) → int_lt a b ≡ true → int_le a b ≡ true
le_lt a b less = grind (arith, signed_arith)

le_same : (a : ℤ) → int_le a a ≡ true
le_same a = grind (arith, signed_arith)

-- an earlier one does not come after a later one
no_later : (days : List ℤ) → Ascend None days → (i j : ℕ) (d : ℤ) → i ≤ j → j < length days → int_le (get_or days i d) (get_or days j d) ≡ true
no_later days up i j d le lt =
    ⊎_elim (λ e. ap (λ (k : ℕ). int_le (get_or days i d) (get_or days k d)) (sym e) ∙ le_same (get_or days i d))
    (λ before. le_lt (get_or days i d) (get_or days j d) (later days up i j d before lt)) (eq-or-lt_of_le le)

-- all are among them from the first to the last
pub all_among : (days : List ℤ) → Ascend None days → (first last : DayNumber) → slice_get days 0 ≡ Some first.0 → slice_get days (length days - 1) ≡ Some last.0
    → filter (is_among first last) days ≡ days
all_among days up first last at_first at_last =
    let d = first.0 in let e = get_or_from_slice_get days 0 first.0 d at_first in
    let l = get_or_from_slice_get days (length days - 1) last.0 d at_last in
    all_kept (is_among first last) days d (λ i lt.
    and_from (int_le d (get_or days i d)) (int_le (get_or days i d) last.0) (ap (λ (x : ℤ). int_le x (get_or days i d)) (sym e) ∙ no_later days up 0 i d (omega arith) lt)
    (ap (λ (x : ℤ). int_le (get_or days i d) x) (sym l) ∙ no_later days up i (length days - 1) d (omega arith) (omega arith)))
