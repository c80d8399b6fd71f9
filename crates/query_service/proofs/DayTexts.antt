-- The text of two days.
use Rattle.std.proofs.Common.{int_cmp, is_gt, Bool, true, false, cond, ℕ, ◌≡◌, ◌≤◌, ℤ, List, ◌++◌, length, take, drop, refl, sym, ap, ◌∙◌, arith}
use Rattle.std.proofs.Math.Seq.{drop-append_seam, take-append_seam}
use Rattle.std.proofs.lemmas.List.{length-append}
use Rattle.std.specs.Prelude.{codes, int_lt, ◌≤ℤ◌}
use Rattle.std.specs.declared.cmp.Ordering.TheVariants.{Less, Equal, Greater}
use Rattle.station_base.specs.DayText.{day_text}
use Rattle.station_base.specs.declared.day.DayNumber.{DayNumber}
use Rattle.query_service.specs.Asked.{AreDays}

day_width : (day : ℤ) → length (day_text day) ≡ 10
unfolding day_text
day_width day = refl

module _ (text : List ℕ) (first last : DayNumber) (are : AreDays text first last) where
  -- the first ten bytes are the first day
  pub days_front : take 10 text ≡ day_text first.0
  days_front =
      ap (λ (l : List ℕ). take 10 l) are.0
      ∙ (ap (λ (n : ℕ). take n (day_text first.0 ++ (codes " " ++ day_text last.0))) (sym (day_width first.0))
      ∙ take-append_seam (day_text first.0) (codes " " ++ day_text last.0))

  -- a space and the last day stand behind them
  pub days_back : drop 10 text ≡ codes " " ++ day_text last.0
  days_back =
      ap (λ (l : List ℕ). drop 10 l) are.0
      ∙ (ap (λ (n : ℕ). drop n (day_text first.0 ++ (codes " " ++ day_text last.0))) (sym (day_width first.0))
      ∙ drop-append_seam (day_text first.0) (codes " " ++ day_text last.0))

  pub days_long : 10 ≤ length text
  days_long = omega (arith, ap length are.0, length-append (day_text first.0) (codes " " ++ day_text last.0), day_width first.0)

gt_by : (s t : Bool) → is_gt (cond s Less (cond t Greater Equal)) ≡ true → t ≡ true
gt_by true t more = absurd cc
gt_by false true more = refl
gt_by false false more = absurd cc

-- a day that is no later comes not behind
pub not_behind : (x y : ℤ) → x ≤ℤ y → is_gt (int_cmp x y) ≡ true → ⊥
not_behind x y order more =
    let behind : int_lt y x ≡ true = gt_by (int_lt x y) (int_lt y x) more in grind (arith, order, behind)
