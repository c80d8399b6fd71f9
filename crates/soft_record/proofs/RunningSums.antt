-- Numbers that are summed up one by one.
use Rattle.std.proofs.Common.{ℕ, ℤ, pos, ◌≡◌, ◌≤◌, ◌+◌, List, [], ◌∷◌, ◌++◌, length, suc, Some, None, refl, ap, sym, subst, ◌∙◌, arith, length-append}
use Rattle.std.specs.Prelude.{◌+ℤ◌}
use Rattle.std.specs.Int.{int_div_euclid, int_min, int_max}
use Rattle.std.specs.List.{fold}
use Rattle.std.proofs.lemmas.Int.{ints}
use Rattle.soft_record.specs.Numbers.{sum_of_numbers, mean_of, least_of, greatest_of}
use Rattle.soft_record.specs.declared.spread.Spread.{Spread}
use Rattle.soft_record.specs.Spread.{IsSpreadOf}

sum_sum : (a b c : ℤ) → a +ℤ (b +ℤ c) ≡ (a +ℤ b) +ℤ c
sum_sum a b c = omega (arith, ints)

zero_behind : (a : ℤ) → a +ℤ pos 0 ≡ pos 0 +ℤ a
zero_behind a = omega (arith, ints)

total_more : (numbers : List ℤ) (n : ℤ) → sum_of_numbers (numbers ++ n ∷ []) ≡ sum_of_numbers numbers +ℤ n
total_more [] n = zero_behind n
total_more (m ∷ more) n = ap (λ (z : ℤ). m +ℤ z) (total_more more n) ∙ sum_sum m (sum_of_numbers more) n

fold_more : (f : ℤ → ℤ → ℤ) (a : ℤ) (numbers : List ℤ) (n : ℤ) → fold f a (numbers ++ n ∷ []) ≡ f (fold f a numbers) n
fold_more f a [] n = refl
fold_more f a (m ∷ more) n = fold_more f (f a m) more n

-- no numbers, by their count
empty : (numbers : List ℤ) (count : ℕ) → count ≡ length numbers → count ≡ 0 → numbers ≡ []
empty [] count is none = refl
empty (n ∷ more) count is none = absurd (let no : suc (length more) ≡ 0 = sym is ∙ none in omega (arith, no))

one : (n : ℤ) → IsSpreadOf (n ∷ []) (record { count = 1; sum = n; least = n; greatest = n })
one n = record { count = refl; sum = omega (arith, ints); least = λ _. refl; greatest = λ _. refl }

-- the first number
pub with_first : (numbers : List ℤ) (s : Spread) (n : ℤ) → s.count ≡ 0 → IsSpreadOf numbers s
    → IsSpreadOf (numbers ++ n ∷ []) (record { count = 1; sum = n; least = n; greatest = n })
with_first numbers s n none is =
    let no : numbers ≡ [] = empty numbers s.count is.count none in
    let P : List ℤ → Type 0 = λ (xs : List ℤ). IsSpreadOf (xs ++ n ∷ []) (record { count = 1; sum = n; least = n; greatest = n }) in
    subst P (sym no) (one n)

least_more : (numbers : List ℤ) (least n : ℤ) → least_of numbers ≡ Some least
    → least_of (numbers ++ n ∷ []) ≡ Some (int_min least n)
least_more [] least n is = absurd (let no : None ≡ Some least = is in cc)
least_more (m ∷ more) least n is =
    let same : fold int_min m more ≡ least = cc in
    ap Some (fold_more int_min m more n ∙ ap (λ (z : ℤ). int_min z n) same)

greatest_more : (numbers : List ℤ) (greatest n : ℤ) → greatest_of numbers ≡ Some greatest
    → greatest_of (numbers ++ n ∷ []) ≡ Some (int_max greatest n)
greatest_more [] greatest n is = absurd (let no : None ≡ Some greatest = is in cc)
greatest_more (m ∷ more) greatest n is =
    let same : fold int_max m more ≡ greatest = cc in
    ap Some (fold_more int_max m more n ∙ ap (λ (z : ℤ). int_max z n) same)

-- a number more
pub with_more : (numbers : List ℤ) (s t : Spread) (n : ℤ) → 1 ≤ s.count → t.count ≡ s.count + 1 → t.sum ≡ s.sum +ℤ n
    → t.least ≡ int_min s.least n → t.greatest ≡ int_max s.greatest n → IsSpreadOf numbers s → IsSpreadOf (numbers ++ n ∷ []) t
with_more numbers s t n some count sum least greatest is = record {
  count = omega (arith, count, is.count, length-append numbers (n ∷ []));
  sum = sum ∙ sym (total_more numbers n ∙ ap (λ (z : ℤ). z +ℤ n) (sym is.sum));
  least = λ _. least_more numbers s.least n (is.least some) ∙ ap Some (sym least);
  greatest = λ _. greatest_more numbers s.greatest n (is.greatest some) ∙ ap Some (sym greatest);
}

pub mean_none : (numbers : List ℤ) (s : Spread) → s.count ≡ 0 → IsSpreadOf numbers s → None ≡ mean_of numbers
mean_none numbers s none is = sym (ap mean_of (empty numbers s.count is.count none))

pub least_none : (numbers : List ℤ) (s : Spread) → s.count ≡ 0 → IsSpreadOf numbers s → None ≡ least_of numbers
least_none numbers s none is = sym (ap least_of (empty numbers s.count is.count none))

pub greatest_none : (numbers : List ℤ) (s : Spread) → s.count ≡ 0 → IsSpreadOf numbers s → None ≡ greatest_of numbers
greatest_none numbers s none is = sym (ap greatest_of (empty numbers s.count is.count none))

mean_of_some : (numbers : List ℤ) (sum : ℤ) (count : ℕ) → sum ≡ sum_of_numbers numbers → count ≡ length numbers → 1 ≤ count
    → Some (int_div_euclid sum (pos count)) ≡ mean_of numbers
mean_of_some [] sum count s c some = absurd (omega (arith, c, some))
mean_of_some (n ∷ more) sum count s c some = ap (λ (z : ℤ). Some (int_div_euclid z (pos count))) s
    ∙ ap (λ (k : ℕ). Some (int_div_euclid (sum_of_numbers (n ∷ more)) (pos k))) c

pub mean_some : (numbers : List ℤ) (s : Spread) → 1 ≤ s.count → IsSpreadOf numbers s
    → Some (int_div_euclid s.sum (pos s.count)) ≡ mean_of numbers
mean_some numbers s some is = mean_of_some numbers s.sum s.count is.sum is.count some

pub least_some : (numbers : List ℤ) (s : Spread) → 1 ≤ s.count → IsSpreadOf numbers s → Some s.least ≡ least_of numbers
least_some numbers s some is = sym (is.least some)

pub greatest_some : (numbers : List ℤ) (s : Spread) → 1 ≤ s.count → IsSpreadOf numbers s → Some s.greatest ≡ greatest_of numbers
greatest_some numbers s some is = sym (is.greatest some)
