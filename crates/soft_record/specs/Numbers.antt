-- What numbers come to.
use Rattle.std.specs.Prelude.{ℤ, pos, ◌+ℤ◌, List, [], ◌∷◌, ◌++◌, length, Some, None}
use Rattle.std.specs.Int.{int_div_euclid, int_min, int_max}
use Rattle.std.specs.List.{fold}
use Rattle.std.specs.declared.option.Option.{Option}

-- the numbers, and one more if it is there
abbrev pub with_number : List ℤ → Option ℤ → List ℤ
with_number numbers None = numbers
with_number numbers (Some number) = numbers ++ number ∷ []

-- the sum
abbrev pub sum_of_numbers : List ℤ → ℤ
sum_of_numbers [] = pos 0
sum_of_numbers (n ∷ more) = n +ℤ sum_of_numbers more

-- the mean, rounded towards the lesser number, if there is a number
abbrev pub mean_of : List ℤ → Option ℤ
mean_of [] = None
mean_of (n ∷ more) = Some (int_div_euclid (sum_of_numbers (n ∷ more)) (pos (length (n ∷ more))))

-- the least, if there is a number
abbrev pub least_of : List ℤ → Option ℤ
least_of [] = None
least_of (n ∷ more) = Some (fold int_min n more)

-- the greatest, if there is a number
abbrev pub greatest_of : List ℤ → Option ℤ
greatest_of [] = None
greatest_of (n ∷ more) = Some (fold int_max n more)

-- the last, if there is a number
abbrev pub last_of_numbers : List ℤ → Option ℤ
last_of_numbers [] = None
last_of_numbers (n ∷ []) = Some n
last_of_numbers (n ∷ m ∷ more) = last_of_numbers (m ∷ more)
