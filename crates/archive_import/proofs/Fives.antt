-- Rows taken five at a time.
use Rattle.std.proofs.Common.{◌≡◌, ℕ, ◌+◌, List, [], ◌∷◌, ◌++◌, length, take, drop, refl, sym, ◌∙◌, ap, arith}
use Rattle.std.proofs.Math.Seq.{take-add}
use Rattle.std.proofs.lemmas.List.{drop-drop}
use Rattle.station_base.specs.declared.row.Row.{Row}

-- five rows, or all if there are fewer
pub five_taken : (rows : List Row) → take (length (take 5 rows)) rows ≡ take 5 rows
five_taken [] = refl
five_taken (a ∷ []) = refl
five_taken (a ∷ b ∷ []) = refl
five_taken (a ∷ b ∷ c ∷ []) = refl
five_taken (a ∷ b ∷ c ∷ d ∷ []) = refl
five_taken (a ∷ b ∷ c ∷ d ∷ e ∷ rows) = refl

pub five_dropped : (rows : List Row) → drop (length (take 5 rows)) rows ≡ drop 5 rows
five_dropped [] = refl
five_dropped (a ∷ []) = refl
five_dropped (a ∷ b ∷ []) = refl
five_dropped (a ∷ b ∷ c ∷ []) = refl
five_dropped (a ∷ b ∷ c ∷ d ∷ []) = refl
five_dropped (a ∷ b ∷ c ∷ d ∷ e ∷ rows) = refl

-- the first of two lists, and the second
pub front_of_both : (xs ys : List Row) → xs ≡ take (length xs) (xs ++ ys)
front_of_both [] ys = refl
front_of_both (x ∷ xs) ys = ap (λ (rows : List Row). x ∷ rows) (front_of_both xs ys)

pub behind_front : (xs ys : List Row) → ys ≡ drop (length xs) (xs ++ ys)
behind_front [] ys = refl
behind_front (x ∷ xs) ys = behind_front xs ys

-- one row more
pub one_taken : (all rest : List Row) (k : ℕ) (row : Row) → drop k all ≡ row ∷ rest → take (k + 1) all ≡ take k all ++ row ∷ []
one_taken all rest k row is = take-add k 1 all ∙ ap (λ (rows : List Row). take k all ++ take 1 rows) is

pub one_dropped : (all rest : List Row) (k : ℕ) (row : Row) → drop k all ≡ row ∷ rest → drop (k + 1) all ≡ rest
one_dropped all rest k row is = sym (drop-drop 1 k all) ∙ ap (drop 1) is

-- a list of no length is empty
pub no_rows : (rows : List Row) → length rows ≡ 0 → rows ≡ []
no_rows [] none = refl
no_rows (row ∷ rows) none = absurd (omega (arith, none))

-- five of the rows that are to come, behind those before them
pub batch_taken : (all come batch : List Row) (k : ℕ) → come ≡ drop k all → batch ≡ take 5 come → take k all ++ batch ≡ take (k + length batch) all
batch_taken all come batch k is five =
    ap (λ (rows : List Row). take k all ++ rows)
    (five ∙ sym (five_taken come) ∙ ap (λ (n : ℕ). take n come) (sym (ap length five)) ∙ ap (take (length batch)) is)
    ∙ sym (take-add k (length batch) all)

pub batch_dropped : (all come batch : List Row) (k : ℕ) → come ≡ drop k all → batch ≡ take 5 come → drop 5 come ≡ drop (k + length batch) all
batch_dropped all come batch k is five =
    sym (five_dropped come) ∙ ap (λ (n : ℕ). drop n come) (sym (ap length five)) ∙ ap (drop (length batch)) is ∙ drop-drop (length batch) k all
