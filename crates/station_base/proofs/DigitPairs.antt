-- Two digits of a number of four.
use Rattle.std.proofs.Common.{◌≡◌, ℕ, zero, suc, ◌+◌, ◌*◌, ◌/◌, ◌%◌, ◌<◌, List, [], ◌∷◌, ◌++◌, length, drop, get_or, ap, sym, ◌∙◌, arith, refl, codes}
use Rattle.std.proofs.lemmas.List.{drop_more, drop_all}
use Rattle.station_base.specs.CivilDate.{civil_date}
use Rattle.station_base.specs.DayText.{date_text}
use Rattle.station_base.specs.Digits.{digits}

pair : ℕ → ℕ → List ℕ
pair tens units = tens ∷ units ∷ []

same_pair : (a b c d : ℕ) → a ≡ c → b ≡ d → a ∷ b ∷ [] ≡ c ∷ d ∷ []
unfolding pair
same_pair a b c d tens units = let same : pair a b ≡ pair c d = rw (tens, units) refl in same

-- the last two of four digits are those of the rest by a hundred
pub digits-low : (n : ℕ) → digits 2 (n % 100) ≡ (48 + n / 10 % 10) ∷ (48 + n / 1 % 10) ∷ []
digits-low n = same_pair _ _ _ _ (omega arith) (omega arith)

-- and four digits are two and two
pub four_digits : (n : ℕ) → digits 4 n ≡ digits 2 (n / 100) ++ digits 2 (n % 100)
four_digits n =
    let first : n / 1000 % 10 ≡ n / 100 / 10 % 10 = omega arith in
    let second : n / 100 % 10 ≡ n / 100 / 1 % 10 = omega arith in
    let third : n / 10 % 10 ≡ n % 100 / 10 % 10 = omega arith in
    let fourth : n / 1 % 10 ≡ n % 100 / 1 % 10 = omega arith in
    rw (first, second, third, fourth) refl

pub digits-joined : (century year : ℕ) → year < 100 → digits 4 (100 * century + year) ≡ digits 2 century ++ digits 2 year
digits-joined century year year_small =
    let before : (100 * century + year) / 100 ≡ century = omega arith in
    let behind : (100 * century + year) % 100 ≡ year = omega arith in
    four_digits (100 * century + year) ∙ ap (λ n. digits 2 n ++ digits 2 ((100 * century + year) % 100)) before ∙ ap (λ n. digits 2 century ++ digits 2 n) behind

-- so many elements from a place on
abbrev pub elements : ℕ → ℕ → List ℕ → List ℕ
elements zero i text = []
elements (suc count) i text = get_or text i 0 ∷ elements count (i + 1) text

elements_all : (count i : ℕ) (text : List ℕ) → length text ≡ i + count → drop i text ≡ elements count i text
elements_all zero i text long = drop_all i text (omega arith)
elements_all (suc count) i text long =
    drop_more text i 0 (omega arith) ∙ ap (λ rest. get_or text i 0 ∷ rest) (elements_all count (i + 1) text (omega arith))

-- the parts of a date's text, one after another
glued : List ℕ → List ℕ → ℕ → List ℕ → ℕ → List ℕ → List ℕ
glued century year before_month month before_day day = century ++ year ++ before_month ∷ [] ++ month ++ before_day ∷ [] ++ day

glued_text : (text : List ℕ) → length text ≡ 10 →
    text ≡ glued (get_or text 0 0 ∷ get_or text 1 0 ∷ []) (get_or text 2 0 ∷ get_or text 3 0 ∷ []) (get_or text 4 0) (get_or text 5 0 ∷ get_or text 6 0 ∷ []) (get_or text 7 0) (get_or text 8 0 ∷ get_or text 9 0 ∷ [])
unfolding glued
glued_text text long = elements_all 10 0 text long

glued_digits : (century year month day : ℕ) → year < 100 →
    glued (digits 2 century) (digits 2 year) 45 (digits 2 month) 45 (digits 2 day) ≡ date_text (civil_date (100 * century + year) month day)
unfolding glued
glued_digits century year month day year_small =
    ap (λ four. four ++ codes "-" ++ digits 2 month ++ codes "-" ++ digits 2 day) (sym (digits-joined century year year_small))

same_glued : {century century' year year' month month' day day' : List ℕ} {before_month before_month' before_day before_day' : ℕ} →
    century ≡ century' → year ≡ year' → before_month ≡ before_month' → month ≡ month' → before_day ≡ before_day' → day ≡ day' →
    glued century year before_month month before_day day ≡ glued century' year' before_month' month' before_day' day'
same_glued c y b m e d = rw (c, y, b, m, e, d) refl

-- a text of ten bytes whose parts are written so is the text of the parts
pub spelled : (text : List ℕ) (century year month day : ℕ) → length text ≡ 10 → century < 100 → year < 100 →
    digits 2 century ≡ get_or text 0 0 ∷ get_or text 1 0 ∷ [] → digits 2 year ≡ get_or text 2 0 ∷ get_or text 3 0 ∷ [] → get_or text 4 0 ≡ 45 →
    digits 2 month ≡ get_or text 5 0 ∷ get_or text 6 0 ∷ [] → get_or text 7 0 ≡ 45 → digits 2 day ≡ get_or text 8 0 ∷ get_or text 9 0 ∷ [] →
    text ≡ date_text (civil_date (100 * century + year) month day)
spelled text century year month day long century_small year_small century_is year_is month_dash month_is day_dash day_is =
    glued_text text long
    ∙ same_glued (sym century_is) (sym year_is) month_dash (sym month_is) day_dash (sym day_is)
    ∙ glued_digits century year month day year_small
