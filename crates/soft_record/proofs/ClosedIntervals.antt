-- The rows of the intervals that are over, as an entry is taken and at the end.
use Rattle.std.proofs.Common.{ℕ, ◌≡◌, ◌≢◌, ◌<◌, ◌≤◌, List, [], ◌∷◌, ◌++◌, Option, Some, None, refl, sym, ap, subst, ◌∙◌, arith}
use Rattle.std.specs.List.{AllByRecursion, AllZip}
use Rattle.std.proofs.lemmas.Bool.{eq-eqb, ne_eqb}
use Rattle.std.proofs.lemmas.List.{append-nil}
use Rattle.station_base.specs.declared.row.Row.{Row}
use Rattle.soft_record.specs.declared.entry.Entry.{Entry}
use Rattle.soft_record.specs.Entry.{interval_end}
use Rattle.soft_record.specs.Given.{AreGood, AreRows, AreRowsSoFar, EntryCanFollow, IsRowOf, ended_by, ends_of, ends_over, last_end}
use Rattle.soft_record.specs.Interval.{last_entry}
use Rattle.soft_record.proofs.Ends.{end_rises}
use Rattle.soft_record.proofs.Intervals.{ends_more, over_before, row_stays}

-- one row more, of one interval more
push : (R : ℕ → Row → Type 0) (ends : List ℕ) (rows : List Row) (end : ℕ) (row : Row) → AllZip R ends rows → R end row
    → AllZip R (ends ++ end ∷ []) (rows ++ row ∷ [])
push R [] [] end row all is = (is, tt)
push R [] (r ∷ rows) end row all is = absurd all
push R (x ∷ ends) [] end row all is = absurd all
push R (x ∷ ends) (r ∷ rows) end row all is = (all.0, push R ends rows end row all.1 is)

-- rows of earlier intervals stay their rows
stay : (period : ℕ) (es : List Entry) (e : Entry) (ends : List ℕ) (rows : List Row) → AllByRecursion (λ end. end < interval_end period e) ends
    → AllZip (IsRowOf period es) ends rows → AllZip (IsRowOf period (es ++ e ∷ [])) ends rows
stay period es e [] [] before all = tt
stay period es e [] (r ∷ rows) before all = absurd all
stay period es e (x ∷ ends) [] before all = absurd all
stay period es e (x ∷ ends) (r ∷ rows) before all =
    (row_stays period x es e r (λ same. absurd (omega (arith, same, before.0))) all.0, stay period es e ends rows before.1 all.1)

up_to : (low high : ℕ) (ends : List ℕ) → low ≤ high → AllByRecursion (λ end. end < low) ends → AllByRecursion (λ end. end < high) ends
up_to low high [] up all = tt
up_to low high (x ∷ ends) up all = (omega (arith, up, all.0), up_to low high ends up all.1)

-- the rows so far stay, as an entry follows
so_far : (period : ℕ) (l e : Entry) (es : List Entry) (rows : List Row) → 0 < period → AreGood period None es → last_entry None es ≡ Some l
    → EntryCanFollow period (Some l) e → AreRowsSoFar period es rows → AllZip (IsRowOf period (es ++ e ∷ [])) (ends_over period None es) rows
so_far period l e es rows some good is follows given =
    stay period es e (ends_over period None es) rows
    (up_to (interval_end period l) (interval_end period e) (ends_over period None es) (end_rises period l e some follows.civil (follows.later l refl))
    (over_before period l es some good is)) given

-- no interval is over by the first entry
pub given_first : (period : ℕ) (es : List Entry) (e : Entry) (rows : List Row) → es ≡ [] → AreRowsSoFar period es rows → AreRowsSoFar period (es ++ e ∷ []) rows
given_first period [] e [] none given = tt
given_first period [] e (r ∷ rows) none given = absurd given
given_first period (x ∷ es) e rows none given = absurd (let no : x ∷ es ≡ [] = none in cc)

-- nor by an entry of the same interval
pub given_joined : (period : ℕ) (l e : Entry) (es : List Entry) (rows : List Row) → 0 < period → AreGood period None es → last_entry None es ≡ Some l
    → EntryCanFollow period (Some l) e → interval_end period l ≡ interval_end period e → AreRowsSoFar period es rows → AreRowsSoFar period (es ++ e ∷ []) rows
given_joined period l e es rows some good is follows same given =
    let none : ended_by period (Some l) e ≡ [] = rw (eq-eqb _ _ same) refl in
    let ends : ends_over period None (es ++ e ∷ []) ≡ ends_over period None es =
    ends_more period None es e
    ∙ (ap (λ (before : Option Entry). ends_over period None es ++ ended_by period before e) is
    ∙ (ap (λ (xs : List ℕ). ends_over period None es ++ xs) none ∙ append-nil (ends_over period None es))) in
    let P : List ℕ → Type 0 = λ (xs : List ℕ). AllZip (IsRowOf period (es ++ e ∷ [])) xs rows in
    subst P (sym ends) (so_far period l e es rows some good is follows given)

-- by an entry of another interval that of the last entry is over
pub given_closed : (period : ℕ) (l e : Entry) (es : List Entry) (rows : List Row) (row : Row) → 0 < period → AreGood period None es → last_entry None es ≡ Some l
    → EntryCanFollow period (Some l) e → interval_end period l ≢ interval_end period e → IsRowOf period es (interval_end period l) row → AreRowsSoFar period es rows
    → AreRowsSoFar period (es ++ e ∷ []) (rows ++ row ∷ [])
given_closed period l e es rows row some good is follows other row_is given =
    let one : ended_by period (Some l) e ≡ interval_end period l ∷ [] = rw (ne_eqb _ _ other) refl in
    let ends : ends_over period None (es ++ e ∷ []) ≡ ends_over period None es ++ interval_end period l ∷ [] =
    ends_more period None es e
    ∙ (ap (λ (before : Option Entry). ends_over period None es ++ ended_by period before e) is
    ∙ ap (λ (xs : List ℕ). ends_over period None es ++ xs) one) in
    let P : List ℕ → Type 0 = λ (xs : List ℕ). AllZip (IsRowOf period (es ++ e ∷ [])) xs (rows ++ row ∷ []) in
    subst P (sym ends)
    (push (IsRowOf period (es ++ e ∷ [])) (ends_over period None es) rows (interval_end period l) row (so_far period l e es rows some good is follows given)
    (row_stays period (interval_end period l) es e row (λ same. other (sym same)) row_is))

-- at the end each interval has its row
pub given_all : (period : ℕ) (l : Entry) (es : List Entry) (rows : List Row) (row : Row) → last_entry None es ≡ Some l
    → IsRowOf period es (interval_end period l) row → AreRowsSoFar period es rows → AreRows period es (rows ++ row ∷ [])
given_all period l es rows row is row_is given =
    let ends : ends_of period es ≡ ends_over period None es ++ interval_end period l ∷ [] =
    ap (λ (last : Option Entry). ends_over period None es ++ last_end period last) is in
    let P : List ℕ → Type 0 = λ (xs : List ℕ). AllZip (IsRowOf period es) xs (rows ++ row ∷ []) in
    subst P (sym ends) (push (IsRowOf period es) (ends_over period None es) rows (interval_end period l) row given row_is)

pub given_none : (period : ℕ) (es : List Entry) (rows : List Row) → es ≡ [] → AreRowsSoFar period es rows → AreRows period es rows
given_none period [] rows none given = given
given_none period (x ∷ es) rows none given = absurd (let no : x ∷ es ≡ [] = none in cc)

-- there is an entry if there is a last one
pub some_entry : (es : List Entry) (l : Entry) → last_entry None es ≡ Some l → es ≢ []
some_entry [] l is none = absurd (let no : None ≡ Some l = is in cc)
some_entry (x ∷ es) l is none = absurd (let no : x ∷ es ≡ [] = none in cc)
