-- Entries one behind another, and their intervals.
use Rattle.std.proofs.Common.{ℕ, ◌≡◌, ◌≢◌, ◌<◌, ◌≤◌, Bool, true, false, List, [], ◌∷◌, ◌++◌, Option, Some, None, ◌==◌, refl, sym, ap, subst, ◌∙◌, arith, append_assoc, filter}
use Rattle.std.specs.List.{AllByRecursion}
use Rattle.std.proofs.lemmas.Bool.{eq-eqb, ne_eqb, eqb-false}
use Rattle.std.proofs.lemmas.List.{append-nil}
use Rattle.std.proofs.lemmas.List.Elements.{filter-append}
use Rattle.station_base.specs.declared.row.Row.{Row}
use Rattle.soft_record.specs.declared.entry.Entry.{Entry}
use Rattle.soft_record.specs.Entry.{interval_end}
use Rattle.soft_record.specs.Given.{AreGood, EntryCanFollow, IsRowOf, ended_by, ends_over}
use Rattle.soft_record.specs.Interval.{Rising, interval_of, is_of, last_entry, rising_entry, risings}
use Rattle.soft_record.specs.SoftRow.{IsSoftRow}
use Rattle.soft_record.proofs.Ends.{end_rises}

-- one entry more
pub last_more : (before : Option Entry) (es : List Entry) (e : Entry) → last_entry before (es ++ e ∷ []) ≡ Some e
last_more before [] e = refl
last_more before (x ∷ es) e = last_more (Some x) es e

pub good_more : (period : ℕ) (before : Option Entry) (es : List Entry) (e : Entry) → AreGood period before es → EntryCanFollow period (last_entry before es) e
    → AreGood period before (es ++ e ∷ [])
good_more period before [] e good follows = (follows, tt)
good_more period before (x ∷ es) e good follows = (good.0, good_more period (Some x) es e good.1 follows)

risings_more : (before : Option Entry) (es : List Entry) (e : Entry) → risings before (es ++ e ∷ []) ≡ risings before es ++ rising_entry (last_entry before es) e ∷ []
risings_more before [] e = refl
risings_more before (x ∷ es) e = ap (λ (rs : List Rising). rising_entry before x ∷ rs) (risings_more (Some x) es e)

pub ends_more : (period : ℕ) (before : Option Entry) (es : List Entry) (e : Entry)
    → ends_over period before (es ++ e ∷ []) ≡ ends_over period before es ++ ended_by period (last_entry before es) e
ends_more period before [] e = append-nil (ended_by period before e)
ends_more period before (x ∷ es) e =
    ap (λ (ends : List ℕ). ended_by period before x ++ ends) (ends_more period (Some x) es e)
    ∙ sym (append_assoc (ended_by period before x) (ends_over period (Some x) es) (ended_by period (last_entry (Some x) es) e))

-- an entry of the interval is kept, and another one left out
pub kept : (period end : ℕ) (before : Option Entry) (e : Entry) (rs : List Rising) → interval_end period e ≡ end
    → filter (is_of period end) (rising_entry before e ∷ rs) ≡ rising_entry before e ∷ filter (is_of period end) rs
kept period end None e rs same = rw (eq-eqb _ _ same) refl
kept period end (Some b) e rs same = rw (eq-eqb _ _ same) refl

left_out : (period end : ℕ) (before : Option Entry) (e : Entry) (rs : List Rising) → interval_end period e ≢ end
    → filter (is_of period end) (rising_entry before e ∷ rs) ≡ filter (is_of period end) rs
left_out period end None e rs other = rw (ne_eqb _ _ other) refl
left_out period end (Some b) e rs other = rw (ne_eqb _ _ other) refl

interval_more : (period end : ℕ) (es : List Entry) (e : Entry)
    → interval_of period end (es ++ e ∷ []) ≡ interval_of period end es ++ filter (is_of period end) (rising_entry (last_entry None es) e ∷ [])
interval_more period end es e =
    ap (λ (rs : List Rising). filter (is_of period end) rs) (risings_more None es e)
    ∙ filter-append (is_of period end) (risings None es) (rising_entry (last_entry None es) e ∷ [])

-- an entry of the interval comes behind its entries
pub joins : (period end : ℕ) (es : List Entry) (e : Entry) → interval_end period e ≡ end
    → interval_of period end (es ++ e ∷ []) ≡ interval_of period end es ++ rising_entry (last_entry None es) e ∷ []
joins period end es e same =
    interval_more period end es e
    ∙ ap (λ (rs : List Rising). interval_of period end es ++ rs) (kept period end (last_entry None es) e [] same)

-- an entry of another interval leaves it as it was
pub stays : (period end : ℕ) (es : List Entry) (e : Entry) → interval_end period e ≢ end → interval_of period end (es ++ e ∷ []) ≡ interval_of period end es
stays period end es e other =
    interval_more period end es e
    ∙ (ap (λ (rs : List Rising). interval_of period end es ++ rs) (left_out period end (last_entry None es) e [] other)
    ∙ append-nil (interval_of period end es))

pub row_stays : (period end : ℕ) (entries : List Entry) (e : Entry) (row : Row) → interval_end period e ≢ end
    → IsRowOf period entries end row → IsRowOf period (entries ++ e ∷ []) end row
row_stays period end entries e row other is =
    let P : List Rising → Type 0 = λ (rs : List Rising). IsSoftRow period end rs row in
    subst P (sym (stays period end entries e other)) is

-- no entry is of an interval that ends later than theirs
empty : (period end : ℕ) (before : Option Entry) (es : List Entry) → AllByRecursion (λ e. interval_end period e < end) es
    → filter (is_of period end) (risings before es) ≡ []
empty period end before [] all = refl
empty period end before (e ∷ es) all =
    left_out period end before e (risings (Some e) es) (λ same. absurd (omega (arith, same, all.0))) ∙ empty period end (Some e) es all.1

-- good entries do not end later than the last one
behind : (period : ℕ) (b l : Entry) (es : List Entry) → 0 < period → AreGood period (Some b) es → last_entry (Some b) es ≡ Some l
    → AllByRecursion (λ e. interval_end period e ≤ interval_end period l) es × (interval_end period b ≤ interval_end period l)
behind period b l [] some good is = (tt, let same : b ≡ l = cc in omega (arith, ap (λ (e : Entry). interval_end period e) same))
behind period b l (e ∷ es) some good is =
    let rest = behind period e l es some good.1 is in
    let up = end_rises period b e some good.0.civil (good.0.later b refl) in
    ((rest.1, rest.0), omega (arith, up, rest.1))

below : (period end : ℕ) (l : Entry) (es : List Entry) → interval_end period l < end → AllByRecursion (λ e. interval_end period e ≤ interval_end period l) es
    → AllByRecursion (λ e. interval_end period e < end) es
below period end l [] less all = tt
below period end l (e ∷ es) less all = (omega (arith, less, all.0), below period end l es less all.1)

earlier : (period end : ℕ) (l : Entry) (es : List Entry) → 0 < period → AreGood period None es → last_entry None es ≡ Some l → interval_end period l < end
    → AllByRecursion (λ e. interval_end period e < end) es
earlier period end l [] some good is less = tt
earlier period end l (e ∷ es) some good is less =
    let all = behind period e l es some good.1 is in
    (omega (arith, less, all.1), below period end l es less all.0)

-- the first entry of an interval behind good ones
pub begins : (period : ℕ) (l e : Entry) (es : List Entry) → 0 < period → AreGood period None es → last_entry None es ≡ Some l
    → EntryCanFollow period (Some l) e → interval_end period l ≢ interval_end period e → interval_of period (interval_end period e) (es ++ e ∷ []) ≡ rising_entry (Some l) e ∷ []
begins period l e es some good is follows other =
    let end = interval_end period e in
    let up = end_rises period l e some follows.civil (follows.later l refl) in
    joins period end es e refl
    ∙ (ap (λ (rs : List Rising). rs ++ rising_entry (last_entry None es) e ∷ []) (empty period end None es (earlier period end l es some good is (omega (arith, up, other))))
    ∙ ap (λ (before : Option Entry). rising_entry before e ∷ []) is)

-- what is over ended before the interval of the last entry
over_by : (period : ℕ) (b e l : Entry) (ends : List ℕ) (test : Bool) → (interval_end period b == interval_end period e) ≡ test
    → interval_end period b ≤ interval_end period e → interval_end period e ≤ interval_end period l → AllByRecursion (λ end. end < interval_end period l) ends
    → AllByRecursion (λ end. end < interval_end period l) (ended_by period (Some b) e ++ ends)
over_by period b e l ends true is up to all = rw is all
over_by period b e l ends false is up to all =
    rw is (let other : interval_end period b ≢ interval_end period e = eqb-false _ _ is in (omega (arith, other, up, to), all))

over : (period : ℕ) (b l : Entry) (es : List Entry) → 0 < period → AreGood period (Some b) es → last_entry (Some b) es ≡ Some l
    → AllByRecursion (λ end. end < interval_end period l) (ends_over period (Some b) es)
over period b l [] some good is = tt
over period b l (e ∷ es) some good is =
    over_by period b e l (ends_over period (Some e) es) _ refl (end_rises period b e some good.0.civil (good.0.later b refl))
    (behind period e l es some good.1 is).1 (over period e l es some good.1 is)

pub over_before : (period : ℕ) (l : Entry) (es : List Entry) → 0 < period → AreGood period None es → last_entry None es ≡ Some l
    → AllByRecursion (λ end. end < interval_end period l) (ends_over period None es)
over_before period l [] some good is = tt
over_before period l (e ∷ es) some good is = over period e l es some good.1 is
