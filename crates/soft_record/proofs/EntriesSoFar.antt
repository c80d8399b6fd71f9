-- What a record stands for, as an entry is taken and at the end.
use Rattle.std.proofs.Common.{ℕ, ◌≡◌, ◌≢◌, ◌<◌, ◌≤◌, List, [], ◌∷◌, ◌++◌, Option, Some, None, sym, ap, subst, ◌∙◌}
use Rattle.station_base.specs.CivilMinute.{CivilMinute, minute_of, last_minute}
use Rattle.station_base.specs.Period.{IsPeriod}
use Rattle.station_base.specs.declared.row.Row.{Row}
use Rattle.soft_record.specs.declared.entry.Entry.{Entry}
use Rattle.soft_record.specs.declared.open_interval.OpenInterval.{OpenInterval}
use Rattle.soft_record.specs.declared.record.SoftRecord.{SoftRecord}
use Rattle.soft_record.specs.Entry.{interval_end, moment}
use Rattle.soft_record.specs.Given.{EntryCanFollow, IsRowOf}
use Rattle.soft_record.specs.Interval.{last_entry}
use Rattle.soft_record.specs.OpenInterval.{IntervalIsOpen}
use Rattle.soft_record.specs.Standing.{SoftRecordFinishes, KeepsLast, SoftRecordStandsFor}
use Rattle.soft_record.proofs.Ends.{period_some}
use Rattle.soft_record.proofs.Intervals.{good_more}
use Rattle.soft_record.proofs.ClosedIntervals.{given_all, given_closed, given_first, given_joined, some_entry}

-- no entry, or the open interval
pub keeps_none : (period : ℕ) (entries : List Entry) (kept : Option OpenInterval) → KeepsLast period entries kept → kept ≡ None → entries ≡ []
keeps_none period entries None keeps is = keeps
keeps_none period entries (Some o) keeps is = absurd (let no : Some o ≡ None = is in cc)

pub keeps_some : (period : ℕ) (entries : List Entry) (kept : Option OpenInterval) (o : OpenInterval) → KeepsLast period entries kept → kept ≡ Some o
    → IntervalIsOpen period entries o
keeps_some period entries None o keeps is = absurd (let no : None ≡ Some o = is in cc)
keeps_some period entries (Some p) o keeps is =
    let same : p ≡ o = cc in
    let P : OpenInterval → Type 0 = λ (x : OpenInterval). IntervalIsOpen period entries x in
    subst P same keeps

-- the first entry of all can follow
pub first_follows : (period : ℕ) (entries : List Entry) (e : Entry) → entries ≡ [] → e.second < 60 → interval_end period e ≤ minute_of last_minute
    → EntryCanFollow period (last_entry None entries) e
first_follows period entries e none civil ends = record {
  civil = civil;
  later = λ b is. absurd (let no : None ≡ Some b = ap (λ (es : List Entry). last_entry None es) (sym none) ∙ is in cc);
  ends = ends;
}

-- and one that is later than the last one
pub later_follows : (period : ℕ) (before : Option Entry) (l e : Entry) → before ≡ Some l → e.second < 60 → moment l < moment e
    → interval_end period e ≤ minute_of last_minute → EntryCanFollow period before e
later_follows period before l e is civil less ends = record {
  civil = civil;
  later = λ b other. (let same : l ≡ b = cc in let P : Entry → Type 0 = λ (x : Entry). moment x < moment e in subst P same less);
  ends = ends;
}

pub takes_first : (old new : SoftRecord) (period : ℕ) (entries : List Entry) (rows : List Row) (e : Entry) (o : OpenInterval)
    → SoftRecordStandsFor old period entries rows → old.open ≡ None → new.period ≡ old.period → new.open ≡ Some o
    → EntryCanFollow period (last_entry None entries) e → IntervalIsOpen period (e ∷ []) o → SoftRecordStandsFor new period (entries ++ e ∷ []) rows
takes_first old new period entries rows e o stands none same now follows is_open =
    let empty = keeps_none period entries old.open stands.last none in
    let first : IntervalIsOpen period (entries ++ e ∷ []) o =
    (let P : List Entry → Type 0 = λ (es : List Entry). IntervalIsOpen period (es ++ e ∷ []) o in subst P (sym empty) is_open) in
    let P : Option OpenInterval → Type 0 = KeepsLast period (entries ++ e ∷ []) in
    record {
      its_period = same ∙ stands.its_period;
      good = good_more period None entries e stands.good follows;
      last = subst P (sym now) first;
      given = given_first period entries e rows empty stands.given;
    }

pub takes_joined : (old new : SoftRecord) (period : ℕ) (entries : List Entry) (rows : List Row) (e : Entry) (o n : OpenInterval)
    → SoftRecordStandsFor old period entries rows → IsPeriod period → IntervalIsOpen period entries o → new.period ≡ old.period → new.open ≡ Some n
    → EntryCanFollow period (Some o.last) e → minute_of o.end ≡ interval_end period e → IntervalIsOpen period (entries ++ e ∷ []) n
    → SoftRecordStandsFor new period (entries ++ e ∷ []) rows
takes_joined old new period entries rows e o n stands valid last same now follows ends is_open =
    let P : Option OpenInterval → Type 0 = KeepsLast period (entries ++ e ∷ []) in
    let F : Option Entry → Type 0 = λ (before : Option Entry). EntryCanFollow period before e in
    record {
      its_period = same ∙ stands.its_period;
      good = good_more period None entries e stands.good (subst F (sym last.last) follows);
      last = subst P (sym now) is_open;
      given = given_joined period o.last e entries rows (period_some period valid) stands.good last.last follows (sym last.end ∙ ends) stands.given;
    }

pub takes_closed : (old new : SoftRecord) (period : ℕ) (entries : List Entry) (rows : List Row) (e : Entry) (o n : OpenInterval) (row : Row)
    → SoftRecordStandsFor old period entries rows → IsPeriod period → IntervalIsOpen period entries o → new.period ≡ old.period → new.open ≡ Some n
    → EntryCanFollow period (Some o.last) e → minute_of o.end ≢ interval_end period e → IntervalIsOpen period (entries ++ e ∷ []) n
    → IsRowOf period entries (minute_of o.end) row → SoftRecordStandsFor new period (entries ++ e ∷ []) (rows ++ row ∷ [])
takes_closed old new period entries rows e o n row stands valid last same now follows other is_open row_is =
    let P : Option OpenInterval → Type 0 = KeepsLast period (entries ++ e ∷ []) in
    let F : Option Entry → Type 0 = λ (before : Option Entry). EntryCanFollow period before e in
    let R : ℕ → Type 0 = λ (end : ℕ). IsRowOf period entries end row in
    record {
      its_period = same ∙ stands.its_period;
      good = good_more period None entries e stands.good (subst F (sym last.last) follows);
      last = subst P (sym now) is_open;
      given = given_closed period o.last e entries rows row (period_some period valid) stands.good last.last follows (λ is. other (last.end ∙ is))
          (subst R last.end row_is) stands.given;
    }

pub finishes_some : (old : SoftRecord) (period : ℕ) (entries : List Entry) (rows : List Row) (o : OpenInterval) (row : Row)
    → SoftRecordStandsFor old period entries rows → IntervalIsOpen period entries o → IsRowOf period entries (minute_of o.end) row → SoftRecordFinishes period entries rows (Some row)
finishes_some old period entries rows o row stands last row_is =
    let R : ℕ → Type 0 = λ (end : ℕ). IsRowOf period entries end row in
    (some_entry entries o.last last.last, given_all period o.last entries rows row last.last (subst R last.end row_is) stands.given)

-- where an entry's interval ends, by the period that the record has
pub ends_at : (period its : ℕ) (e : Entry) (end : CivilMinute) → its ≡ period → interval_end its e ≤ minute_of last_minute → minute_of end ≡ interval_end its e
    → (interval_end period e ≤ minute_of last_minute) × (minute_of end ≡ interval_end period e)
ends_at period its e end same within is =
    let P : ℕ → Type 0 = λ (p : ℕ). interval_end p e ≤ minute_of last_minute in
    (subst P same within, is ∙ ap (λ (p : ℕ). interval_end p e) same)
