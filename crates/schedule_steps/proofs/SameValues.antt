-- The records of a run tell the same values, each a period after the one before.
use Rattle.std.proofs.Common.{◌≡◌, ℕ, zero, suc, ◌+◌, ◌-◌, ◌*◌, ◌≤◌, ◌<◌, Bool, true, List, [], ◌∷◌, length, map, get_or, Option, ℤ, refl, sym, ap, ◌∙◌, subst, arith}
use Rattle.std.specs.Prelude.{nat_le}
use Rattle.std.specs.List.{list_all}
use Rattle.std.specs.Option.{IsSomeAnd}
use Rattle.std.proofs.lemmas.Bool.{and_parts, leb-true}
use Rattle.std.proofs.lemmas.List.{get_or-drop}
use Rattle.station_base.specs.CivilMinute.{CivilMinute, minute_of, last_minute}
use Rattle.station_base.specs.declared.row.Row.{Row}
use Rattle.archive_record.specs.declared.place.Place.{Place}
use Rattle.archive_record.specs.declared.record_read.RecordRead.TheVariants.{Row as ReadRow}
use Rattle.archive_record.specs.Place.{told_value, value_in}
use Rattle.archive_record.specs.Reading.{reading}
use Rattle.archive_record.specs.Record.{IsRecord}
use Rattle.archive_record.specs.Table.{places, field_places}
use Rattle.archive_record.proofs.Once.{raw_stays}
use Rattle.archive_record.proofs.Rows.{row_parts, parts_row, reads_this_row}
use Rattle.archive_record.specs.MovedOn.{minute_numbered, with_stamp}
use Rattle.archive_record.proofs.MovedStamps.{row_of, record_given, revision_given, stamp_given}
use Rattle.schedule_steps.specs.Runs.{next_record, run_records, IsRun, ReadsLater}
use Rattle.schedule_steps.proofs.NextStamps.{IsMoved, moved_to}
use Rattle.schedule_steps.proofs.RunRecords.{run_on, two_more}

-- behind its stamp the record has the bytes that it had
kept_behind : (s : CivilMinute) (rec : List ℕ) (i : ℕ) → 4 ≤ i → get_or (with_stamp s rec) i 0 ≡ get_or rec i 0
kept_behind s rec zero far = absurd (omega (arith, far))
kept_behind s rec (suc zero) far = absurd (omega (arith, far))
kept_behind s rec (suc (suc zero)) far = absurd (omega (arith, far))
kept_behind s rec (suc (suc (suc zero))) far = absurd (omega (arith, far))
kept_behind s rec (suc (suc (suc (suc i)))) far = get_or-drop 4 rec i 0 ∙ ap (λ (n : ℕ). get_or rec n 0) (let e : 4 + i ≡ suc (suc (suc (suc i))) = omega arith in e)

stand_behind : List Place → Bool
stand_behind ps = list_all (λ place. nat_le 4 place.offset) ps

all_behind : stand_behind places ≡ true
unfolding stand_behind places field_places
all_behind = refl

values_kept : (s : CivilMinute) (rec : List ℕ) (ps : List Place) → stand_behind ps ≡ true → map (value_in (with_stamp s rec)) ps ≡ map (value_in rec) ps
unfolding stand_behind
values_kept s rec [] behind = refl
values_kept s rec (place ∷ ps) behind =
    let parts = and_parts (nat_le 4 place.offset) (list_all (λ (p : Place). nat_le 4 p.offset) ps) behind in
    let far = leb-true 4 place.offset parts.0 in
    let raw = raw_stays (with_stamp s rec) rec place.kind place.offset (λ i from to. kept_behind s rec i (omega (arith, far, from))) in
    ap (λ (v : Option ℤ). v ∷ map (value_in (with_stamp s rec)) ps) (ap (told_value place) raw)
    ∙ ap (λ (vs : List (Option ℤ)). value_in rec place ∷ vs) (values_kept s rec ps parts.1)

abbrev later_row : Row → CivilMinute → Row
later_row row s = record { stamp = s; interval = row.interval; values = row.values; limited = row.limited }

-- the record moved on reads as the same row at the later stamp
moved_reads : (period : ℕ) (rec : List ℕ) (row : Row) (next : CivilMinute) → IsRecord rec → reading rec period ≡ ReadRow row → IsMoved period rec row.stamp next
    → reading (next_record period rec) period ≡ ReadRow (later_row row next)
moved_reads period rec row next size is moved =
    let interval = (row_of rec period row is).2 in
    let at : reading rec row.interval ≡ ReadRow row = ap (reading rec) interval ∙ is in
    let parts = row_parts rec row at in
    let given = with_stamp next rec in
    let values = values_kept next rec places all_behind ∙ parts.values in
    let read = parts_row given (later_row row next) (record_given next rec size).long (revision_given next rec (reads_this_row rec row at)) (stamp_given next rec moved.civil) values parts.unlimited in
    ap (λ (r : List ℕ). reading r period) moved.is ∙ ap (reading given) (sym interval) ∙ read

pub run_reads : (period count place : ℕ) (first : List ℕ) (row : Row) → IsRecord first → reading first period ≡ ReadRow row → IsRun period first count → place < count
    → ReadsLater period place row (get_or (run_records period first count) place [])
run_reads period zero place first row size is run within = absurd (omega (arith, within))
run_reads period (suc count) zero first row size is run within =
    record { row = row; read = is; minute = omega arith; interval = refl; values = refl; limited = refl }
run_reads period (suc zero) (suc place) first row size is run within = absurd (omega (arith, within))
run_reads period (suc (suc count)) (suc place) first row size is run within =
    let parts = row_of first period row is in
    let stamped = subst (λ (s : Option CivilMinute). IsSomeAnd s (λ t. minute_of t + (suc (suc count) - 1) * period ≤ minute_of last_minute)) parts.0 run in
    let moved = moved_to period first row.stamp parts.0 (omega (arith, stamped, two_more period count)) in
    let next = minute_numbered (minute_of row.stamp + period) in
    let rest = run_reads period (suc count) place (next_record period first) (later_row row next) (subst IsRecord (sym moved.is) (record_given next first size))
    (moved_reads period first row next size is moved) (run_on period count first run) (omega (arith, within)) in
    record {
      row = rest.row;
      read = rest.read;
      minute = omega (arith, rest.minute, moved.later, (let grown : suc place * period ≡ period + place * period = omega arith in grown));
      interval = rest.interval;
      values = rest.values;
      limited = rest.limited;
    }

pub run_count : (period count : ℕ) (first : List ℕ) → length (run_records period first count) ≡ count
run_count period zero first = refl
run_count period (suc count) first = ap suc (run_count period count (next_record period first))
