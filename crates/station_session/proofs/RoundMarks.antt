-- Marks that hold, over a round.
use Rattle.std.proofs.Common.{ℕ, ◌≤◌, List, [], ◌∷◌, ◌++◌, inl, inr, take, drop, sym, ap, subst, ◌∙◌, arith, append_assoc, append-nil, length-append, take-append-drop}
use Rattle.std.proofs.lemmas.List.{take-append-le}
use Rattle.disk_model.specs.Medium.{Medium}
use Rattle.dmpaft_pump.specs.Keeper.{Handed}
use Rattle.packed_rows.specs.Rising.{last_row_stamp}
use Rattle.serial_link.specs.Traffic.{Traffic}
use Rattle.settings_file.specs.StationSettings.{StationSettings}
use Rattle.station_base.specs.declared.row.Row.{Row}
use Rattle.station_session.specs.Attempts.{all_batches}
use Rattle.station_session.specs.Batches.{kept_records}
use Rattle.station_session.specs.Holding.{Holding, Stores, rows_after_batches}
use Rattle.station_session.specs.Images.{HasWhole}
use Rattle.station_session.specs.Marks.{MarkHolds, MarksHold}
use Rattle.station_session.specs.Records.{stored_rows}
use Rattle.station_session.specs.Round.{RoundHost, ServesRound}
use Rattle.station_session.specs.Session.{book_of, session_settings}
use Rattle.station_session.specs.declared.report.Mark.{Mark}
use Rattle.station_session.specs.declared.report.Report.{Report}
use Rattle.station_session.specs.declared.round_end.RoundEnd.{RoundEnd}
use Rattle.station_session.proofs.LastingMarks.{marks_join}
use Rattle.weather_book.specs.Stands.{BeginsWith, HasRows, StandsOn}

-- an image with the rows of some of the batches begins with the rows from before
whole_begins : (settings : StationSettings) (late : Type 0) (rows : List Row) (steps : Handed) (c : List ℕ) → HasWhole settings late rows steps c
    → BeginsWith rows c
whole_begins settings late rows Handed.Nothing c has = ([], subst (λ (r : List Row). HasRows r c) (sym (append-nil rows)) has)
whole_begins settings late rows (Handed.Kept records more) c has = elim has [
  | inl was ↦ ([], subst (λ (r : List Row). HasRows r c) (sym (append-nil rows)) was)
  | inr now ↦ (let later = whole_begins settings late (rows ++ stored_rows settings records) more c now in
      (stored_rows settings records ++ later.0, subst (λ (r : List Row). HasRows r c) (append_assoc rows (stored_rows settings records) later.0) later.1))
]
whole_begins settings late rows (Handed.Refused records why) c has = elim has [
  | inl was ↦ ([], subst (λ (r : List Row). HasRows r c) (sym (append-nil rows)) was)
  | inr now ↦ (stored_rows settings records, now.1)
]

-- what begins with rows begins with the first of them
begins_fewer : (n : ℕ) (rows : List Row) (c : List ℕ) → BeginsWith rows c → BeginsWith (take n rows) c
begins_fewer n rows c has = (
  drop n rows ++ has.0,
  subst (λ (r : List Row). HasRows r c)
      (ap (λ (r : List Row). r ++ has.0) (sym (take-append-drop n rows)) ∙ append_assoc (take n rows) (drop n rows) has.0) has.1,
)

module _ {D : Type 0} (medium : Medium D) (settings : StationSettings) (rows : List Row) (steps : Handed) (old new : Holding D)
    (did : Stores medium settings rows steps old new) (stands : StandsOn medium old.book old.disk rows) where
  -- a mark that held before batches holds after them, whatever became of them
  mark_lasts : (m : Mark) → MarkHolds medium old.disk rows m → MarkHolds medium new.disk (rows_after_batches settings rows steps) m
  mark_lasts m holds =
      let more = stored_rows settings (kept_records steps) in
      record {
        few = omega (arith, holds.few, length-append rows more);
        past = omega (arith, holds.past, did.moved);
        crash = λ c left. subst (λ (r : List Row). BeginsWith r c) (sym (take-append-le m.rows rows more holds.few)) (elim (did.images stands m.moment c holds.past left) [
          | inl was ↦ holds.crash c was
          | inr now ↦ begins_fewer m.rows rows c (whole_begins settings (3 ≤ did.failed) rows steps c now)
        ]);
      }

  marks_last : (ms : List Mark) → MarksHold medium old.disk rows ms → MarksHold medium new.disk (rows_after_batches settings rows steps) ms
  marks_last [] holds = tt
  marks_last (m ∷ ms) holds = (mark_lasts m holds.0, marks_last ms holds.1)

-- Marks that held as a round began, and those that it noted, hold at its end.
pub marks_of_round : {L D : Type 0} (traffic : Traffic L) (medium : Medium D) (rows : List Row) (end : RoundEnd) (old new : RoundHost L D) (report : Report) (marks : List Mark)
    → (did : ServesRound traffic medium rows end old new report) → StandsOn medium (book_of old.session) old.disk rows → MarksHold medium old.disk rows marks
    → MarksHold medium new.disk (rows_after_batches (session_settings old.session) rows (all_batches (last_row_stamp rows) did.tries)) (marks ++ report.marks.items)
marks_of_round traffic medium rows end old new report marks did stands hold =
    let settings = session_settings old.session in
    let steps = all_batches (last_row_stamp rows) did.tries in
    marks_join medium new.disk (rows_after_batches settings rows steps) marks report.marks.items
    (marks_last medium settings rows steps _ _ did.stores stands marks hold) (did.stores.marked stands tt)
