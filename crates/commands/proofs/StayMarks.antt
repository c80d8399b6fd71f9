-- A mark that held as a round of a stay began holds to the end of the run.
use Rattle.std.proofs.Common.{◌≡◌, ℕ, zero, suc, ◌+◌, List, [], ◌∷◌, ◌++◌, Ok, Err, refl, sym, ap, subst, ◌∙◌, append_assoc, append-nil}
use Rattle.std.specs.declared.result.Result.{Result}
use Rattle.causes.specs.Lists.{IsFrontOf}
use Rattle.station_base.specs.declared.row.Row.{Row}
use Rattle.station_session.specs.Attempts.{all_batches}
use Rattle.station_session.specs.Batches.{kept_records}
use Rattle.station_session.specs.Holding.{rows_after_batches}
use Rattle.station_session.specs.Marks.{MarkHolds}
use Rattle.station_session.specs.Records.{stored_rows}
use Rattle.station_session.specs.Session.{session_settings}
use Rattle.station_session.proofs.RoundMarks.{marks_of_round}
use Rattle.station_session.specs.declared.report.Mark.{Mark}
use Rattle.packed_rows.specs.Rising.{last_row_stamp}
use Rattle.run_output.specs.Ended.{Lines}
use Rattle.run_output.specs.Output.{Output}
use Rattle.run_output.specs.Outside.{Meanings}
use Rattle.run_output.specs.Steps.{Behind, CommandStep}
use Rattle.run_output.specs.declared.outside.Outside.{Outside}
use Rattle.commands.specs.StayRun.{Standing, give_ups_after, stay_round, standing, stays, where_done}

-- what holds behind a step holds behind those that follow it
pub behind_lasts : {W A B : Type 0} (Q : W → Type 0) (next : A → CommandStep W B) (mid new : W) (answer : Result A Output) (result : Result B Output) → Q mid
    → ((a : A) → answer ≡ Ok a → next a mid result new → Q new) → Behind answer next mid result new → Q new
behind_lasts Q next mid new (Ok a) result at_end further behind = further a refl behind
behind_lasts Q next mid new (Err output) result at_end further behind = subst Q (sym behind.1) at_end

pub done_is : {A : Type 0} (a b : A) (answer : Result (Unit {0}) Output) → ◌≡◌ {A = Result A Output} (Ok b) (where_done a answer) → b ≡ a
done_is a b (Ok done) is = cc
done_is a b (Err output) is = absurd cc

-- what begins with rows that begin with others begins with these
front_of_front : (rows later last : List Row) → IsFrontOf rows later → IsFrontOf later last → IsFrontOf rows last
front_of_front rows later last one two =
    (one.0 ++ two.0, sym (append_assoc rows one.0 two.0) ∙ ap (λ (r : List Row). r ++ two.0) one.1 ∙ two.1)

module _ {F K L D : Type 0} (m : Meanings F K L D) (waits : ℕ) (mark : Mark) where
  -- the mark holds of these rows, and maybe of others behind them
  abbrev pub Lasts : List Row → Outside F K L D → Type 0
  Lasts before new = (rows : List Row) × IsFrontOf before rows × MarkHolds m.medium new.disk rows mark

  same_disk : (rows : List Row) (old new : Outside F K L D) → new.disk ≡ old.disk → MarkHolds m.medium old.disk rows mark → MarkHolds m.medium new.disk rows mark
  same_disk rows old new same holds = subst (λ (d : D). MarkHolds m.medium d rows mark) (sym same) holds

  now_lasts : (rows : List Row) (new : Outside F K L D) → MarkHolds m.medium new.disk rows mark → Lasts rows new
  now_lasts rows new holds = (rows, ([], append-nil rows), holds)

  lasts_before : (rows later : List Row) (new : Outside F K L D) → IsFrontOf rows later → Lasts later new → Lasts rows new
  lasts_before rows later new front last = (last.0, front_of_front rows later last.0 front last.1, last.2)

  round_lasts : (made : ℕ) (began : Standing) (old new : Outside F K L D) (result : Result Standing Output) (did : stay_round m made began old result new)
      → MarkHolds m.medium old.disk began.rows mark
      → MarkHolds m.medium new.disk (rows_after_batches (session_settings began.session) began.rows (all_batches (last_row_stamp began.rows) did.serves.tries)) mark
  round_lasts made began old new result did holds = (marks_of_round m.traffic m.medium began.rows did.end _ _ did.report (mark ∷ []) did.serves did.stands (holds, tt)).0

  -- A mark that held as a round began holds to the end of the run, whatever ends it.
  pub marks_last : (left made : ℕ) (began : Standing) (old new : Outside F K L D) (result : Result Lines Output) → stays m waits left made began old result new
      → MarkHolds m.medium old.disk began.rows mark → Lasts began.rows new
  marks_last zero made began old new result did holds =
      now_lasts began.rows new (same_disk began.rows old new (ap (λ (w : Outside F K L D). w.disk) did.1) holds)
  marks_last (suc left) made began old new result did holds =
      let disk = λ (w : Outside F K L D). w.disk in
      let ready = same_disk began.rows old did.mid (ap disk did.first.1) holds in
      behind_lasts (Lasts began.rows) _ did.mid new did.answer result (now_lasts began.rows did.mid ready) (λ _ _ round.
      let kept = round_lasts made began did.mid round.mid round.answer round.first ready in
      let settings = session_settings began.session in
      let batches = all_batches (last_row_stamp began.rows) round.first.serves.tries in
      let front : IsFrontOf began.rows (rows_after_batches settings began.rows batches) = (stored_rows settings (kept_records batches), refl) in
      behind_lasts (Lasts began.rows) _ round.mid new round.answer result (lasts_before began.rows _ round.mid front (now_lasts _ round.mid kept)) (λ later is pause.
      let here = done_is (standing round.first.ended (give_ups_after round.first.end began.give_ups) (rows_after_batches settings began.rows batches))
      later round.first.answer (sym is ∙ round.first.given) in
      let now = subst (λ (s : Standing). MarkHolds m.medium round.mid.disk s.rows mark) (sym here) kept in
      let grown = subst (λ (s : Standing). IsFrontOf began.rows s.rows) (sym here) front in
      let paused = same_disk later.rows round.mid pause.mid (ap disk pause.first.1) now in
      behind_lasts (Lasts began.rows) _ pause.mid new pause.answer result (lasts_before began.rows later.rows pause.mid grown (now_lasts later.rows pause.mid paused)) (λ _ _ more.
      lasts_before began.rows later.rows new grown (marks_last left (made + 1) later pause.mid new result more paused)) pause.behind) round.behind) did.behind
