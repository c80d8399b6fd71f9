-- What a station of a fleet prints is what `replay` prints.
use Rattle.std.proofs.Common.{ℕ, ◌≡◌, ◌≢◌, ◌≤◌, ◌-◌, ◌==◌, Bool, true, false, List, [], ◌∷◌, Some, refl, sym, ap, subst, ◌∙◌, arith, inl, inr}
use Rattle.std.specs.Prelude.{slice_get, slice_index_or}
use Rattle.std.specs.declared.option.Option.{Option}
use Rattle.std.proofs.lemmas.Bool.Decides.{nat_tests}
use Rattle.settings_file.specs.StationSettings.{StationSettings}
use Rattle.station_io.specs.Sink.{Outlet}
use Rattle.fleet.specs.declared.member.MemberTurn.{MemberTurn}
use Rattle.fleet.specs.declared.member.MemberTurn.TheVariants.{More, Ended, Unseen, WriteFault, OutOfMemory}
use Rattle.fleet.specs.declared.run.FleetEnd.{FleetEnd}
use Rattle.fleet.specs.declared.run.FleetEnd.TheVariants as fleet
use Rattle.fleet.specs.Crew.{Crew, OneTurn, last_answer_of}
use Rattle.fleet.specs.FleetEnds.{FleetEndsAs, RunsFleet}
use Rattle.fleet.specs.Log.{Along, answers_of}
use Rattle.fleet.specs.StationLines.{AreUncutBeforeLast, station_lines}
use Rattle.fleet.specs.TurnText.{TurnEntry}
use Rattle.fleet.proofs.LogSteps.{no_more}
use Rattle.one_text_laws.proofs.OneRun.{one_text}
use Rattle.replay_laws.specs.Replay.{IsReplay, Item}
use Rattle.replay_laws.specs.Texts.{text}
use Rattle.schedule_replay.specs.Replaying.{Course}
use Rattle.station_fleet.specs.declared.station.Station.{Station}
use Rattle.station_fleet.specs.Fleets.{AllOver, Begin, EachBegins, EachOverReplays, EachReplays, RunIsOver, IsReplayText, NoneEnded}
use Rattle.station_fleet.specs.Outcomes.{TurnsComeTo, end_of_turns, only, course_start, course_steps}
use Rattle.station_fleet.specs.StationTurns.{station_turning}
use Rattle.station_fleet.proofs.BegunTexts.{text_begun}
use Rattle.station_fleet.proofs.OwnRuns.{own_runs, was_member}

-- the text of one run is that of each
text_of_run : (settings : StationSettings) (c : Course) (lines : List ℕ) (run : List Item)
    → IsReplay settings (course_start c) (course_steps settings c) run → text run ≡ lines → IsReplayText settings c lines
text_of_run settings c lines run is_run writes = record {
  run = run;
  is_run = is_run;
  lines_are = sym writes;
  each = λ o replay. sym writes ∙ one_text settings (course_start c) (course_steps settings c) run o is_run replay;
}

-- what a station wrote that came to its end is the text of each run of its steps
text_of_end : (answer : MemberTurn) (settings : StationSettings) (c : Course) (lines : List ℕ) (s : Station) → RunIsOver answer
    → TurnsComeTo (Some answer) settings c [] (λ bytes. bytes ≡ lines) s → IsReplayText settings c lines
text_of_end More settings c lines s over came = absurd over
text_of_end Ended settings c lines s over came = text_of_run settings c lines came.given (inl came.took_part.run) came.writes
text_of_end Unseen settings c lines s over came = text_of_run settings c lines came.given (inr came.is_unseen) came.writes
text_of_end WriteFault settings c lines s over came = absurd over
text_of_end OutOfMemory settings c lines s over came = absurd over

station_is : (n k : ℕ) → (n == k) ≡ true → n ≡ k
station_is n k e = grind (arith, nat_tests)

station_other : (n k : ℕ) → 1 ≤ n → 1 ≤ k → (n == k) ≡ false → k - 1 ≢ n - 1
station_other n k from too e = grind (arith, nat_tests)

module _ {K : Type 0} (outlet : Outlet K) where
  -- a turn of another station leaves the last answer of this one
  last_other : (old mid : Crew Station) (e : TurnEntry K) (station : ℕ) → OneTurn station_turning outlet old e mid → 1 ≤ station
      → (e.station == station) ≡ false → last_answer_of mid station ≡ last_answer_of old station
  last_other old mid e station one from other =
      one.answers (station - 1) (station_other e.station station one.is_open.from from other)

  -- its own turn leaves its answer
  last_own : (old mid : Crew Station) (e : TurnEntry K) (station : ℕ) → OneTurn station_turning outlet old e mid
      → (e.station == station) ≡ true → last_answer_of mid station ≡ e.answer
  last_own old mid e station one own =
      ap (λ (n : ℕ). last_answer_of mid n) (sym (station_is e.station station own)) ∙ one.answered

  -- and was taken since it had not ended
  was_open : (old mid : Crew Station) (e : TurnEntry K) (station : ℕ) → OneTurn station_turning outlet old e mid
      → (e.station == station) ≡ true → last_answer_of old station ≡ More
  was_open old mid e station one own =
      ap (λ (n : ℕ). last_answer_of old n) (sym (station_is e.station station own)) ∙ one.is_open.more

  -- a station that has ended takes no turn
  none_more : (old new : Crew Station) (before after : K) (log : List (TurnEntry K)) (station : ℕ) → 1 ≤ station
      → Along station_turning outlet old before log new after → last_answer_of old station ≢ More
      → (answers_of station log ≡ []) × (last_answer_of new station ≡ last_answer_of old station)
  none_more old new before after [] station from along ended = (refl, ap (λ (crew : Crew Station). last_answer_of crew station) along.0)
  none_more old new before after (e ∷ log) station from along ended =
      go (λ apart. none_more along.mid new e.after after log station from along.later apart) (e.station == station) refl
    where
      go : (last_answer_of along.mid station ≢ More → (answers_of station log ≡ []) × (last_answer_of new station ≡ last_answer_of along.mid station)) → (own : Bool)
          → (e.station == station) ≡ own → (answers_of station (e ∷ log) ≡ []) × (last_answer_of new station ≡ last_answer_of old station)
      go again true own = absurd (ended (was_open old along.mid e station along.turn own))
      go again false other =
          let same = last_other old along.mid e station along.turn from other in
          let rest = again (λ more. ended (sym same ∙ more)) in
          (rw other rest.0, rest.1 ∙ same)

  closed : (answer : MemberTurn) (later : List MemberTurn) → answer ≢ More → later ≡ [] → end_of_turns (answer ∷ later) ≡ Some answer
  closed More later goes none = absurd (goes refl)
  closed Ended later goes none = ap (only Ended) none
  closed Unseen later goes none = ap (only Unseen) none
  closed WriteFault later goes none = ap (only WriteFault) none
  closed OutOfMemory later goes none = ap (only OutOfMemory) none

  -- by the last answer, whether that was More
  end_by : (answer last : MemberTurn) (later : List MemberTurn) → (answer ≡ More → end_of_turns later ≡ Some last)
      → (answer ≢ More → (later ≡ []) × (last ≡ answer)) → end_of_turns (answer ∷ later) ≡ Some last
  end_by More last later goes ends = goes refl
  end_by Ended last later goes ends =
      let apart : Ended ≢ More = λ e. cc in
      closed Ended later apart (ends apart).0 ∙ ap (λ (x : MemberTurn). Some x) (sym (ends apart).1)
  end_by Unseen last later goes ends =
      let apart : Unseen ≢ More = λ e. cc in
      closed Unseen later apart (ends apart).0 ∙ ap (λ (x : MemberTurn). Some x) (sym (ends apart).1)
  end_by WriteFault last later goes ends =
      let apart : WriteFault ≢ More = λ e. cc in
      closed WriteFault later apart (ends apart).0 ∙ ap (λ (x : MemberTurn). Some x) (sym (ends apart).1)
  end_by OutOfMemory last later goes ends =
      let apart : OutOfMemory ≢ More = λ e. cc in
      closed OutOfMemory later apart (ends apart).0 ∙ ap (λ (x : MemberTurn). Some x) (sym (ends apart).1)

  -- the turns of a station that had not ended end with its last answer
  end_is : (old new : Crew Station) (before after : K) (log : List (TurnEntry K)) (station : ℕ) → 1 ≤ station
      → Along station_turning outlet old before log new after → last_answer_of old station ≡ More
      → end_of_turns (answers_of station log) ≡ Some (last_answer_of new station)
  end_is old new before after [] station from along more =
      ap (λ (x : MemberTurn). Some x) (sym (ap (λ (crew : Crew Station). last_answer_of crew station) along.0 ∙ more))
  end_is old new before after (e ∷ log) station from along more =
      go (λ still. end_is along.mid new e.after after log station from along.later still) (e.station == station) refl
    where
      go : (last_answer_of along.mid station ≡ More → end_of_turns (answers_of station log) ≡ Some (last_answer_of new station)) → (own : Bool)
          → (e.station == station) ≡ own → end_of_turns (answers_of station (e ∷ log)) ≡ Some (last_answer_of new station)
      go again true own =
          let now = last_own old along.mid e station along.turn own in
          let ends : end_of_turns (e.answer ∷ answers_of station log) ≡ Some (last_answer_of new station) =
          end_by e.answer (last_answer_of new station) (answers_of station log) (λ goes. again (now ∙ goes))
          (λ apart. let none = none_more along.mid new e.after after log station from along.later (λ still. apart (sym now ∙ still)) in
          (none.0, none.1 ∙ now)) in
          rw own ends
      go again false other = rw other (again (last_other old along.mid e station along.turn from other ∙ more))

  module _ (settings : ℕ → StationSettings) (course : ℕ → Course) where
    -- One text that the sink took, and what each station came to with its lines there, by its last answer.
    record CameTo (new : Crew Station) (before after : K) : Type 0 where
      bytes : List ℕ
      wrote : outlet.wrote before bytes after
      each : (station : ℕ) (s : Station) → 1 ≤ station → slice_get new.members (station - 1) ≡ Some s
          → TurnsComeTo (Some (last_answer_of new station)) (settings station) (course station) []
          (λ written. written ≡ station_lines station bytes) s

    came_to : (old new : Crew Station) (before after : K) (log : List (TurnEntry K))
        → Along station_turning outlet old before log new after → Begin settings course old → AreUncutBeforeLast log → NoneEnded old
        → CameTo new before after
    came_to old new before after log along begin uncut ready =
        let all = own_runs outlet settings course old new before after log along begin uncut in
        record {
          bytes = all.0;
          wrote = all.1;
          each = λ station s from is.
              let was = was_member outlet old new before after log (station - 1) s along is in
              let goes = ready station was.0 from was.1 in
              subst (λ (end : Option MemberTurn). TurnsComeTo end (settings station) (course station) [] (λ bytes. bytes ≡ station_lines station all.0) s)
              (end_is old new before after log station from along goes.more) (all.2 station s from is);
        }

    overs : (new : Crew Station) (before after : K) (came : CameTo new before after) → EachOverReplays settings course new came.bytes
    overs new before after came station s from is over =
        text_of_end (last_answer_of new station) (settings station) (course station) (station_lines station came.bytes) s over
        (came.each station s from is)

    pub over_replays : (old new : Crew Station) (before after : K) (log : List (TurnEntry K))
        → Along station_turning outlet old before log new after → Begin settings course old → AreUncutBeforeLast log → NoneEnded old
        → (bytes : List ℕ) × outlet.wrote before bytes after × EachOverReplays settings course new bytes
    over_replays old new before after log along begin uncut ready =
        let came = came_to old new before after log along begin uncut ready in
        (came.bytes, came.wrote, overs new before after came)

    -- however the turns of a fleet ended
    pub each_begins : (seed : ℕ) (old new : Crew Station) (before after : K) (end : FleetEnd)
        → RunsFleet station_turning outlet seed old before end new after → Begin settings course old → NoneEnded old
        → (bytes : List ℕ) × outlet.wrote before bytes after × EachBegins settings course new bytes
        × EachOverReplays settings course new bytes
    each_begins seed old new before after end ran begin ready =
        let came = came_to old new before after ran.log ran.turns begin ran.uncut ready in (
          came.bytes,
          came.wrote,
          λ station s from is. text_begun (last_answer_of new station) (settings station) (course station)
              (station_lines station came.bytes) s (came.each station s from is),
          overs new before after came,
        )

    -- all stations are over where none is open and none was cut off
    over_by : (answer : MemberTurn) → answer ≢ More → answer ≢ WriteFault → answer ≢ OutOfMemory → RunIsOver answer
    over_by More goes fits found = absurd (goes refl)
    over_by Ended goes fits found = tt
    over_by Unseen goes fits found = tt
    over_by WriteFault goes fits found = absurd (fits refl)
    over_by OutOfMemory goes fits found = absurd (found refl)

    all_over : (end : FleetEnd) (log : List (TurnEntry K)) (last : List MemberTurn) → AllOver end → FleetEndsAs end log last
        → (k : ℕ) → RunIsOver (slice_index_or last k Ended)
    all_over (fleet.Done turns switches) log last over ends = λ k. subst RunIsOver (sym (ends.ended k)) tt
    all_over (fleet.Unseen station) log last over ends = λ k.
        over_by (slice_index_or last k Ended) (λ more. absurd (no_more 1 last k ends.none_open more))
        (ends.last_uncut k).0 (ends.last_uncut k).1
    all_over fleet.WriteFault log last over ends = absurd over
    all_over fleet.OutOfMemory log last over ends = absurd over

    pub each_replays : (seed : ℕ) (old new : Crew Station) (before after : K) (end : FleetEnd)
        → RunsFleet station_turning outlet seed old before end new after → AllOver end → Begin settings course old → NoneEnded old
        → (bytes : List ℕ) × outlet.wrote before bytes after × EachReplays settings course new bytes
    each_replays seed old new before after end ran over begin ready =
        let all = all_over end ran.log new.last over ran.ends in
        let each = over_replays old new before after ran.log ran.turns begin ran.uncut ready in
        (each.0, each.1, λ station s from is. each.2 station s from is (all (station - 1)))
