-- What is known of a round from where it stands.
use Rattle.std.proofs.Common.{◌≡◌, ◌≢◌, ℕ, ◌+◌, ◌-◌, ◌*◌, ◌/◌, ◌^◌, ◌<◌, ◌≤◌, List, [], ◌∷◌, ◌++◌, length, refl, sym, ◌∙◌, ap, subst, arith, length-append, Option, Some, None}
use Rattle.std.specs.Prelude.{min}
use Rattle.station_base.specs.CivilMinute.{CivilMinute}
use Rattle.disk_model.specs.Medium.{Medium}
use Rattle.serial_link.specs.Traffic.{Traffic}
use Rattle.settings_file.specs.StationSettings.{StationSettings}
use Rattle.serial_link.specs.declared.talk.TalkItem.{TalkItem}
use Rattle.causes.specs.declared.stored.Stored.TheVariants.{Done}
use Rattle.vantage_frames.specs.Header.{most_pages}
use Rattle.dmpaft_driver.specs.Attempt.{End}
use Rattle.dmpaft_pump.specs.Batch.{batches}
use Rattle.dmpaft_driver.specs.Exact.{attempt_end}
use Rattle.dmpaft_pump.specs.Keeper.{Handed, kept_all, count, last_kept}
use Rattle.dmpaft_pump.specs.Phases.{part_of_phase}
use Rattle.dmpaft_pump.specs.Pump.{AttemptState, Hearing, Keeping, Over, Settling, begun}
use Rattle.dmpaft_pump.specs.Shown.{pump_answer, end_at, PumpShows, ShowsAt, PumpStands, Tallied, talks_at, all_kept}
use Rattle.dmpaft_driver.specs.Standing.{handed_over}
use Rattle.dmpaft_driver.specs.Turning.{Suits, AttemptTurnsTo}
use Rattle.dmpaft_pump.specs.declared.outcome.DumpEnd.{DumpEnd}
use Rattle.dmpaft_pump.specs.declared.outcome.Tally.{Tally}
use Rattle.dmpaft_pump.specs.declared.pump.Pump.{Pump}
use Rattle.dmpaft_pump.specs.declared.pump_end.PumpEnd.{PumpEnd}
use Rattle.dmpaft_pump.specs.declared.stage.Stage.{Stage}
use Rattle.dmpaft_pump.specs.declared.stage.Stage.TheVariants as stage
use Rattle.dmpaft_driver.proofs.CutTurns.{begun_not_over}
use Rattle.dmpaft_driver.proofs.DumpTurns.{cut_shown, kept_few, suits_at}
use Rattle.dmpaft_pump.proofs.HandedBatches.{kept_answered, count_kept}
use Rattle.dmpaft_pump.proofs.PagesSoFar.{all_few}
use Rattle.dmpaft_pump.proofs.Rows.{within_self}
use Rattle.dmpaft_driver.proofs.Trials.{mild_runs}
use Rattle.dmpaft_driver.proofs.SilentEnds.{Mild}
use Rattle.station_session.specs.declared.round.Round.{Round}
use Rattle.station_session.specs.Attempts.{stamp_behind, all_batches}
use Rattle.station_session.specs.Fits.{first_some, last_so_far}
use Rattle.station_session.specs.RoundAt.{RoundAt, tally_of}
use Rattle.station_session.specs.Stepping.{Bench, StepsAttempt}
use Rattle.station_session.proofs.Ends.{batch_count}
use Rattle.station_session.proofs.LastStamps.{first_joins, handed_tells, all_tell}
use Rattle.station_session.proofs.Rounds.{behind_is, newest_behind, count_behind, few_skips}
use Rattle.station_session.specs.declared.limits.TheConstants.{MOST_BATCHES, MOST_ROWS}

-- a pump knows the stamp asked for, and what it counted
record Known (start : Tally) (a : Option CivilMinute) (s : AttemptState) (pump : Pump) : Type 0 where
  pub asked : pump.after ≡ a
  pub pages : pump.tally.pages ≤ start.pages + most_pages
  pub skipped : pump.tally.skipped ≤ start.skipped + 5 * most_pages
  pub newest : pump.tally.last ≡ last_kept (handed_over a s) start.last
  pub few : count (handed_over a s) ≤ most_pages

known_as : (start : Tally) (a : Option CivilMinute) (s : AttemptState) (pump : Pump) (place : ℕ) (all : List (List ℕ)) (steps : Handed) → Tallied start a place all steps pump
    → handed_over a s ≡ steps → count steps ≤ length all → Known start a s pump
known_as start a s pump place all steps t e few = record {
  asked = t.asked;
  pages = omega (arith, t.pages, t.bounded);
  skipped = omega (arith, t.skipped, all_few place all, t.bounded);
  newest = t.last ∙ ap (λ (y : Handed). last_kept y start.last) (sym e);
  few = omega (arith, few, t.bounded, ap count e);
}

-- of pages there are no more batches than pages
few_batches : (a : Option CivilMinute) (place : ℕ) (taken : List (List ℕ)) → count (all_kept a place taken) ≤ length taken
few_batches a place taken = omega (arith, kept_few Done a place taken, ap count (kept_answered (batches a place taken)))

known : (start : Tally) (a : Option CivilMinute) (s : AttemptState) (pump : Pump) → PumpShows start a s pump → Known start a s pump
known start a s pump h = by_stage pump.stage refl
  where
    by_stage : (st : Stage) → pump.stage ≡ st → Known start a s pump
    by_stage (stage.Saying q) e =
        let c = cut_shown start a s pump h (ap talks_at e) in
        known_as start a s pump c.0 c.1 (all_kept a c.0 c.1) c.3 c.4 (few_batches a c.0 c.1)
    by_stage (stage.Hearing q) e =
        let c = cut_shown start a s pump h (ap talks_at e) in
        known_as start a s pump c.0 c.1 (all_kept a c.0 c.1) c.3 c.4 (few_batches a c.0 c.1)
    by_stage (stage.Keeping more) e =
        let k = subst (λ (x : Stage). ShowsAt x start a s pump) e h in
        known_as start a s pump k.place (k.taken ++ k.page ∷ []) (all_kept a k.place k.taken) k.counts.tallied (ap (handed_over a) k.is)
        (omega (arith, few_batches a k.place k.taken, length-append k.taken (k.page ∷ [])))
    by_stage (stage.Ended end) e =
        let k = subst (λ (x : Stage). ShowsAt x start a s pump) e h in
        known_as start a s pump k.place k.taken _ k.tallied (ap (handed_over a) k.is) (kept_few (pump_answer end) a k.place k.taken)

-- what is over is so at the pump's stage, and the other way round
pub end_shown : (start : Tally) (a : Option CivilMinute) (s : AttemptState) (pump : Pump) → PumpShows start a s pump → (place : ℕ) (taken : List (List ℕ)) (e : PumpEnd) → s ≡ Over place taken e → end_at pump.stage ≡ Some e
end_shown start a s pump h place taken e is = by_stage pump.stage refl
  where
    by_stage : (st : Stage) → pump.stage ≡ st → end_at pump.stage ≡ Some e
    by_stage (stage.Saying q) f =
        let k = subst (λ (x : Stage). ShowsAt x start a s pump) f h in
        absurd (begun_not_over a (part_of_phase k.place k.taken q) place taken e (sym k.is ∙ is))
    by_stage (stage.Hearing q) f =
        let k = subst (λ (x : Stage). ShowsAt x start a s pump) f h in
        let z : Hearing (part_of_phase k.place k.taken q) k.bytes pump.run ≡ Over place taken e = sym k.is ∙ is in cc
    by_stage (stage.Keeping more) f =
        let k = subst (λ (x : Stage). ShowsAt x start a s pump) f h in
        let z : Keeping more k.place k.taken k.page ≡ Over place taken e = sym k.is ∙ is in cc
    by_stage (stage.Ended end) f =
        let k = subst (λ (x : Stage). ShowsAt x start a s pump) f h in
        let z : Over k.place k.taken end ≡ Over place taken e = sym k.is ∙ is in
        let w : end ≡ e = cc in
        ap end_at f ∙ ap (λ (y : PumpEnd). Some y) w

pub over_at_end : (start : Tally) (a : Option CivilMinute) (s : AttemptState) (pump : Pump) → PumpShows start a s pump → (e : PumpEnd) → end_at pump.stage ≡ Some e → (place : ℕ) × (taken : List (List ℕ)) × (s ≡ Over place taken e)
over_at_end start a s pump h e is = by_stage pump.stage refl
  where
    by_stage : (st : Stage) → pump.stage ≡ st → (place : ℕ) × (taken : List (List ℕ)) × (s ≡ Over place taken e)
    by_stage (stage.Saying q) f = let z : None ≡ Some e = sym (ap end_at f) ∙ is in cc
    by_stage (stage.Hearing q) f = let z : None ≡ Some e = sym (ap end_at f) ∙ is in cc
    by_stage (stage.Keeping more) f = let z : None ≡ Some e = sym (ap end_at f) ∙ is in cc
    by_stage (stage.Ended end) f =
        let k = subst (λ (x : Stage). ShowsAt x start a s pump) f h in
        let z : Some end ≡ Some e = sym (ap end_at f) ∙ is in
        let w : end ≡ e = cc in
        (k.place, k.taken, k.is ∙ ap (λ (y : PumpEnd). Over k.place k.taken y) w)

twice : (t x : Option CivilMinute) → first_some t (first_some t x) ≡ first_some t x
twice None x = refl
twice (Some y) x = refl

pub room_least : (spare moment capacity count bl : ℕ) → 5 * bl ≤ spare → moment + 4 * bl < 2 ^ 64 → bl ≤ capacity - count → bl ≤ min (spare / 5) (min ((2 ^ 64 - 1 - moment) / 4) (capacity - count))
room_least spare moment capacity count bl h k m = omega arith

module _ {last : Option CivilMinute} {talk : List TalkItem} {kept : List (List (List ℕ))} {round : Round} (r : RoundAt last talk kept round) where
  knows : Known (tally_of last r.tries) (stamp_behind last r.tries) r.state round.pump
  knows = known (tally_of last r.tries) (stamp_behind last r.tries) r.state round.pump r.shows

  -- the pump of a round stands where some attempt does
  pub pump_stands : PumpStands round.pump
  pump_stands = (tally_of last r.tries, stamp_behind last r.tries, r.state, r.shows)

  -- of a round under way no batch was refused
  pub never_refused : (place : ℕ) (taken : List (List ℕ)) (e : PumpEnd) → r.state ≡ Over place taken e → attempt_end e ≢ End.Refused
  never_refused place taken e is = subst Mild (r.stands ∙ is) (mild_runs (stamp_behind last r.tries) (begun (stamp_behind last r.tries) Settling) r.said r.answers tt r.done)

  -- the stamp of the last record kept, by what the pump knows
  pub last_is : last_kept (kept_all kept) last ≡ last_so_far round
  last_is =
      let T = all_batches last r.tries in
      let a = stamp_behind last r.tries in
      let H = handed_over a r.state in
      let h = last_kept H None in
      let t = last_kept T None in
      let A : a ≡ first_some t last = behind_is last r.tries r.failed ∙ all_tell last r.tries last in
      let B : first_some t a ≡ a = ap (λ (x : Option CivilMinute). first_some t x) A ∙ twice t last ∙ sym A in
      let C : round.pump.tally.last ≡ first_some h t = knows.newest ∙ handed_tells a r.state t in
      ap (λ (x : Handed). last_kept x last) r.kept_are ∙ newest_behind last r.tries r.failed H last ∙ ap (λ (x : Option CivilMinute). last_kept H x) (sym (behind_is last r.tries r.failed)) ∙ handed_tells a r.state a
      ∙ ap (λ (x : Option CivilMinute). first_some h x) (sym B) ∙ first_joins h t a ∙ ap (λ (x : Option CivilMinute). first_some x a) (sym C) ∙ ap (λ (x : Option CivilMinute). first_some round.pump.tally.last x) (sym knows.asked)

  -- that of the attempt under way
  last_here : last_kept (kept_all kept) last ≡ last_kept (handed_over (stamp_behind last r.tries) r.state) (stamp_behind last r.tries)
  last_here =
      let H = handed_over (stamp_behind last r.tries) r.state in
      ap (λ (x : Handed). last_kept x last) r.kept_are ∙ newest_behind last r.tries r.failed H last ∙ ap (λ (x : Option CivilMinute). last_kept H x) (sym (behind_is last r.tries r.failed))

  kept_length : length kept ≡ count (all_batches last r.tries) + count (handed_over (stamp_behind last r.tries) r.state)
  kept_length = sym (count_kept kept) ∙ ap count r.kept_are ∙ count_behind last r.tries r.failed (handed_over (stamp_behind last r.tries) r.state)

  -- a round has no more batches than pages
  pub few_kept : length kept ≤ MOST_BATCHES
  few_kept = omega (arith, kept_length, batch_count last r.tries, r.pages, r.few, knows.few)

  -- the book can take the batch that it gets, if it gets one
  pub suits : (o : Option CivilMinute) (room : ℕ) → o ≡ last_so_far round → MOST_BATCHES - length kept ≤ room → Suits o room round.pump
  suits o room e few = λ k.
      let a = stamp_behind last r.tries in
      suits_at round.pump.stage (tally_of last r.tries) a r.state round.pump r.shows k o a (e ∙ sym last_is ∙ last_here) (within_self a) (room + count (handed_over a r.state)) room
      (omega (arith, few, kept_length, batch_count last r.tries, r.pages, r.few)) (omega arith)

  pub few_pages : round.pump.tally.pages ≤ MOST_BATCHES
  few_pages = omega (arith, knows.pages, r.pages, r.few)

  pub rarely_skipped : round.pump.tally.skipped ≤ MOST_ROWS
  rarely_skipped = omega (arith, knows.skipped, few_skips r.tries, r.pages, r.few)

  -- nor does a step take more
  pub few_then : {L D : Type 0} {traffic : Traffic L} {medium : Medium D} {settings : StationSettings} {end : Option DumpEnd} {old new : Bench L D} → old.pump ≡ round.pump
      → StepsAttempt traffic medium settings end (tally_of last r.tries) (stamp_behind last r.tries) r.state old new → (new.pump.tally.pages ≤ MOST_BATCHES) × (new.pump.tally.skipped ≤ MOST_ROWS)
  few_then {L} {D} {traffic} {medium} {settings} {end} {old} {new} same v = by_end end v.turns
    where
      by_end : (end : Option DumpEnd) → AttemptTurnsTo end (tally_of last r.tries) (stamp_behind last r.tries) r.state v.said v.answers old.pump new.pump → (new.pump.tally.pages ≤ MOST_BATCHES) × (new.pump.tally.skipped ≤ MOST_ROWS)
      by_end None t =
          let k = known (tally_of last r.tries) (stamp_behind last r.tries) _ new.pump t.0 in
          (omega (arith, k.pages, r.pages, r.few), omega (arith, k.skipped, few_skips r.tries, r.pages, r.few))
      by_end (Some d) t = subst (λ (x : Pump). (x.tally.pages ≤ MOST_BATCHES) × (x.tally.skipped ≤ MOST_ROWS)) (sym (t.0 ∙ same)) (few_pages, rarely_skipped)
