-- Each station of a fleet runs its own schedule.
use Rattle.std.proofs.Common.{ℕ, ◌≡◌, ◌≢◌, ◌≤◌, ◌-◌, ◌==◌, Bool, true, false, List, [], ◌∷◌, ◌++◌, Some, None, refl, sym, ap, subst, ◌∙◌, arith}
use Rattle.std.specs.Prelude.{nat_le, slice_get}
use Rattle.std.specs.declared.option.Option.{Option}
use Rattle.std.proofs.lemmas.Bool.Decides.{nat_tests}
use Rattle.settings_file.specs.StationSettings.{StationSettings}
use Rattle.station_io.specs.Sink.{Outlet}
use Rattle.fleet.specs.declared.member.MemberTurn.{MemberTurn}
use Rattle.fleet.specs.declared.member.MemberTurn.TheVariants.{More, Ended, Unseen, WriteFault, OutOfMemory}
use Rattle.fleet.specs.Crew.{Crew, OneTurn}
use Rattle.fleet.specs.Log.{Along, BothIf, WrittenBy, answers_of}
use Rattle.fleet.specs.MemberTurns.{texts_join}
use Rattle.fleet.specs.StationLines.{AreUncutBeforeLast, station_lines}
use Rattle.fleet.specs.TurnText.{TurnEntry, WritesTurn}
use Rattle.fleet.proofs.Alone.{alone}
use Rattle.fleet.proofs.LogText.{wrote_along}
use Rattle.fleet.proofs.StationText.{together}
use Rattle.replay_laws.specs.Texts.{text}
use Rattle.schedule_replay.specs.Replaying.{Course}
use Rattle.station_fleet.specs.declared.station.Station.{Station}
use Rattle.station_fleet.specs.Fleets.{Begin, EachRan}
use Rattle.station_fleet.specs.Outcomes.{TurnsComeTo, StationStands, StationTurned, end_of_turns}
use Rattle.station_fleet.specs.StationTurns.{station_turning}
use Rattle.station_fleet.specs.TurnLaws.{comes_wider}

-- one text that was written, of those that may have been
pick : (end : Option MemberTurn) (settings : StationSettings) (c : Course) (P : List ℕ → Type 0) (s : Station)
    → (bytes : List ℕ) × P bytes → TurnsComeTo end settings c [] P s
    → (bytes : List ℕ) × P bytes × TurnsComeTo end settings c [] (λ written. written ≡ bytes) s
pick None settings c P s some came = (some.0, some.1, tt)
pick (Some More) settings c P s some came =
    (text came.given, came.writes, record { given = came.given; writes = refl; stands = came.stands })
pick (Some Ended) settings c P s some came = (
  text came.given,
  came.writes,
  record {
    given = came.given;
    writes = refl;
    kept = came.kept;
    took_part = came.took_part;
  },
)
pick (Some Unseen) settings c P s some came = (
  text came.given,
  came.writes,
  record {
    given = came.given;
    writes = refl;
    is_unseen = came.is_unseen;
    kept = came.kept;
  },
)
pick (Some WriteFault) settings c P s some came = (
  came.written,
  came.writes,
  record {
    given = came.given;
    written = came.written;
    front = came.front;
    writes = refl;
    is_begun = came.is_begun;
    kept = came.kept;
  },
)
pick (Some OutOfMemory) settings c P s some came = (
  came.written,
  came.writes,
  record {
    given = came.given;
    written = came.written;
    front = came.front;
    writes = refl;
    is_begun = came.is_begun;
    kept = came.kept;
  },
)

-- what turns since the beginning come to
came_of : (answers : List MemberTurn) (settings : StationSettings) (c : Course) (P : List ℕ → Type 0) (s t : Station)
    → StationTurned s answers P t → StationStands settings c [] s → TurnsComeTo (end_of_turns answers) settings c [] P t
came_of [] settings c P s t turned stands = record {
  given = [];
  writes = turned.leads_to.writes;
  stands = subst (λ (x : Station). StationStands settings c [] x) (sym turned.leads_to.same) stands;
}
came_of (answer ∷ later) settings c P s t turned stands = turned.leads_to settings c [] stands

same_some : {A : Type 0} (a b : A) → Some a ≡ Some b → a ≡ b
same_some a b e = cc

module _ {K : Type 0} (outlet : Outlet K) where
  -- a station wrote something in its turns
  written_more : (e : TurnEntry K) (log : List (TurnEntry K)) (station : ℕ) (bytes : List ℕ) → WritesTurn outlet e bytes
      → (rest : List ℕ) × WrittenBy outlet station log rest → (test : Bool)
      → (written : List ℕ) × BothIf test (WritesTurn outlet e) (WrittenBy outlet station log) written
  written_more e log station bytes writes rest true =
      (bytes ++ rest.0, texts_join bytes rest.0 writes rest.1)
  written_more e log station bytes writes rest false = rest

  written_some : (old new : Crew Station) (before after : K) (log : List (TurnEntry K)) (station : ℕ)
      → Along station_turning outlet old before log new after → (bytes : List ℕ) × WrittenBy outlet station log bytes
  written_some old new before after [] station along = ([], refl)
  written_some old new before after (e ∷ log) station along =
      written_more e log station along.turn.written along.turn.writes
      (written_some along.mid new e.after after log station along.later) (e.station == station)

  -- a station of a fleet was one before each turn
  was_before : (old mid : Crew Station) (e : TurnEntry K) (k : ℕ) (t : Station) → OneTurn station_turning outlet old e mid
      → slice_get mid.members k ≡ Some t → (test : Bool) → (k == e.station - 1) ≡ test
      → (s : Station) × slice_get old.members k ≡ Some s
  was_before old mid e k t one is true at =
      let here : k ≡ e.station - 1 = grind (arith, nat_tests) in
      (one.before, ap (λ (n : ℕ). slice_get old.members n) here ∙ one.was)
  was_before old mid e k t one is false other =
      let apart : k ≢ e.station - 1 = grind (arith, nat_tests) in
      (t, sym (one.others k apart) ∙ is)

  pub was_member : (old new : Crew Station) (before after : K) (log : List (TurnEntry K)) (k : ℕ) (t : Station)
      → Along station_turning outlet old before log new after → slice_get new.members k ≡ Some t
      → (s : Station) × slice_get old.members k ≡ Some s
  was_member old new before after [] k t along is =
      (t, ap (λ (c : Crew Station). slice_get c.members k) (sym along.0) ∙ is)
  was_member old new before after (e ∷ log) k t along is =
      let behind = was_member along.mid new e.after after log k t along.later is in
      was_before old along.mid e k behind.0 along.turn behind.1 _ refl

  -- and is one behind it
  is_behind : (old mid : Crew Station) (e : TurnEntry K) (k : ℕ) (s : Station) → OneTurn station_turning outlet old e mid
      → slice_get old.members k ≡ Some s → (test : Bool) → (k == e.station - 1) ≡ test
      → (t : Station) × slice_get mid.members k ≡ Some t
  is_behind old mid e k s one was true at =
      let here : k ≡ e.station - 1 = grind (arith, nat_tests) in
      (one.after, ap (λ (n : ℕ). slice_get mid.members n) here ∙ one.is)
  is_behind old mid e k s one was false other =
      let apart : k ≢ e.station - 1 = grind (arith, nat_tests) in
      (s, one.others k apart ∙ was)

  pub is_member : (old new : Crew Station) (before after : K) (log : List (TurnEntry K)) (k : ℕ) (s : Station)
      → Along station_turning outlet old before log new after → slice_get old.members k ≡ Some s
      → (t : Station) × slice_get new.members k ≡ Some t
  is_member old new before after [] k s along was =
      (s, ap (λ (c : Crew Station). slice_get c.members k) along.0 ∙ was)
  is_member old new before after (e ∷ log) k s along was =
      let next = is_behind old along.mid e k s along.turn was _ refl in
      is_member along.mid new e.after after log k next.0 along.later next.1

  module _ (settings : ℕ → StationSettings) (course : ℕ → Course) (old new : Crew Station) (before after : K)
      (log : List (TurnEntry K)) (along : Along station_turning outlet old before log new after)
      (begin : Begin settings course old) where
    -- What a station wrote, and what it came to with that text.
    record Chosen (station : ℕ) : Type 0 where
      bytes : List ℕ
      wrote : WrittenBy outlet station log bytes
      came : (s : Station) → 1 ≤ station → slice_get new.members (station - 1) ≡ Some s
          → TurnsComeTo (end_of_turns (answers_of station log)) (settings station) (course station) []
          (λ written. written ≡ bytes) s

    chosen_by : (station : ℕ) (found : Option Station) → slice_get new.members (station - 1) ≡ found → (test : Bool)
        → nat_le 1 station ≡ test → Chosen station
    chosen_by station None is test at =
        let some = written_some old new before after log station along in
        record {
          bytes = some.0;
          wrote = some.1;
          came = λ s from was. absurd (let no : None ≡ Some s = sym is ∙ was in cc);
        }
    chosen_by station (Some t) is false below =
        let some = written_some old new before after log station along in
        record { bytes = some.0; wrote = some.1; came = λ s from was. absurd (grind (arith, nat_tests)) }
    chosen_by station (Some t) is true at =
        let from : 1 ≤ station = grind (arith, nat_tests) in
        let was = was_member old new before after log (station - 1) t along is in
        let turned : StationTurned was.0 (answers_of station log) (WrittenBy outlet station log) t =
        alone station_turning outlet old new before after log station from along was.0 t was.1 is in
        let came = came_of (answers_of station log) (settings station) (course station) (WrittenBy outlet station log)
        was.0 t turned (begin station was.0 from was.1) in
        let one = pick (end_of_turns (answers_of station log)) (settings station) (course station)
        (WrittenBy outlet station log) t (written_some old new before after log station along) came in
        record {
          bytes = one.0;
          wrote = one.1;
          came = λ s from here.
              let same : t ≡ s = same_some t s (sym is ∙ here) in
              subst (λ (x : Station). TurnsComeTo (end_of_turns (answers_of station log)) (settings station) (course station) []
              (λ written. written ≡ one.0) x) same one.2;
        }

    chosen : (station : ℕ) → Chosen station
    chosen station = chosen_by station _ refl _ refl

    pub own_runs : AreUncutBeforeLast log
        → (text : List ℕ) × outlet.wrote before text after × EachRan settings course log new text
    own_runs uncut =
        let all = together outlet log (λ station. (chosen station).bytes) uncut (λ station. (chosen station).wrote) in (
          all.text,
          wrote_along station_turning outlet old new before after log all.text along all.are_texts,
          λ station s from is. comes_wider (end_of_turns (answers_of station log)) (settings station) (course station) []
              (λ written. written ≡ (chosen station).bytes) (λ written. written ≡ station_lines station all.text) s
              (λ written e. e ∙ sym (all.each station)) ((chosen station).came s from is),
        )
