-- What a turn of a run comes to.
use Rattle.std.proofs.Common.{◌≡◌, ◌≢◌, ℕ, suc, ◌+◌, ◌*◌, ◌^◌, ◌≤◌, ◌<◌, ◌⊎◌, inl, inr, true, false, Bool, List, [], ◌∷◌, ◌++◌, Option, Some, None, length, take, drop, get_or, refl, sym, ◌∙◌, ap, subst, arith, append-nil, add-one, drop-cons}
use Rattle.std.specs.Prelude.{is_some}
use Rattle.std.proofs.lemmas.List.{drop_all}
use Rattle.loop_packet.specs.declared.packet.LoopPacket.{LoopPacket}
use Rattle.settings_file.specs.StationSettings.{StationSettings}
use Rattle.disk_model.specs.declared.mem_disk.MemDisk.{MemDisk}
use Rattle.disk_model.specs.declared.stopping.Stopping.{Stopping}
use Rattle.station_session.specs.declared.session.Session.{Session}
use Rattle.station_session.specs.Round.{round_host}
use Rattle.station_session.specs.RoundAt.{round_turns_left}
use Rattle.station_session.specs.declared.round_end.RoundEnd.{RoundEnd}
use Rattle.schedule_file.specs.declared.fates.Fates as code_fates
use Rattle.schedule_file.specs.declared.schedule.step.Step as code_step
use Rattle.schedule_file.specs.declared.schedule.step.Step.TheVariants as code
use Rattle.schedule_file.specs.declared.schedule.step.Stop.{Stop}
use Rattle.station_sim.specs.declared.sim.Sim.{Sim}
use Rattle.replay_laws.specs.Replay.{Item, OpensNext, Runs, Stage, opening_if_closed, opened, start}
use Rattle.replay_laws.specs.Room.{step_lines, lines}
use Rattle.replay_laws.specs.Schedule.{IsSchedule, ReplayStep, records}
use Rattle.round_play.specs.declared.playing.Playing.{Playing}
use Rattle.schedule_replay.specs.declared.run.Run.{Run}
use Rattle.schedule_replay.specs.declared.turns.ReplayRun.{ReplayRun}
use Rattle.schedule_replay.specs.declared.turns.ReplayTurn.{ReplayTurn}
use Rattle.schedule_replay.specs.declared.turns.ReplayTurn.TheVariants as turn
use Rattle.schedule_replay.specs.Left.{turns_left_by, turns_left_in, left_to_open}
use Rattle.round_play.specs.Opening.{stopping_limits}
use Rattle.round_play.specs.Played.{PlayedHost}
use Rattle.round_play.specs.Playing.{RoundIsOver, RoundIsUnderWay, MayGoOn}
use Rattle.schedule_replay.specs.Replayed.{TookPart}
use Rattle.schedule_replay.specs.Replaying.{Course, IsNext, OpenedAhead, StandsAt, StandsBy, run_turns_left}
use Rattle.round_play.specs.Resting.{SessionGoesOn}
use Rattle.schedule_replay.specs.Running.{After, StepIsCut}
use Rattle.schedule_replay.specs.SoFar.{SoFar}
use Rattle.schedule_replay.specs.Standing.{HasSaid, HoldsAt, IsNextRound, IsNoRound, LineAt, MayOpen, MayRun, Readies, StandsThere, round_step}
use Rattle.schedule_steps.specs.Steps.{step_of, steps_for}
use Rattle.schedule_replay.specs.Telling.{Telling}
use Rattle.schedule_replay.specs.Told.{TellsFront, TellsRun}
use Rattle.schedule_replay.specs.Turns.{BreaksRun, CutsRun, EndsRun, IsOneTurn, RunMoves, RunTurnsTo}
use Rattle.schedule_replay.proofs.Ahead.{is_opened}
use Rattle.schedule_replay.proofs.StepsSoFar.{IsReady, begun_opened, begun_too, few_rounds, has_run_room, may_take_next, ready, round_broken, round_cut, round_more, so_far_more, step_cut, steps_more, steps_parts, steps_split}
use Rattle.schedule_replay.proofs.RoundLaws.{can_open, may_play, opened_rounds, opened_rows}
use Rattle.schedule_replay.proofs.RunLaws.{closed_by, open_by, rest_more}

-- the turns left behind a step are fewer than before it
pub left_behind : (p : ℕ) (xs : List code_step.Step) (i : ℕ) (x : code_step.Step) → IsNext xs i x → turns_left_in p (drop i xs) ≡ turns_left_in p (drop (i + 1) xs) + 1 + 2 ^ 33 * step_lines (step_of p x)
left_behind p xs i x n =
    let e : drop i xs ≡ get_or xs i x ∷ drop (suc i) xs = drop-cons xs i x n.within in
    let f : get_or xs i x ∷ drop (suc i) xs ≡ x ∷ drop (i + 1) xs = ap (λ (y : code_step.Step). y ∷ drop (suc i) xs) (sym n.is) ∙ ap (λ (k : ℕ). x ∷ drop k xs) (sym (add-one i)) in
    let all : turns_left_in p (drop i xs) ≡ turns_left_in p (x ∷ drop (i + 1) xs) = ap (turns_left_in p) (e ∙ f) in
    omega (arith, all)

pub next_round : (xs : List code_step.Step) (i : ℕ) (fates : code_fates.Fates) (stop : Option Stop) → IsNextRound xs i fates stop → IsNext xs i (code.Round fates stop)
next_round xs i fates stop n = record { within = n.within; is = n.is }

-- the step that comes next is the first of those to come
pub comes_next : (p : ℕ) (xs : List code_step.Step) (i : ℕ) (x : code_step.Step) → IsNext xs i x → steps_for p (drop i xs) ≡ step_of p x ∷ steps_for p (drop (suc i) xs)
comes_next p xs i x n = ap (steps_for p) (drop-cons xs i x n.within) ∙ ap (λ (y : code_step.Step). step_of p y ∷ steps_for p (drop (suc i) xs)) (sym n.is)

pub opens_next : (p : ℕ) (xs : List code_step.Step) (i : ℕ) (fates : code_fates.Fates) (stop : Option Stop) → IsNextRound xs i fates stop → OpensNext (steps_for p (drop i xs))
opens_next p xs i fates stop n = subst OpensNext (sym (comes_next p xs i (code.Round fates stop) (next_round xs i fates stop n))) tt

opens_not : (p : ℕ) (x : code_step.Step) (ys : List ReplayStep) → IsNoRound x → OpensNext (step_of p x ∷ ys) → ⊥
opens_not p (code.Due rec) ys plain h = h
opens_not p (code.Run one count) ys plain h = h
opens_not p (code.Idle ticks) ys plain h = h
opens_not p (code.Open stop) ys plain h = h
opens_not p (code.Round fates stop) ys plain h = plain

-- ahead of a step that makes no round nothing was opened
pub stands_between : (c : Course) (settings : StationSettings) (i : ℕ) (items : List Item) (run : Run) (line : Sim) (disk : Stopping MemDisk) (x : code_step.Step) → IsNext c.steps i x → IsNoRound x → StandsBy None c settings i items run line disk
    → SoFar settings (start c.eeprom c.packet) (steps_for settings.period (take i c.steps)) items c.before line c.made disk run
stands_between c settings i items run line disk x n plain (inl so) = so
stands_between c settings i items run line disk x n plain (inr ahead) = absurd (opens_not settings.period x (steps_for settings.period (drop (suc i) c.steps)) plain (subst OpensNext (comes_next settings.period c.steps i x n) ahead.next))

-- nor was it in a run whose archive is closed
pub stands_closed : (c : Course) (settings : StationSettings) (i : ℕ) (items : List Item) (run : Run) (line : Sim) (disk : Stopping MemDisk) → run.session ≡ None → StandsBy None c settings i items run line disk
    → SoFar settings (start c.eeprom c.packet) (steps_for settings.period (take i c.steps)) items c.before line c.made disk run
stands_closed c settings i items run line disk none (inl so) = so
stands_closed c settings i items run line disk none (inr ahead) =
    let s = opened ahead.stage.is_open ahead.stage in
    let closed = closed_by s.is_open settings s.archive.rows run.session disk ahead.holds.session none in
    absurd (let e : true ≡ false = sym (is_opened ahead.stage) ∙ closed in cc)

-- one that is open stands ahead of a round, or of the end
pub stands_open : (c : Course) (settings : StationSettings) (i : ℕ) (items : List Item) (run : Run) (session : Session) (line : Sim) (disk : Stopping MemDisk) → run.session ≡ Some session → OpensNext (steps_for settings.period (drop i c.steps)) → StandsBy None c settings i items run line disk
    → OpenedAhead settings (start c.eeprom c.packet) (steps_for settings.period (take i c.steps)) (steps_for settings.period (drop i c.steps)) items c.before line c.made disk run
stands_open c settings i items run session line disk some next (inr ahead) = ahead
stands_open c settings i items run session line disk some next (inl so) =
    let s = so.stage in
    let is : s.is_open ≡ true = (open_by s.is_open settings s.archive.rows run.session session disk so.holds.session some).0 in
    let same : s ≡ opened s.is_open s = ap (λ (t : Bool). opened t s) (sym is) in
    let none : [] ≡ opening_if_closed s.is_open s = ap (λ (t : Bool). opening_if_closed t s) (sym is) in
    let more : HoldsAt (so.openings + 1) settings s run disk = record { rests = rest_more so.openings s.archive disk so.holds.rests; session = so.holds.session; rounds = so.holds.rounds; written = so.holds.written } in
    record {
      given = items;
      stage = s;
      runs = so.runs;
      items_are = sym (append-nil items) ∙ ap (λ z. items ++ z) none;
      next = next;
      openings = so.openings;
      few = so.few;
      holds = subst (λ (u : Stage). HoldsAt (so.openings + 1) settings u run disk) same more;
      at = so.at;
      said = so.said;
      limits = so.limits;
    }

-- its session, which goes on
pub goes_on_ahead : (openings : ℕ) (settings : StationSettings) (s : Stage) (run : Run) (session : Session) (disk : Stopping MemDisk) → run.session ≡ Some session → HoldsAt (openings + 1) settings (opened s.is_open s) run disk
    → Readies openings settings s (record { session = None; rounds = run.rounds; written = run.written }) session disk
goes_on_ahead openings settings s run session disk some h =
    let u = opened s.is_open s in
    let goes : SessionGoesOn settings u.archive.rows session disk = (open_by u.is_open settings u.archive.rows run.session session disk h.session some).1 in
    record {
      rests = h.rests;
      goes_on = subst (λ z. SessionGoesOn settings z session disk) (opened_rows s.is_open s) goes;
      rounds = h.rounds ∙ opened_rounds s.is_open s;
      written = h.written;
      none = refl;
    }

module _ (settings : StationSettings) (eeprom : List ℕ) (packet : LoopPacket) (xs : List code_step.Step) (i : ℕ) (made disk : Stopping MemDisk) (given : List Item) (s : Stage) (openings : ℕ) (r : IsReady settings xs made)
    (runs : Runs settings (steps_for settings.period (take i xs)) (start eeprom packet) given s) (few : openings ≤ lines (steps_for settings.period (take i xs))) (limits : stopping_limits disk ≡ stopping_limits made) where
  -- it may take its next step
  pub stands : (x : code_step.Step) → IsNext xs i x → StandsThere (length (records (steps_for settings.period xs))) openings settings (step_of settings.period x) s disk
  stands x n = subst (λ (y : code_step.Step). StandsThere (length (records (steps_for settings.period xs))) openings settings (step_of settings.period y) s disk) (sym n.is) (may_take_next settings eeprom packet xs i made disk given s openings r runs few limits x n.within)

  pub may_run : (x : code_step.Step) (run : Run) (line : Sim) → IsNext xs i x → HoldsAt openings settings s run disk → LineAt s line → MayRun settings (step_of settings.period x) run line disk
  may_run x run line n holds at =
      let rounds = few_rounds settings eeprom packet xs i made disk given s openings r runs few limits in
      (length (records (steps_for settings.period xs)), openings, s, holds, at, stands x n, omega (arith, rounds, holds.rounds))

  -- and it may open the archive
  pub may_open_now : (run : Run) → HoldsAt openings settings s run disk → MayOpen settings run disk
  may_open_now run holds =
      (openings, s, holds, can_open (length (records (steps_for settings.period xs))) openings settings s run disk holds (has_run_room settings eeprom packet xs i made disk given s openings r runs few limits))

  -- a step was taken
  pub turn_taken : {T : Type 0} (telling : Telling T) (x : code_step.Step) (before line now : Sim) (next : Stopping MemDisk) (after : Run) (b c : T) → IsNext xs i x → HasSaid given before line
      → After telling false settings (step_of settings.period x) s (λ is u. HoldsAt (openings + step_lines (step_of settings.period x)) settings u after next × LineAt u now × HasSaid is line now) b c
      → stopping_limits next ≡ stopping_limits disk → (more : List Item) × telling.tells b more c × SoFar settings (start eeprom packet) (steps_for settings.period (take (i + 1) xs)) (given ++ more) before now made next after
  turn_taken telling x before line now next after b c n said (more, u, does, (holds, at, later), told) limits_next =
      let e : steps_for settings.period (take i xs) ++ step_of settings.period x ∷ [] ≡ steps_for settings.period (take (i + 1) xs) = ap (λ (y : code_step.Step). steps_for settings.period (take i xs) ++ step_of settings.period y ∷ []) n.is ∙ steps_more settings.period xs i x n.within in (
        more,
        told,
        subst (λ (z : List ReplayStep). SoFar settings (start eeprom packet) z (given ++ more) before now made next after) e
            (so_far_more settings (start eeprom packet) (steps_for settings.period (take i xs)) (step_of settings.period x) given more s u openings before line now made next after runs few said does holds at later (limits_next ∙ limits)),
      )

  -- the steps are those taken, the next, and those to come
  split : (x : code_step.Step) → IsNext xs i x → steps_for settings.period (take i xs) ++ step_of settings.period x ∷ steps_for settings.period (drop (suc i) xs) ≡ steps_for settings.period xs
  split x n = ap (λ (y : code_step.Step). steps_for settings.period (take i xs) ++ step_of settings.period y ∷ steps_for settings.period (drop (suc i) xs)) n.is ∙ steps_split settings.period xs i x n.within

  -- it was cut off
  pub turn_cut : {T : Type 0} (telling : Telling T) (x : code_step.Step) (b c : T) → IsNext xs i x → StepIsCut telling settings (step_of settings.period x) s b c → CutsRun telling settings (start eeprom packet) (steps_for settings.period xs) given b c
  turn_cut telling x b c n h =
      let e = split x n in
      subst (λ (z : List ReplayStep). CutsRun telling settings (start eeprom packet) z given b c) e
      (step_cut telling settings eeprom packet (steps_for settings.period (take i xs)) (steps_for settings.period (drop (suc i) xs)) (step_of settings.period x) b c given s (subst IsSchedule (sym e) r.ok) runs h)

  -- the opening ahead of the next step was cut off
  pub opening_cut_off : {T : Type 0} (telling : Telling T) (b c : T) → OpensNext (steps_for settings.period (drop i xs)) → telling.breaks_off b (opening_if_closed s.is_open s) c → CutsRun telling settings (start eeprom packet) (steps_for settings.period xs) given b c
  opening_cut_off telling b c next told =
      begun_too telling settings eeprom packet (steps_for settings.period xs) b c given (opening_if_closed s.is_open s) r.ok
      (begun_opened settings (start eeprom packet) (steps_for settings.period (take i xs)) (steps_for settings.period (drop i xs)) (steps_for settings.period xs) given s (sym (steps_parts settings.period xs i)) next runs) told

  -- a round was ended behind its opening
  pub round_taken : {T : Type 0} (telling : Telling T) (x : code_step.Step) (fates : code_fates.Fates) (stop : Option Stop) (before line now : Sim) (old next : Stopping MemDisk) (after : Run) (b c : T) → IsNext xs i x → step_of settings.period x ≡ round_step fates stop → HasSaid given before line
      → After telling false settings (round_step fates stop) (opened s.is_open s) (λ is u. (HoldsAt (openings + 1) settings u after next × LineAt u now × HasSaid is line now) × (stopping_limits next ≡ stopping_limits old)) b c → stopping_limits old ≡ stopping_limits made
      → (more : List Item) × telling.tells b more c × SoFar settings (start eeprom packet) (steps_for settings.period (take (i + 1) xs)) ((given ++ opening_if_closed s.is_open s) ++ more) before now made next after
  round_taken telling x fates stop before line now old next after b c n round said (more, u, does, ((holds, at, later), same), told) was =
      let e : steps_for settings.period (take i xs) ++ round_step fates stop ∷ [] ≡ steps_for settings.period (take (i + 1) xs) = ap (λ (y : ReplayStep). steps_for settings.period (take i xs) ++ y ∷ []) (sym round) ∙ ap (λ (y : code_step.Step). steps_for settings.period (take i xs) ++ step_of settings.period y ∷ []) n.is ∙ steps_more settings.period xs i x n.within in (
        more,
        told,
        subst (λ (z : List ReplayStep). SoFar settings (start eeprom packet) z ((given ++ opening_if_closed s.is_open s) ++ more) before now made next after) e
            (round_more settings (start eeprom packet) (steps_for settings.period (take i xs)) _ _ _ given more s u openings before line now made next after runs few said does holds at later (same ∙ was)),
      )

  -- a delivery was unseen in it
  pub turn_broken : {T : Type 0} (telling : Telling T) (x : code_step.Step) (fates : code_fates.Fates) (stop : Option Stop) (P : List Item → Stage → Type 0) (b c : T) → IsNext xs i x → step_of settings.period x ≡ round_step fates stop
      → After telling true settings (round_step fates stop) (opened s.is_open s) P b c → BreaksRun telling settings (start eeprom packet) (steps_for settings.period xs) (given ++ opening_if_closed s.is_open s) b c
  turn_broken telling x fates stop P b c n round broken =
      let e = ap (λ (y : ReplayStep). steps_for settings.period (take i xs) ++ y ∷ steps_for settings.period (drop (suc i) xs)) (sym round) ∙ split x n in
      subst (λ (z : List ReplayStep). BreaksRun telling settings (start eeprom packet) z (given ++ opening_if_closed s.is_open s) b c) e
      (round_broken telling settings eeprom packet (steps_for settings.period (take i xs)) (steps_for settings.period (drop (suc i) xs)) (round_step fates stop) b c given broken.0 s (subst IsSchedule (sym e) r.ok) runs broken.1 broken.2)

  -- it was cut off
  pub round_cut_off : {T : Type 0} (telling : Telling T) (x : code_step.Step) (fates : code_fates.Fates) (stop : Option Stop) (b c : T) → IsNext xs i x → step_of settings.period x ≡ round_step fates stop
      → StepIsCut telling settings (round_step fates stop) (opened s.is_open s) b c → CutsRun telling settings (start eeprom packet) (steps_for settings.period xs) (given ++ opening_if_closed s.is_open s) b c
  round_cut_off telling x fates stop b c n round h =
      let e = ap (λ (y : ReplayStep). steps_for settings.period (take i xs) ++ y ∷ steps_for settings.period (drop (suc i) xs)) (sym round) ∙ split x n in
      subst (λ (z : List ReplayStep). CutsRun telling settings (start eeprom packet) z (given ++ opening_if_closed s.is_open s) b c) e
      (round_cut telling settings eeprom packet (steps_for settings.period (take i xs)) (steps_for settings.period (drop (suc i) xs)) _ _ _ b c given s (subst IsSchedule (sym e) r.ok) runs h)

-- the items before are those so far
pub taken_on : (c : Course) (settings : StationSettings) (i : ℕ) (items so_far more : List Item) (line : Sim) (disk : Stopping MemDisk) (run : Run) → items ≡ so_far
    → SoFar settings (start c.eeprom c.packet) (steps_for settings.period (take (i + 1) c.steps)) (so_far ++ more) c.before line c.made disk run
    → SoFar settings (start c.eeprom c.packet) (steps_for settings.period (take (i + 1) c.steps)) (items ++ more) c.before line c.made disk run
taken_on c settings i items so_far more line disk run same so =
    subst (λ (z : List Item). SoFar settings (start c.eeprom c.packet) (steps_for settings.period (take (i + 1) c.steps)) (z ++ more) c.before line c.made disk run) (sym same) so

-- an answer for which the run was cut off
pub cut_to : {T : Type 0} (telling : Telling T) (result : ReplayTurn) (c : Course) (settings : StationSettings) (items : List Item) (line : Sim) (disk : Stopping MemDisk) (run : ReplayRun) (a b : T) → (result ≡ turn.WriteFault) ⊎ (result ≡ turn.OutOfMemory)
    → CutsRun telling settings (start c.eeprom c.packet) (steps_for settings.period c.steps) items a b → RunTurnsTo telling result c settings items line disk run a b
cut_to telling result c settings items line disk run a b (inl is) k = subst (λ (r : ReplayTurn). RunTurnsTo telling r c settings items line disk run a b) (sym is) k
cut_to telling result c settings items line disk run a b (inr is) k = subst (λ (r : ReplayTurn). RunTurnsTo telling r c settings items line disk run a b) (sym is) k

-- an answer for which the run was cut off, and not by a write
pub cut_else : (result : ReplayTurn) → (result ≡ turn.WriteFault) ⊎ (result ≡ turn.OutOfMemory) → result ≢ turn.WriteFault → result ≡ turn.OutOfMemory
cut_else result (inl is) other = absurd (other is)
cut_else result (inr is) other = is

-- what no round under way has left
pub left_none : (o : Option Playing) (p : ℕ) (steps : List code_step.Step) (taken : ℕ) (session : Option Session) → o ≡ None → turns_left_by o p steps taken session ≡ turns_left_in p (drop taken steps) + left_to_open session
left_none o p steps taken session is = ap (λ (z : Option Playing). turns_left_by z p steps taken session) is

pub left_open : (o : Option Session) → is_some o ≡ true → left_to_open o ≡ 0
left_open None is = absurd cc
left_open (Some x) is = refl

pub left_some : (o : Option Session) (session : Session) → o ≡ Some session → left_to_open o ≡ 0
left_some o session is = ap left_to_open is

-- a recovery leaves one turn fewer
pub recovered_left : (steps : List code_step.Step) (old new : ReplayRun) → new ≡ record old { run = new.run; turns = new.turns } → old.playing ≡ None → old.run.session ≡ None → is_some new.run.session ≡ true → run_turns_left steps new < run_turns_left steps old
recovered_left steps old new stays none closed goes =
    let was = left_none old.playing old.settings.period steps old.taken old.run.session none in
    let now = left_none new.playing new.settings.period steps new.taken new.run.session (ap (λ (r : ReplayRun). r.playing) stays ∙ none) in
    let same : turns_left_in new.settings.period (drop new.taken steps) ≡ turns_left_in old.settings.period (drop old.taken steps) = ap (λ (r : ReplayRun). turns_left_in r.settings.period (drop r.taken steps)) stays in
    let one : left_to_open old.run.session ≡ 1 = ap left_to_open closed in
    omega (arith, was, now, same, one, left_open new.run.session goes)

pub recovered_moves : (old new : ReplayRun) → new ≡ record old { run = new.run; turns = new.turns } → old.playing ≡ None → old.run.session ≡ None → is_some new.run.session ≡ true → IsOneTurn old new
recovered_moves old new stays none closed goes =
    let same : new.taken ≡ old.taken = ap (λ (r : ReplayRun). r.taken) stays in
    subst (λ (z : Option Playing). RunMoves z new.playing (is_some old.run.session) (is_some new.run.session) old.taken new.taken) (sym none)
    (subst (λ (z : Option Playing). RunMoves None z (is_some old.run.session) (is_some new.run.session) old.taken new.taken) (sym (ap (λ (r : ReplayRun). r.playing) stays ∙ none)) (inr (same, ap is_some closed, goes)))

-- a round was begun, and took a turn
pub begun_moves : (o q : Option Playing) (playing : Playing) (was_open then_open is_open : Bool) (taken taken' : ℕ) → o ≡ None → was_open ≡ true → RunMoves (Some playing) q then_open is_open taken taken' → RunMoves o q was_open is_open taken taken'
begun_moves o None playing was_open then_open is_open taken taken' none goes m = subst (λ (z : Option Playing). RunMoves z None was_open is_open taken taken') (sym none) (inl m)
begun_moves o (Some later) playing was_open then_open is_open taken taken' none goes m = subst (λ (z : Option Playing). RunMoves z (Some later) was_open is_open taken taken') (sym none) (m, goes)

-- a round that is over, taken out of its run
pub taken_out : (fates : code_fates.Fates) (old : PlayedHost) (end : RoundEnd) (before after out : Playing) (line : Sim) (disk : Stopping MemDisk) → after.stop ≡ before.stop → after ≡ out
    → RoundIsOver fates before.stop old end after.session after.report line disk → RoundIsOver fates out.stop old end out.session out.report line disk
taken_out fates old end before after out line disk stop same over =
    subst (λ (z : Playing). RoundIsOver fates z.stop old end z.session z.report line disk) same
    (subst (λ (z : Option Stop). RoundIsOver fates z old end after.session after.report line disk) (sym stop) over)

-- a round goes on, or it ends
pub goes_on_moves : (o : Option Playing) (playing later : Playing) (was_open is_open : Bool) (taken : ℕ) → o ≡ Some playing → RunMoves o (Some later) was_open is_open taken taken
goes_on_moves o playing later was_open is_open taken some = subst (λ (z : Option Playing). RunMoves z (Some later) was_open is_open taken taken) (sym some) refl

pub ends_moves : (o q : Option Playing) (playing : Playing) (was_open is_open : Bool) (taken : ℕ) → o ≡ Some playing → q ≡ None → RunMoves o q was_open is_open taken (taken + 1)
ends_moves o q playing was_open is_open taken some none =
    subst (λ (z : Option Playing). RunMoves z q was_open is_open taken (taken + 1)) (sym some)
    (subst (λ (z : Option Playing). RunMoves (Some playing) z was_open is_open taken (taken + 1)) (sym none) refl)

-- what a round under way has left
pub left_playing : (o : Option Playing) (playing : Playing) (p : ℕ) (steps : List code_step.Step) (taken : ℕ) (session : Option Session) → o ≡ Some playing → turns_left_by o p steps taken session ≡ round_turns_left playing.round + 2 + turns_left_in p (drop (taken + 1) steps)
left_playing o playing p steps taken session is = ap (λ (z : Option Playing). turns_left_by z p steps taken session) is

-- where it is known whether a round is under way
pub none_under_way : (o : Option Playing) → is_some o ≡ false → o ≡ None
none_under_way None not = refl
none_under_way (Some playing) not = absurd cc

pub none_plays : (o : Option Playing) → o ≡ None → is_some o ≡ true → ⊥
none_plays o none some = let e : true ≡ false = sym some ∙ ap is_some none in cc

-- the session of a run that stands between its turns
pub without_session : (c : Course) (settings : StationSettings) (taken turns : ℕ) (items : List Item) (run : Run) (o : Option Session) (line : Sim) (disk : Stopping MemDisk) → run.session ≡ None → o ≡ None → StandsAt None c settings taken turns items run line disk
    → StandsAt None c settings taken turns items (record { session = o; rounds = run.rounds; written = run.written }) line disk
without_session c settings taken turns items run o line disk none none' p =
    subst (λ (z : Option Session). StandsAt None c settings taken turns items (record { session = z; rounds = run.rounds; written = run.written }) line disk) (none ∙ sym none') p

-- no round is under way
pub stands_none : (o : Option Playing) (c : Course) (settings : StationSettings) (taken turns : ℕ) (items : List Item) (run : Run) (line : Sim) (disk : Stopping MemDisk) → o ≡ None → StandsAt o c settings taken turns items run line disk → StandsAt None c settings taken turns items run line disk
stands_none o c settings taken turns items run line disk none p = subst (λ (z : Option Playing). StandsAt z c settings taken turns items run line disk) none p

-- this round is
pub stands_some : (o : Option Playing) (playing : Playing) (c : Course) (settings : StationSettings) (taken turns : ℕ) (items : List Item) (run : Run) (line : Sim) (disk : Stopping MemDisk) → o ≡ Some playing → StandsAt o c settings taken turns items run line disk → StandsAt (Some playing) c settings taken turns items run line disk
stands_some o playing c settings taken turns items run line disk some p = subst (λ (z : Option Playing). StandsAt z c settings taken turns items run line disk) some p

pub opens_at_end : (p : ℕ) (xs : List code_step.Step) (i : ℕ) → length xs ≤ i → OpensNext (steps_for p (drop i xs))
opens_at_end p xs i none = subst (λ (z : List code_step.Step). OpensNext (steps_for p z)) (sym (drop_all i xs none)) tt

-- a round was begun
pub stands_begun : (c : Course) (settings : StationSettings) (taken turns : ℕ) (items : List Item) (run : Run) (session : Session) (o : Option Session) (line line' : Sim) (disk disk' : Stopping MemDisk) (fates : code_fates.Fates) (stop : Option Stop) (playing : Playing)
    → run.session ≡ Some session → IsNextRound c.steps taken fates stop → StandsAt None c settings taken turns items run line disk
    → RoundIsUnderWay fates stop (round_host session line disk) playing line' disk' → MayGoOn playing disk' → round_turns_left playing.round < 2 ^ 32 → playing.stop ≡ stop
    → StandsAt (Some playing) c settings taken turns items (record { session = o; rounds = run.rounds; written = run.written }) line' disk'
stands_begun c settings taken turns items run session o line line' disk disk' fates stop playing some n p way may few same =
    let x = next_round c.steps taken fates stop n in
    let ahead = stands_open c settings taken items run session line disk some (opens_next settings.period c.steps taken fates stop n) p.stands in
    let r = ready settings c.steps c.made p.accepted p.room in
    let there = stands settings c.eeprom c.packet c.steps taken c.made disk ahead.given ahead.stage ahead.openings r ahead.runs ahead.few ahead.limits (code.Round fates stop) x in
    let readies = goes_on_ahead ahead.openings settings ahead.stage run session disk some ahead.holds in
    let falls = left_behind settings.period c.steps taken (code.Round fates stop) x in
    let old = left_some run.session session some in
    record {
      accepted = p.accepted;
      room = p.room;
      few = omega (arith, p.few, falls, few, old);
      stands = (
        code.Round fates stop,
        x,
        record {
          given = ahead.given;
          stage = ahead.stage;
          runs = ahead.runs;
          items_are = ahead.items_are;
          openings = ahead.openings;
          few = ahead.few;
          fates = fates;
          is_round = ap (round_step fates) (sym same);
          old = round_host session line disk;
          begun = record {
            may = may_play (length (records (steps_for settings.period c.steps))) ahead.openings settings fates stop ahead.stage _ session line disk disk ahead.at there readies refl;
            is_open = is_opened ahead.stage;
            rounds = ahead.holds.rounds;
            written = ahead.holds.written;
          };
          way = subst (λ (k : Option Stop). RoundIsUnderWay fates k (round_host session line disk) playing line' disk') (sym same) way;
          may = may;
          said = ahead.said;
          limits = ahead.limits;
        },
      );
    }

module _ {T : Type 0} (telling : Telling T) (settings : StationSettings) (from : Stage) (xs : List ReplayStep) (items : List Item) (a b c : T) (first_told : telling.tells a items b) where
  -- what was told up to the end is a run
  pub run_told : (before line : Sim) (disk : Stopping MemDisk) → EndsRun telling settings from xs items before line disk b c → TellsRun telling false settings from xs a c
  run_told before line disk e = record {
    items = items ++ e.given;
    is_replay = e.took_part.run;
    kept = e.kept;
    told = telling.tells_joins a b c items e.given first_told e.told;
  }

  -- and in this run the line and the disk took part
  pub part_taken : (before line : Sim) (disk : Stopping MemDisk) → EndsRun telling settings from xs items before line disk b c → (run : TellsRun telling false settings from xs a c) × TookPart settings from xs run.items before line disk
  part_taken before line disk e = (
    record {
      items = items ++ e.given;
      is_replay = e.took_part.run;
      kept = e.kept;
      told = telling.tells_joins a b c items e.given first_told e.told;
    },
    e.took_part,
  )

  pub broken_told : BreaksRun telling settings from xs items b c → TellsRun telling true settings from xs a c
  broken_told e = record { items = items ++ e.given; is_replay = e.is_unseen; kept = e.kept; told = telling.tells_joins a b c items e.given first_told e.told }

  pub front_told : CutsRun telling settings from xs items b c → TellsFront telling settings from xs a c
  front_told e = record { items = items ++ e.given; is_begun = e.is_begun; kept = e.kept; told = telling.breaks_later a b c items e.given first_told e.told }
