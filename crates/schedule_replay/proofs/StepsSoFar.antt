-- What the steps of a run come to, one after another.
use Rattle.std.proofs.Common.{◌≡◌, ℕ, zero, suc, ◌+◌, ◌*◌, ◌≤◌, ◌<◌, Bool, true, false, List, [], ◌∷◌, ◌++◌, length, take, drop, Option, Some, None, refl, sym, ◌∙◌, ap, subst, arith, append-nil, append_assoc, inl, inr, get_or, drop-cons}
use Rattle.std.proofs.lemmas.List.{map-append, take-append-drop, take_more, take_all}
use Rattle.std.specs.List.{AllByRecursion}
use Rattle.station_base.specs.declared.row.Row.{Row}
use Rattle.settings_file.specs.StationSettings.{StationSettings}
use Rattle.loop_packet.specs.declared.packet.LoopPacket.{LoopPacket}
use Rattle.disk_model.specs.declared.mem_disk.MemDisk.{MemDisk}
use Rattle.disk_model.specs.declared.stopping.Stopping.{Stopping}
use Rattle.weather_book.specs.Stands.{HasRows}
use Rattle.schedule_file.specs.declared.schedule.step.Step as code_step
use Rattle.schedule_file.specs.declared.schedule.step.Step.TheVariants as code
use Rattle.station_sim.specs.declared.sim.Sim.{Sim}
use Rattle.schedule_file.specs.Fates.{FatesByNumber}
use Rattle.gated_log.specs.Layout.{slot_size}
use Rattle.station_session.specs.Attempts.{all_said}
use Rattle.station_session.specs.declared.session.Session.{Session}
use Rattle.replay_laws.specs.Replay.{Does, RunIsBegun, IsUnseenRound, IsReplay, IsRound, IsUnseen, IsWhole, Item, Opens, OpensNext, Runs, Stage, closing_items, opening_if_closed, is_stop, left_by_round, opened, start, stops_opening}
use Rattle.replay_laws.specs.Room.{step_lines, lines, changes_in_a_turn, slots_in_a_record}
use Rattle.schedule_file.specs.declared.schedule.step.Stop.{Stop}
use Rattle.replay_laws.specs.Schedule.{IsSchedule, ReplayStep, records}
use Rattle.replay_laws.specs.Stopped.{IsStop}
use Rattle.replay_laws.specs.Round.{made_attempts}
use Rattle.replay_laws.proofs.RowsOfRounds.{total_few}
use Rattle.replay_laws.proofs.Roomy.{room_law, round_in_run}
use Rattle.replay_laws.proofs.WholeRun.{begun_law, schedules_law}
use Rattle.replay_laws.proofs.Stops.{slots_is}
use Rattle.schedule_replay.specs.declared.run.Run.{Run}
use Rattle.schedule_steps.specs.Accepted.{AreAccepted, IsInRange}
use Rattle.round_play.specs.Opening.{stopping_limits}
use Rattle.round_play.specs.Resting.{AtRest, IsRoomFor}
use Rattle.schedule_replay.specs.Running.{BreaksAt, StepIsCut}
use Rattle.schedule_replay.specs.SoFar.{SoFar}
use Rattle.schedule_replay.specs.Standing.{HasRunRoom, HasSaid, HasSession, HoldsAt, LineAt, MayTake, StandsThere, said_in}
use Rattle.schedule_steps.specs.Steps.{step_of, steps_for}
use Rattle.schedule_replay.specs.Telling.{Telling}
use Rattle.schedule_replay.specs.Turns.{BreaksRun, CutsRun, EndsRun}
use Rattle.schedule_replay.proofs.Ahead.{is_opened}
use Rattle.schedule_replay.proofs.RoundLaws.{after_rounds, front_whole, opened_rounds, opened_rows, said_first}
use Rattle.schedule_file.specs.Limits.{most_records, most_turns}
use Rattle.gated_log.specs.Calls.{changes_in_a_batch}

pub runs_more : (settings : StationSettings) (xs : List ReplayStep) (x : ReplayStep) (s u v : Stage) (is now : List Item) → Runs settings xs s is u → Does settings x u now v → Runs settings (xs ++ x ∷ []) s (is ++ now) v
runs_more settings [] x s u v is now (none, same) h = (v, now, [], ap (λ z. z ++ now) none ∙ sym (append-nil now), subst (λ (z : Stage). Does settings x z now v) same h, (refl, refl))
runs_more settings (y ∷ xs) x s u v is now (mid, some, rest, split, does, again) h =
    (mid, some, rest ++ now, ap (λ z. z ++ now) split ∙ append_assoc some rest now, does, runs_more settings xs x mid u v rest now again h)

pub said_join : (xs ys : List Item) → said_in (xs ++ ys) ≡ said_in xs ++ said_in ys
said_join [] ys = refl
said_join (Item.Opened rows n ∷ o) ys = said_join o ys
said_join (Item.OpenStopped k rows ∷ o) ys = said_join o ys
said_join (Item.Ran x ∷ o) ys = ap (λ z. all_said (made_attempts x.tried) ++ z) (said_join o ys) ∙ sym (append_assoc (all_said (made_attempts x.tried)) (said_in o) (said_in ys))
said_join (Item.Unsaid n u ∷ o) ys = said_join o ys
said_join (Item.Ended rows ∷ o) ys = said_join o ys

pub said_more : (before line now : Sim) (items is : List Item) → HasSaid items before line → HasSaid is line now → HasSaid (items ++ is) before now
said_more before line now items is first later = later ∙ ap (λ z. z ++ said_in is) first ∙ append_assoc before.talk.items (said_in items) (said_in is) ∙ ap (λ z. before.talk.items ++ z) (sym (said_join items is))

lines_join : (xs ys : List ReplayStep) → lines (xs ++ ys) ≡ lines xs + lines ys
lines_join [] ys = omega arith
lines_join (x ∷ xs) ys = let e = lines_join xs ys in omega (arith, e)

-- a step makes no more rounds than it is lines
opens_rounds : (t : Bool) (k : Stop) (s : Stage) (is : List Item) (u : Stage) → Opens t k s is u → u.rounds ≡ s.rounds
opens_rounds true k s is u (i, e) = ap (λ (v : Stage). v.rounds) e
opens_rounds false k s is u (i, e) = ap (λ (v : Stage). v.rounds) e

does_rounds : (settings : StationSettings) (x : ReplayStep) (s : Stage) (is : List Item) (u : Stage) → Does settings x s is u → u.rounds ≤ s.rounds + step_lines x
does_rounds settings (ReplayStep.Due rs) s is u (i, e) = let same : u.rounds ≡ s.rounds = ap (λ (v : Stage). v.rounds) e in omega (arith, same)
does_rounds settings (ReplayStep.Idle n) s is u (i, e) = let same : u.rounds ≡ s.rounds = ap (λ (v : Stage). v.rounds) e in omega (arith, same)
does_rounds settings (ReplayStep.Open None) s is u (i, e) = let same : u.rounds ≡ s.rounds = ap (λ (v : Stage). v.rounds) e in omega (arith, same)
does_rounds settings (ReplayStep.Open (Some k)) s is u h = let same = opens_rounds (stops_opening k.change s.archive.size) k s is u h in omega (arith, same)
does_rounds settings (ReplayStep.Round f left stop) s is u (r, made, i) =
    let same : u.rounds ≡ (opened s.is_open s).rounds + 1 = ap (λ (v : Stage). v.rounds) made.next ∙ after_rounds (is_stop r.end) (opened s.is_open s) (left_by_round settings stop (opened s.is_open s) made.made) _ in
    let before = opened_rounds s.is_open s in
    omega (arith, same, before)

pub rounds_few : (settings : StationSettings) (xs : List ReplayStep) (s : Stage) (is : List Item) (u : Stage) → Runs settings xs s is u → u.rounds ≤ s.rounds + lines xs
rounds_few settings [] s is u (none, same) = let e : u.rounds ≡ s.rounds = ap (λ (v : Stage). v.rounds) same in omega (arith, e)
rounds_few settings (x ∷ xs) s is u (mid, now, rest, split, does, again) =
    let one = does_rounds settings x s now mid does in
    let more = rounds_few settings xs mid rest u again in
    omega (arith, one, more)

-- one more step was taken
pub so_far_more : (settings : StationSettings) (from : Stage) (xs : List ReplayStep) (x : ReplayStep) (items is : List Item) (s u : Stage) (openings : ℕ) (before line now : Sim) (made next : Stopping MemDisk) (after : Run)
    → Runs settings xs from items s → openings ≤ lines xs → HasSaid items before line → Does settings x s is u → HoldsAt (openings + step_lines x) settings u after next → LineAt u now → HasSaid is line now
    → stopping_limits next ≡ stopping_limits made → SoFar settings from (xs ++ x ∷ []) (items ++ is) before now made next after
so_far_more settings from xs x items is s u openings before line now made next after runs few before_said does holds at said limits = record {
  stage = u;
  runs = runs_more settings xs x from s u items is runs does;
  openings = openings + step_lines x;
  few = let e = lines_join xs (x ∷ []) in omega (arith, few, e);
  holds = holds;
  at = at;
  said = said_more before line now items is before_said said;
  limits = limits;
}

-- a step's stop comes within a change, the first of which is change 1
abbrev pub MayStop : ReplayStep → Type 0
MayStop (ReplayStep.Due rs) = Unit {0}
MayStop (ReplayStep.Idle n) = Unit {0}
MayStop (ReplayStep.Open stop) = IsStop stop
MayStop (ReplayStep.Round f left stop) = IsStop stop

pub stop_in : (period : ℕ) (x : code_step.Step) → IsInRange period x → MayStop (step_of period x)
stop_in period (code.Due rec) h = tt
stop_in period (code.Run first count) h = tt
stop_in period (code.Idle ticks) h = tt
stop_in period (code.Open stop) h = h
stop_in period (code.Round fates stop) h = h

may_take : (settings : StationSettings) (eeprom : List ℕ) (packet : LoopPacket) (xs ys : List ReplayStep) (x : ReplayStep) (is : List Item) (s : Stage) → IsSchedule (xs ++ x ∷ ys) → Runs settings xs (start eeprom packet) is s → MayStop x
    → lines (xs ++ x ∷ ys) ≤ most_turns → s.archive.changes ≤ changes_in_a_batch * length s.archive.rows + changes_in_a_turn * lines xs → MayTake (length (records (xs ++ x ∷ ys))) settings x s
may_take settings eeprom packet xs ys (ReplayStep.Due rs) is s ok runs stop few changes = tt
may_take settings eeprom packet xs ys (ReplayStep.Idle n) is s ok runs stop few changes = tt
may_take settings eeprom packet xs ys (ReplayStep.Open k) is s ok runs stop few changes = stop
may_take settings eeprom packet xs ys (ReplayStep.Round f left k) is s ok runs stop few changes =
    let e = lines_join xs (ReplayStep.Round f left k ∷ ys) in
    (stop, round_in_run settings eeprom packet xs ys f left k ok is s runs, omega (arith, few, changes, e))

-- a run of a schedule may take its next step
pub stands_there : (settings : StationSettings) (eeprom : List ℕ) (packet : LoopPacket) (xs ys : List ReplayStep) (x : ReplayStep) (is : List Item) (s : Stage) (openings : ℕ) (disk : Stopping MemDisk) → IsSchedule (xs ++ x ∷ ys) → lines (xs ++ x ∷ ys) ≤ most_turns
    → length (records (xs ++ x ∷ ys)) ≤ most_records → MayStop x → IsRoomFor (length (records (xs ++ x ∷ ys))) (stopping_limits disk) → Runs settings xs (start eeprom packet) is s → openings ≤ lines xs
    → StandsThere (length (records (xs ++ x ∷ ys))) openings settings x s disk
stands_there settings eeprom packet xs ys x is s openings disk ok few records_few stop room runs openings_few =
    let n = length (records (xs ++ x ∷ ys)) in
    let fits = room_law settings eeprom packet xs (x ∷ ys) ok (slot_size * (slots_in_a_record * n + 1) + 1) (λ (rows : List Row) less. let a = total_few rows in let b = slots_is rows in omega (arith, a, b, less)) is s runs in
    let e = lines_join xs (x ∷ ys) in (
      record {
        room = room;
        changes = omega (arith, fits.1, few, e);
        rows = fits.2;
        records_are = records_few;
        few = omega (arith, openings_few, few, e);
      },
      may_take settings eeprom packet xs ys x is s ok runs stop few fits.1,
    )

-- all steps were taken, the archive is open, and the end was told
pub all_done : {T : Type 0} (telling : Telling T) (settings : StationSettings) (eeprom : List ℕ) (packet : LoopPacket) (xs : List ReplayStep) (given : List Item) (s : Stage) (b c : T) (before line : Sim) (next : Stopping MemDisk) → IsSchedule xs
    → Runs settings xs (start eeprom packet) given s → LineAt s line → HasSaid given before line → (openings : ℕ) → AtRest openings (opened s.is_open s).archive next → telling.tells b (Item.Ended s.archive.rows ∷ []) c
    → EndsRun telling settings (start eeprom packet) xs (given ++ opening_if_closed s.is_open s) before line next b c
all_done telling settings eeprom packet xs given s b c before line next ok runs at said openings rest told =
    let whole : (given ++ opening_if_closed s.is_open s) ++ Item.Ended s.archive.rows ∷ [] ≡ given ++ closing_items s = append_assoc given (opening_if_closed s.is_open s) (Item.Ended s.archive.rows ∷ []) in
    let k : IsWhole settings (start eeprom packet) xs ((given ++ opening_if_closed s.is_open s) ++ Item.Ended s.archive.rows ∷ []) = record { given = given; last = s; runs = runs; items_are = whole } in
    let ended : said_in (closing_items s) ≡ [] = said_first s.is_open s (Item.Ended s.archive.rows ∷ []) in
    let heard : said_in ((given ++ opening_if_closed s.is_open s) ++ Item.Ended s.archive.rows ∷ []) ≡ said_in given = ap said_in whole ∙ said_join given (closing_items s) ∙ ap (λ z. said_in given ++ z) ended ∙ append-nil (said_in given) in
    record {
      given = Item.Ended s.archive.rows ∷ [];
      kept = schedules_law settings eeprom packet xs ok ((given ++ opening_if_closed s.is_open s) ++ Item.Ended s.archive.rows ∷ []) (inl k);
      told = told;
      took_part = record {
        run = k;
        line = at.stands;
        talk = said ∙ ap (λ z. before.talk.items ++ z) (sym heard);
        image = rest.image;
        reads = rest.seen;
        rows = subst (λ (r : List Row). HasRows r rest.image) (opened_rows s.is_open s) rest.rows;
        size = rest.length_is;
        changes = rest.rests.changes_are;
      };
    }

pub end_cut : {T : Type 0} (telling : Telling T) (settings : StationSettings) (eeprom : List ℕ) (packet : LoopPacket) (xs : List ReplayStep) (given : List Item) (s : Stage) (b c : T) → IsSchedule xs → Runs settings xs (start eeprom packet) given s → telling.breaks_off b (Item.Ended s.archive.rows ∷ []) c
    → CutsRun telling settings (start eeprom packet) xs (given ++ opening_if_closed s.is_open s) b c
end_cut telling settings eeprom packet xs given s b c ok runs told =
    let whole : (given ++ opening_if_closed s.is_open s) ++ Item.Ended s.archive.rows ∷ [] ≡ given ++ closing_items s = append_assoc given (opening_if_closed s.is_open s) (Item.Ended s.archive.rows ∷ []) in
    let k : IsReplay settings (start eeprom packet) xs ((given ++ opening_if_closed s.is_open s) ++ Item.Ended s.archive.rows ∷ []) = inl (record { given = given; last = s; runs = runs; items_are = whole }) in
    record { given = Item.Ended s.archive.rows ∷ []; is_begun = inr k; kept = schedules_law settings eeprom packet xs ok ((given ++ opening_if_closed s.is_open s) ++ Item.Ended s.archive.rows ∷ []) k; told = told }

-- a delivery was unseen in the next step
unseen_in : (settings : StationSettings) (from : Stage) (xs ys : List ReplayStep) (x : ReplayStep) (is now : List Item) (u : Stage) → Runs settings xs from is u → BreaksAt settings x u now → IsUnseen settings from (xs ++ x ∷ ys) (is ++ now)
unseen_in settings from xs ys x is now u runs b = record {
  before = xs;
  behind = ys;
  fates = b.fates;
  left = b.left;
  stop = b.stop;
  steps_are = ap (λ (z : ReplayStep). xs ++ z ∷ ys) b.is_round;
  given = is;
  last = u;
  runs = runs;
  unsaid = b.unsaid;
  broken = b.broken;
  items_are = ap (λ z. is ++ z) b.items_are;
}

-- a round from an open stage is one from where the archive was closed, behind its opening
does_opened : (settings : StationSettings) (f : FatesByNumber) (left : ℕ → List (List ℕ)) (stop : Option Stop) (s u : Stage) (is : List Item) → Does settings (ReplayStep.Round f left stop) (opened s.is_open s) is u → Does settings (ReplayStep.Round f left stop) s (opening_if_closed s.is_open s ++ is) u
does_opened settings f left stop s u is (r, made, i) =
    let t = opened s.is_open s in
    let same : opened t.is_open t ≡ t = ap (λ (b : Bool). opened b t) (is_opened s) in
    let none : opening_if_closed t.is_open t ≡ [] = ap (λ (b : Bool). opening_if_closed b t) (is_opened s) in
    (r, subst (λ (z : Stage). IsRound settings f left stop z r u) same made, ap (λ z. opening_if_closed s.is_open s ++ z) (i ∙ ap (λ z. z ++ Item.Ran r ∷ []) none))

breaks_opened : (settings : StationSettings) (x : ReplayStep) (s : Stage) (is : List Item) → BreaksAt settings x (opened s.is_open s) is → BreaksAt settings x s (opening_if_closed s.is_open s ++ is)
breaks_opened settings x s is b =
    let t = opened s.is_open s in
    let same : opened t.is_open t ≡ t = ap (λ (is_open : Bool). opened is_open t) (is_opened s) in
    let none : opening_if_closed t.is_open t ≡ [] = ap (λ (is_open : Bool). opening_if_closed is_open t) (is_opened s) in
    record {
      fates = b.fates;
      left = b.left;
      stop = b.stop;
      is_round = b.is_round;
      unsaid = b.unsaid;
      broken = subst (λ (z : Stage). IsUnseenRound settings b.fates b.stop z b.unsaid) same b.broken;
      items_are = ap (λ z. opening_if_closed s.is_open s ++ z) (b.items_are ∙ ap (λ z. z ++ b.unsaid ∷ []) none);
    }

-- a round behind its opening was taken
pub round_more : (settings : StationSettings) (from : Stage) (xs : List ReplayStep) (f : FatesByNumber) (left : ℕ → List (List ℕ)) (stop : Option Stop) (given is : List Item) (s u : Stage) (openings : ℕ) (before line now : Sim) (made next : Stopping MemDisk) (after : Run)
    → Runs settings xs from given s → openings ≤ lines xs → HasSaid given before line → Does settings (ReplayStep.Round f left stop) (opened s.is_open s) is u → HoldsAt (openings + 1) settings u after next → LineAt u now → HasSaid is line now
    → stopping_limits next ≡ stopping_limits made → SoFar settings from (xs ++ ReplayStep.Round f left stop ∷ []) ((given ++ opening_if_closed s.is_open s) ++ is) before now made next after
round_more settings from xs f left stop given is s u openings before line now made next after runs few before_said does holds at said limits =
    subst (λ (z : List Item). SoFar settings from (xs ++ ReplayStep.Round f left stop ∷ []) z before now made next after) (sym (append_assoc given (opening_if_closed s.is_open s) is))
    (so_far_more settings from xs (ReplayStep.Round f left stop) given (opening_if_closed s.is_open s ++ is) s u openings before line now made next after runs few before_said (does_opened settings f left stop s u is does) holds at
    (said ∙ ap (λ z. line.talk.items ++ z) (sym (said_first s.is_open s is))) limits)

-- a delivery was unseen in a round behind its opening
pub round_broken : {T : Type 0} (telling : Telling T) (settings : StationSettings) (eeprom : List ℕ) (packet : LoopPacket) (xs ys : List ReplayStep) (x : ReplayStep) (b c : T) (given now : List Item) (s : Stage) → IsSchedule (xs ++ x ∷ ys) → Runs settings xs (start eeprom packet) given s
    → BreaksAt settings x (opened s.is_open s) now → telling.tells b now c → BreaksRun telling settings (start eeprom packet) (xs ++ x ∷ ys) (given ++ opening_if_closed s.is_open s) b c
round_broken telling settings eeprom packet xs ys x b c given now s ok runs broken told =
    let k = subst (λ (z : List Item). IsUnseen settings (start eeprom packet) (xs ++ x ∷ ys) z) (sym (append_assoc given (opening_if_closed s.is_open s) now))
    (unseen_in settings (start eeprom packet) xs ys x given (opening_if_closed s.is_open s ++ now) s runs (breaks_opened settings x s now broken)) in
    record { given = now; is_unseen = k; kept = schedules_law settings eeprom packet (xs ++ x ∷ ys) ok ((given ++ opening_if_closed s.is_open s) ++ now) (inr k); told = told }

-- the beginning of a run, to where some of its steps lead
begun_to : (settings : StationSettings) (from : Stage) (xs ys steps : List ReplayStep) (is : List Item) (u : Stage) → steps ≡ xs ++ ys → Runs settings xs from is u → RunIsBegun settings from steps is
begun_to settings from xs ys steps is u split runs = record { before = xs; behind = ys; steps_are = split; given = is; last = u; runs = runs; items_are = inl refl }

-- and with the opening of a round that comes next
pub begun_opened : (settings : StationSettings) (from : Stage) (xs ys steps : List ReplayStep) (is : List Item) (u : Stage) → steps ≡ xs ++ ys → OpensNext ys → Runs settings xs from is u → RunIsBegun settings from steps (is ++ opening_if_closed u.is_open u)
begun_opened settings from xs ys steps is u split opens runs = record { before = xs; behind = ys; steps_are = split; given = is; last = u; runs = runs; items_are = inr (opens, refl) }

pub begun_too : {T : Type 0} (telling : Telling T) (settings : StationSettings) (eeprom : List ℕ) (packet : LoopPacket) (xs : List ReplayStep) (b c : T) (is now : List Item) → IsSchedule xs → RunIsBegun settings (start eeprom packet) xs (is ++ now) → telling.breaks_off b now c → CutsRun telling settings (start eeprom packet) xs is b c
begun_too telling settings eeprom packet xs b c is now ok begun told = record { given = now; is_begun = inl begun; kept = begun_law settings eeprom packet xs ok (is ++ now) begun; told = told }

pub step_cut : {T : Type 0} (telling : Telling T) (settings : StationSettings) (eeprom : List ℕ) (packet : LoopPacket) (xs ys : List ReplayStep) (x : ReplayStep) (b c : T) (is : List Item) (u : Stage) → IsSchedule (xs ++ x ∷ ys) → Runs settings xs (start eeprom packet) is u
    → StepIsCut telling settings x u b c → CutsRun telling settings (start eeprom packet) (xs ++ x ∷ ys) is b c
step_cut telling settings eeprom packet xs ys x b c is u ok runs (inl (now, v, does, w)) =
    begun_too telling settings eeprom packet (xs ++ x ∷ ys) b c is now ok
    (begun_to settings (start eeprom packet) (xs ++ x ∷ []) ys (xs ++ x ∷ ys) (is ++ now) v (sym (append_assoc xs (x ∷ []) ys)) (runs_more settings xs x (start eeprom packet) u v is now runs does)) w
step_cut telling settings eeprom packet xs ys x b c is u ok runs (inr (inl (now, broken, w))) =
    let k : IsReplay settings (start eeprom packet) (xs ++ x ∷ ys) (is ++ now) = inr (unseen_in settings (start eeprom packet) xs ys x is now u runs broken) in
    record { given = now; is_begun = inr k; kept = schedules_law settings eeprom packet (xs ++ x ∷ ys) ok (is ++ now) k; told = w }
step_cut telling settings eeprom packet xs ys x b c is u ok runs (inr (inr (inl (f, left, stop, round, w)))) =
    begun_too telling settings eeprom packet (xs ++ x ∷ ys) b c is (opening_if_closed u.is_open u) ok
    (begun_opened settings (start eeprom packet) xs (x ∷ ys) (xs ++ x ∷ ys) is u refl (subst (λ (z : ReplayStep). OpensNext (z ∷ ys)) (sym round) tt) runs) w
step_cut telling settings eeprom packet xs ys x b c is u ok runs (inr (inr (inr w))) =
    begun_too telling settings eeprom packet (xs ++ x ∷ ys) b c is [] ok
    (subst (λ (z : List Item). RunIsBegun settings (start eeprom packet) (xs ++ x ∷ ys) z) (sym (append-nil is)) (begun_to settings (start eeprom packet) xs (x ∷ ys) (xs ++ x ∷ ys) is u refl runs)) (front_whole telling b c [] w)

-- a round behind its opening was cut off
pub round_cut : {T : Type 0} (telling : Telling T) (settings : StationSettings) (eeprom : List ℕ) (packet : LoopPacket) (xs ys : List ReplayStep) (f : FatesByNumber) (left : ℕ → List (List ℕ)) (stop : Option Stop) (b c : T) (given : List Item) (s : Stage) → IsSchedule (xs ++ ReplayStep.Round f left stop ∷ ys)
    → Runs settings xs (start eeprom packet) given s → StepIsCut telling settings (ReplayStep.Round f left stop) (opened s.is_open s) b c → CutsRun telling settings (start eeprom packet) (xs ++ ReplayStep.Round f left stop ∷ ys) (given ++ opening_if_closed s.is_open s) b c
round_cut telling settings eeprom packet xs ys f left stop b c given s ok runs (inl (now, v, does, w)) =
    let x = ReplayStep.Round f left stop in
    begun_too telling settings eeprom packet (xs ++ x ∷ ys) b c (given ++ opening_if_closed s.is_open s) now ok
    (subst (λ (z : List Item). RunIsBegun settings (start eeprom packet) (xs ++ x ∷ ys) z) (sym (append_assoc given (opening_if_closed s.is_open s) now))
    (begun_to settings (start eeprom packet) (xs ++ x ∷ []) ys (xs ++ x ∷ ys) (given ++ (opening_if_closed s.is_open s ++ now)) v (sym (append_assoc xs (x ∷ []) ys)) (runs_more settings xs x (start eeprom packet) s v given (opening_if_closed s.is_open s ++ now) runs (does_opened settings f left stop s v now does)))) w
round_cut telling settings eeprom packet xs ys f left stop b c given s ok runs (inr (inl (now, broken, w))) =
    let x = ReplayStep.Round f left stop in
    let k : IsReplay settings (start eeprom packet) (xs ++ x ∷ ys) ((given ++ opening_if_closed s.is_open s) ++ now) = inr (subst (λ (z : List Item). IsUnseen settings (start eeprom packet) (xs ++ x ∷ ys) z) (sym (append_assoc given (opening_if_closed s.is_open s) now))
    (unseen_in settings (start eeprom packet) xs ys x given (opening_if_closed s.is_open s ++ now) s runs (breaks_opened settings x s now broken))) in
    record { given = now; is_begun = inr k; kept = schedules_law settings eeprom packet (xs ++ x ∷ ys) ok ((given ++ opening_if_closed s.is_open s) ++ now) k; told = w }
round_cut telling settings eeprom packet xs ys f left stop b c given s ok runs (inr (inr (inl (g, late, k, round, w)))) =
    let t = opened s.is_open s in
    let none : opening_if_closed t.is_open t ≡ [] = ap (λ (z : Bool). opening_if_closed z t) (is_opened s) in
    begun_too telling settings eeprom packet (xs ++ ReplayStep.Round f left stop ∷ ys) b c (given ++ opening_if_closed s.is_open s) [] ok
    (subst (λ (z : List Item). RunIsBegun settings (start eeprom packet) (xs ++ ReplayStep.Round f left stop ∷ ys) z) (sym (append-nil (given ++ opening_if_closed s.is_open s)))
    (begun_opened settings (start eeprom packet) xs (ReplayStep.Round f left stop ∷ ys) (xs ++ ReplayStep.Round f left stop ∷ ys) given s refl tt runs)) (subst (λ (z : List Item). telling.breaks_off b z c) none w)
round_cut telling settings eeprom packet xs ys f left stop b c given s ok runs (inr (inr (inr w))) =
    begun_too telling settings eeprom packet (xs ++ ReplayStep.Round f left stop ∷ ys) b c (given ++ opening_if_closed s.is_open s) [] ok
    (subst (λ (z : List Item). RunIsBegun settings (start eeprom packet) (xs ++ ReplayStep.Round f left stop ∷ ys) z) (sym (append-nil (given ++ opening_if_closed s.is_open s)))
    (begun_opened settings (start eeprom packet) xs (ReplayStep.Round f left stop ∷ ys) (xs ++ ReplayStep.Round f left stop ∷ ys) given s refl tt runs)) (front_whole telling b c [] w)

-- the steps of a schedule are those so far, the next, and those to come
pub steps_split : (period : ℕ) (xs : List code_step.Step) (i : ℕ) (d : code_step.Step) → i < length xs → steps_for period (take i xs) ++ step_of period (get_or xs i d) ∷ steps_for period (drop (suc i) xs) ≡ steps_for period xs
steps_split period xs i d less =
    let e : take i xs ++ get_or xs i d ∷ drop (suc i) xs ≡ xs = ap (λ z. take i xs ++ z) (sym (drop-cons xs i d less)) ∙ take-append-drop i xs in
    sym (map-append (step_of period) (take i xs) (get_or xs i d ∷ drop (suc i) xs)) ∙ ap (steps_for period) e

pub steps_more : (period : ℕ) (xs : List code_step.Step) (i : ℕ) (d : code_step.Step) → i < length xs → steps_for period (take i xs) ++ step_of period (get_or xs i d) ∷ [] ≡ steps_for period (take (i + 1) xs)
steps_more period xs i d less = sym (map-append (step_of period) (take i xs) (get_or xs i d ∷ [])) ∙ ap (steps_for period) (sym (take_more xs i d less))

pub steps_all : (period : ℕ) (xs : List code_step.Step) (i : ℕ) → length xs ≤ i → steps_for period (take i xs) ≡ steps_for period xs
steps_all period xs i less = ap (steps_for period) (take_all i xs less)

-- What is so of the steps of a schedule, in a run with these settings over a disk with this room.
pub record IsReady (settings : StationSettings) (xs : List code_step.Step) (disk : Stopping MemDisk) : Type 0 where
  pub ok : IsSchedule (steps_for settings.period xs)
  pub few_lines : lines (steps_for settings.period xs) ≤ most_turns
  pub few_records : length (records (steps_for settings.period xs)) ≤ most_records
  pub ranges : AllByRecursion (IsInRange settings.period) xs
  pub room : IsRoomFor (length (records (steps_for settings.period xs))) (stopping_limits disk)

pub ready : (settings : StationSettings) (xs : List code_step.Step) (disk : Stopping MemDisk) → AreAccepted settings.period xs → IsRoomFor (length (records (steps_for settings.period xs))) (stopping_limits disk) → IsReady settings xs disk
ready settings xs disk accepted room = record {
  ok = accepted.rules;
  few_lines = accepted.few_lines;
  few_records = accepted.few_records;
  ranges = accepted.ranges;
  room = room;
}

pub in_range_at : (p : ℕ) (xs : List code_step.Step) (i : ℕ) (d : code_step.Step) → i < length xs → AllByRecursion (IsInRange p) xs → IsInRange p (get_or xs i d)
in_range_at p [] i d less all = absurd (omega (arith, less))
in_range_at p (x ∷ xs) zero d less all = all.0
in_range_at p (x ∷ xs) (suc i) d less all = in_range_at p xs i d (omega (arith, less)) all.1

pub steps_parts : (period : ℕ) (xs : List code_step.Step) (i : ℕ) → steps_for period (take i xs) ++ steps_for period (drop i xs) ≡ steps_for period xs
steps_parts period xs i = sym (map-append (step_of period) (take i xs) (drop i xs)) ∙ ap (steps_for period) (take-append-drop i xs)

lines_part : (period : ℕ) (xs : List code_step.Step) (i : ℕ) → lines (steps_for period (take i xs)) ≤ lines (steps_for period xs)
lines_part period xs i =
    let e = lines_join (steps_for period (take i xs)) (steps_for period (drop i xs)) in
    let all = ap lines (steps_parts period xs i) in
    omega (arith, e, all)

module _ (settings : StationSettings) (eeprom : List ℕ) (packet : LoopPacket) (xs : List code_step.Step) (i : ℕ) (made disk : Stopping MemDisk) (given : List Item) (s : Stage) (openings : ℕ) (r : IsReady settings xs made)
    (runs : Runs settings (steps_for settings.period (take i xs)) (start eeprom packet) given s) (few : openings ≤ lines (steps_for settings.period (take i xs))) (limits : stopping_limits disk ≡ stopping_limits made) where
  pub may_take_next : (d : code_step.Step) → i < length xs → StandsThere (length (records (steps_for settings.period xs))) openings settings (step_of settings.period (get_or xs i d)) s disk
  may_take_next d less =
      let p = settings.period in
      let e = steps_split p xs i d less in
      subst (λ (z : List ReplayStep). StandsThere (length (records z)) openings settings (step_of p (get_or xs i d)) s disk) e
      (stands_there settings eeprom packet (steps_for p (take i xs)) (steps_for p (drop (suc i) xs)) (step_of p (get_or xs i d)) given s openings disk
      (subst IsSchedule (sym e) r.ok) (subst (λ (z : List ReplayStep). lines z ≤ most_turns) (sym e) r.few_lines) (subst (λ (z : List ReplayStep). length (records z) ≤ most_records) (sym e) r.few_records)
      (stop_in p (get_or xs i d) (in_range_at p xs i d less r.ranges))
      (subst (λ (z : List ReplayStep). IsRoomFor (length (records z)) (stopping_limits disk)) (sym e) (subst (IsRoomFor (length (records (steps_for p xs)))) (sym limits) r.room)) runs few)

  pub few_rounds : s.rounds < 1000
  few_rounds =
      let e = lines_part settings.period xs i in
      let n = rounds_few settings (steps_for settings.period (take i xs)) (start eeprom packet) given s runs in
      omega (arith, n, e, r.few_lines)

  -- and it may open the archive
  pub has_run_room : HasRunRoom (length (records (steps_for settings.period xs))) openings s disk
  has_run_room =
      let q = settings.period in let z = steps_for q (take i xs) in let w = steps_for q (drop i xs) in
      let all : z ++ w ≡ steps_for q xs = steps_parts q xs i in
      let n = length (records (steps_for q xs)) in
      let m = length (records (z ++ w)) in
      let fits = room_law settings eeprom packet z w (subst IsSchedule (sym all) r.ok) (slot_size * (slots_in_a_record * m + 1) + 1) (λ (rows : List Row) less. let a = total_few rows in let t = slots_is rows in omega (arith, a, t, less)) given s runs in
      let same : m ≡ n = ap (λ (y : List ReplayStep). length (records y)) all in
      let l = lines_part q xs i in
      record {
        room = subst (IsRoomFor n) (sym limits) r.room;
        changes = omega (arith, fits.1, r.few_lines, l);
        rows = omega (arith, fits.2, same);
        records_are = r.few_records;
        few = omega (arith, few, l, r.few_lines);
      }

none_taken : (period : ℕ) (xs : List code_step.Step) → steps_for period (take 0 xs) ≡ []
none_taken period [] = refl
none_taken period (x ∷ xs) = refl

no_session : (settings : StationSettings) (rows : List Row) (o : Option Session) (disk : Stopping MemDisk) → o ≡ None → HasSession false settings rows o disk
no_session settings rows None disk is = tt
no_session settings rows (Some x) disk is = absurd cc

pub so_far_first : (settings : StationSettings) (eeprom : List ℕ) (packet : LoopPacket) (xs : List code_step.Step) (line : Sim) (disk : Stopping MemDisk) (run : Run) → run.session ≡ None → run.rounds ≡ 0 → run.written ≡ 0
    → LineAt (start eeprom packet) line → AtRest 0 (start eeprom packet).archive disk → SoFar settings (start eeprom packet) (steps_for settings.period (take 0 xs)) [] line line disk disk run
so_far_first settings eeprom packet xs line disk run closed rounds written at rests = record {
  stage = start eeprom packet;
  runs = subst (λ (z : List ReplayStep). Runs settings z (start eeprom packet) [] (start eeprom packet)) (sym (none_taken settings.period xs)) (refl, refl);
  openings = 0;
  few = omega arith;
  holds = record { rests = rests; session = no_session settings [] run.session disk closed; rounds = rounds; written = written };
  at = at;
  said = sym (append-nil line.talk.items);
  limits = refl;
}
