-- What a round of a run comes to at a stage.
use Rattle.std.proofs.Common.{◌≡◌, ℕ, ◌+◌, ◌≤◌, Bool, true, false, not, if◌then◌else◌, List, [], ◌∷◌, ◌++◌, length, Option, Some, None, refl, sym, ◌∙◌, ap, subst, arith, append-nil, inl, inr}
use Rattle.settings_file.specs.StationSettings.{StationSettings}
use Rattle.disk_model.specs.Disk.{MayBegin}
use Rattle.disk_model.specs.Stopping.{stopping_medium}
use Rattle.disk_model.specs.declared.mem_disk.MemDisk.{MemDisk}
use Rattle.disk_model.specs.declared.stopping.Stopping.{Stopping}
use Rattle.station_session.specs.declared.limits.TheConstants.{MOST_CHANGES}
use Rattle.station_session.specs.declared.session.Session.{Session}
use Rattle.station_session.specs.Round.{round_host}
use Rattle.schedule_file.specs.declared.fates.Fates as code
use Rattle.schedule_file.specs.declared.schedule.step.Stop.{Stop}
use Rattle.station_sim.specs.declared.sim.Sim.{Sim}
use Rattle.station_sim.specs.declared.unseen.Unseen.{Unseen}
use Rattle.schedule_file.specs.Fates.{FatesByNumber}
use Rattle.schedule_file.specs.Lists.{fates_of, records_left_in}
use Rattle.station_sim.specs.Standing.{SimStandsFor}
use Rattle.gated_log.specs.Layout.{empty_size}
use Rattle.replay_laws.specs.Keeping.{Archive}
use Rattle.replay_laws.specs.Replay.{IsUnseenRound, Item, Stage, after_round, opening_if_closed, is_stop, left_by_round, opened}
use Rattle.replay_laws.specs.Schedule.{ReplayStep}
use Rattle.schedule_file.specs.Lists.{no_fates}
use Rattle.replay_laws.specs.Round.{made_attempts}
use Rattle.station_session.specs.Attempts.{all_said}
use Rattle.replay_laws.proofs.RowsOfRounds.{total_few}
use Rattle.replay_laws.proofs.Stops.{slots_is}
use Rattle.round_play.specs.declared.playing.Played.{Played}
use Rattle.schedule_replay.specs.declared.run.Run.{Run}
use Rattle.round_play.specs.Opening.{CanOpen, stopping_limits}
use Rattle.round_play.specs.Played.{PlayedHost, RoundIsCounted, IsPlayedOut, IsToldOf, MayPlay, PlaysBy}
use Rattle.round_play.specs.Resting.{SessionGoesOn, IsRoomFor}
use Rattle.schedule_replay.specs.Running.{After, StepIsCut}
use Rattle.schedule_replay.specs.Standing.{HasRunRoom, HasSaid, HasSession, HoldsAt, RoundIsTold, LineAt, MayOpen, MayRun, Readies, StandsThere, round_step, said_in}
use Rattle.schedule_replay.specs.Telling.{Telling}

opened_line : (t : Bool) (s : Stage) → (opened t s).line ≡ s.line
opened_line true s = refl
opened_line false s = refl

pub opened_rows : (t : Bool) (s : Stage) → (opened t s).archive.rows ≡ s.archive.rows
opened_rows true s = refl
opened_rows false s = refl

pub opened_rounds : (t : Bool) (s : Stage) → (opened t s).rounds ≡ s.rounds
opened_rounds true s = refl
opened_rounds false s = refl

one_or_three : (t : Bool) → (if t then 1 else 3) ≤ 3
one_or_three true = omega arith
one_or_three false = omega arith

opened_changes : (t : Bool) (s : Stage) → (opened t s).archive.changes ≤ s.archive.changes + 3
opened_changes true s = omega arith
opened_changes false s = let n = one_or_three (Rattle.std.specs.Prelude.nat_lt empty_size s.archive.size) in omega (arith, n)

opened_counted : (t : Bool) (records : ℕ) (settings : StationSettings) (f : FatesByNumber) (s : Stage) → RoundIsCounted records settings f s → RoundIsCounted records settings f (opened t s)
opened_counted true records settings f s c = c
opened_counted false records settings f s c = c

-- a run that has room can open its archive
pub can_open : (records openings : ℕ) (settings : StationSettings) (s : Stage) (run : Run) (disk : Stopping MemDisk) → HoldsAt openings settings s run disk → HasRunRoom records openings s disk → CanOpen disk
can_open records openings settings s run disk h r =
    let slots_few = total_few s.archive.rows in
    let slots_are = slots_is s.archive.rows in
    record {
      capacity = omega (arith, r.room.capacity);
      changes = omega (arith, h.rests.room.changes, r.changes, r.rows, r.room.changes);
      bytes = omega (arith, h.rests.room.bytes, slots_few, slots_are, r.rows, r.few, r.room.bytes);
      moments = omega (arith, h.rests.rests.changes_are, r.changes, r.rows, r.records_are);
    }

pub may_open : (settings : StationSettings) (x : ReplayStep) (run : Run) (line : Sim) (disk : Stopping MemDisk) → MayRun settings x run line disk → MayOpen settings run disk
may_open settings x run line disk (records, openings, s, h, l, (room, may), few) = (openings, s, h, can_open records openings settings s run disk h room)

-- behind its opening it may play the round
pub may_play : (records openings : ℕ) (settings : StationSettings) (fates : code.Fates) (stop : Option Stop) (s : Stage) (run : Run) (session : Session) (line : Sim) (disk now : Stopping MemDisk) → LineAt s line
    → StandsThere records openings settings (round_step fates stop) s disk → Readies openings settings s run session now → stopping_limits now ≡ stopping_limits disk → MayPlay records settings (fates_of fates) (openings + 1) (opened s.is_open s) (round_host session line now)
may_play records openings settings fates stop s run session line disk now l (room, (is_stop_, counted, few)) r limits =
    let rows = opened_rows s.is_open s in
    record {
      line = subst (SimStandsFor line) (sym (opened_line s.is_open s)) l.stands;
      disk = r.rests;
      session = subst (λ z. SessionGoesOn settings z session now) (sym rows) r.goes_on;
      room = subst (IsRoomFor records) (sym limits) room.room;
      counted = opened_counted s.is_open records settings (fates_of fates) s counted;
      changes = omega (arith, opened_changes s.is_open s, few, ap length rows);
      few = omega (arith, room.few);
    }

pub moments_left : (records openings : ℕ) (settings : StationSettings) (s : Stage) (run : Run) (session : Session) (disk now : Stopping MemDisk) → HasRunRoom records openings s disk → Readies openings settings s run session now → MayBegin stopping_medium MOST_CHANGES now
moments_left records openings settings s run session disk now room r = omega (arith, r.rests.rests.changes_are, opened_changes s.is_open s, room.changes, room.rows, room.records_are)

archive_of : (t : Bool) (s : Stage) (a : Archive) (w : _) → (after_round t s a w).archive ≡ a
archive_of true s a w = refl
archive_of false s a w = refl

-- what was played is told
pub told_of : (settings : StationSettings) (f : FatesByNumber) (left : ℕ → List (List ℕ)) (stop : Option Stop) (openings : ℕ) (s : Stage) (old : PlayedHost) (played : Played) (session : Session) (line : Sim) (disk : Stopping MemDisk)
    → (o : IsPlayedOut settings f left stop openings s old played (round_host session line disk)) → IsToldOf settings openings stop session played disk o.round o.next.archive
told_of settings f left stop openings s old played session line disk o =
    let arc : o.next.archive ≡ left_by_round settings stop s o.is_round.made = ap (λ u. u.archive) o.is_round.next ∙ archive_of (is_stop o.round.end) s (left_by_round settings stop s o.is_round.made) _ in
    let rows : o.round.rows ≡ (left_by_round settings stop s o.is_round.made).rows = ap (λ r. r.rows) o.is_round.is in
    let same : o.next.archive.rows ≡ o.round.rows = ap (λ a. a.rows) arc ∙ sym rows in
    record { tells = o.tells; rests = o.disk; rows = same; goes_on = λ still. subst (λ z. SessionGoesOn settings z session disk) same (o.session still) }

pub number_of : (settings : StationSettings) (f : FatesByNumber) (left : ℕ → List (List ℕ)) (stop : Option Stop) (openings : ℕ) (s : Stage) (old : PlayedHost) (played : Played) (new : PlayedHost)
    → (o : IsPlayedOut settings f left stop openings s old played new) → o.round.number ≡ s.rounds + 1
number_of settings f left stop openings s old played new o = ap (λ r. r.number) o.is_round.is

after_open : (t : Bool) (s : Stage) (a : Archive) (w : _) → (after_round t s a w).is_open ≡ not t
after_open true s a w = refl
after_open false s a w = refl

pub after_rounds : (t : Bool) (s : Stage) (a : Archive) (w : _) → (after_round t s a w).rounds ≡ s.rounds + 1
after_rounds true s a w = refl
after_rounds false s a w = refl

after_written : (t : Bool) (s : Stage) (a : Archive) (w : _) → (after_round t s a w).written ≡ (if t then s.written else length a.rows)
after_written true s a w = refl
after_written false s a w = refl

-- an opening before a round says nothing
pub said_first : (t : Bool) (s : Stage) (xs : List Item) → said_in (opening_if_closed t s ++ xs) ≡ said_in xs
said_first true s xs = refl
said_first false s xs = refl

-- a round that was told leads where it leaves the run
pub told_after : {T : Type 0} (telling : Telling T) (openings : ℕ) (settings : StationSettings) (fates : code.Fates) (stop : Option Stop) (s : Stage) (old : PlayedHost) (played : Played) (session : Session) (line : Sim) (disk now : Stopping MemDisk) (run : Run) (before : ℕ) (a b c : T)
    → (o : IsPlayedOut settings (fates_of fates) (records_left_in fates.mids.items) stop openings (opened s.is_open s) old played (round_host session line disk)) → fates_of line.fates ≡ no_fates
    → RoundIsTold settings openings o.round o.next.archive before run now → run.rounds ≡ s.rounds + 1 → before ≡ (opened s.is_open s).written
    → telling.tells a (opening_if_closed s.is_open s) b → telling.tells b (Item.Ran o.round ∷ []) c
    → After telling false settings (round_step fates stop) s (λ is u. HoldsAt openings settings u run now × LineAt u line × HasSaid is old.link line) a c
told_after telling openings settings fates stop s old played session line disk now run before a b c o none told rounds written one two =
    let t = is_stop o.round.end in
    let n = o.is_round.next in
    let arc : o.next.archive ≡ left_by_round settings stop (opened s.is_open s) o.is_round.made = ap (λ u. u.archive) n ∙ archive_of t (opened s.is_open s) (left_by_round settings stop (opened s.is_open s) o.is_round.made) _ in
    let open_is : o.next.is_open ≡ not t = ap (λ u. u.is_open) n ∙ after_open t (opened s.is_open s) (left_by_round settings stop (opened s.is_open s) o.is_round.made) _ in
    let rounds_are : o.next.rounds ≡ (opened s.is_open s).rounds + 1 = ap (λ u. u.rounds) n ∙ after_rounds t (opened s.is_open s) (left_by_round settings stop (opened s.is_open s) o.is_round.made) _ in
    let written_is : o.next.written ≡ (if t then (opened s.is_open s).written else length (left_by_round settings stop (opened s.is_open s) o.is_round.made).rows) = ap (λ u. u.written) n ∙ after_written t (opened s.is_open s) (left_by_round settings stop (opened s.is_open s) o.is_round.made) _ in (
      opening_if_closed s.is_open s ++ Item.Ran o.round ∷ [],
      o.next,
      (o.round, o.is_round, refl),
      (
        record {
          rests = told.rests;
          session = subst (λ (z : Bool). HasSession z settings o.next.archive.rows run.session now) (sym open_is) told.session;
          rounds = rounds ∙ ap (λ (k : ℕ). k + 1) (sym (opened_rounds s.is_open s)) ∙ sym rounds_are;
          written = told.written ∙ ap (λ (k : ℕ). if t then k else length o.next.archive.rows) written ∙ ap (λ (z : Archive). if t then (opened s.is_open s).written else length z.rows) arc ∙ sym written_is;
        },
        record { stands = o.line; fates = none },
        o.said ∙ ap (λ l. old.link.talk.items ++ l) (sym (append-nil (all_said (made_attempts o.round.tried)))) ∙ ap (λ l. old.link.talk.items ++ l) (sym (said_first s.is_open s (Item.Ran o.round ∷ []))),
      ),
      telling.tells_joins a b c (opening_if_closed s.is_open s) (Item.Ran o.round ∷ []) one two,
    )

pub told_cut : {T : Type 0} (telling : Telling T) (settings : StationSettings) (openings : ℕ) (fates : code.Fates) (stop : Option Stop) (s : Stage) (old : PlayedHost) (played : Played) (new : PlayedHost) (a b c : T)
    → (o : IsPlayedOut settings (fates_of fates) (records_left_in fates.mids.items) stop openings (opened s.is_open s) old played new)
    → telling.tells a (opening_if_closed s.is_open s) b → telling.breaks_off b (Item.Ran o.round ∷ []) c → StepIsCut telling settings (round_step fates stop) s a c
told_cut telling settings openings fates stop s old played new a b c o one two =
    inl (opening_if_closed s.is_open s ++ Item.Ran o.round ∷ [], o.next, (o.round, o.is_round, refl), telling.breaks_later a b c (opening_if_closed s.is_open s) (Item.Ran o.round ∷ []) one two)

pub unseen_after : {T : Type 0} (telling : Telling T) (settings : StationSettings) (fates : code.Fates) (stop : Option Stop) (s : Stage) (P : List Item → Stage → Type 0) (number : ℕ) (which : Unseen) (a b c : T)
    → IsUnseenRound settings (fates_of fates) stop (opened s.is_open s) (Item.Unsaid ((opened s.is_open s).rounds + 1) which) → number ≡ s.rounds + 1
    → telling.tells a (opening_if_closed s.is_open s) b → telling.tells b (Item.Unsaid number which ∷ []) c → After telling true settings (round_step fates stop) s P a c
unseen_after telling settings fates stop s P number which a b c broken is one two =
    let same : number ≡ (opened s.is_open s).rounds + 1 = is ∙ ap (λ (k : ℕ). k + 1) (sym (opened_rounds s.is_open s)) in
    let i = Item.Unsaid ((opened s.is_open s).rounds + 1) which in (
      opening_if_closed s.is_open s ++ i ∷ [],
      record { fates = fates_of fates; left = records_left_in fates.mids.items; stop = stop; is_round = refl; unsaid = i; broken = broken; items_are = refl },
      telling.tells_joins a b c (opening_if_closed s.is_open s) (i ∷ []) one (subst (λ (k : ℕ). telling.tells b (Item.Unsaid k which ∷ []) c) same two),
    )

pub unseen_cut : {T : Type 0} (telling : Telling T) (settings : StationSettings) (fates : code.Fates) (stop : Option Stop) (s : Stage) (number : ℕ) (which : Unseen) (a b c : T)
    → IsUnseenRound settings (fates_of fates) stop (opened s.is_open s) (Item.Unsaid ((opened s.is_open s).rounds + 1) which) → number ≡ s.rounds + 1
    → telling.tells a (opening_if_closed s.is_open s) b → telling.breaks_off b (Item.Unsaid number which ∷ []) c → StepIsCut telling settings (round_step fates stop) s a c
unseen_cut telling settings fates stop s number which a b c broken is one two =
    let same : number ≡ (opened s.is_open s).rounds + 1 = is ∙ ap (λ (k : ℕ). k + 1) (sym (opened_rounds s.is_open s)) in
    let i = Item.Unsaid ((opened s.is_open s).rounds + 1) which in
    inr (inl (
      opening_if_closed s.is_open s ++ i ∷ [],
      record { fates = fates_of fates; left = records_left_in fates.mids.items; stop = stop; is_round = refl; unsaid = i; broken = broken; items_are = refl },
      telling.breaks_later a b c (opening_if_closed s.is_open s) (i ∷ []) one (subst (λ (k : ℕ). telling.breaks_off b (Item.Unsaid k which ∷ []) c) same two),
    ))

pub front_whole : {T : Type 0} (telling : Telling T) (a b : T) (is : List Item) → telling.tells a is b → telling.breaks_off a is b
front_whole telling a b is told = subst (λ (z : List Item). telling.breaks_off a z b) (append-nil is) (telling.breaks_later a b b is [] told (telling.breaks_none b []))

pub written_of : (settings : StationSettings) (f : FatesByNumber) (left : ℕ → List (List ℕ)) (stop : Option Stop) (openings : ℕ) (s : Stage) (old : PlayedHost) (played : Played) (new : PlayedHost)
    → (o : IsPlayedOut settings f left stop openings s old played new) → o.round.written ≡ s.written
written_of settings f left stop openings s old played new o = ap (λ r. r.written) o.is_round.is

-- what was played, by whether a delivery was unseen
pub played_seen : (u : Option Unseen) (settings : StationSettings) (f : FatesByNumber) (left : ℕ → List (List ℕ)) (stop : Option Stop) (openings : ℕ) (s : Stage) (old : PlayedHost) (played : Played) (new : PlayedHost)
    → u ≡ None → PlaysBy u settings f left stop openings s old played new → IsPlayedOut settings f left stop openings s old played new
played_seen u settings f left stop openings s old played new is p = subst (λ (o : Option Unseen). PlaysBy o settings f left stop openings s old played new) is p

pub played_unseen : (u : Option Unseen) (which : Unseen) (settings : StationSettings) (f : FatesByNumber) (left : ℕ → List (List ℕ)) (stop : Option Stop) (openings : ℕ) (s : Stage) (old : PlayedHost) (played : Played) (new : PlayedHost)
    → u ≡ Some which → PlaysBy u settings f left stop openings s old played new → IsUnseenRound settings f stop s (Item.Unsaid (s.rounds + 1) which)
played_unseen u which settings f left stop openings s old played new is p = subst (λ (o : Option Unseen). PlaysBy o settings f left stop openings s old played new) is p
