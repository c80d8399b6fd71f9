-- Each schedule has a run.
use Rattle.std.proofs.Common.{◌≡◌, ◌≢◌, ℕ, ◌+◌, ◌⊎◌, inl, inr, Bool, true, false, List, [], ◌∷◌, ◌++◌, length}
use Rattle.std.proofs.Common.{Option, Some, None, refl, sym, ◌∙◌, ap, subst, arith, append_assoc, append-nil}
use Rattle.loop_packet.specs.declared.packet.LoopPacket.{LoopPacket}
use Rattle.settings_file.specs.StationSettings.{StationSettings}
use Rattle.packed_rows.specs.Rising.{last_row_stamp}
use Rattle.station_session.specs.declared.round_end.RoundEnd.{RoundEnd}
use Rattle.station_session.specs.declared.round_end.RoundEnd.TheVariants as round_end
use Rattle.station_session.specs.Attempts.{all_batches}
use Rattle.station_session.specs.Batches.{kept_count, kept_records}
use Rattle.station_session.specs.Records.{stored_rows}
use Rattle.station_sim.specs.declared.unseen.Unseen.{Unseen}
use Rattle.schedule_file.specs.Fates.{FatesByNumber}
use Rattle.station_sim.specs.Line.{waited}
use Rattle.station_sim.specs.Talk.{idles, started}
use Rattle.schedule_file.specs.declared.schedule.step.Stop.{Stop}
use Rattle.replay_laws.specs.Schedule.{ReplayStep, IsSchedule}
use Rattle.schedule_file.specs.Lists.{no_fates}
use Rattle.replay_laws.specs.Round.{finished}
use Rattle.replay_laws.specs.Replay.{Rounded, Item, Stage, on_line, opening, opened, recovered, opening_if_closed}
use Rattle.replay_laws.specs.Replay.{stops_opening, cut_short, Opens, is_stop, after_round, left_by_round, IsRound, Does, Runs}
use Rattle.replay_laws.specs.Replay.{IsUnseenRound, closing_items, start, IsUnseen, IsReplay}
use Rattle.replay_laws.specs.Session.{NotPast, ComesAt, IsKnown, RoundStopsAt}
use Rattle.replay_laws.proofs.Bridge.{session_law}
use Rattle.replay_laws.proofs.Roomy.{round_in_run}
use Rattle.some_run_laws.proofs.SomeRound.{IsFollowed, Rounds, round_ends}

-- no other end is followed
not_followed : (end : RoundEnd) → IsFollowed end
    → (end ≢ round_end.LinkFault) × (end ≢ round_end.OutOfMemory) × (end ≢ round_end.Stale)
not_followed end followed = (
  λ e. elim (subst IsFollowed e followed) [ inl x ↦ absurd x | inr x ↦ cc ],
  λ e. elim (subst IsFollowed e followed) [ inl x ↦ absurd x | inr x ↦ cc ],
  λ e. elim (subst IsFollowed e followed) [ inl x ↦ absurd x | inr x ↦ cc ],
)

module _ (settings : StationSettings) where
  -- a step more
  runs_then : (xs : List ReplayStep) (x : ReplayStep) (s u v : Stage) (is now : List Item) → Runs settings xs s is u
      → Does settings x u now v → Runs settings (xs ++ x ∷ []) s (is ++ now) v
  runs_then [] x s u v is now (none, same) does =
      let split = ap (λ z. z ++ now) none ∙ sym (append-nil now) in
      (v, now, [], split, subst (λ z. Does settings x z now v) same does, (refl, refl))
  runs_then (y ∷ xs) x s u v is now (mid, before, rest, split, does_first, again) does = (
    mid,
    before,
    rest ++ now,
    ap (λ z. z ++ now) split ∙ append_assoc before rest now,
    does_first,
    runs_then xs x mid u v rest now again does,
  )

  module _ (f : FatesByNumber) (left : ℕ → List (List ℕ)) (stop : Option Stop) where
    -- a round from an open stage
    abbrev RoundFrom : Stage → Type 0
    RoundFrom s = Rounds settings.most stop f 0 (last_row_stamp s.archive.rows) (length s.archive.rows) 0 (started s.line)

    -- no stop comes within the batches that it kept
    counted : (s : Stage) (r : RoundFrom s)
        → NotPast stop (kept_count (all_batches (last_row_stamp s.archive.rows) r.tried))
    counted s r =
        let n = kept_count (all_batches (last_row_stamp s.archive.rows) r.tried) in
        let same : 0 + n ≡ n = omega arith in subst (NotPast stop) same r.not_past

    -- a fault of the disk is the stop
    stopped : (s : Stage) (r : RoundFrom s) → RoundStopsAt stop r.end (kept_count (all_batches (last_row_stamp s.archive.rows) r.tried))
    stopped s r =
        let n = kept_count (all_batches (last_row_stamp s.archive.rows) r.tried) in
        let same : 0 + n ≡ n = omega arith in
        record { before = counted s r; at = λ e. subst (ComesAt stop) same (r.at e) }

    -- with no delivery unseen it gives an item, where its end is known
    seen_round : (s : Stage) (r : RoundFrom s) → IsKnown r.end → r.line.unseen ≡ None
        → (x : Rounded) × (u : Stage) × IsRound settings f left stop s x u
    seen_round s r known seen =
        let y = session_law settings f stop s.archive (started s.line) r.line r.tried r.end r.attempts r.fits r.talks known
        (stopped s r) in
        let behind = left_by_round settings stop s r.tried in (
          record {
            number = s.rounds + 1;
            tried = y.tried;
            end = y.ending;
            before = s.archive.rows;
            kept = s.archive.rows
                ++ stored_rows settings (kept_records (all_batches (last_row_stamp s.archive.rows) r.tried));
            rows = behind.rows;
            harmed = r.line.harmed;
            written = s.written;
          },
          after_round (is_stop y.ending) s behind (finished left r.line),
          record {
            made = r.tried;
            end = r.end;
            line = r.line;
            attempts = r.attempts;
            fits = r.fits;
            stops = stopped s r;
            ends = y.ends;
            made_are = y.made;
            told = y.told;
            seen = seen;
            is = refl;
            next = refl;
          },
        )

    -- with one unseen the run ends there
    unseen_round : (s : Stage) (r : RoundFrom s) (which : Unseen) → r.line.unseen ≡ Some which
        → IsUnseenRound settings f stop s (Item.Unsaid (s.rounds + 1) which)
    unseen_round s r which unseen = record {
      tried = r.tried;
      end = r.end;
      line = r.line;
      attempts = r.attempts;
      talks = r.talks;
      fits = r.fits;
      not_past = counted s r;
      ends = r.followed;
      which = which;
      unseen = unseen;
      is = refl;
    }

  module _ (eeprom : List ℕ) (packet : LoopPacket) (steps : List ReplayStep) (ok : IsSchedule steps) where
    -- these steps give these items, and lead from the start to this stage
    abbrev RunsTo : List ReplayStep → List Item → Stage → Type 0
    RunsTo xs is u = Runs settings xs (start eeprom packet) is u

    -- the next step is done, or the run ends at it
    abbrev Goes : ReplayStep → Stage → Type 0
    Goes x u = ((now : List Item) × (v : Stage) × Does settings x u now v)
        ⊎ ((o : List Item) × IsUnseen settings (start eeprom packet) steps o)

    -- an opening with a stop, by whether it is reached
    opens_next : (k : Stop) (u : Stage) (reached : Bool)
        → (now : List Item) × (v : Stage) × Opens reached k u now v
    opens_next k u true = (Item.OpenStopped k.change u.archive.rows ∷ [], cut_short k u, (refl, refl))
    opens_next k u false = (opening u ∷ [], recovered u, (refl, refl))

    module _ (xs ys : List ReplayStep) (f : FatesByNumber) (left : ℕ → List (List ℕ)) (stop : Option Stop) (is : List Item)
        (u : Stage) (split : steps ≡ xs ++ ReplayStep.Round f left stop ∷ ys) (runs : RunsTo xs is u) where
      -- a session is open or is opened: a round with no delivery unseen does not flood
      no_flood : (is_open : Bool) (r : RoundFrom f left stop (opened is_open u)) → r.line.unseen ≡ None
          → r.end ≢ round_end.Flood
      no_flood true r seen =
          let n = not_followed r.end r.followed in
          let schedule = subst IsSchedule split ok in
          (round_in_run settings eeprom packet xs ys f left stop schedule is u runs r.line r.tried r.end r.attempts
          r.fits r.talks n.0 n.1 n.2 seen).0
      no_flood false r seen =
          let n = not_followed r.end r.followed in
          let schedule = subst IsSchedule split ok in
          (round_in_run settings eeprom packet xs ys f left stop schedule is u runs r.line r.tried r.end r.attempts
          r.fits r.talks n.0 n.1 n.2 seen).0

      -- a round is done, or the run ends at it
      round_goes : Goes (ReplayStep.Round f left stop) u
      round_goes = by_unseen r.line.unseen refl
        where
          r : RoundFrom f left stop (opened u.is_open u)
          r = round_ends settings.most stop f (last_row_stamp (opened u.is_open u).archive.rows)
              (length (opened u.is_open u).archive.rows) (started (opened u.is_open u).line)

          known : IsFollowed r.end → r.line.unseen ≡ None → IsKnown r.end
          known (inl k) seen = k
          known (inr flood) seen = absurd (no_flood u.is_open r seen flood)

          by_unseen : (which : Option Unseen) → r.line.unseen ≡ which → Goes (ReplayStep.Round f left stop) u
          by_unseen None seen =
              let y = seen_round f left stop (opened u.is_open u) r (known r.followed seen) seen in
              inl (opening_if_closed u.is_open u ++ Item.Ran y.0 ∷ [], y.1, (y.0, y.2, refl))
          by_unseen (Some which) unseen =
              let i = Item.Unsaid ((opened u.is_open u).rounds + 1) which in
              inr (
                is ++ (opening_if_closed u.is_open u ++ i ∷ []),
                record {
                  before = xs;
                  behind = ys;
                  fates = f;
                  left = left;
                  stop = stop;
                  steps_are = split;
                  given = is;
                  last = u;
                  runs = runs;
                  unsaid = i;
                  broken = unseen_round f left stop (opened u.is_open u) r which unseen;
                  items_are = refl;
                },
              )

    -- whatever the next step is
    goes : (x : ReplayStep) (xs ys : List ReplayStep) (is : List Item) (u : Stage) → steps ≡ xs ++ x ∷ ys → RunsTo xs is u
        → Goes x u
    goes (ReplayStep.Due rs) xs ys is u split runs = inl ([], on_line u (waited rs u.line), (refl, refl))
    goes (ReplayStep.Idle n) xs ys is u split runs = inl ([], on_line u (idles no_fates n u.line), (refl, refl))
    goes (ReplayStep.Open None) xs ys is u split runs = inl (opening u ∷ [], recovered u, (refl, refl))
    goes (ReplayStep.Open (Some k)) xs ys is u split runs = inl (opens_next k u (stops_opening k.change u.archive.size))
    goes (ReplayStep.Round f left stop) xs ys is u split runs = round_goes xs ys f left stop is u split runs

    -- a run of the first steps goes on to the end, or to the first delivery that is unseen
    goes_from : (ys xs : List ReplayStep) (is : List Item) (u : Stage) → steps ≡ xs ++ ys → RunsTo xs is u
        → (o : List Item) × IsReplay settings (start eeprom packet) steps o
    goes_from [] xs is u split runs =
        let same : xs ≡ steps = sym (split ∙ append-nil xs) in
        (is ++ closing_items u, inl (record { given = is; last = u; runs = subst (λ z. RunsTo z is u) same runs; items_are = refl }))
    goes_from (x ∷ ys) xs is u split runs = elim (goes x xs ys is u split runs) [
      | inl y ↦ goes_from ys (xs ++ x ∷ []) (is ++ y.0) y.1 (split ∙ sym (append_assoc xs (x ∷ []) ys))
          (runs_then xs x (start eeprom packet) u y.1 is y.0 runs y.2)
      | inr y ↦ (y.0, inr y.1)
    ]

-- each schedule has a run
pub run_law : (settings : StationSettings) (eeprom : List ℕ) (packet : LoopPacket) (steps : List ReplayStep)
    → IsSchedule steps → (o : List Item) × IsReplay settings (start eeprom packet) steps o
run_law settings eeprom packet steps ok =
    goes_from settings eeprom packet steps ok steps [] [] (start eeprom packet) refl (refl, refl)
