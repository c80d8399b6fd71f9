-- No delivery of a made run is unseen.
use Rattle.std.proofs.Common.{◌≡◌, ℕ, zero, suc, ◌+◌, ◌==◌, Bool, true, false, if◌then◌else◌, List, [], ◌∷◌, ◌++◌, Option, Some, sym, subst}
use Rattle.std.specs.BTreeMap.{is_at}
use Rattle.std.specs.Map.{lookup}
use Rattle.std.specs.Ordering.{nat_cmp}
use Rattle.settings_file.specs.StationSettings.{StationSettings}
use Rattle.schedule_file.specs.declared.fate.Fate.{Fate}
use Rattle.schedule_file.specs.declared.schedule.step.Step as code_step
use Rattle.schedule_file.specs.declared.schedule.step.Step.TheVariants as code
use Rattle.schedule_file.specs.Fates.{FatesByNumber}
use Rattle.schedule_file.specs.Lists.{entry_of}
use Rattle.schedule_file.specs.Steps.{Details, ScheduleStep, DueStep, RunStep, IdleStep, OpenStep, RoundStep, no_details, steps_seen}
use Rattle.replay_laws.specs.Replay.{IsUnseen, Item, Stage}
use Rattle.schedule_file.specs.declared.schedule.step.Stop.{Stop}
use Rattle.replay_laws.specs.Schedule.{ReplayStep}
use Rattle.schedule_steps.specs.Steps.{steps_for}
use Rattle.draws.specs.Draws.{next_draw}
use Rattle.made_run.specs.Made.{after_rounds, host_lost, is_round, kind_drawn, made_steps, reply_cut, reply_late, rounds_behind, steps_from}
use Rattle.made_run.proofs.Seen.{IsPlain, IsWholeOrCut, IsWholeOrLost, none_broken}

-- every entry is of a message that does not come
AllLost : List (ℕ × Fate) → Type 0
AllLost [] = Unit {0}
AllLost (x ∷ xs) = IsWholeOrLost (Some x.1) × AllLost xs

-- every entry is of a reply that is cut
AllCut : List (ℕ × Fate) → Type 0
AllCut [] = Unit {0}
AllCut (x ∷ xs) = IsWholeOrCut (Some x.1) × AllCut xs

lost_at : (n : ℕ) (xs : List (ℕ × Fate)) → AllLost xs → IsWholeOrLost (entry_of n xs)
unfolding AllLost
lost_at n [] all = tt
lost_at n (x ∷ xs) all = go (is_at (nat_cmp n) x.0) (lost_at n xs all.1)
  where
    go : (t : Bool) → IsWholeOrLost (lookup (is_at (nat_cmp n)) xs) → IsWholeOrLost (if t then Some x.1 else lookup (is_at (nat_cmp n)) xs)
    go true rest = all.0
    go false rest = rest

cut_at : (n : ℕ) (xs : List (ℕ × Fate)) → AllCut xs → IsWholeOrCut (entry_of n xs)
unfolding AllCut
cut_at n [] all = tt
cut_at n (x ∷ xs) all = go (is_at (nat_cmp n) x.0) (cut_at n xs all.1)
  where
    go : (t : Bool) → IsWholeOrCut (lookup (is_at (nat_cmp n)) xs) → IsWholeOrCut (if t then Some x.1 else lookup (is_at (nat_cmp n)) xs)
    go true rest = all.0
    go false rest = rest

-- What belongs to a round spares what is said, or is seen.
Spares : Details → Type 0
Spares d = AllLost d.host × AllCut d.replies

AllSpare : List ScheduleStep → Type 0
AllSpare [] = Unit {0}
AllSpare (DueStep r ∷ xs) = AllSpare xs
AllSpare (RunStep r count ∷ xs) = AllSpare xs
AllSpare (IdleStep ticks ∷ xs) = AllSpare xs
AllSpare (OpenStep stop ∷ xs) = AllSpare xs
AllSpare (RoundStep d stop ∷ xs) = Spares d × AllSpare xs

AllPlain : List ReplayStep → Type 0
AllPlain [] = Unit {0}
AllPlain (ReplayStep.Due rs ∷ xs) = AllPlain xs
AllPlain (ReplayStep.Idle n ∷ xs) = AllPlain xs
AllPlain (ReplayStep.Open stop ∷ xs) = AllPlain xs
AllPlain (ReplayStep.Round f left stop ∷ xs) = IsPlain f × AllPlain xs

all_plain : (steps : List code_step.Step) → AllSpare (steps_seen 5 steps) → AllPlain (steps_for 5 steps)
unfolding AllSpare AllPlain Spares
all_plain [] all = tt
all_plain (code.Due rec ∷ steps) all = all_plain steps all
all_plain (code.Run first count ∷ steps) all = all_plain steps all
all_plain (code.Idle ticks ∷ steps) all = all_plain steps all
all_plain (code.Open stop ∷ steps) all = all_plain steps all
all_plain (code.Round fates stop ∷ steps) all =
    (record { host = λ n. lost_at n fates.host.entries all.0.0; reply = λ n. cut_at n fates.replies.entries all.0.1 }, all_plain steps all.1)

plain_in : (xs ys : List ReplayStep) (f : FatesByNumber) (left : ℕ → List (List ℕ)) (stop : Option Stop) → AllPlain (xs ++ ReplayStep.Round f left stop ∷ ys) → IsPlain f
unfolding AllPlain
plain_in [] ys f left stop all = all.0
plain_in (ReplayStep.Due rs ∷ xs) ys f left stop all = plain_in xs ys f left stop all
plain_in (ReplayStep.Idle n ∷ xs) ys f left stop all = plain_in xs ys f left stop all
plain_in (ReplayStep.Open k ∷ xs) ys f left stop all = plain_in xs ys f left stop all
plain_in (ReplayStep.Round g l k ∷ xs) ys f left stop all = plain_in xs ys f left stop all.1

spares_by : (a b c : Bool) → Spares (if a then host_lost else (if b then reply_cut else (if c then reply_late else no_details)))
unfolding Spares AllLost AllCut
spares_by true b c = ((tt, tt), tt)
spares_by false true c = (tt, (tt, tt))
spares_by false false true = (tt, tt)
spares_by false false false = (tt, tt)

behind_spares : (t : Bool) (y : ℕ) (rest : List ScheduleStep) → AllSpare rest → AllSpare (rounds_behind t y ++ rest)
unfolding AllSpare
behind_spares true y rest all = (spares_by (kind_drawn y == 4) (kind_drawn y == 5) (kind_drawn y == 6), all)
behind_spares false y rest all = all

made_spares : (left number x : ℕ) → AllSpare (steps_from left number x)
unfolding AllSpare Spares AllLost AllCut
made_spares zero number x = ((tt, tt), tt)
made_spares (suc left) number x =
    let t = is_round (number + 1) left in
    let y = next_draw (next_draw x) in
    behind_spares t y (steps_from left (number + 1) (after_rounds t y)) (made_spares left (number + 1) (after_rounds t y))

-- no delivery is unseen in a run of the steps
pub none_unseen : (seed count : ℕ) (settings : StationSettings) (from : Stage) (steps : List code_step.Step) (items : List Item) → steps_seen 5 steps ≡ made_steps seed count → IsUnseen settings from (steps_for 5 steps) items → ⊥
none_unseen seed count settings from steps items made run =
    let plain = all_plain steps (subst AllSpare (sym made) (made_spares count 0 seed)) in
    none_broken run.fates (plain_in run.before run.behind run.fates run.left run.stop (subst AllPlain run.steps_are plain)) settings run.stop _ run.unsaid run.broken
