-- What the steps before the first round make of the console of a run.
use Rattle.std.proofs.Common.{◌≡◌, ℕ, zero, suc, Bool, true, false, List, [], ◌∷◌, ◌++◌, Option, Some, None, refl, sym, ap, ◌∙◌}
use Rattle.console_model.specs.Console.{Console}
use Rattle.console_model.specs.Tick.{tick}
use Rattle.console_server.specs.Ready.{ticked}
use Rattle.settings_file.specs.StationSettings.{StationSettings}
use Rattle.schedule_file.specs.Fates.{FatesByNumber}
use Rattle.station_sim.specs.Line.{Line, due_all, happens}
use Rattle.station_sim.specs.Talk.{idles}
use Rattle.station_sim.proofs.SoundLines.{console_joins}
use Rattle.replay_laws.specs.Replay.{Item, Opens, Runs, Stage, stops_opening}
use Rattle.schedule_file.specs.declared.schedule.step.Stop.{Stop}
use Rattle.replay_laws.specs.Schedule.{ReplayStep}
use Rattle.schedule_file.specs.Lists.{no_fates}
use Rattle.model_commands.specs.ConsoleRun.{HaveNoRound, before_rounds}

-- ticks outside of a round are ticks of the console
idles_ticks : (n : ℕ) (w : Line) → (idles no_fates n w).console ≡ ticked n w.console
idles_ticks zero w = refl
idles_ticks (suc n) w =
    let o = tick w.console in
    idles_ticks n (happens no_fates o w) ∙ ap (λ (k : Console). ticked n k) (console_joins o.kind no_fates o w)

-- an opening leaves the line as it was
opens_line : (reached : Bool) (k : Stop) (s u : Stage) (is : List Item) → Opens reached k s is u → u.line ≡ s.line
opens_line true k s u is opens = ap (λ (x : Stage). x.line) opens.1
opens_line false k s u is opens = ap (λ (x : Stage). x.line) opens.1

-- the console of a run after steps of which none is a round
pub run_before : (settings : StationSettings) (xs : List ReplayStep) (s u : Stage) (is : List Item) → HaveNoRound xs → Runs settings xs s is u → before_rounds xs s.line.console ≡ u.line.console
run_before settings [] s u is none runs = ap (λ (x : Stage). x.line.console) (sym runs.1)
run_before settings (ReplayStep.Due rs ∷ xs) s u is none (mid, now, rest, join, does, more) =
    ap (λ (x : Stage). before_rounds xs x.line.console) (sym does.1) ∙ run_before settings xs mid u rest none more
run_before settings (ReplayStep.Idle n ∷ xs) s u is none (mid, now, rest, join, does, more) =
    ap (λ (k : Console). before_rounds xs k) (sym (idles_ticks n s.line))
    ∙ ap (λ (x : Stage). before_rounds xs x.line.console) (sym does.1) ∙ run_before settings xs mid u rest none more
run_before settings (ReplayStep.Open None ∷ xs) s u is none (mid, now, rest, join, does, more) =
    ap (λ (x : Stage). before_rounds xs x.line.console) (sym does.1) ∙ run_before settings xs mid u rest none more
run_before settings (ReplayStep.Open (Some k) ∷ xs) s u is none (mid, now, rest, join, does, more) =
    ap (λ (w : Line). before_rounds xs w.console) (sym (opens_line (stops_opening k.change s.archive.size) k s mid now does))
    ∙ run_before settings xs mid u rest none more
run_before settings (ReplayStep.Round f left stop ∷ xs) s u is none runs = absurd none

-- what stands from the first round on changes nothing
pub before_first : (xs ys : List ReplayStep) (f : FatesByNumber) (left : ℕ → List (List ℕ)) (stop : Option Stop) (k : Console) → HaveNoRound xs
    → before_rounds (xs ++ ReplayStep.Round f left stop ∷ ys) k ≡ before_rounds xs k
before_first [] ys f left stop k none = refl
before_first (ReplayStep.Due rs ∷ xs) ys f left stop k none = before_first xs ys f left stop (due_all rs k) none
before_first (ReplayStep.Idle n ∷ xs) ys f left stop k none = before_first xs ys f left stop (ticked n k) none
before_first (ReplayStep.Open at ∷ xs) ys f left stop k none = before_first xs ys f left stop k none
before_first (ReplayStep.Round g after halt ∷ xs) ys f left stop k none = absurd none
