-- What a run does that makes a schedule from a number: the counts of its run, and the four lines that tell them.
use Rattle.std.specs.Prelude.{ℕ, ◌≡◌, List, ◌++◌, Ok, Err, codes, decimal}
use Rattle.std.specs.declared.result.Result.{Result}
use Rattle.made_run.specs.CountsRun.{CountsRun}
use Rattle.run_output.specs.Ended.{Lines}
use Rattle.run_output.specs.Output.{Output, no_memory}
use Rattle.run_output.specs.Steps.{CommandStep}
use Rattle.schedule_replay.specs.declared.counts.Counts.{Counts}

-- `made`, how many records, and how many rounds
abbrev pub made_line : ℕ → Counts → List ℕ
made_line records counts =
    codes "made " ++ decimal records ++ codes " records " ++ decimal counts.rounds ++ codes " rounds\n"

-- how many rounds ended in each of the four ways
abbrev pub endings_line : Counts → List ℕ
endings_line counts =
    codes "ok " ++ decimal counts.ok ++ codes " gaveup " ++ decimal counts.gave_up
    ++ codes " full " ++ decimal counts.full ++ codes " stop " ++ decimal counts.stopped ++ codes "\n"

-- `harmed`, and how many deliveries were
abbrev pub harmed_line : Counts → List ℕ
harmed_line counts = codes "harmed " ++ decimal counts.harmed ++ codes "\n"

-- the rows at the end, and the days that have one
abbrev pub rows_line : Counts → List ℕ
rows_line counts = codes "rows " ++ decimal counts.rows ++ codes " days " ++ decimal counts.days ++ codes "\n"

-- the four lines
abbrev pub counts_lines : ℕ → Counts → List ℕ
counts_lines records counts = made_line records counts ++ endings_line counts ++ harmed_line counts ++ rows_line counts

-- what is given of the schedule that is made from the seed: the counts of a whole run of it, by the rules, of which all
-- is kept and no delivery was unseen; or there was no memory for it
abbrev pub MakesRun : ℕ → ℕ → Result Lines Output → Type 0
MakesRun seed records (Ok text) =
    (counts : Counts) × CountsRun seed records counts × (text.items ≡ counts_lines records counts)
MakesRun seed records (Err output) = output ≡ no_memory

-- the schedule is made and run, and nothing outside is touched
abbrev pub makes_run : {W : Type 0} → ℕ → ℕ → CommandStep W Lines
makes_run seed records old result new = MakesRun seed records result × (new ≡ old)
