-- How a made run ended.
use Rattle.schedule_replay.specs.declared.counts.Counts.{Counts}
use Rattle.made_run.specs.declared.making.MakeEnd.{MakeEnd}
use Rattle.made_run.specs.declared.making.MakeEnd.TheVariants.{Done, OutOfMemory}

-- a fact of the counts, if it came to its end
abbrev pub IfDone : MakeEnd → (Counts → Type 0) → Type 0
IfDone (Done counts) P = P counts
IfDone OutOfMemory P = Unit {0}
