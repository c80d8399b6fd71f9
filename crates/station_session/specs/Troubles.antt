-- What the attempts of a round met that failed.
use Rattle.std.specs.Prelude.{List, [], ◌∷◌, ◌++◌}
use Rattle.dmpaft_pump.specs.declared.outcome.DumpEnd.{DumpEnd}
use Rattle.dmpaft_pump.specs.declared.outcome.DumpEnd.TheVariants as dump_end
use Rattle.dmpaft_pump.specs.declared.outcome.Trouble.{Trouble}
use Rattle.station_session.specs.Attempts.{MadeAttempt}

-- the trouble of an attempt that ended so, if it failed
abbrev pub trouble_of : DumpEnd → List Trouble
trouble_of (dump_end.Failed trouble) = trouble ∷ []
trouble_of other = []

-- the troubles of those attempts that failed, in order
abbrev pub troubles_of : List MadeAttempt → List Trouble
troubles_of [] = []
troubles_of (t ∷ ts) = trouble_of t.end ++ troubles_of ts
