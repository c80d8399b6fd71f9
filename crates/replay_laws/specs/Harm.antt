-- What a round over a calm line comes to, by the deliveries that were harmed in its attempts.
use Rattle.std.specs.Prelude.{◌≡◌, ◌≢◌, ℕ, ◌-◌, ◌<◌, ◌⊎◌, List, [], ◌∷◌, length}
use Rattle.causes.specs.Cause.{Rose}
use Rattle.disk_model.specs.Medium.{Medium}
use Rattle.dmpaft_pump.specs.declared.outcome.DumpEnd.{DumpEnd}
use Rattle.dmpaft_pump.specs.declared.outcome.DumpEnd.TheVariants as dump_end
use Rattle.station_session.specs.declared.round_end.RoundEnd.{RoundEnd}
use Rattle.station_session.specs.declared.round_end.RoundEnd.TheVariants as round_end
use Rattle.station_session.specs.Attempts.{MadeAttempt, most_attempts}
use Rattle.station_session.specs.Round.{RoundHost}
use Rattle.station_sim.specs.declared.sim.Sim.{Sim}
use Rattle.station_sim.specs.Calm.{IsCalm}
use Rattle.schedule_file.specs.Fates.{FatesByNumber}
use Rattle.station_sim.specs.Line.{Line}
use Rattle.station_sim.specs.Talk.{ConsoleTalk}
use Rattle.station_sim.specs.Telling.{sim_traffic}

-- the disk of a round failed
abbrev pub DiskFailed : {D : Type 0} → Medium D → RoundHost Sim D → RoundHost Sim D → Type 0
DiskFailed medium old new = Rose (medium.faults old.disk) (medium.faults new.disk)

-- its link was short of memory
abbrev pub LinkShort : {D : Type 0} → RoundHost Sim D → RoundHost Sim D → Type 0
LinkShort old new = Rose (sim_traffic.shortages old.link) (sim_traffic.shortages new.link)

-- an attempt ends so without a harmed delivery: whole, or by a full archive, a failed disk or a short link
abbrev pub EndsUnharmed : Type 0 → Type 0 → DumpEnd → Type 0
EndsUnharmed failed short dump_end.Whole = Unit {0}
EndsUnharmed failed short (dump_end.Failed trouble) = ⊥
EndsUnharmed failed short dump_end.Full = Unit {0}
EndsUnharmed failed short dump_end.Stale = ⊥
EndsUnharmed failed short dump_end.DiskFault = failed
EndsUnharmed failed short dump_end.Flood = ⊥
EndsUnharmed failed short dump_end.LinkFault = ⊥
EndsUnharmed failed short dump_end.OutOfMemory = short

-- and so does a round with such an attempt
abbrev pub IsSpared : Type 0 → Type 0 → RoundEnd → Type 0
IsSpared failed short round_end.Done = Unit {0}
IsSpared failed short round_end.GaveUp = ⊥
IsSpared failed short round_end.LinkFault = ⊥
IsSpared failed short round_end.DiskFault = failed
IsSpared failed short round_end.Flood = ⊥
IsSpared failed short round_end.ArchiveFull = Unit {0}
IsSpared failed short round_end.Stale = ⊥
IsSpared failed short round_end.OutOfMemory = short

-- the attempts lead from line to line, each with this of how it ended and how many deliveries were harmed in it
abbrev pub EachOver : (DumpEnd → ℕ → Type 0) → FatesByNumber → Line → List MadeAttempt → Line → Type 0
EachOver P f w [] v = v ≡ w
EachOver P f w (t ∷ ts) v =
    (u : Line) × ConsoleTalk f t.said w u × P t.end (u.harmed - w.harmed) × EachOver P f u ts v

-- some delivery was harmed in each of them
abbrev pub EachHarmed : FatesByNumber → Line → List MadeAttempt → Line → Type 0
EachHarmed f w ts v = EachOver (λ end harmed. 0 < harmed) f w ts v

-- A round's attempts over a line, which is calm again unless the link was short: each ends well, or for what is
-- outside of the line, or has a harmed delivery, as each of the three has of a round that gives up.
pub record HarmTells (failed short : Type 0) (f : FatesByNumber) (w : Line) (ts : List MadeAttempt) (end : RoundEnd)
    (v : Line) : Type 0 where
  pub each : EachOver (λ e harmed. (0 < harmed) ⊎ EndsUnharmed failed short e) f w ts v
  pub gave_up : end ≡ round_end.GaveUp → (length ts ≡ most_attempts) × EachHarmed f w ts v
  pub spared : IsSpared failed short end ⊎ EachHarmed f w ts v
  pub calm : end ≢ round_end.OutOfMemory → IsCalm v
