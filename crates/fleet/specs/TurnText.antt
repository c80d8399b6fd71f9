-- What the turns of stations write.
use Rattle.std.specs.Prelude.{ℕ, ◌≡◌, ◌≢◌, ◌+◌, List, [], ◌∷◌, ◌++◌}
use Rattle.causes.specs.Lists.{IsFrontOf}
use Rattle.station_io.specs.Sink.{Outlet}
use Rattle.fleet.specs.declared.member.MemberTurn.{MemberTurn}
use Rattle.fleet.specs.declared.member.MemberTurn.TheVariants.{WriteFault}
use Rattle.fleet.specs.declared.pen.Pen.TheVariants.{AtStart}
use Rattle.fleet.specs.Lines.{lead, pen_after, with_station_number}
use Rattle.fleet.specs.MemberTurns.{Both, WritesWhole}

-- a turn: of this station, with this answer, and the sink before and after it
pub record TurnEntry (K : Type 0) : Type 0 where
  pub station : ℕ
  pub answer : MemberTurn
  pub before : K
  pub after : K

-- The member wrote these bytes in the turn, and the sink took them with the number of the station before each line.
-- Where a write failed behind whole lines, a part of the next number may stand behind them.
pub record WritesTurn {K : Type 0} (outlet : Outlet K) (e : TurnEntry K) (bytes : List ℕ) : Type 0 where
  pub lines : WritesWhole e.answer bytes
  pub part : List ℕ
  pub small : IsFrontOf part (lead (48 + e.station) (pen_after AtStart bytes))
  pub none : e.answer ≢ WriteFault → part ≡ []
  pub wrote : outlet.wrote e.before (with_station_number e.station bytes ++ part) e.after

-- the sink took this text in the turn
abbrev pub IsTextOf : {K : Type 0} → Outlet K → TurnEntry K → List ℕ → Type 0
IsTextOf outlet e text =
    (bytes : List ℕ) × (writes : WritesTurn outlet e bytes)
    × (text ≡ with_station_number e.station bytes ++ writes.part)

-- the sink took this text in the turns, one after another
abbrev pub AreTextsOf : {K : Type 0} → Outlet K → List (TurnEntry K) → List ℕ → Type 0
AreTextsOf outlet [] text = text ≡ []
AreTextsOf outlet (e ∷ log) text = Both (IsTextOf outlet e) (AreTextsOf outlet log) text
