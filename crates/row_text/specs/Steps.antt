-- Readings one after another, each of which may end with a fault.
use Rattle.std.specs.Prelude.{Ok, Err, Some, None}
use Rattle.std.specs.declared.option.Option.{Option}
use Rattle.std.specs.declared.result.Result.{Result}
use Rattle.row_text.specs.declared.fault.RowFault.{RowFault}

infixl 10 ◌>>=◌
-- what is made of the value, or the fault
abbrev pub ◌>>=◌ : {A B : Type 0} → Result A RowFault → (A → Result B RowFault) → Result B RowFault
Ok value >>= f = f value
Err fault >>= f = Err fault

-- the value, or this fault if there is none
abbrev pub or_fault : {A : Type 0} → RowFault → Option A → Result A RowFault
or_fault fault None = Err fault
or_fault fault (Some value) = Ok value
