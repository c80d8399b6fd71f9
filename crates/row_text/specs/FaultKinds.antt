-- The kinds of the faults of a line, as they are printed.
use Rattle.std.specs.Prelude.{ℕ}
use Rattle.row_text.specs.declared.fault.RowFault.{RowFault}
use Rattle.row_text.specs.declared.fault.RowFault.TheVariants.{NoRow, NoStamp, NoPeriod, NoField, NotRising, NoNumber}
use Rattle.row_text.specs.declared.fault.RowFault.TheVariants.{TooFar}
use Rattle.row_text.specs.declared.bad_line.LineFault.{LineFault}
use Rattle.row_text.specs.declared.bad_line.LineFault.TheVariants.{NoRowLine, NotAfter, NotEnded}

-- the kind of a fault of a line by itself
abbrev pub kind_of_row_fault : RowFault → ℕ
kind_of_row_fault NoRow = 1
kind_of_row_fault NoStamp = 2
kind_of_row_fault NoPeriod = 3
kind_of_row_fault NoField = 4
kind_of_row_fault NotRising = 5
kind_of_row_fault NoNumber = 6
kind_of_row_fault TooFar = 7

-- the kind of a fault of a line of a text
abbrev pub kind_of_fault : LineFault → ℕ
kind_of_fault (NoRowLine fault) = kind_of_row_fault fault
kind_of_fault NotAfter = 8
kind_of_fault NotEnded = 9
