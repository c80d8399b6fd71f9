-- What comes of opening the archives for a copy.
use Rattle.std.specs.Prelude.{ℕ, List, Ok, Err}
use Rattle.std.specs.declared.result.Result.{Result}
use Rattle.station_base.specs.declared.row.Row.{Row}
use Rattle.weather_book.specs.declared.book.Book.{Book}
use Rattle.batch_adding.specs.declared.opening.NotOpened.{NotOpened}
use Rattle.batch_adding.specs.declared.opening.NotOpened.TheVariants as to_open
use Rattle.archive_copy.specs.declared.end.CopyEnd.{CopyEnd}
use Rattle.archive_copy.specs.declared.end.CopyEnd.TheVariants.{FromNotArchive, FromDamaged, Full}
use Rattle.archive_copy.specs.declared.end.CopyEnd.TheVariants.{ToNotArchive, ToOldVersion, ToDamaged}
use Rattle.archive_copy.specs.declared.end.CopyEnd.TheVariants.{FromFault, ToFault, OutOfMemory}
use Rattle.archive_copy.specs.Answers.{CanBeCopied, RefusesFrom}

-- the file can be copied, or why not
abbrev pub OpensFrom : Result Book CopyEnd → List ℕ → Type 0
OpensFrom (Ok book) from = (theirs : List Row) × CanBeCopied from theirs
OpensFrom (Err end) from = RefusesFrom end from

-- it is an end before the second archive is opened
abbrev pub IsOfFrom : CopyEnd → Type 0
IsOfFrom (FromNotArchive bytes) = Unit {0}
IsOfFrom (FromDamaged place) = Unit {0}
IsOfFrom (Full n) = Unit {0}
IsOfFrom FromFault = Unit {0}
IsOfFrom OutOfMemory = Unit {0}
IsOfFrom other = ⊥

-- how a copy ends if the second archive was not opened
abbrev pub end_not_opened : NotOpened → CopyEnd
end_not_opened (to_open.NotArchive bytes) = ToNotArchive bytes
end_not_opened to_open.OldVersion = ToOldVersion
end_not_opened (to_open.Damaged place) = ToDamaged place
end_not_opened to_open.Fault = ToFault
end_not_opened to_open.OutOfMemory = OutOfMemory
