-- What is known of a change while its keys are read.
use Rattle.std.specs.Prelude.{IfSome}
use Rattle.station_base.specs.CivilMinute.{IsCivilMinute}
use Rattle.settings_file.specs.declared.change_read.ChangeRead.{ChangeRead}
use Rattle.settings_file.specs.Corrections.{AreCorrections}

pub record IsRead (read : ChangeRead) : Type 0 where
  pub from : IfSome read.from IsCivilMinute
  pub named : AreCorrections read.named
