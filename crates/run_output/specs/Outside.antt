-- What a command works on, and what is told of each part.
use Rattle.std.specs.Prelude.{◌≡◌}
use Rattle.disk_model.specs.Medium.{Medium}
use Rattle.serial_link.specs.Traffic.{Traffic}
use Rattle.station_io.specs.Files.{Shelf}
use Rattle.station_io.specs.Sink.{Outlet}
use Rattle.run_output.specs.Steps.{CommandStep}
use Rattle.run_output.specs.declared.outside.Outside.{Outside}

-- What is told of files, sink, link and disks.
pub record Meanings (F K L D : Type 0) : Type 1 where
  pub shelf : Shelf F
  pub outlet : Outlet K
  pub traffic : Traffic L
  pub medium : Medium D

-- a step over a part alone, with the other parts as they were
abbrev pub over_files : {F K L D A : Type 0} → CommandStep F A → CommandStep (Outside F K L D) A
over_files step old result new = step old.files result new.files × (new ≡ record old { files = new.files })

-- a step over the link alone
abbrev pub over_link : {F K L D A : Type 0} → CommandStep L A → CommandStep (Outside F K L D) A
over_link step old result new = step old.link result new.link × (new ≡ record old { link = new.link })

-- a step over the disk alone
abbrev pub over_disk : {F K L D A : Type 0} → CommandStep D A → CommandStep (Outside F K L D) A
over_disk step old result new = step old.disk result new.disk × (new ≡ record old { disk = new.disk })

-- a step over the second disk alone
abbrev pub over_second : {F K L D A : Type 0} → CommandStep D A → CommandStep (Outside F K L D) A
over_second step old result new = step old.second result new.second × (new ≡ record old { second = new.second })

-- a step over the sink alone
abbrev pub over_out : {F K L D A : Type 0} → CommandStep K A → CommandStep (Outside F K L D) A
over_out step old result new = step old.out result new.out × (new ≡ record old { out = new.out })

-- what files, a sink, a link and disks tell, as one value
abbrev pub means : {F K L D : Type 0} → Shelf F → Outlet K → Traffic L → Medium D → Meanings F K L D
means shelf outlet traffic medium = record { shelf = shelf; outlet = outlet; traffic = traffic; medium = medium }
