-- What an answer about storing says of later ones.
use Rattle.std.specs.Prelude.{Bool, true}
use Rattle.causes.specs.declared.stored.Stored.{Stored}
use Rattle.causes.specs.declared.stored.Stored.TheVariants.{Done, Full, Stale, DiskFault}

-- whether it is stale after this answer: from a disk fault on
abbrev pub stale_after : Stored → Bool → Bool
stale_after Done before = before
stale_after Full before = before
stale_after Stale before = before
stale_after DiskFault before = true
