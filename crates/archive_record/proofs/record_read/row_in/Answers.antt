use Rattle.std.proofs.Common.{All, List, Option, ℤ, sym, subst}
use Rattle.station_base.specs.RowLine.{IsValueWithin}
use Rattle.archive_record.proofs.Bounds.{values_within}
use Rattle.archive_record.proofs.record_read.row_in.Goals as goal

pub returns-clause-within : goal.returns-clause-within
returns-clause-within c =
    let P : List (Option ℤ) → Type 0 = All (IsValueWithin 65535) in
    subst P (sym c.values_in.ensures) (values_within c.args.bytes.now c.fits-bytes)
