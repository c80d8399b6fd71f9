use Rattle.std.proofs.Common.{sym, ◌∙◌}
use Rattle.packed_rows.specs.Rows.{is_known}
use Rattle.packed_rows.proofs.Versions.{unknown_none}
use Rattle.weather_book.proofs.slots.read_as.Goals as goal

pub returns-then-not-known-clause-row : goal.returns-then-not-known-clause-row
returns-then-not-known-clause-row c = unknown_none (is_known c.args.version c.args.slot.now) c.args.slot.now (sym c.is_known-known.ensures ∙ c.if-not-known.true)
