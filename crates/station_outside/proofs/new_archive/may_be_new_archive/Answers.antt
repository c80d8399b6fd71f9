use Rattle.std.proofs.Common.{◌∙◌, ap, sym, below_more, rules}
use Rattle.std.specs.Prelude.{slice_index}
use Rattle.station_outside.specs.NewArchive.{is_left_of}
use Rattle.station_outside.proofs.new_archive.may_be_new_archive.Goals as goal

pub loop-i-preserved : goal.loop-i-preserved
loop-i-preserved c = below_more _ _ c.loop-i.invariant
    (ap (λ w. is_left_of (slice_index w c.loop-i.i) (slice_index c.args.bytes.now c.loop-i.i)) (sym c.new_archive-whole.ensures)
    ∙ sym c.is_left_of.ensures
    ∙ search (rules, c.if-not-is_left_of.false))
