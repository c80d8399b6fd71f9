use Rattle.std.proofs.Common.{◌∙◌, sym, arith, below_more, refl}
use Rattle.std.proofs.lemmas.Bool.{false≢true}
use Rattle.archive_record.proofs.Put.{told_more, others_stay}
use Rattle.archive_record.proofs.Tiles.{place_is, place_at}
use Rattle.archive_record.proofs.Values.{values_all}
use Rattle.archive_record.proofs.record_write.put_values.Goals as goal

pub raw-requires : goal.raw-requires
raw-requires c =
    rw (c.places-place-items.ensures, place_at c.loop-field.field _ c.loop-field-test.true) (place_is c.loop-field.field c.loop-field-test.true)

pub put-requires-clause-place : goal.put-requires-clause-place
put-requires-clause-place c =
    rw (c.places-place-items.ensures, place_at c.loop-field.field _ c.loop-field-test.true) (place_is c.loop-field.field c.loop-field-test.true)

pub loop-field-preserved : goal.loop-field-preserved
loop-field-preserved c =
    let field = c.loop-field.field in
    let within = c.loop-field-test.true in
    let raw = rw (c.places-place-items.ensures, place_at field _ within) at c.put.ensures.raw in
    let only = rw (c.places-place-items.ensures, place_at field _ within) at c.put.ensures.others in
    let can = rw (c.places-place-items.ensures, place_at field _ within) at c.in_ok-raw.ensures.can in
    let tells = rw (c.places-place-items.ensures, place_at field _ within) at c.in_ok-raw.ensures.found.1 in
    record {
      told = told_more c.loop-field.bytes c.put.new.bytes c.args.values.now field c.in_ok-raw.raw within raw tells only c.loop-field.invariant.told;
      can = below_more _ _ c.loop-field.invariant.can (can.0 refl);
      others = λ i at. others_stay c.loop-field.bytes c.put.new.bytes field within only i at ∙ c.loop-field.invariant.others i at;
    }

pub returns-in_err-raw-clause-can : goal.returns-in_err-raw-clause-can
returns-in_err-raw-clause-can c =
    let field = c.loop-field.field in
    let within = c.loop-field-test.true in
    let can = rw (c.places-place-items.ensures, place_at field _ within) at c.raw.ensures.can in (
      λ some. let no = rw c.from_residual.ensures at some in absurd (false≢true no),
      λ all. let yes = can.1 (all field within) in let no = rw c.in_err-raw.was at yes in absurd (false≢true no),
    )

pub returns-clause-values : goal.returns-clause-values
returns-clause-values c =
    sym (values_all c.args.values.now c.loop-field.bytes c.told-values (λ k h. sym (c.loop-field.invariant.told k (omega (arith, c.loop-field-test.false)))))
