use Rattle.std.proofs.Common.{rules, ◌≡◌, sym, ◌∙◌, Some, None, arith}
use Rattle.station_base.specs.Fields.{name_of}
use Rattle.station_base.proofs.FieldTexts.{names_differ}
use Rattle.station_base.proofs.FieldNames.{is_field_named}
use Rattle.station_base.proofs.field.FieldId.by_bytes.Goals as goal

pub returns-then-eq-clause-only : goal.returns-then-eq-clause-only
returns-then-eq-clause-only c field small named =
    let found : name_of c.loop-index.index ≡ c.args.name.now = search rules in
    names_differ c.loop-index.index field c.loop-index-test.true small (found ∙ sym named)

pub returns-then-eq-clause-exact : goal.returns-then-eq-clause-exact
returns-then-eq-clause-exact c =
    let found : name_of c.loop-index.index ≡ c.args.name.now = search rules in
    is_field_named c.args.name.now (Some c.loop-index.index) found c.loop-index-test.true
    (λ field small named. names_differ c.loop-index.index field c.loop-index-test.true small (found ∙ sym named))

pub returns-clause-exact : goal.returns-clause-exact
returns-clause-exact c =
    is_field_named c.args.name.now None tt tt
    (λ field small named. absurd (c.loop-index.invariant field (omega (arith, small)) named))
