use Rattle.std.proofs.Common.{◌≡◌, [], ◌∷◌, ◌∙◌, arith, rules, Err, string_bytes}
use Rattle.std.proofs.lemmas.Grind.{common_steps}
use Rattle.toml.specs.View.{view}
use Rattle.toml.proofs.Views.{Entry}
use Rattle.settings_file.proofs.TableWalk.{walk-ends, walk-stops}
use Rattle.settings_file.proofs.table.read_table.Goals as goal

pub returns-clause-exact : goal.returns-clause-exact
returns-clause-exact g c =
    let none : c.loop-key.key-iterator ≡ [] = grind (arith, common_steps) in
    let (_, _, _, walked) = rw none at c.loop-key.invariant in walk-ends _ _ _ walked

pub returns-in_err-filled-clause-exact : goal.returns-in_err-filled-clause-exact
returns-in_err-filled-clause-exact g c =
    let e : Entry = (c.in-Some.key.now, c.in-Some.value.now) in
    let iter : c.loop-key.key-iterator ≡ e ∷ c.next.new.self = grind (arith, common_steps) in
    let (_, _, _, walked) = rw iter at c.loop-key.invariant in
    let stopped : g.F.Filled.filled c.loop-key.at (string_bytes e.0) (view e.1) c.loop-key.filled ≡ Err c.in_err-filled.field-0.0 = search rules in
    let given : c.from_residual.result ≡ Err c.in_err-filled.field-0.0 = search rules in
    given ∙ walk-stops _ _ _ _ walked stopped
