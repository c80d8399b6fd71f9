use Rattle.std.proofs.Common.{ℕ, ◌≡◌, ◌++◌, List, Some, ap, ◌∙◌, arith}
use Rattle.std.proofs.lemmas.Bool.Decides.{Decides-eqb}
use Rattle.std.proofs.lemmas.Slice.Eq.{strip_prefix_is}
use Rattle.std.specs.Prelude.{codes}
use Rattle.query_service.proofs.request.request_of.Goals as goal

pub returns-in-Some-days_of : goal.returns-in-Some-days_of
returns-in-Some-days_of c =
    let prefix : c.args.line.now ≡ codes "rows " ++ c.in-Some.days.now =
    rw c.as_slice-3.ensures at (strip_prefix_is Decides-eqb c.args.line.now c.as_slice-3.result.now (Some c.in-Some.days) c.in-Some.ensures.cases) in
    record {
      long = λ more. absurd (omega (arith, more, c.if-line-gt-LONGEST.false));
      short = λ _. (prefix ∙ ap (λ (days : List ℕ). codes "rows " ++ days) c.in-Some-days_of.ensures.found.0, c.in-Some-days_of.ensures.found.1);
    }

pub returns-in-Some-from_text : goal.returns-in-Some-from_text
returns-in-Some-from_text c =
    let prefix : c.args.line.now ≡ codes "day " ++ c.in-Some-strip_prefix.day.now =
    rw c.as_slice-4.ensures at (strip_prefix_is Decides-eqb c.args.line.now c.as_slice-4.result.now (Some c.in-Some-strip_prefix.day) c.in-Some-strip_prefix.ensures.cases) in
    record {
      long = λ more. absurd (omega (arith, more, c.if-line-gt-LONGEST.false));
      short = λ _. (prefix ∙ ap (λ (day : List ℕ). codes "day " ++ day) c.in-Some-from_text.ensures.found.1, c.in-Some-from_text.ensures.found.0);
    }
