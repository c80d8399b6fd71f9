use Rattle.promise_laws.proofs.command_laws.no_other_line_is_reported.Goals as goal

pub returns : goal.returns
returns c = λ lines written other report. other report
