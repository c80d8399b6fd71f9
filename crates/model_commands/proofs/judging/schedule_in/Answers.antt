use Rattle.model_commands.proofs.judging.schedule_in.Goals as goal

pub returns-in-Ok-clause-few : goal.returns-in-Ok-clause-few
returns-in-Ok-clause-few c =
    c.a_schedule_has_few_steps.ensures c.args.text.now c.args.period c.in-Ok.schedule c.in-Ok.ensures.said
