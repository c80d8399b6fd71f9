use Rattle.std.proofs.Common.{◌∙◌}
use Rattle.commands.specs.TaskText.{task_text}
use Rattle.commands.proofs.TaskEnds.{text_where_done}
use Rattle.commands.proofs.calling.make_task.Goals as goal

pub returns : goal.returns
returns g c =
    let answers = c.ask-end.ensures.answers in
    record {
      end = c.ask-end.result;
      answers = answers;
      talks = c.ask-end.ensures.talks;
      given = c.given.ensures ∙ text_where_done c.ask-end.new.text.items (task_text c.args.task.now answers) c.ask-end.result c.ask-end.ensures.given;
    }
