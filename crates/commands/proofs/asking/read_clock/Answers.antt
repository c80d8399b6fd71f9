use Rattle.std.proofs.Common.{List, ℕ, ap, sym, ◌∙◌, ◌++◌, [], ◌∷◌}
use Rattle.console_tasks.specs.Exchange.{ack_frame}
use Rattle.station_base.specs.ClockTime.{clock_bytes}
use Rattle.commands.specs.TaskText.{clock_line}
use Rattle.commands.proofs.ShownAnswers.{clock_shown}
use Rattle.commands.proofs.asking.read_clock.Goals as goal

pub returns : goal.returns
returns g c =
    let time = c.get_time-end.new.into in
    record {
      answers = ack_frame (clock_bytes time) ∷ [];
      talks = c.get_time-end.ensures.task;
      given = λ done. c.push_clock.ensures ∙ ap (λ (t : List ℕ). t ++ clock_line time) c.requires
          ∙ ap clock_line (sym (clock_shown time (c.get_time-end.ensures.civil done)));
    }
