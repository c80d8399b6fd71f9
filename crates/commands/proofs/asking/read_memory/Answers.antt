use Rattle.std.proofs.Common.{rules, List, ℕ, ap, sym, ◌∙◌, ◌++◌, [], ◌∷◌}
use Rattle.console_tasks.specs.Exchange.{ack_frame}
use Rattle.run_output.specs.MemoryText.{bytes_line}
use Rattle.commands.proofs.ShownAnswers.{as_many, memory_shown}
use Rattle.commands.proofs.asking.read_memory.Goals as goal

pub returns : goal.returns
returns g c =
    let bytes = c.read_eeprom-end.new.into in
    record {
      answers = ack_frame bytes ∷ [];
      talks = as_many c.args.at _ c.args.count c.read_eeprom-end.ensures.task (search rules);
      given = λ done. c.push_memory.ensures ∙ ap (λ (t : List ℕ). t ++ bytes_line bytes) c.requires.empty
          ∙ ap bytes_line (sym (memory_shown bytes c.args.count (search rules)));
    }
