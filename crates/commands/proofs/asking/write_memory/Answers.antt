use Rattle.std.proofs.Common.{rules, ◌≡◌, [], ◌∷◌}
use Rattle.vantage_frames.specs.Ack.{ack}
use Rattle.console_tasks.specs.Exchange.{ack_frame}
use Rattle.commands.proofs.asking.write_memory.Goals as goal

pub returns : goal.returns
returns g c =
    let same : c.deref.result.now ≡ c.args.bytes.now.items = search rules in
    record {
      answers = ack ∷ ack ∷ ack_frame c.args.bytes.now.items ∷ [];
      talks = rw same at c.write_eeprom.ensures;
      given = λ done. search rules;
    }
