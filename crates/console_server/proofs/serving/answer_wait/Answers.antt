use Rattle.std.proofs.Common.{rules}
use Rattle.serial_link.specs.declared.talk.TalkItem.TheVariants.{Quiet}
use Rattle.console_server.proofs.Turns.{answers_one, waits_steps}
use Rattle.console_server.proofs.serving.answer_wait.Goals as goal

pub returns-clause-talk : goal.returns-clause-talk
returns-clause-talk g c =
    let reply = c.tick-reply.result in
    let steps = waits_steps reply c.args.console.now c.tick-reply.new.self c.tick-reply.ensures in
    let said = c.say.ensures.talk.talk in
    record {
      talk = record {
        items = said.items;
        are = answers_one c.say.result said.items Quiet reply.bytes.items c.args.console.now c.tick-reply.new.self c.args.count.now c.say.new.count steps said.are;
        adds = said.adds;
      };
      fault = search rules;
      shortage = search rules;
    }
