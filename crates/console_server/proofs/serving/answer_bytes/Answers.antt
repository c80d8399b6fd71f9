use Rattle.std.proofs.Common.{◌+◌, List, [], ◌++◌, map, take, drop, get_or, sym, ◌∙◌, subst, refl, arith, rules}
use Rattle.serial_link.specs.declared.talk.TalkItem.{TalkItem}
use Rattle.serial_link.specs.declared.talk.TalkItem.TheVariants.{Heard}
use Rattle.serial_link.proofs.GrownTalk.{adds_none, adds_joins}
use Rattle.console_server.specs.Serving.{AnswersAll, IsAnsweredInPart}
use Rattle.console_server.specs.declared.serving.ServeEnd.TheVariants as end
use Rattle.console_server.proofs.Turns.{answers_none, answers_more, answers_part, hears_steps, heard_more, heard_whole}
use Rattle.console_server.proofs.serving.answer_bytes.Goals as goal

pub loop-byte-init : goal.loop-byte-init
loop-byte-init g c = record {
  sofar = record {
    items = [];
    are = answers_none c.args.console.now c.args.count.now;
    adds = adds_none g.L.Link.traffic c.args.link.now;
  };
  heard = refl;
  said = omega arith;
  faults = refl;
  shortages = refl;
}

pub returns-in-LinkFault-clause-talk : goal.returns-in-LinkFault-clause-talk
returns-in-LinkFault-clause-talk g c =
    let i = c.loop-byte.invariant.sofar in
    let said = c.in-LinkFault.ensures.talk.talk in
    let bytes = c.args.bytes.now in
    let n = c.loop-byte.byte-index in
    let b = get_or bytes n 0 in
    let reply = c.hear-reply.result in
    let part = answers_part (map Heard (take n bytes)) (map Heard (drop (n + 1) bytes)) i.items said.items (Heard b) reply.bytes.items
    c.args.console.now c.loop-byte.console c.hear-reply.new.self c.args.count.now c.loop-byte.count i.are
    (hears_steps b reply c.loop-byte.console c.hear-reply.new.self c.hear-reply.ensures) said.are in
    record {
      talk = record {
        items = i.items ++ said.items;
        are = record {
          only = part.0;
          replies = λ k stands. subst (λ (l : List TalkItem). IsAnsweredInPart k c.hear-reply.new.self l (i.items ++ said.items)) (heard_whole bytes n c.loop-byte-test.true) (part.1 k stands);
          counted = tt;
        };
        adds = adds_joins i.adds said.adds;
      };
      fault = search rules;
      shortage = search rules;
    }

pub returns-in-OutOfMemory-clause-talk : goal.returns-in-OutOfMemory-clause-talk
returns-in-OutOfMemory-clause-talk g c =
    let i = c.loop-byte.invariant.sofar in
    let said = c.in-OutOfMemory.ensures.talk.talk in
    let bytes = c.args.bytes.now in
    let n = c.loop-byte.byte-index in
    let b = get_or bytes n 0 in
    let reply = c.hear-reply.result in
    let part = answers_part (map Heard (take n bytes)) (map Heard (drop (n + 1) bytes)) i.items said.items (Heard b) reply.bytes.items
    c.args.console.now c.loop-byte.console c.hear-reply.new.self c.args.count.now c.loop-byte.count i.are
    (hears_steps b reply c.loop-byte.console c.hear-reply.new.self c.hear-reply.ensures) said.are in
    record {
      talk = record {
        items = i.items ++ said.items;
        are = record {
          only = part.0;
          replies = λ k stands. subst (λ (l : List TalkItem). IsAnsweredInPart k c.hear-reply.new.self l (i.items ++ said.items)) (heard_whole bytes n c.loop-byte-test.true) (part.1 k stands);
          counted = tt;
        };
        adds = adds_joins i.adds said.adds;
      };
      fault = search rules;
      shortage = search rules;
    }

pub loop-byte-preserved : goal.loop-byte-preserved
loop-byte-preserved g c =
    let i = c.loop-byte.invariant in
    let said = c.in-Done.ensures.talk.talk in
    let bytes = c.args.bytes.now in
    let n = c.loop-byte.byte-index in
    let b = get_or bytes n 0 in
    let reply = c.hear-reply.result in
    let came = map Heard (take n bytes) in
    let steps = hears_steps b reply c.loop-byte.console c.hear-reply.new.self c.hear-reply.ensures in
    record {
      sofar = record {
        items = i.sofar.items ++ said.items;
        are = subst (λ (l : List TalkItem). AnswersAll end.Done l c.args.console.now c.hear-reply.new.self c.args.count.now c.say.new.count (i.sofar.items ++ said.items))
            (sym (heard_more bytes n c.loop-byte-test.true))
            (answers_more came i.sofar.items said.items (Heard b) reply.bytes.items c.args.console.now c.loop-byte.console c.hear-reply.new.self c.args.count.now c.loop-byte.count c.say.new.count
            i.sofar.are steps said.are);
        adds = adds_joins i.sofar.adds said.adds;
      };
      heard = c.in-Done.ensures.heard ∙ i.heard;
      said = omega (arith, c.in-Done.ensures.said, i.said);
      faults = c.in-Done.ensures.still.faults (λ wrong. cc) ∙ i.faults;
      shortages = c.in-Done.ensures.still.shortages (λ wrong. cc) ∙ i.shortages;
    }
