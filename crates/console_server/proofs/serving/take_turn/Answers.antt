use Rattle.std.proofs.Common.{◌≡◌, [], ◌∷◌, ◌++◌, length, map, take, inl, inr, refl, ap, ◌∙◌, arith, rules, length-take-le}
use Rattle.serial_link.specs.declared.talk.TalkItem.TheVariants.{Heard, Quiet}
use Rattle.serial_link.proofs.GrownTalk.{adds_joins, heard_waits}
use Rattle.wake_retry.specs.Parts.{heard}
use Rattle.console_server.proofs.Talks.{heard_items, heard_bytes, heard_said}
use Rattle.console_server.proofs.Turns.{turn_by}
use Rattle.console_server.proofs.serving.take_turn.Goals as goal

pub returns-in-Got-clause-talk : goal.returns-in-Got-clause-talk
returns-in-Got-clause-talk g c =
    let e = c.in-Got.ensures in
    let n = c.in-Got.size in
    let bs = take n c.recv.new.buf in
    let long : length bs ≡ n = length-take-le n c.recv.new.buf e.within.1 in
    let bytes : length (heard (map Heard bs)) ≡ n = ap length (heard_bytes bs) ∙ long in
    let waits = heard_waits bs in
    let room = c.recv.auto.buf in
    let t = c.answer_bytes.ensures.talk.talk in
    record {
      talk = record {
        items = map Heard bs ++ t.items;
        are = turn_by c.answer_bytes.result (map Heard bs) t.items c.args.console.now c.answer_bytes.new.console c.args.count.now _ c.answer_bytes.new.count
            (inr (bs, refl, omega (arith, long, e.within.0), omega (arith, long, e.within.1, room))) (heard_items bs) (heard_said bs) (omega (arith, bytes, waits, e.within.0)) (omega (arith, bytes, waits, e.within.1, room))
            (omega (arith, bytes, c.answer_bytes.ensures.heard)) refl t.are;
        adds = adds_joins e.talk t.adds;
      };
      fault = search rules;
      shortage = search rules;
    }

pub returns-in-Quiet-clause-talk : goal.returns-in-Quiet-clause-talk
returns-in-Quiet-clause-talk g c =
    let t = c.answer_wait.ensures.talk.talk in
    record {
      talk = record {
        items = Quiet ∷ t.items;
        are = turn_by c.answer_wait.result (Quiet ∷ []) t.items c.args.console.now c.answer_wait.new.console c.args.count.now c.args.count.now c.answer_wait.new.count
            (inl refl) refl refl (omega arith) (omega arith) (omega (arith, c.answer_wait.ensures.heard)) refl t.are;
        adds = adds_joins c.in-Quiet.ensures.talk t.adds;
      };
      fault = search rules;
      shortage = search rules;
    }
