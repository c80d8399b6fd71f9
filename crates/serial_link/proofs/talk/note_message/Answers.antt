use Rattle.std.proofs.Common.{ℕ, ◌+◌, ◌==◌, ◌++◌, List, [], ◌∷◌, length, get_or, refl, ap, ◌∙◌, arith, append_assoc}
use Rattle.serial_link.specs.declared.talk.TalkItem.{TalkItem}
use Rattle.serial_link.specs.declared.talk.TalkItem.TheVariants.{Said}
use Rattle.serial_link.proofs.NotedMessages.{said_more}
use Rattle.serial_link.proofs.talk.note_message.Goals as goal

pub loop-i-preserved : goal.loop-i-preserved
loop-i-preserved c =
    let q = c.loop-i.invariant.sofar in
    let b : ℕ = get_or c.args.bytes.now c.loop-i.i 0 in
    let last = c.loop-i.i + 1 == length c.args.bytes.now in
    let one : List TalkItem = Said b last ∷ [] in
    record {
      sofar = record {
        said = q.said ++ one;
        noted = c.push_reserved.ensures.items ∙ ap (λ (l : List TalkItem). l ++ one) q.noted ∙ append_assoc c.args.talk.now.items q.said one;
        whole = said_more c.args.bytes.now c.loop-i.i b last q.said c.loop-i-test.true refl refl q.whole;
      };
      room = omega (arith, c.push_reserved.ensures.len, c.push_reserved.ensures.capacity, c.loop-i.invariant.room, c.loop-i-test.true);
    }
