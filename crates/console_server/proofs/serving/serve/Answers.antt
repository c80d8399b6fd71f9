use Rattle.std.proofs.Common.{◌++◌, [], refl, ◌∙◌, arith, rules}
use Rattle.serial_link.proofs.GrownTalk.{adds_none, adds_joins}
use Rattle.console_server.proofs.Turns.{serves_none, serves_more, serves_cut}
use Rattle.console_server.proofs.serving.serve.Goals as goal

pub loop-init : goal.loop-init
loop-init g c = record {
  sofar = record {
    items = [];
    are = serves_none c.args.console.now c.args.count.now;
    adds = adds_none g.L.Link.traffic c.args.link.now;
  };
  within = omega arith;
  heard = omega (arith, c.requires.heard);
  said = omega (arith, c.requires.said);
  faults = refl;
  shortages = refl;
}

pub returns-in-LinkFault-clause-talk : goal.returns-in-LinkFault-clause-talk
returns-in-LinkFault-clause-talk g c =
    let i = c.loop.invariant.sofar in
    let t = c.in-LinkFault.ensures.talk.talk in
    record {
      talk = record {
        items = i.items ++ t.items;
        are = serves_cut c.loop.counter c.args.turns i.items t.items c.args.console.now c.loop.console c.take_turn.new.console c.args.count.now c.loop.count c.loop-test.true i.are t.are;
        adds = adds_joins i.adds t.adds;
      };
      fault = search rules;
      shortage = search rules;
    }

pub returns-in-OutOfMemory-clause-talk : goal.returns-in-OutOfMemory-clause-talk
returns-in-OutOfMemory-clause-talk g c =
    let i = c.loop.invariant.sofar in
    let t = c.in-OutOfMemory.ensures.talk.talk in
    record {
      talk = record {
        items = i.items ++ t.items;
        are = serves_cut c.loop.counter c.args.turns i.items t.items c.args.console.now c.loop.console c.take_turn.new.console c.args.count.now c.loop.count c.loop-test.true i.are t.are;
        adds = adds_joins i.adds t.adds;
      };
      fault = search rules;
      shortage = search rules;
    }

pub loop-preserved : goal.loop-preserved
loop-preserved g c =
    let i = c.loop.invariant in
    let e = c.in-Done.ensures in
    let t = e.talk.talk in
    record {
      sofar = record {
        items = i.sofar.items ++ t.items;
        are = serves_more c.loop.counter i.sofar.items t.items c.args.console.now c.loop.console c.take_turn.new.console c.args.count.now c.loop.count c.take_turn.new.count i.sofar.are t.are;
        adds = adds_joins i.sofar.adds t.adds;
      };
      within = omega (arith, c.loop-test.true);
      heard = omega (arith, e.heard, i.heard);
      said = omega (arith, e.said, i.said);
      faults = e.still.faults (λ wrong. cc) ∙ i.faults;
      shortages = e.still.shortages (λ wrong. cc) ∙ i.shortages;
    }
