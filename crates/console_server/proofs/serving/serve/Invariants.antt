use Rattle.std.proofs.Common.{◌≡◌, ◌≤◌, ◌*◌}
use Rattle.serial_link.specs.Link.{TalkOf}
use Rattle.console_server.specs.Serving.{ServesTurns}
use Rattle.console_server.specs.declared.serving.ServeEnd.TheVariants as end
use Rattle.console_server.proofs.serving.serve.Given as goal

-- the turns so far were served, no fault and no shortage came, and the counts are as small as that
abbrev pub invariant-loop : goal.invariant-loop
invariant-loop g l = record {
  sofar : TalkOf g.L.Link.traffic l.fn.link (ServesTurns end.Done l.counter l.fn.console l.console l.fn.count l.count) l.link;
  within : l.counter ≤ l.turns;
  heard : l.count.heard ≤ 256 * l.counter;
  said : l.count.said ≤ 4099 * 256 * l.counter;
  faults : g.L.Link.traffic.faults l.link ≡ g.L.Link.traffic.faults l.fn.link;
  shortages : g.L.Link.traffic.shortages l.link ≡ g.L.Link.traffic.shortages l.fn.link;
}
