use Rattle.std.proofs.Common.{◌≡◌, ◌≤◌, ◌+◌, ◌*◌, take, map}
use Rattle.serial_link.specs.declared.talk.TalkItem.TheVariants.{Heard}
use Rattle.serial_link.specs.Link.{TalkOf}
use Rattle.console_server.specs.Serving.{AnswersAll}
use Rattle.console_server.specs.declared.serving.ServeEnd.TheVariants as end
use Rattle.console_server.proofs.serving.answer_bytes.Given as goal

-- the bytes so far were answered, no fault and no shortage came, and the count is as small as that
abbrev pub invariant-loop-byte : goal.invariant-loop-byte
invariant-loop-byte g l = record {
  sofar : TalkOf g.L.Link.traffic l.fn.link
      (AnswersAll end.Done (map Heard (take l.byte-index l.bytes)) l.fn.console l.console l.fn.count l.count)
      l.link;
  heard : l.count.heard ≡ l.fn.count.heard;
  said : l.count.said ≤ l.fn.count.said + 4099 * l.byte-index;
  faults : g.L.Link.traffic.faults l.link ≡ g.L.Link.traffic.faults l.fn.link;
  shortages : g.L.Link.traffic.shortages l.link ≡ g.L.Link.traffic.shortages l.fn.link;
}
