use Rattle.std.proofs.Common.{◌≡◌, ◌≤◌, ◌-◌, ◌∷◌, map}
use Rattle.arrayvec.specs.ArrayVec.{array_vec_len}
use Rattle.loop_packet.specs.Reading.{packet_bytes}
use Rattle.serial_link.specs.Link.{TalkOf}
use Rattle.vantage_frames.specs.Ack.{ack}
use Rattle.console_tasks.specs.TaskTalk.{Exchanges, TaskTalk}
use Rattle.console_tasks.specs.Tasks.{looping, packets}
use Rattle.console_tasks.proofs.Onward.{On}
use Rattle.console_tasks.proofs.packets.hear_packets.Given as goal

-- what was added so far is a task under way, whose packets so far are there
abbrev pub invariant-loop-heard : goal.invariant-loop-heard
invariant-loop-heard g l = record {
  sofar : TalkOf g.L.Link.traffic l.fn.link
      (On (TaskTalk (looping l.count)) (Exchanges (packets (l.count - l._heard))) (ack ∷ map packet_bytes l.into.items))
      l.link;
  room : array_vec_len l.into ≡ l._heard;
  faults : g.L.Link.traffic.faults l.fn.link ≤ g.L.Link.traffic.faults l.link;
  shortages : g.L.Link.traffic.shortages l.fn.link ≤ g.L.Link.traffic.shortages l.link;
}
