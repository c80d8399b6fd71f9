use Rattle.std.proofs.Common.{◌∷◌, map}
use Rattle.loop_packet.specs.Reading.{packet_bytes}
use Rattle.vantage_frames.specs.Ack.{ack}
use Rattle.console_tasks.specs.Tasks.{looping}
use Rattle.console_tasks.specs.TaskTalk.{TaskTalk}
use Rattle.console_tasks.proofs.FinishedTasks.{answer_done, answer_err}
use Rattle.console_tasks.proofs.packets.loop_packets.Goals as goal

pub returns-in-Ok-clause-task : goal.returns-in-Ok-clause-task
returns-in-Ok-clause-task g c =
    answer_done (TaskTalk (looping c.args.count))
    (λ (done : Unit {0}). ack ∷ map packet_bytes c.hear_packets.new.into.items) tt c.in-Ok.ensures

pub returns-in-Err-clause-task : goal.returns-in-Err-clause-task
returns-in-Err-clause-task g c =
    answer_err (TaskTalk (looping c.args.count))
    (λ (done : Unit {0}). ack ∷ map packet_bytes c.hear_packets.new.into.items) c.in-Err.end _ c.in-Err.ensures
