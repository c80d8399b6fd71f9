use Rattle.std.proofs.Common.{arith}
use Rattle.schedule_replay.proofs.NewDisk.{begins_disk}
use Rattle.schedule_replay.proofs.making.new_disk.Goals as goal

pub returns : goal.returns
returns c eeprom packet =
    let made = c.in_ok-disk.ensures in let around = c.new-2.ensures in
    begins_disk c.args.records _ c.in_ok-disk.disk c.new-2.result eeprom packet made.state made.empty made.synced made.images made.begun
    around.state around.reads around.synced around.images around.moment
    (record { capacity = omega arith; changes = omega arith; bytes = omega arith })
