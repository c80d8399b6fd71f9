use Rattle.std.proofs.Common.{◌≤◌, ◌+◌}
use Rattle.weather_book.proofs.BookOnDisk.{same_stands}
use Rattle.batch_adding.proofs.Kept.{late_or_not}
use Rattle.batch_adding.proofs.adding.add_batch.Goals as goal

pub returns-in-Done-clause-stands : goal.returns-in-Done-clause-stands
returns-in-Done-clause-stands g c e old stands =
    c.in-Done.ensures.stands old (same_stands g.E.Disk.medium c.args.mine.now c.room.new.self c.args.to.now old c.room.ensures.stays stands)

pub returns-in-DiskFault-clause-images : goal.returns-in-DiskFault-clause-images
returns-in-DiskFault-clause-images g c old stands =
    let m = g.E.Disk.medium in
    late_or_not g.E.Disk.medium old c.args.rows.now (m.moment c.args.to.now + 3 ≤ m.moment c.add.new.disk) c.args.to.now c.add.new.disk
    (c.add.ensures.images old (same_stands g.E.Disk.medium c.args.mine.now c.room.new.self c.args.to.now old c.room.ensures.stays stands))
