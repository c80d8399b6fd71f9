use Rattle.schedule_replay.proofs.Parts.{report_done, report_failed}
use Rattle.schedule_replay.proofs.ReadsAtRest.{report_reads, rows_readable}
use Rattle.schedule_replay.proofs.writing.write_days.Goals as goal

pub returns-in-Done-clause-disk : goal.returns-in-Done-clause-disk
returns-in-Done-clause-disk g c =
    (report_reads c.args.session.now c.book.result.now c.all_days.result c.requires c.book.ensures c.all_days.ensures.by_reads).0

pub returns-in-WriteFault-clause-disk : goal.returns-in-WriteFault-clause-disk
returns-in-WriteFault-clause-disk g c =
    (report_reads c.args.session.now c.book.result.now c.all_days.result c.requires c.book.ensures c.all_days.ensures.by_reads).0

pub unreachable-requires : goal.unreachable-requires
unreachable-requires g c =
    (report_reads c.args.session.now c.book.result.now c.all_days.result c.requires c.book.ensures c.all_days.ensures.by_reads).1 c.in-DiskFault.is

pub returns-in-Done-clause-text : goal.returns-in-Done-clause-text
returns-in-Done-clause-text g c settings rows goes =
    report_done rows (rows_readable c.args.disk.now c.args.session.now c.book.result.now settings rows c.book.ensures goes)
    c.requires.rests.image c.requires.rests.seen c.in-Done.ensures

pub returns-in-WriteFault-clause-text : goal.returns-in-WriteFault-clause-text
returns-in-WriteFault-clause-text g c settings rows goes =
    report_failed rows (rows_readable c.args.disk.now c.args.session.now c.book.result.now settings rows c.book.ensures goes)
    c.requires.rests.image c.requires.rests.seen c.in-WriteFault.ensures
