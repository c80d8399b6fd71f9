use Rattle.std.proofs.Common.{refl, rules}
use Rattle.run_output.specs.Outside.{means}
use Rattle.run_output.proofs.Behind.{ended, went_on}
use Rattle.commands.proofs.RecoveryLaws.{archive_read}
use Rattle.commands.proofs.reporting.report_over.Goals as goal

pub returns-in_err-book : goal.returns-in_err-book
returns-in_err-book g c = ended _ _ _ _ _ _ _ c.read_archive.ensures c.in_err-book.was (search rules)

pub returns : goal.returns
returns g c =
    let has = archive_read (means g.F.Files.shelf g.K.Sink.outlet g.L.Link.traffic g.D.Disk.medium) _ _ _ _ c.in_ok-book.ensures in
    went_on _ _ _ _ _ _ _ _ c.read_archive.ensures c.in_ok-book.was (record {
      rows = has.0;
      stands = has.1;
      archive = has.2;
      end = c.write-end.result;
      made = c.write-end.ensures;
      given = c.given.ensures;
      alone = refl;
    })
