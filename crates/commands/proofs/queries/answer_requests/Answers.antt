use Rattle.std.proofs.Common.{refl, rules}
use Rattle.serial_link.proofs.JoinedCalls.{talks_as}
use Rattle.run_output.specs.Outside.{means}
use Rattle.run_output.proofs.Behind.{ended, went_on}
use Rattle.commands.proofs.RecoveryLaws.{archive_read}
use Rattle.commands.proofs.queries.answer_requests.Goals as goal

pub returns-in_err-book : goal.returns-in_err-book
returns-in_err-book g c = ended _ _ _ _ _ _ _ c.read_archive.ensures c.in_err-book.was (search rules)

pub returns-in_err-connect : goal.returns-in_err-connect
returns-in_err-connect g c =
    went_on _ _ _ _ _ _ _ _ c.read_archive.ensures c.in_ok-book.was
    (ended _ _ _ _ _ _ _ (c.connect.ensures, refl) c.in_err-connect.was (search rules))

pub returns : goal.returns
returns g c =
    let has = archive_read (means g.F.Files.shelf g.K.Sink.outlet g.L.Link.traffic g.D.Disk.medium) _ _ _ _ c.in_ok-book.ensures in
    let e = c.answer_all.ensures in
    went_on _ _ _ _ _ _ _ _ c.read_archive.ensures c.in_ok-book.was
    (went_on _ _ _ _ _ _ _ _ (c.connect.ensures, refl) c.in_ok-connect.was (record {
      rows = has.0;
      stands = has.1.stands_for;
      archive = has.2;
      end = e.end;
      lines = e.lines;
      talks = talks_as _ e.talks (λ is. is) (λ is. is) (λ t part. record {
        most = part.most;
        least = part.least;
        answers = λ told. part.answers has.0 has.1 told.0 told.1;
        turn_by_turn = λ told. part.turn_by_turn has.0 has.1 told.0 told.1;
      });
      link_still = e.link_still;
      reads = e.reads has.0 has.1.stands_for;
      stays = e.stays;
      disk_cause = e.disk_cause;
      given = e.given;
      alone = refl;
    }))
