use Rattle.std.proofs.Common.{refl, rules}
use Rattle.run_output.proofs.Behind.{ended, went_on}
use Rattle.commands.proofs.importing.import_text.Goals as goal

pub returns-in_err-text : goal.returns-in_err-text
returns-in_err-text g c = ended _ _ _ _ _ _ _ (c.read.ensures, refl) c.in_err-text.was (search rules)

pub returns-in_err-count : goal.returns-in_err-count
returns-in_err-count g c =
    went_on _ _ _ _ _ _ _ _ (c.read.ensures, refl) c.in_ok-text.was
    (ended _ _ _ _ _ _ _ (rw c.deref.ensures.value at c.judge.ensures, refl) c.in_err-count.was (search rules))

pub returns-in_err-attach : goal.returns-in_err-attach
returns-in_err-attach g c =
    went_on _ _ _ _ _ _ _ _ (c.read.ensures, refl) c.in_ok-text.was
    (went_on _ _ _ _ _ _ _ _ (rw c.deref.ensures.value at c.judge.ensures, refl) c.in_ok-count.was
    (ended _ _ _ _ _ _ _ (c.attach.ensures, refl) c.in_err-attach.was (search rules)))

pub returns : goal.returns
returns g c =
    let did = rw c.deref-2.ensures.value at c.import_rows-end.ensures in
    went_on _ _ _ _ _ _ _ _ (c.read.ensures, refl) c.in_ok-text.was
    (went_on _ _ _ _ _ _ _ _ (rw c.deref.ensures.value at c.judge.ensures, refl) c.in_ok-count.was
    (went_on _ _ _ _ _ _ _ _ (c.attach.ensures, refl) c.in_ok-attach.was (
      record {
        end = c.import_rows-end.result;
        did = record {
          answers = did.answers;
          fault = did.fault;
          begun = did.begun;
          went = did.went;
          moved = did.moved;
          images = did.images;
          imported = did.imported;
        };
        given = c.given.ensures;
      },
      refl,
    )))
