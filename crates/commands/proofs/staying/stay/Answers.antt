use Rattle.std.proofs.Common.{refl, sym, subst, rules}
use Rattle.weather_book.specs.Stands.{StandsOn}
use Rattle.weather_book.specs.declared.book.Book.{Book}
use Rattle.run_output.proofs.Behind.{ended, went_on}
use Rattle.commands.proofs.staying.stay.Goals as goal

pub returns-in_err-settings : goal.returns-in_err-settings
returns-in_err-settings g c = ended _ _ _ _ _ _ _ (c.settle.ensures, refl) c.in_err-settings.was (search rules)

pub returns-in_err-attach : goal.returns-in_err-attach
returns-in_err-attach g c =
    went_on _ _ _ _ _ _ _ _ (c.settle.ensures, refl) c.in_ok-settings.was
    (ended _ _ _ _ _ _ _ (c.attach.ensures, refl) c.in_err-attach.was (search rules))

pub returns-in_err-book : goal.returns-in_err-book
returns-in_err-book g c =
    went_on _ _ _ _ _ _ _ _ (c.settle.ensures, refl) c.in_ok-settings.was
    (went_on _ _ _ _ _ _ _ _ (c.attach.ensures, refl) c.in_ok-attach.was
    (ended _ _ _ _ _ _ _ (rw c.most.ensures.value at c.recover.ensures, refl) c.in_err-book.was (search rules)))

pub returns-in_err-connect : goal.returns-in_err-connect
returns-in_err-connect g c =
    went_on _ _ _ _ _ _ _ _ (c.settle.ensures, refl) c.in_ok-settings.was
    (went_on _ _ _ _ _ _ _ _ (c.attach.ensures, refl) c.in_ok-attach.was
    (went_on _ _ _ _ _ _ _ _ (rw c.most.ensures.value at c.recover.ensures, refl) c.in_ok-book.was
    (ended _ _ _ _ _ _ _ (c.connect.ensures, refl) c.in_err-connect.was (search rules))))

pub returns : goal.returns
returns g c =
    let has = c.in_ok-book.ensures.to_write in
    went_on _ _ _ _ _ _ _ _ (c.settle.ensures, refl) c.in_ok-settings.was
    (went_on _ _ _ _ _ _ _ _ (c.attach.ensures, refl) c.in_ok-attach.was
    (went_on _ _ _ _ _ _ _ _ (rw c.most.ensures.value at c.recover.ensures, refl) c.in_ok-book.was
    (went_on _ _ _ _ _ _ _ _ (c.connect.ensures, refl) c.in_ok-connect.was (record {
      session = c.new.result;
      rows = has.0;
      book_is = c.new.ensures.book;
      settings_are = c.new.ensures.settings;
      stands = has.1;
      goes = c.make_rounds.ensures has.0 (subst (λ (book : Book). StandsOn g.D.Disk.medium book c.recover.new.disk has.0) (sym c.new.ensures.book) has.1);
    }))))
