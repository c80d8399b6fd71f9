use Rattle.std.proofs.Common.{refl, sym, subst, ◌∙◌, rules}
use Rattle.weather_book.specs.Book.{BookStandsFor}
use Rattle.weather_book.specs.declared.book.Book.{Book}
use Rattle.run_output.proofs.Behind.{ended, went_on}
use Rattle.commands.proofs.catching_up.catch_up.Goals as goal

pub returns-in_err-settings : goal.returns-in_err-settings
returns-in_err-settings g c = ended _ _ _ _ _ _ _ (c.settle.ensures, refl) c.in_err-settings.was (search rules)

pub returns-in_err-attach : goal.returns-in_err-attach
returns-in_err-attach g c =
    went_on _ _ _ _ _ _ _ _ (c.settle.ensures, refl) c.in_ok-settings.was
    (ended _ _ _ _ _ _ _ (c.attach.ensures, refl) c.in_err-attach.was (search rules))

pub returns-in_err-book : goal.returns-in_err-book
returns-in_err-book g c =
    went_on _ _ _ _ _ _ _ _ (c.settle.ensures, refl) c.in_ok-settings.was
    (went_on _ _ _ _ _ _ _ _ (c.attach.ensures, refl) c.in_ok-attach.was
    (ended _ _ _ _ _ _ _ (rw c.most.ensures.value at c.recover.ensures, refl) c.in_err-book.was (search rules)))

pub returns-in_err-report : goal.returns-in_err-report
returns-in_err-report g c =
    went_on _ _ _ _ _ _ _ _ (c.settle.ensures, refl) c.in_ok-settings.was
    (went_on _ _ _ _ _ _ _ _ (c.attach.ensures, refl) c.in_ok-attach.was
    (went_on _ _ _ _ _ _ _ _ (rw c.most.ensures.value at c.recover.ensures, refl) c.in_ok-book.was
    (ended _ _ _ _ _ _ _ (c.new_report.ensures.new, c.new_report.ensures.none, refl) c.in_err-report.was (search rules))))

pub returns-in_err-connect : goal.returns-in_err-connect
returns-in_err-connect g c =
    went_on _ _ _ _ _ _ _ _ (c.settle.ensures, refl) c.in_ok-settings.was
    (went_on _ _ _ _ _ _ _ _ (c.attach.ensures, refl) c.in_ok-attach.was
    (went_on _ _ _ _ _ _ _ _ (rw c.most.ensures.value at c.recover.ensures, refl) c.in_ok-book.was
    (went_on _ _ _ _ _ _ _ _ (c.new_report.ensures.new, c.new_report.ensures.none, refl) c.in_ok-report.was
    (ended _ _ _ _ _ _ _ (c.connect.ensures, refl) c.in_err-connect.was (search rules)))))

pub returns : goal.returns
returns g c =
    let has = c.in_ok-book.ensures.to_write in
    let stands = subst (λ (book : Book). BookStandsFor book has.0) (sym c.new-session.ensures.book) has.1.stands_for in
    let e = c.round-end.ensures in
    went_on _ _ _ _ _ _ _ _ (c.settle.ensures, refl) c.in_ok-settings.was
    (went_on _ _ _ _ _ _ _ _ (c.attach.ensures, refl) c.in_ok-attach.was
    (went_on _ _ _ _ _ _ _ _ (rw c.most.ensures.value at c.recover.ensures, refl) c.in_ok-book.was
    (went_on _ _ _ _ _ _ _ _ (c.new_report.ensures.new, c.new_report.ensures.none, refl) c.in_ok-report.was
    (went_on _ _ _ _ _ _ _ _ (c.connect.ensures, refl) c.in_ok-connect.was (record {
      rows = has.0;
      stands = has.1;
      began = c.new-session.result;
      ended = c.round-end.new.self;
      end = c.round-end.result;
      report = c.round-end.new.report;
      book_is = c.new-session.ensures.book;
      settings_are = c.new-session.ensures.settings;
      serves = e.serves has.0 stands;
      before = e.before ∙ stands.held_is;
      after = e.after;
      answers = e.answers;
      leaves = e.leaves;
      given = c.round_text.ensures;
      alone = refl;
    })))))
