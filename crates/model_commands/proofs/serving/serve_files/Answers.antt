use Rattle.std.proofs.Common.{refl, rules}
use Rattle.run_output.proofs.Behind.{ended, went_on}
use Rattle.model_commands.proofs.serving.serve_files.Goals as goal

pub returns-in_err-settings : goal.returns-in_err-settings
returns-in_err-settings g c = ended _ _ _ _ _ _ _ (c.settle.ensures, refl) c.in_err-settings.was (search rules)

pub returns-in_err-schedule : goal.returns-in_err-schedule
returns-in_err-schedule g c =
    went_on _ _ _ _ _ _ _ _ (c.settle.ensures, refl) c.in_ok-settings.was
    (ended _ _ _ _ _ _ _ (rw c.period.ensures at c.read_schedule.ensures.reads, refl) c.in_err-schedule.was (search rules))

pub returns-in_err-console : goal.returns-in_err-console
returns-in_err-console g c =
    went_on _ _ _ _ _ _ _ _ (c.settle.ensures, refl) c.in_ok-settings.was
    (went_on _ _ _ _ _ _ _ _ (rw c.period.ensures at c.read_schedule.ensures.reads, refl) c.in_ok-schedule.was
    (ended _ _ _ _ _ _ _ (c.ready_console.ensures.ready, c.ready_console.ensures.none, refl) c.in_err-console.was (search rules)))

pub returns-in_err-connect : goal.returns-in_err-connect
returns-in_err-connect g c =
    went_on _ _ _ _ _ _ _ _ (c.settle.ensures, refl) c.in_ok-settings.was
    (went_on _ _ _ _ _ _ _ _ (rw c.period.ensures at c.read_schedule.ensures.reads, refl) c.in_ok-schedule.was
    (went_on _ _ _ _ _ _ _ _ (c.ready_console.ensures.ready, c.ready_console.ensures.none, refl) c.in_ok-console.was
    (ended _ _ _ _ _ _ _ (c.connect.ensures, refl) c.in_err-connect.was (search rules))))

pub returns : goal.returns
returns g c =
    went_on _ _ _ _ _ _ _ _ (c.settle.ensures, refl) c.in_ok-settings.was
    (went_on _ _ _ _ _ _ _ _ (rw c.period.ensures at c.read_schedule.ensures.reads, refl) c.in_ok-schedule.was
    (went_on _ _ _ _ _ _ _ _ (c.ready_console.ensures.ready, c.ready_console.ensures.none, refl) c.in_ok-console.was
    (went_on _ _ _ _ _ _ _ _ (c.connect.ensures, refl) c.in_ok-connect.was (c.serve_console.ensures, refl))))
