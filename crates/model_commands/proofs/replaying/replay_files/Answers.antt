use Rattle.std.proofs.Common.{refl, rules}
use Rattle.run_output.proofs.Behind.{ended, went_on}
use Rattle.model_commands.proofs.replaying.replay_files.Goals as goal

pub returns-in_err-settings : goal.returns-in_err-settings
returns-in_err-settings g c = ended _ _ _ _ _ _ _ (c.settle.ensures, refl) c.in_err-settings.was (search rules)

pub returns-in_err-schedule : goal.returns-in_err-schedule
returns-in_err-schedule g c =
    went_on _ _ _ _ _ _ _ _ (c.settle.ensures, refl) c.in_ok-settings.was
    (ended _ _ _ _ _ _ _ (rw c.period.ensures at c.read_schedule.ensures.reads, refl) c.in_err-schedule.was (search rules))

pub returns : goal.returns
returns g c =
    went_on _ _ _ _ _ _ _ _ (c.settle.ensures, refl) c.in_ok-settings.was
    (went_on _ _ _ _ _ _ _ _ (rw c.period.ensures at c.read_schedule.ensures.reads, refl) c.in_ok-schedule.was
    (c.replay_anew.ensures, refl))
