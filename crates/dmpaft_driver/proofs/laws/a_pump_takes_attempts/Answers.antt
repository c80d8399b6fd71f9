use Rattle.dmpaft_driver.proofs.OneTrial.{one_trial}
use Rattle.dmpaft_driver.proofs.Stuck.{stuck}
use Rattle.dmpaft_driver.proofs.Exactly.{sound, complete}
use Rattle.dmpaft_driver.proofs.laws.a_pump_takes_attempts.Goals as goal

pub returns-clause-sound : goal.returns-clause-sound
returns-clause-sound c = λ after. sound after

pub returns-clause-complete : goal.returns-clause-complete
returns-clause-complete c = λ after. complete after

pub returns-clause-stuck : goal.returns-clause-stuck
returns-clause-stuck c = λ after. stuck after

pub returns-clause-trial : goal.returns-clause-trial
returns-clause-trial c = λ after. one_trial after
