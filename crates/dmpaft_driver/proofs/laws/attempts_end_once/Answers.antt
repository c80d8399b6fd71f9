use Rattle.dmpaft_driver.proofs.HeardPages.{taken_were_heard}
use Rattle.dmpaft_driver.proofs.AcknowledgedPages.{one_attempt, one_front, acknowledged_are_kept, taken_are_acknowledged}
use Rattle.dmpaft_driver.proofs.laws.attempts_end_once.Goals as goal

pub returns-clause-whole : goal.returns-clause-whole
returns-clause-whole c = one_attempt

pub returns-clause-front : goal.returns-clause-front
returns-clause-front c = one_front

pub returns-clause-kept : goal.returns-clause-kept
returns-clause-kept c = acknowledged_are_kept

pub returns-clause-acknowledged : goal.returns-clause-acknowledged
returns-clause-acknowledged c = taken_are_acknowledged

pub returns-clause-heard : goal.returns-clause-heard
returns-clause-heard c = taken_were_heard
