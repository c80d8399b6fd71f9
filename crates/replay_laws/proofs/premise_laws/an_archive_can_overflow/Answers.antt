use Rattle.replay_laws.proofs.Minutes.{minutes_schedule, minutes_kept, minutes_plan, filled_history, filled_calm, filled_sound}
use Rattle.replay_laws.proofs.premise_laws.an_archive_can_overflow.Goals as goal

pub returns-clause-schedule : goal.returns-clause-schedule
returns-clause-schedule c = minutes_schedule

pub returns-clause-put : goal.returns-clause-put
returns-clause-put c = λ count small eeprom packet. (filled_history count eeprom packet small, filled_calm count eeprom packet small, filled_sound count eeprom packet small)

pub returns-clause-held : goal.returns-clause-held
returns-clause-held c = minutes_kept

pub returns-clause-plan : goal.returns-clause-plan
returns-clause-plan c = minutes_plan
