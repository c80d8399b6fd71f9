use Rattle.replay_laws.proofs.Example.{sound_fates}
use Rattle.replay_laws.proofs.Minutes.{new_calm, new_sound}
use Rattle.replay_laws.proofs.premise_laws.a_new_line_is_calm.Goals as goal

pub returns-clause-line : goal.returns-clause-line
returns-clause-line c = λ eeprom packet. (new_calm eeprom packet, new_sound eeprom packet)

pub returns-clause-fates : goal.returns-clause-fates
returns-clause-fates c = sound_fates
