use Rattle.std.proofs.Common.{ℕ, List, subst, IfOk}
use Rattle.replay_laws.specs.Replay.{start}
use Rattle.schedule_replay.specs.Standing.{LineAt}
use Rattle.schedule_replay.proofs.NewLine.{begins_line}
use Rattle.schedule_replay.proofs.making.new_line.Goals as goal

pub returns : goal.returns
returns c =
    subst (λ (eeprom : List ℕ). IfOk c.new-3.result (λ line. LineAt (start eeprom c.args.packet) line)) c.in_ok-eeprom.ensures
    (begins_line c.in_ok-eeprom.eeprom c.args.packet c.in_ok-console.console c.new-3.result c.in_ok-console.ensures c.new-3.ensures.stands c.new-3.ensures.fates)
