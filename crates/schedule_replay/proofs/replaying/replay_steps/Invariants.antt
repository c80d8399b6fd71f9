use Rattle.std.proofs.Common.{◌≡◌, ℕ, List}
use Rattle.loop_packet.specs.declared.packet.LoopPacket.{LoopPacket}
use Rattle.replay_laws.specs.Replay.{Item, start}
use Rattle.schedule_replay.specs.Replaying.{Replaying, run_turns_left}
use Rattle.schedule_replay.specs.Standing.{LineAt}
use Rattle.schedule_replay.proofs.replaying.replay_steps.Given as goal

abbrev pub invariant-turns : goal.invariant-turns
invariant-turns g l = record {
  settings : l.run.settings ≡ l.settings;
  so_far : (eeprom : List ℕ) (packet : LoopPacket) → LineAt (start eeprom packet) l.initial.line
      → (items : List Item) × g.T.Teller.telling.tells l.initial.teller items l.teller × Replaying eeprom packet l.steps items l.initial.line l.line l.initial.disk l.disk l.run;
  still : g.T.Teller.telling.faults l.teller ≡ g.T.Teller.telling.faults l.initial.teller;
}

abbrev pub decreases-turns : goal.decreases-turns
decreases-turns g l = run_turns_left l.steps l.run
