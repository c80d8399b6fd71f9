use Rattle.std.proofs.Common.{inl, refl, arith}
use Rattle.schedule_replay.proofs.Ahead.{few_to_open}
use Rattle.schedule_replay.proofs.StepsSoFar.{so_far_first}
use Rattle.schedule_replay.proofs.turns.ReplayRun.new.Goals as goal

pub returns : goal.returns
returns c = record {
  settings = refl;
  is_new = record { turns = refl; taken = refl; no_round = refl; closed = c.new.ensures.session };
  begins = λ steps eeprom packet line disk accepted at new. record {
    accepted = accepted;
    room = new.room;
    few = omega (arith, accepted.few_lines, few_to_open c.new.result.session);
    stands = inl (so_far_first c.args.settings.now eeprom packet steps line disk c.new.result c.new.ensures.session c.new.ensures.rounds c.new.ensures.written at new.rests);
  };
  left = λ steps accepted long. omega (arith, accepted.few_lines, long, few_to_open c.new.result.session);
}
