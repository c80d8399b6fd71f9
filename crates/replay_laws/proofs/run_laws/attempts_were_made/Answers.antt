use Rattle.std.proofs.Common.{inl, inr}
use Rattle.replay_laws.specs.Acknowledged.{WereMade}
use Rattle.replay_laws.proofs.Acknowledged.{round_was_made}
use Rattle.replay_laws.proofs.EachRound.{in_begun, in_replay}
use Rattle.replay_laws.proofs.run_laws.attempts_were_made.Goals as goal

pub returns : goal.returns
returns c = λ settings s steps o how. elim how [
  | inl replay ↦ in_replay settings (WereMade settings) (round_was_made settings) s steps o replay
  | inr begun ↦ in_begun settings (WereMade settings) (round_was_made settings) s steps o begun
]
