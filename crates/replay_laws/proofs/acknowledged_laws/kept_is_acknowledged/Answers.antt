use Rattle.std.proofs.Common.{inl, inr}
use Rattle.replay_laws.specs.Acknowledged.{KeepsAcknowledged, KeepsJustAcknowledged}
use Rattle.replay_laws.proofs.Acknowledged.{attempt_keeps_just, round_keeps, round_keeps_just, takes_one_more}
use Rattle.replay_laws.proofs.EachRound.{in_begun, in_replay}
use Rattle.replay_laws.proofs.GatheredPages.{pages_gathered}
use Rattle.replay_laws.proofs.acknowledged_laws.kept_is_acknowledged.Goals as goal

pub returns-clause-runs : goal.returns-clause-runs
returns-clause-runs c = λ settings s steps o how. elim how [
  | inl replay ↦ in_replay settings (KeepsJustAcknowledged settings) (round_keeps_just settings) s steps o replay
  | inr begun ↦ in_begun settings (KeepsJustAcknowledged settings) (round_keeps_just settings) s steps o begun
]

pub returns-clause-rounds : goal.returns-clause-rounds
returns-clause-rounds c = λ settings s steps o how. elim how [
  | inl replay ↦ in_replay settings (KeepsAcknowledged settings) (round_keeps settings) s steps o replay
  | inr begun ↦ in_begun settings (KeepsAcknowledged settings) (round_keeps settings) s steps o begun
]

pub returns-clause-demanded : goal.returns-clause-demanded
returns-clause-demanded c = pages_gathered

pub returns-clause-attempts : goal.returns-clause-attempts
returns-clause-attempts c = attempt_keeps_just

pub returns-clause-one_more : goal.returns-clause-one_more
returns-clause-one_more c = takes_one_more
