use Rattle.std.proofs.Common.{ap, subst, ◌∙◌, ◌∷◌, ◌++◌}
use Rattle.replay_laws.specs.Acknowledged.{AllRounds, KeepsAcknowledged}
use Rattle.replay_laws.specs.Replay.{Item}
use Rattle.replay_laws.proofs.Acknowledged.{round_keeps}
use Rattle.replay_laws.proofs.EachRound.{in_replay}
use Rattle.promise_laws.proofs.Found.{refused}
use Rattle.promise_laws.proofs.RefusedRounds.{round_refused, round_at, none_dropped, none_said}
use Rattle.promise_laws.specs.Places.{past_behind}
use Rattle.promise_laws.specs.Rounds.{SomeRound, DropsAcknowledgedPages}
use Rattle.replay_laws.specs.Kept.{no_past}
use Rattle.promise_laws.proofs.round_laws.no_acknowledged_page_is_dropped.Goals as goal

pub returns-clause-counted : goal.returns-clause-counted
returns-clause-counted c = λ settings records. refused settings records (SomeRound (DropsAcknowledgedPages settings records))
    (round_refused settings records (DropsAcknowledgedPages settings records) (none_dropped settings records))

pub returns-clause-said : goal.returns-clause-said
returns-clause-said c = λ settings s steps items some replay.
    let (round, is, drops) = some.it_has in
    let all = subst (AllRounds (KeepsAcknowledged settings)) (some.place ∙ ap (λ (item : Item). some.before ++ item ∷ some.after) is) (in_replay settings (KeepsAcknowledged settings) (round_keeps settings) s steps items replay) in
    none_said settings (past_behind no_past some.before) round drops (round_at (KeepsAcknowledged settings) some.before round some.after all)
