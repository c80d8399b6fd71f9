use Rattle.replay_laws.proofs.Unsaid.{broken_names, round_none}
use Rattle.replay_laws.proofs.unseen_laws.unseen_rounds.Goals as goal

pub returns : goal.returns
returns c = record {
  named = λ settings f stop s i broken. broken_names settings f stop s i broken;
  none = λ settings f left stop s u r round which. round_none settings f stop left s u r round which;
}
