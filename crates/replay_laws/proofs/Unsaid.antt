-- The talk of a round's attempts, and what is unseen in it.
use Rattle.std.proofs.Common.{◌≡◌, ℕ, ◌+◌, inl, inr, List, [], ◌∷◌, Option, Some, refl, sym, ◌∙◌, ap}
use Rattle.settings_file.specs.StationSettings.{StationSettings}
use Rattle.station_session.specs.Attempts.{all_said}
use Rattle.station_sim.specs.declared.unseen.Unseen.{Unseen}
use Rattle.schedule_file.specs.Fates.{FatesByNumber}
use Rattle.station_sim.specs.Joining.{talks_join}
use Rattle.station_sim.specs.Line.{Line}
use Rattle.station_sim.specs.Talk.{ConsoleTalk, console_talk, started}
use Rattle.station_sim.specs.UnseenTalk.{HasUnseen}
use Rattle.station_sim.proofs.UnseenTalk.{talk_names, talk_none}
use Rattle.replay_laws.specs.Keeping.{Archive}
use Rattle.replay_laws.specs.Replay.{IsUnseenRound, IsRound, Item, Rounded, Stage}
use Rattle.replay_laws.specs.Round.{made_attempts}
use Rattle.replay_laws.proofs.Bridge.{round_talk}
use Rattle.schedule_file.specs.declared.schedule.step.Stop.{Stop}

module _ (settings : StationSettings) (f : FatesByNumber) (stop : Option Stop) where
  -- a round that an unseen delivery broke names one of its own
  pub broken_names : (s : Stage) (i : Item) → (broken : IsUnseenRound settings f stop s i) → HasUnseen f (all_said broken.tried) (started s.line) broken.which
  broken_names s i broken = talk_names f (all_said broken.tried) (started s.line) broken.line broken.which refl broken.talks broken.unseen

  -- and another round has none
  pub round_none : (left : ℕ → List (List ℕ)) (s u : Stage) (r : Rounded) → IsRound settings f left stop s r u → (which : Unseen) → ¬ (HasUnseen f (all_said (made_attempts r.tried)) (started s.line) which)
  round_none left s u r round =
      talk_none f (all_said (made_attempts r.tried)) (started s.line) round.line (round_talk settings f stop left s u r round) round.seen
