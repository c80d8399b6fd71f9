-- Turns of the service, one by one.
use Rattle.std.proofs.Common.{ℕ, ◌≡◌, ◌≢◌, ◌+◌, ◌≤◌, List, [], ◌∷◌, ◌++◌, inl, refl, arith}
use Rattle.serial_link.specs.declared.talk.TalkItem.{TalkItem}
use Rattle.serial_link.specs.declared.talk.TalkItem.TheVariants.{Quiet}
use Rattle.serial_link.proofs.TurnsTaken.{one_turn, turns_and_one, breaks_unheard, breaks_first, breaks_then}
use Rattle.station_base.specs.declared.row.Row.{Row}
use Rattle.wake_retry.specs.Bounds.{said}
use Rattle.wake_retry.specs.Parts.{heard}
use Rattle.query_service.specs.AnsweredLines.{AnswersLines}
use Rattle.query_service.specs.Lines.{lines_after, rest_after}
use Rattle.query_service.specs.Talk.{only_none}
use Rattle.query_service.specs.TurnByTurn.{HearsAndSays, IsTurn, TurnBreaksOff, TurnByTurn}
use Rattle.query_service.specs.declared.service.QueryEnd.{QueryEnd}
use Rattle.query_service.specs.declared.service.QueryEnd.TheVariants.{Done, LinkFault, DiskFault, OutOfMemory}

module _ (rows : List Row) where
  -- turns were taken, and then one more, by its end
  pub turns_by : (end : QueryEnd) (turns all : ℕ) (begun mid rest : List ℕ) (s t : List TalkItem) → turns + 1 ≤ all
      → (end ≡ Done → all ≡ turns + 1) → TurnByTurn Done rows turns begun s mid → TurnByTurn end rows 1 mid t rest
      → TurnByTurn end rows all begun (s ++ t) rest
  turns_by Done turns all begun mid rest s t within whole taken one =
      turns_and_one (IsTurn rows) turns all begun mid rest s t (whole refl) taken one
  turns_by LinkFault turns all begun mid rest s t within whole taken one =
      breaks_then (IsTurn rows) (TurnBreaksOff rows) turns all begun mid s t (omega (arith, within)) taken one
  turns_by DiskFault turns all begun mid rest s t within whole taken one =
      breaks_then (IsTurn rows) (TurnBreaksOff rows) turns all begun mid s t (omega (arith, within)) taken one
  turns_by OutOfMemory turns all begun mid rest s t within whole taken one =
      breaks_then (IsTurn rows) (TurnBreaksOff rows) turns all begun mid s t (omega (arith, within)) taken one

  -- a turn in which nothing was heard
  pub turn_unheard : (end : QueryEnd) (begun rest : List ℕ) → end ≢ Done → TurnByTurn end rows 1 begun [] rest
  turn_unheard Done begun rest broke = absurd (broke refl)
  turn_unheard LinkFault begun rest broke = breaks_unheard (IsTurn rows) (TurnBreaksOff rows) 1 begun (omega arith)
  turn_unheard DiskFault begun rest broke = breaks_unheard (IsTurn rows) (TurnBreaksOff rows) 1 begun (omega arith)
  turn_unheard OutOfMemory begun rest broke = breaks_unheard (IsTurn rows) (TurnBreaksOff rows) 1 begun (omega arith)

  -- a turn in which a wait passed
  pub turn_waited : (begun : List ℕ) → TurnByTurn Done rows 1 begun (Quiet ∷ []) begun
  turn_waited begun = one_turn (IsTurn rows) begun begun (Quiet ∷ []) (record {
    talk = record {
      received = Quiet ∷ [];
      answered = [];
      whole = refl;
      receives = inl refl;
      only_says = only_none;
    };
    answers = refl;
    rest_is = refl;
  })

  -- a turn in which bytes were heard, by how the answers to them ended
  pub turn_heard : (end : QueryEnd) (begun bytes : List ℕ) (a b : ℕ) (t : List TalkItem) (talk : HearsAndSays t)
      → heard talk.received ≡ bytes → AnswersLines end rows (lines_after begun bytes) (said talk.answered) a b
      → TurnByTurn end rows 1 begun t (rest_after begun bytes)
  turn_heard Done begun bytes a b t talk came answers = one_turn (IsTurn rows) begun (rest_after begun bytes) t (record {
    talk = talk;
    answers = rw came answers.0;
    rest_is = rw came refl;
  })
  turn_heard LinkFault begun bytes a b t talk came answers = breaks_first (IsTurn rows) (TurnBreaksOff rows) 1 begun t (omega arith)
      (record { talk = talk; before = a; after = b; breaks = rw came answers })
  turn_heard DiskFault begun bytes a b t talk came answers = breaks_first (IsTurn rows) (TurnBreaksOff rows) 1 begun t (omega arith)
      (record { talk = talk; before = a; after = b; breaks = rw came answers })
  turn_heard OutOfMemory begun bytes a b t talk came answers = breaks_first (IsTurn rows) (TurnBreaksOff rows) 1 begun t (omega arith)
      (record { talk = talk; before = a; after = b; breaks = rw came answers })
