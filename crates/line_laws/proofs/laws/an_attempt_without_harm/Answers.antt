use Rattle.vantage_frames.specs.StampFrame.{stamp_frame_of}
use Rattle.line_laws.proofs.Headers.{frame_good}
use Rattle.line_laws.proofs.WholeAttempts.{clean_law}
use Rattle.line_laws.proofs.laws.an_attempt_without_harm.Goals as goal
use Rattle.dmpaft_driver.proofs.AttemptBounds.{frame_long}

pub returns : goal.returns
returns c f ok after talk place taken end w v sound calm at e h =
    clean_law (stamp_frame_of after) (frame_good after) f ok talk place taken end w v (frame_long after) sound calm at e h
