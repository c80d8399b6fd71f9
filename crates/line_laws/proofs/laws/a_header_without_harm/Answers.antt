use Rattle.std.proofs.Common.{[], subst}
use Rattle.console_model.specs.Console.{Console}
use Rattle.console_model.specs.Laws.{records_of}
use Rattle.station_sim.specs.Sound.{AreRecords}
use Rattle.station_sim.proofs.SoundLines.{records_front}
use Rattle.vantage_frames.specs.StampFrame.{stamp_frame_of}
use Rattle.line_laws.proofs.Headers.{frame_good}
use Rattle.line_laws.proofs.WholeAttempts.{header_law}
use Rattle.line_laws.proofs.laws.a_header_without_harm.Goals as goal
use Rattle.dmpaft_driver.proofs.AttemptBounds.{frame_long}

pub returns : goal.returns
returns c f ok after t w u v a sound awaits e h =
    let records : AreRecords a.history = records_front a.history [] (subst (λ (c : Console). AreRecords (records_of c)) a.console sound.records) in
    header_law (stamp_frame_of after) (frame_good after) f ok t w u v (frame_long after) a records awaits e h
