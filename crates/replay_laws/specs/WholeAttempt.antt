-- A whole attempt over a line on which every message comes as it was sent.
use Rattle.std.specs.Prelude.{◌≡◌, ℕ, List, None}
use Rattle.std.specs.declared.option.Option.{Option}
use Rattle.station_base.specs.CivilMinute.{CivilMinute}
use Rattle.serial_link.specs.declared.talk.TalkItem.{TalkItem}
use Rattle.vantage_frames.specs.StampFrame.{stamp_frame_of}
use Rattle.dmpaft_driver.specs.Attempt.{Attempt, End}
use Rattle.station_sim.specs.Line.{Line}
use Rattle.schedule_file.specs.Lists.{no_fates}
use Rattle.station_sim.specs.Talk.{ConsoleTalk}

-- What is said and heard in it, the place in the header, the pages taken, and the line after it.
pub record WholeAttempt (after : Option CivilMinute) (w : Line) : Type 0 where
  pub talk : List TalkItem
  pub place : ℕ
  pub taken : List (List ℕ)
  pub line : Line
  pub attempt : Attempt (stamp_frame_of after) talk place taken End.Whole
  pub goes : ConsoleTalk no_fates talk w line
  pub harmed : line.harmed ≡ w.harmed
  pub unseen : line.unseen ≡ None
