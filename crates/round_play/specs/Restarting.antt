-- A disk that is armed for a round, and made to rest behind it.
use Rattle.std.specs.Prelude.{◌≡◌, ℕ, List, length, Some, None}
use Rattle.std.specs.declared.option.Option.{Option}
use Rattle.disk_model.specs.Disk.{IsDurable, LeavesNow, Stays}
use Rattle.disk_model.specs.StoppingState.{StoppingState, begun_again}
use Rattle.disk_model.specs.Stopping.{stopping_medium, stopping_state_of}
use Rattle.disk_model.specs.declared.mem_disk.MemDisk.{MemDisk}
use Rattle.disk_model.specs.declared.stopping.Stopping.{Stopping}
use Rattle.schedule_file.specs.declared.schedule.step.Stop.{Stop}
use Rattle.replay_laws.specs.Stopped.{IsRestart}

-- the state with the stop armed, if one is set
abbrev pub armed_with : Option Stop → StoppingState → StoppingState
armed_with None s = s
armed_with (Some stop) s = record s { armed = stop.change; pick = stop.pick }

-- A disk that did not stop is as it was, with no stop armed.
pub record IsDisarmed (old new : Stopping MemDisk) : Type 0 where
  pub state : stopping_state_of new ≡ record (stopping_state_of old) { armed = 0 }
  pub stays : Stays stopping_medium old new

-- A disk that stopped begins again from the image that its pick takes: it reads so, and a crash leaves just that.
pub record IsBegunAgain (old new : Stopping MemDisk) : Type 0 where
  pub image : List ℕ
  pub seen : stopping_medium.seen new ≡ Some image
  pub restart : IsRestart (stopping_state_of old) (stopping_medium.synced old) image
  pub left : LeavesNow stopping_medium old image
  pub durable : IsDurable stopping_medium new
  pub moment : stopping_medium.moment new ≡ stopping_medium.moment old
  pub state : stopping_state_of new ≡ begun_again (length image) (stopping_state_of old)
