-- The frame that says after which stamp a dump begins.
use Rattle.std.specs.Prelude.{ℕ, Some, None, List}
use Rattle.std.specs.declared.option.Option.{Option}
use Rattle.station_base.specs.CivilMinute.{CivilMinute}
use Rattle.station_base.specs.Stamp.{date_word_of, time_word_of}
use Rattle.vantage_frames.specs.Words.{frame_of_words}

-- the date word, or 0 where all records are asked for
abbrev pub date_asked : Option CivilMinute → ℕ
date_asked None = 0
date_asked (Some minute) = date_word_of minute

-- the time word, or 0 where all records are asked for
abbrev pub time_asked : Option CivilMinute → ℕ
time_asked None = 0
time_asked (Some minute) = time_word_of minute

-- the date word, and then the time word (Davis serial manual, "Download Protocol")
abbrev pub stamp_frame_of : Option CivilMinute → List ℕ
stamp_frame_of after = frame_of_words (date_asked after) (time_asked after)
