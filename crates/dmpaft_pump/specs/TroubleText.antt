-- What a failed attempt met, in words. (This project's texts.)
use Rattle.std.specs.Prelude.{ℕ, List, ◌++◌, codes, Option, Some, None}
use Rattle.station_base.specs.NumberText.{number_text}
use Rattle.dmpaft_pump.specs.declared.outcome.Trouble.{Trouble}
use Rattle.dmpaft_pump.specs.declared.outcome.Trouble.TheVariants.{Asleep, NoAck, ShortHeader, NoHeaderAck}
use Rattle.dmpaft_pump.specs.declared.outcome.Trouble.TheVariants.{HeaderCheck, HeaderNumbers, PageLost, PageAhead}

-- a byte as a number, or `-` where none came
abbrev pub heard_byte_text : Option ℕ → List ℕ
heard_byte_text (Some byte) = number_text byte
heard_byte_text None = codes "-"

-- the words of a trouble, with no line feed
abbrev pub trouble_text : Trouble → List ℕ
trouble_text Asleep = codes "asleep"
trouble_text (NoAck byte) = codes "no ack " ++ heard_byte_text byte
trouble_text (ShortHeader count) = codes "short header " ++ number_text count
trouble_text (NoHeaderAck byte) = codes "no header ack " ++ number_text byte
trouble_text HeaderCheck = codes "bad header check"
trouble_text (HeaderNumbers pages place) =
    codes "bad header numbers " ++ number_text pages ++ codes " " ++ number_text place
trouble_text (PageLost page) = codes "page " ++ number_text page ++ codes " lost"
trouble_text (PageAhead page sequence) = codes "page " ++ number_text page ++ codes " ahead " ++ number_text sequence
