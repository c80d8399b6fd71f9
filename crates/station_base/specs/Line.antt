-- A line that is written from its front on.
use Rattle.std.specs.Prelude.{ℕ, List, take}
use Rattle.station_base.specs.declared.line.Line.{Line}

-- the bytes so far
abbrev pub line_so_far : Line → List ℕ
line_so_far line = take line.end line.bytes
