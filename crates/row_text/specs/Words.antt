-- The words of a line.
use Rattle.std.specs.Prelude.{ℕ, ◌==◌, Bool, if◌then◌else◌, List, length, take, drop, bytes_eq, Some, None}
use Rattle.std.specs.List.{position_or_len}
use Rattle.std.specs.declared.option.Option.{Option}

-- what stands behind these bytes, if the text begins with them
abbrev pub behind : List ℕ → List ℕ → Option (List ℕ)
behind start text = if bytes_eq (take (length start) text) start then Some (drop (length start) text) else None

-- the byte that stands between words
abbrev pub is_blank : ℕ → Bool
is_blank byte = byte == 32

-- the bytes before the first blank, or all
abbrev pub first_word : List ℕ → List ℕ
first_word text = take (position_or_len is_blank text) text

-- the first blank and what stands behind it
abbrev pub behind_word : List ℕ → List ℕ
behind_word text = drop (position_or_len is_blank text) text
