-- What the judging of a page tells.
use Rattle.std.specs.Prelude.{◌≡◌, ℕ, true, false, List, slice_index}
use Rattle.dmpaft_pump.specs.declared.page_judge.Judged.{Judged}
use Rattle.dmpaft_pump.specs.declared.page_judge.Judged.TheVariants as judged
use Rattle.dmpaft_pump.specs.Page.{is_page_for, is_ahead, next_said}

-- what bytes are to one who asked for page k
abbrev pub JudgesPage : ℕ → List ℕ → Judged → Type 0
JudgesPage k bytes (judged.This page) = (is_page_for k bytes ≡ true) × (page ≡ bytes)
JudgesPage k bytes (judged.Ahead sequence) = (is_page_for k bytes ≡ false) × (is_ahead k bytes ≡ true)
    × (sequence ≡ slice_index bytes 0)
JudgesPage k bytes (judged.Again next) = (is_page_for k bytes ≡ false) × (is_ahead k bytes ≡ false)
    × (next ≡ next_said k bytes)
