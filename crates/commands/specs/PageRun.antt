-- What a run does that prints the pages of a file: which files it reads, in which order, and what is written.
use Rattle.std.specs.Prelude.{ℕ, List}
use Rattle.run_output.specs.Ended.{Lines}
use Rattle.run_output.specs.Outside.{Meanings, over_files, over_out}
use Rattle.run_output.specs.Reading.{reads, settles}
use Rattle.run_output.specs.Steps.{CommandStep, then}
use Rattle.run_output.specs.Streams.{streams}
use Rattle.run_output.specs.declared.outside.Outside.{Outside}
use Rattle.commands.specs.Listing.{listing}
use Rattle.commands.specs.Style.{RowStyle, corrected}

-- The file is read, and its listing is written.
abbrev pub prints_file : {F K L D : Type 0} → Meanings F K L D → RowStyle → List ℕ → CommandStep (Outside F K L D) Lines
prints_file m style name =
    then (over_files (reads m.shelf name)) (λ file.
    over_out (streams m.outlet (listing style file.items)))

-- The settings are read and judged, before the file is.
abbrev pub prints_corrected : {F K L D : Type 0} → Meanings F K L D → List ℕ → List ℕ
    → CommandStep (Outside F K L D) Lines
prints_corrected m settings name =
    then (over_files (settles m.shelf settings)) (λ settings.
    prints_file m (corrected settings) name)
