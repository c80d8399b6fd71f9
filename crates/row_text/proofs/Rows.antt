-- The row of a line, by the parts that were read of it.
use Rattle.std.proofs.Common.{◌≡◌, ℕ, ◌<◌, ◌-◌, List, length, take, drop, Some, None, Err, refl, arith, codes}
use Rattle.std.proofs.lemmas.List.{length-take, length-drop, take_all}
use Rattle.station_base.specs.CivilMinute.{CivilMinute}
use Rattle.station_base.specs.Stamp.{stamp_of_text}
use Rattle.station_base.proofs.StampTexts.{stamp_of_text-other}
use Rattle.row_text.specs.declared.fault.RowFault.TheVariants.{NoStamp, NoPeriod}
use Rattle.row_text.specs.Words.{behind, first_word, behind_word}
use Rattle.row_text.specs.Numbers.{period_of_text}
use Rattle.row_text.specs.RowOfLine.{row_behind_period, row_of_line}

-- all that stands behind so many bytes
pub rest_whole : (n : ℕ) (text : List ℕ) → take (length text - n) (drop n text) ≡ drop n text
rest_whole n text = take_all (length text - n) (drop n text) (omega (arith, length-drop n text))

module _ (line text : List ℕ) (begun : behind (codes "row ") line ≡ Some text) where
  -- a text that is too short for a stamp
  pub line_short : length text < 16 → row_of_line line ≡ Err NoStamp
  unfolding row_of_line
  line_short short =
      let none : stamp_of_text (take 16 text) ≡ None = stamp_of_text-other (take 16 text) (λ long. absurd (omega (arith, length-take 16 text))) in
      rw (begun, none) refl

  module _ (stamp : CivilMinute) (more : List ℕ) (stamped : stamp_of_text (take 16 text) ≡ Some stamp) (blank : behind (codes " ") (drop 16 text) ≡ Some more) where
    -- a word that is no period
    pub line_no_period : period_of_text (first_word more) ≡ None → row_of_line line ≡ Err NoPeriod
    unfolding row_of_line
    line_no_period none = rw (begun, stamped, blank, none) refl

    -- a line whose parts before the fields are read
    pub line_parts : (interval : ℕ) → period_of_text (first_word more) ≡ Some interval → row_of_line line ≡ row_behind_period stamp interval (behind_word more)
    unfolding row_of_line
    line_parts interval period = rw (begun, stamped, blank, period) refl
