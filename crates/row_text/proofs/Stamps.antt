-- The minute that a text names.
use Rattle.std.proofs.Common.{◌≡◌, ℕ, ◌&&◌, List, Some, bytes_eq, refl, sym, ap, ◌∙◌, subst, ◌++◌, length, append_assoc}
use Rattle.std.specs.Prelude.{codes}
use Rattle.std.proofs.lemmas.Bool.{and_parts}
use Rattle.std.proofs.lemmas.Option.{cond_some}
use Rattle.std.proofs.lemmas.Slice.Eq.{bytes_eq-Decides}
use Rattle.station_base.specs.CivilMinute.{CivilMinute, IsCivilMinute, is_civil_minute}
use Rattle.station_base.specs.Stamp.{spelled_in, stamp_of_text, stamp_text}
use Rattle.station_base.proofs.Civil.{test_tells}
use Rattle.row_text.specs.RowOfLine.{stamp_size}

-- the text is that of the minute that it names, and the calendar has it
pub stamp_is : (text : List ℕ) (c : CivilMinute) → stamp_of_text text ≡ Some c → (stamp_text c ≡ text) × IsCivilMinute c
unfolding stamp_of_text
stamp_is text c read =
    let (both, same) = cond_some (is_civil_minute (spelled_in text) && bytes_eq (stamp_text (spelled_in text)) text) (spelled_in text) c read in
    let (civil, equal) = and_parts (is_civil_minute (spelled_in text)) (bytes_eq (stamp_text (spelled_in text)) text) both in
    let P : CivilMinute → Type 0 = IsCivilMinute in
    (ap stamp_text (sym same) ∙ (bytes_eq-Decides (stamp_text (spelled_in text)) text).0 equal, subst P same (test_tells (spelled_in text) civil))

-- it has sixteen bytes
pub length-stamp_text : (c : CivilMinute) → length (stamp_text c) ≡ stamp_size
unfolding stamp_text
length-stamp_text c = refl

-- the parts of a line, put together
pub line_regrouped : (stamp period fields : List ℕ) → (codes "row " ++ (stamp ++ (codes " " ++ (period ++ fields)))) ++ codes "\n" ≡ codes "row " ++ stamp ++ codes " " ++ period ++ fields ++ codes "\n"
line_regrouped stamp period fields = simp append_assoc
