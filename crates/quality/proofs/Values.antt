-- The values of a row, one after another.
use Rattle.std.proofs.Common.{◌≡◌, ℕ, ℤ, ◌+◌, ◌<◌, List, [], ◌∷◌, ◌++◌, length, take, get_or, set, Option, None, All, length-set, length-take-le, ◌∙◌, arith, add-zero, zero-add, take_all, ◌≤◌}
use Rattle.std.proofs.lemmas.List.{take_more, take_more_set}
use Rattle.std.proofs.lemmas.List.Elements.{All-push}
use Rattle.station_base.specs.RowLine.{IsPrintable}
use Rattle.settings_file.specs.StationSettings.{StationSettings, calibration_of, limits_of}
use Rattle.station_base.specs.CivilMinute.{CivilMinute}
use Rattle.quality.specs.Corrected.{corrected_value, corrected_values}
use Rattle.station_base.specs.Fields.{field_count}

-- what becomes of a value of the field of this number
abbrev pub corrected_at : StationSettings → CivilMinute → ℕ → Option ℤ → Option ℤ
corrected_at s t field v = corrected_value (calibration_of s field t) (limits_of s field t) v

-- one more value at the end
corrected_values-append : (s : StationSettings) (t : CivilMinute) (field : ℕ) (vs : List (Option ℤ)) (v : Option ℤ)
    → corrected_values s t field (vs ++ v ∷ []) ≡ corrected_values s t field vs ++ corrected_at s t (field + length vs) v ∷ []
corrected_values-append s t field [] v = rw add-zero
corrected_values-append s t field (x ∷ vs) v =
    let place : field + 1 + length vs ≡ field + length (x ∷ vs) = omega arith in
    rw (corrected_values-append s t (field + 1) vs v, place)

-- the first values are corrected
pub record AreCorrected (s : StationSettings) (t : CivilMinute) (count : ℕ) (values corrected : List (Option ℤ)) : Type 0 where
  pub room : length corrected ≡ field_count
  pub same : take count corrected ≡ corrected_values s t 0 (take count values)
  pub printable : All IsPrintable (take count corrected)

-- and one more
pub AreCorrected-more : (s : StationSettings) (t : CivilMinute) (i : ℕ) (values corrected : List (Option ℤ)) (w : Option ℤ)
    → AreCorrected s t i values corrected → i < length values → i < field_count → w ≡ corrected_at s t i (get_or values i None) → IsPrintable w
    → AreCorrected s t (i + 1) values (set corrected i w)
AreCorrected-more s t i values corrected w so_far within below exact printable =
    let room : i < length corrected = omega (arith, so_far.room) in
    let front : take (i + 1) (set corrected i w) ≡ take i corrected ++ w ∷ [] = take_more_set corrected i w room in
    let count : length (take i values) ≡ i = length-take-le i values (omega arith) in
    let more : corrected_values s t 0 (take i values ++ get_or values i None ∷ []) ≡ corrected_values s t 0 (take i values) ++ corrected_at s t i (get_or values i None) ∷ [] =
    rw (corrected_values-append s t 0 (take i values) (get_or values i None), count, zero-add) in
    record {
      room = length-set corrected i w ∙ so_far.room;
      same = rw (front, take_more values i None within, more, ← exact, ← so_far.same);
      printable = rw front (All-push IsPrintable (take i corrected) w so_far.printable printable);
    }

-- at the end all are corrected
pub AreCorrected-all : (s : StationSettings) (t : CivilMinute) (i : ℕ) (values corrected : List (Option ℤ))
    → AreCorrected s t i values corrected → length values ≡ field_count → field_count ≤ i → corrected ≡ corrected_values s t 0 values
AreCorrected-all s t i values corrected so_far count end =
    let all : take i values ≡ values = take_all i values (omega arith) in
    let whole : take i corrected ≡ corrected = take_all i corrected (omega (arith, so_far.room)) in
    rw (all, whole) at so_far.same

pub AreCorrected-printable : (s : StationSettings) (t : CivilMinute) (i : ℕ) (values corrected : List (Option ℤ))
    → AreCorrected s t i values corrected → field_count ≤ i → All IsPrintable corrected
AreCorrected-printable s t i values corrected so_far end =
    let whole : take i corrected ≡ corrected = take_all i corrected (omega (arith, so_far.room)) in
    rw whole at so_far.printable
