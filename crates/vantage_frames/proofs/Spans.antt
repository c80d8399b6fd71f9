-- The place and the count behind the name of a command.
use Rattle.std.proofs.Common.{◌≡◌, ℕ, ◌+◌, ◌<◌, ◌≤◌, Bool, true, false, ◌&&◌, List, [], ◌∷◌, ◌++◌, take, drop, length, get_or, refl, sym, ◌∙◌, ap, subst, arith, add-one, length-append}
use Rattle.std.specs.Prelude.{Option, Some, option_and_then, nat_lt, nat_le, ◌==◌, position}
use Rattle.std.specs.Char.{digit_value}
use Rattle.std.specs.List.{position_or_len}
use Rattle.std.specs.Str.Parse.{AllDigits}
use Rattle.std.proofs.Math.Seq.{take-append_seam, drop-append-add, drop-cons}
use Rattle.std.proofs.lemmas.Bool.{and_parts, lt-ltb, le-leb, ltb-true, leb-true, ne_eqb, eqb-true}
use Rattle.std.proofs.lemmas.List.{take-append-drop}
use Rattle.std.proofs.lemmas.List.Quantifiers.{position-Some}
use Rattle.numerals.specs.Numeral.{number_in, WritesNumber}
use Rattle.vantage_frames.specs.Line.{SaysBytes}
use Rattle.numerals.specs.Then.{only_if}
use Rattle.vantage_frames.specs.LineReading.{bytes_in}
use Rattle.numerals.proofs.PassedTests.{only_if_some, bind_some}
use Rattle.numerals.proofs.Digits.{number_in_writes, number_in-writes}
use Rattle.eeprom_map.specs.Memory.{eeprom_size}

abbrev is_space : ℕ → Bool
is_space byte = byte == 32

-- no digit is a space
digit_is_no_space : (digit : ℕ) → digit_value digit < 16 → is_space digit ≡ false
digit_is_no_space digit small =
    ne_eqb digit 32 (λ same. let P : ℕ → Type 0 = λ d. digit_value d < 16 in
    let high : 36 < 16 = subst P same small in omega arith)

first_space : (digits rest : List ℕ) → AllDigits 16 digits → position_or_len is_space (digits ++ 32 ∷ rest) ≡ length digits
first_space [] rest all = refl
first_space (digit ∷ digits) rest all =
    let longer : 1 + length digits ≡ length (digit ∷ digits) = omega arith in
    rw (digit_is_no_space digit all.0) (ap (λ n. 1 + n) (first_space digits rest all.1) ∙ longer)

-- the space behind digits is found
space_found : (digits rest : List ℕ) → AllDigits 16 digits → position is_space (digits ++ 32 ∷ rest) ≡ Some (length digits)
space_found digits rest all =
    let longer : length digits < length (digits ++ 32 ∷ rest) = omega (arith, length-append digits (32 ∷ rest)) in
    rw (first_space digits rest all, lt-ltb (length digits) (length (digits ++ 32 ∷ rest)) longer)

-- what stands about a space that is found
space_splits : (text : List ℕ) (space : ℕ) → position is_space text ≡ Some space → text ≡ take space text ++ 32 ∷ drop (space + 1) text
space_splits text space found =
    let at : (space < length text) × (is_space (get_or text space 0) ≡ true) × ((k : ℕ) → k < space → is_space (get_or text k 0) ≡ false) = position-Some is_space text space 0 found in
    let byte : get_or text space 0 ≡ 32 = eqb-true (get_or text space 0) 32 at.1 in
    let behind : drop space text ≡ 32 ∷ drop (space + 1) text = rw (add-one, ← byte) (drop-cons text space 0 at.0) in
    sym (take-append-drop space text) ∙ ap (λ (rest : List ℕ). take space text ++ rest) behind

-- the parts that are read, one after the other
parts_span : (text : List ℕ) (space at n place count : ℕ) → position is_space text ≡ Some space → number_in 16 3 (take space text) ≡ Some at → number_in 16 2 (drop (space + 1) text) ≡ Some n → only_if {A = ℕ × ℕ} (nat_lt 0 n && nat_le (at + n) eeprom_size) (at, n) ≡ Some (place, count) → SaysBytes text place count
parts_span text space at n place count found from bytes passed =
    let chosen = only_if_some {A = ℕ × ℕ} (nat_lt 0 n && nat_le (at + n) eeprom_size) (at, n) (place, count) passed in
    let tests = and_parts (nat_lt 0 n) (nat_le (at + n) eeprom_size) chosen.0 in
    let same_place : at ≡ place = ap (λ (pair : ℕ × ℕ). pair.0) chosen.1 in
    let same_count : n ≡ count = ap (λ (pair : ℕ × ℕ). pair.1) chosen.1 in
    record {
      place_digits = take space text;
      count_digits = drop (space + 1) text;
      spelled = space_splits text space found;
      from = rw (← same_place) (number_in_writes 16 3 (take space text) at from);
      bytes = rw (← same_count) (number_in_writes 16 2 (drop (space + 1) text) n bytes);
      some = rw (← same_count) (ltb-true 0 n tests.0);
      within = rw (← same_place, ← same_count) (leb-true (at + n) eeprom_size tests.1);
    }

-- a place and a count, where they are bytes of the EEPROM
abbrev counted : ℕ → ℕ → Option (ℕ × ℕ)
counted at n = only_if {A = ℕ × ℕ} (nat_lt 0 n && nat_le (at + n) eeprom_size) (at, n)

-- what is read behind the space, and what before it and behind it
abbrev with_count : List ℕ → ℕ → ℕ → Option (ℕ × ℕ)
with_count text space at = option_and_then (counted at) (number_in 16 2 (drop (space + 1) text))

abbrev from_place : List ℕ → ℕ → Option (ℕ × ℕ)
from_place text space = option_and_then (with_count text space) (number_in 16 3 (take space text))

-- what is read is so spelled
pub bytes_in_spans : (text : List ℕ) (place count : ℕ) → bytes_in text ≡ Some (place, count) → SaysBytes text place count
unfolding bytes_in
bytes_in_spans text place count read =
    let space = bind_some (position is_space text) (from_place text) (place, count) read in
    let at = bind_some (number_in 16 3 (take space.0 text)) (with_count text space.0) (place, count) space.2 in
    let n = bind_some (number_in 16 2 (drop (space.0 + 1) text)) (counted at.0) (place, count) at.2 in
    parts_span text space.0 at.0 n.0 place count space.1 at.1 n.1 n.2

-- a place and a count with one space between them are read
bytes_in-parts : (place_digits count_digits : List ℕ) (place count : ℕ) → WritesNumber 16 3 place_digits place → WritesNumber 16 2 count_digits count → 1 ≤ count → place + count ≤ eeprom_size → bytes_in (place_digits ++ 32 ∷ count_digits) ≡ Some (place, count)
unfolding bytes_in
bytes_in-parts place_digits count_digits place count from bytes some within =
    let text : List ℕ = place_digits ++ 32 ∷ count_digits in
    let front : take (length place_digits) text ≡ place_digits = take-append_seam place_digits (32 ∷ count_digits) in
    let back : drop (length place_digits + 1) text ≡ count_digits = drop-append-add place_digits (32 ∷ count_digits) 1 in
    rw (
      space_found place_digits count_digits from.numeral.1,
      front,
      number_in-writes 16 3 place_digits place from,
      back,
      number_in-writes 16 2 count_digits count bytes,
      lt-ltb 0 count some,
      le-leb (place + count) eeprom_size within,
    )

-- what is so spelled is read
pub bytes_in-spelled : (text : List ℕ) (place count : ℕ) → SaysBytes text place count → bytes_in text ≡ Some (place, count)
bytes_in-spelled text place count says = ap bytes_in says.spelled ∙ bytes_in-parts says.place_digits says.count_digits place count says.from says.bytes says.some says.within
