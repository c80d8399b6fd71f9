-- What is written for a command is a line of it.
use Rattle.std.proofs.Common.{◌≡◌, ℕ, ◌/◌, ◌%◌, ◌^◌, ◌<◌, ◌≤◌, true, false, List, ◌∷◌, refl, sym, ◌∙◌, arith, lit<, lit≤}
use Rattle.std.specs.Prelude.{Option, Some, None, if◌then◌else◌, nat_lt, slice_index}
use Rattle.std.specs.Char.{digit_value}
use Rattle.std.specs.Fmt.{decimal, digit_glyph}
use Rattle.std.proofs.lemmas.Bool.{ltb-true}
use Rattle.std.proofs.lemmas.Fmt.{decimal_is_IsNumeral, length-decimal-le, first_decimal}
use Rattle.station_base.specs.Period.{IsPeriod}
use Rattle.station_base.proofs.Periods.{period_bound}
use Rattle.vantage_frames.specs.declared.command.Command.{Command}
use Rattle.numerals.specs.Numeral.{WritesNumber}
use Rattle.vantage_frames.specs.Line.{IsLineOf, SaysPackets, SaysBytes, SaysPeriod}
use Rattle.vantage_frames.specs.LineReading.{LineReadsAs}
use Rattle.vantage_frames.specs.LineWriting.{AreInEeprom, two_digits, place_digits, bytes_text}
use Rattle.vantage_frames.proofs.Lines.{command_of-line}
use Rattle.eeprom_map.specs.Memory.{eeprom_size}

-- a number in decimal digits
decimal_writes : (most n : ℕ) → 0 < most → n < 10 ^ most → n < 2 ^ 64 → WritesNumber 10 most (decimal n) n
decimal_writes most n some small fits =
    let numeral = decimal_is_IsNumeral n fits in
    record { numeral = numeral.0; short = length-decimal-le most n some small fits; value = numeral.1 }

-- a hexadecimal digit has its value
glyph_value : (d : ℕ) → d < 16 → digit_value (digit_glyph true d) ≡ d
glyph_value d small = grind arith

-- a byte in two hexadecimal digits
byte_writes : (n : ℕ) → n < 256 → WritesNumber 16 2 (two_digits n) n
byte_writes n small =
    let high : n / 16 < 16 = omega arith in
    let low : n % 16 < 16 = omega arith in
    let first : digit_value (digit_glyph true (n / 16)) ≡ n / 16 = glyph_value (n / 16) high in
    let second : digit_value (digit_glyph true (n % 16)) ≡ n % 16 = glyph_value (n % 16) low in
    record {
      numeral = (lit< tt, (rw first high, (rw second low, tt)));
      short = lit≤ tt;
      value = rw (first, second) (omega arith);
    }

-- a place in two such digits, or in three
place_writes : (n : ℕ) → n < eeprom_size → WritesNumber 16 3 (place_digits n) n
place_writes n small = elim (nat_lt n 256) as (λ short. nat_lt n 256 ≡ short → WritesNumber 16 3 (if short then two_digits n else digit_glyph true (n / 256) ∷ two_digits (n % 256)) n) [
  | true ↦ λ is. let byte = byte_writes n (ltb-true n 256 is) in record { numeral = byte.numeral; short = lit≤ tt; value = byte.value }
  | false ↦ λ is.
      let high : n / 256 < 16 = omega arith in
      let low : n % 256 < 256 = omega arith in
      let middle : n % 256 / 16 < 16 = omega arith in
      let last : n % 256 % 16 < 16 = omega arith in
      let first : digit_value (digit_glyph true (n / 256)) ≡ n / 256 = glyph_value (n / 256) high in
      let second : digit_value (digit_glyph true (n % 256 / 16)) ≡ n % 256 / 16 = glyph_value (n % 256 / 16) middle in
      let third : digit_value (digit_glyph true (n % 256 % 16)) ≡ n % 256 % 16 = glyph_value (n % 256 % 16) last in
      record {
        numeral = (lit< tt, (rw first high, (rw second middle, (rw third last, tt))));
        short = lit≤ tt;
        value = rw (first, second, third) (omega arith);
      }
] refl

-- a place and a count are said by what is written for them
pub bytes_written : (place count : ℕ) → count < 256 → AreInEeprom place count → SaysBytes (bytes_text place count) place count
unfolding bytes_text
bytes_written place count small bytes = record {
  place_digits = place_digits place;
  count_digits = two_digits count;
  spelled = refl;
  from = place_writes place (omega arith);
  bytes = byte_writes count small;
  some = bytes.0;
  within = bytes.1;
}

-- so is a count of packets
pub packets_written : (packets : ℕ) → 1 ≤ packets → packets ≤ 9999 → SaysPackets (decimal packets) packets
packets_written packets some few = record { number = decimal_writes 4 packets (lit< tt) (omega arith) (omega arith); some = some }

-- the periods are 1 to 120 minutes
period_some : (minutes : ℕ) → IsPeriod minutes → 0 < minutes
period_some minutes period = grind arith

-- and a period
pub period_written : (minutes : ℕ) → IsPeriod minutes → SaysPeriod (decimal minutes) minutes
period_written minutes period =
    let few : minutes ≤ 120 = period_bound minutes period in
    let some : 0 < minutes = period_some minutes period in
    record {
      number = decimal_writes 3 minutes (lit< tt) (omega arith) (omega arith);
      plain = λ zero. let first : 48 < slice_index (decimal minutes) 0 = first_decimal minutes some (omega arith) in omega arith;
      period = period;
    }

-- what a line is read as is the one command that is read of it
pub read_again : (command : Command) (line : List ℕ) (read : Option Command) → IsLineOf command line → LineReadsAs line read → read ≡ Some command
read_again command line None is reads = absurd (reads command is)
read_again command line (Some other) is reads = sym (command_of-line other line reads) ∙ command_of-line command line is
