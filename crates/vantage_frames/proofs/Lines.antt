-- The lines of commands, and what they are read as.
use Rattle.std.proofs.Common.{◌≡◌, ℕ, Bool, true, false, ◌&&◌, List, [], ◌∷◌, ◌++◌, take, drop, length, refl, sym, ◌∙◌, ap}
use Rattle.std.specs.Prelude.{Some, None, if◌then◌else◌, nat_lt, not, ◌==◌, codes, option_map, option_and_then, IfSome, slice_index}
use Rattle.std.specs.declared.option.Option.{Option}
use Rattle.std.specs.Cmp.Lexicographic.{same_text}
use Rattle.std.specs.Str.{bytes_eq}
use Rattle.std.specs.Option.{option_or}
use Rattle.std.proofs.lemmas.Bool.{and_parts, and_from, lt-ltb, ltb-true}
use Rattle.std.proofs.lemmas.List.{take-append-drop}
use Rattle.station_base.specs.Period.{is_period}
use Rattle.vantage_frames.specs.declared.command.Command.{Command}
use Rattle.vantage_frames.specs.declared.command.Command.TheVariants.{Test, Kind, LoopFor, DumpAfter, EepromRead, EepromWrite, EepromAll, TimeGet, TimeSet, SetPeriod, ClearLog}
use Rattle.numerals.specs.Numeral.{number_in}
use Rattle.vantage_frames.specs.Line.{IsLineOf, HasBehind, SaysPackets, SaysBytes, SaysPeriod}
use Rattle.vantage_frames.specs.LineReading.{LineReadsAs, command_of, plain_command_of, numbered_command_of, packets_in, bytes_in, period_in, begins_with}
use Rattle.numerals.specs.Then.{only_if}
use Rattle.numerals.proofs.PassedTests.{passes}
use Rattle.vantage_frames.proofs.DifferentBytes.{other_than, differs}
use Rattle.numerals.proofs.Digits.{number_in_writes, number_in-writes}
use Rattle.vantage_frames.proofs.Spans.{bytes_in_spans, bytes_in-spelled}

-- what both choices have, the choice has
choice : {A : Type 0} (P : A → Type 0) (test : Bool) (x y : A) → (test ≡ true → P x) → (test ≡ false → P y) → P (if test then x else y)
choice P test x y passed failed = elim test as (λ b. (b ≡ true → P x) → (b ≡ false → P y) → P (if b then x else y)) [ true ↦ λ p f. p refl | false ↦ λ p f. f refl ] passed failed

-- a text that is said to be another is the other
is_text : (line name : List ℕ) → bytes_eq line name ≡ true → line ≡ name
is_text line name same = same_text line name (sym same)

-- a line that begins with a name is the name and what stands behind it
behind : (line name : List ℕ) → begins_with line name ≡ true → line ≡ name ++ drop (length name) line
behind line name begins =
    sym (take-append-drop (length name) line) ∙ ap (λ (front : List ℕ). front ++ drop (length name) line) (is_text (take (length name) line) name begins)

pub packets_said : (text : List ℕ) → IfSome (packets_in text) (λ count. SaysPackets text count)
unfolding packets_in
packets_said text = elim (number_in 10 4 text) as (λ read. number_in 10 4 text ≡ read → IfSome (option_and_then (λ packets. only_if (nat_lt 0 packets) packets) read) (λ count. SaysPackets text count)) [
  | None ↦ λ is. tt
  | Some count ↦ λ is. choice (λ (read : Option ℕ). IfSome read (λ n. SaysPackets text n)) (nat_lt 0 count) (Some count) None
      (λ passed. record { number = number_in_writes 10 4 text count is; some = ltb-true 0 count passed }) (λ _. tt)
] refl

-- a count that is said is read
pub packets_in-said : (text : List ℕ) (count : ℕ) → SaysPackets text count → packets_in text ≡ Some count
unfolding packets_in
packets_in-said text count says =
    ap (λ (read : Option ℕ). option_and_then (λ n. only_if (nat_lt 0 n) n) read) (number_in-writes 10 4 text count says.number)
    ∙ passes (nat_lt 0 count) count (lt-ltb 0 count says.some)

-- the first digit is not 0
abbrev is_plain : List ℕ → Bool
is_plain text = not (slice_index text 0 == 48)

-- a period is said where one is read
pub period_said : (text : List ℕ) → IfSome (period_in text) (λ minutes. SaysPeriod text minutes)
unfolding period_in
period_said text = elim (number_in 10 3 text) as (λ read. number_in 10 3 text ≡ read → IfSome (option_and_then (λ minutes. only_if (is_plain text && is_period minutes) minutes) read) (λ minutes. SaysPeriod text minutes)) [
  | None ↦ λ is. tt
  | Some minutes ↦ λ is. choice (λ (read : Option ℕ). IfSome read (λ n. SaysPeriod text n)) (is_plain text && is_period minutes) (Some minutes) None
      (λ passed. let both = and_parts (is_plain text) (is_period minutes) passed in
      record { number = number_in_writes 10 3 text minutes is; plain = other_than (slice_index text 0) 48 both.0; period = both.1 }) (λ _. tt)
] refl

-- a period that is said is read
pub period_in-said : (text : List ℕ) (minutes : ℕ) → SaysPeriod text minutes → period_in text ≡ Some minutes
unfolding period_in
period_in-said text minutes says =
    ap (λ (read : Option ℕ). option_and_then (λ n. only_if (is_plain text && is_period n) n) read) (number_in-writes 10 3 text minutes says.number)
    ∙ passes (is_plain text && is_period minutes) minutes (and_from (is_plain text) (is_period minutes) (differs (slice_index text 0) 48 says.plain) says.period)

-- a place and a count are said where they are read
pub bytes_said : (text : List ℕ) → IfSome (bytes_in text) (λ bytes. SaysBytes text bytes.0 bytes.1)
bytes_said text = elim (bytes_in text) as (λ read. bytes_in text ≡ read → IfSome read (λ bytes. SaysBytes text bytes.0 bytes.1)) [
  | None ↦ λ is. tt
  | Some bytes ↦ λ is. bytes_in_spans text bytes.0 bytes.1 is
] refl

-- the line is one of the command that is read of it, if one is
abbrev IsLine : List ℕ → Option Command → Type 0
IsLine line read = IfSome read (λ command. IsLineOf command line)

pub plain_found : (line : List ℕ) → IsLine line (plain_command_of line)
unfolding plain_command_of
plain_found line =
    choice (IsLine line) (bytes_eq line (codes "TEST")) _ _ (is_text line _) (λ _.
    choice (IsLine line) (bytes_eq line (codes "WRD" ++ 0x12 ∷ 0x4D ∷ [])) _ _ (is_text line _) (λ _.
    choice (IsLine line) (bytes_eq line (codes "DMPAFT")) _ _ (is_text line _) (λ _.
    choice (IsLine line) (bytes_eq line (codes "GETEE")) _ _ (is_text line _) (λ _.
    choice (IsLine line) (bytes_eq line (codes "GETTIME")) _ _ (is_text line _) (λ _.
    choice (IsLine line) (bytes_eq line (codes "SETTIME")) _ _ (is_text line _) (λ _.
    choice (IsLine line) (bytes_eq line (codes "CLRLOG")) _ _ (is_text line _) (λ _. tt)))))))

-- what stands behind a name says what is read
named : {A : Type 0} (line name : List ℕ) (Says : List ℕ → A → Type 0) (make : A → Command) (value : Option A) → begins_with line name ≡ true → IfSome value (Says (drop (length name) line)) → ((x : A) → HasBehind name line (λ text. Says text x) → IsLineOf (make x) line) → IsLine line (option_map make value)
named line name Says make None begins says is = tt
named line name Says make (Some x) begins says is = is x (drop (length name) line, behind line name begins, says)

pub numbered_found : (line : List ℕ) → IsLine line (numbered_command_of line)
unfolding numbered_command_of
numbered_found line =
    choice (IsLine line) (begins_with line (codes "LOOP ")) _ _ (λ begins. named line (codes "LOOP ") SaysPackets LoopFor _ begins (packets_said _) (λ x says. says)) (λ _.
    choice (IsLine line) (begins_with line (codes "EEBRD ")) _ _ (λ begins. named line (codes "EEBRD ") (λ text (bytes : ℕ × ℕ). SaysBytes text bytes.0 bytes.1) (λ bytes. EepromRead bytes.0 bytes.1) _ begins (bytes_said _) (λ x says. says)) (λ _.
    choice (IsLine line) (begins_with line (codes "EEBWR ")) _ _ (λ begins. named line (codes "EEBWR ") (λ text (bytes : ℕ × ℕ). SaysBytes text bytes.0 bytes.1) (λ bytes. EepromWrite bytes.0 bytes.1) _ begins (bytes_said _) (λ x says. says)) (λ _.
    choice (IsLine line) (begins_with line (codes "SETPER ")) _ _ (λ begins. named line (codes "SETPER ") SaysPeriod SetPeriod _ begins (period_said _) (λ x says. says)) (λ _. tt))))

-- the line of a command is read as the command
pub command_of-line : (command : Command) (line : List ℕ) → IsLineOf command line → command_of line ≡ Some command
unfolding command_of plain_command_of numbered_command_of
command_of-line Test line is = ap command_of is
command_of-line Kind line is = ap command_of is
command_of-line (LoopFor packets) line (text, spelled, says) = ap command_of spelled ∙ ap (option_map LoopFor) (packets_in-said text packets says)
command_of-line DumpAfter line is = ap command_of is
command_of-line (EepromRead at count) line (text, spelled, says) =
    ap command_of spelled ∙ ap (option_map (λ (bytes : ℕ × ℕ). EepromRead bytes.0 bytes.1)) (bytes_in-spelled text at count says)
command_of-line (EepromWrite at count) line (text, spelled, says) =
    ap command_of spelled ∙ ap (option_map (λ (bytes : ℕ × ℕ). EepromWrite bytes.0 bytes.1)) (bytes_in-spelled text at count says)
command_of-line EepromAll line is = ap command_of is
command_of-line TimeGet line is = ap command_of is
command_of-line TimeSet line is = ap command_of is
command_of-line (SetPeriod minutes) line (text, spelled, says) = ap command_of spelled ∙ ap (option_map SetPeriod) (period_in-said text minutes says)
command_of-line ClearLog line is = ap command_of is

-- a line is read as the command of which it is one, and as nothing where it is a line of none
pub command_of_reads : (line : List ℕ) → LineReadsAs line (command_of line)
unfolding command_of
command_of_reads line = elim (plain_command_of line) as (λ plain. IsLine line plain → option_or plain (numbered_command_of line) ≡ command_of line → LineReadsAs line (option_or plain (numbered_command_of line))) [
  | Some command ↦ λ found is. found
  | None ↦ λ found is. elim (numbered_command_of line) as (λ numbered. IsLine line numbered → numbered ≡ command_of line → LineReadsAs line numbered) [
    | Some command ↦ λ more same. more
    | None ↦ λ more same command says. let read : None ≡ Some command = same ∙ command_of-line command line says in cc
  ] (numbered_found line) is
] (plain_found line) refl
