-- The lines of one station in what all of them write.
use Rattle.std.proofs.Common.{ℕ, ◌≡◌, ◌≢◌, ◌+◌, ◌==◌, Bool, true, false, List, [], ◌∷◌, ◌++◌, refl, sym, ap, subst, ◌∙◌, arith, append-nil, if◌then◌else◌}
use Rattle.std.proofs.lemmas.Bool.Decides.{nat_tests}
use Rattle.station_io.specs.Sink.{Outlet}
use Rattle.fleet.specs.declared.member.MemberTurn.{MemberTurn}
use Rattle.fleet.specs.declared.member.MemberTurn.TheVariants.{More, Ended, Unseen, WriteFault, OutOfMemory}
use Rattle.fleet.specs.declared.pen.Pen.{Pen}
use Rattle.fleet.specs.declared.pen.Pen.TheVariants.{AtStart, Inside, Stuck}
use Rattle.fleet.specs.Lines.{AreLines, lead, pen_behind, numbered_lines, pen_after, with_station_number}
use Rattle.fleet.specs.Log.{BothIf, WrittenBy}
use Rattle.fleet.specs.MemberTurns.{Both, WritesWhole, texts_join}
use Rattle.fleet.specs.StationLines.{AreUncutBeforeLast, Place, station_lines_from, station_lines, place_behind}
use Rattle.fleet.specs.TurnText.{AreTextsOf, TurnEntry, WritesTurn}

-- where a reader stands who has read what the pen wrote
abbrev place_of : Bool → Pen → Place
place_of counts AtStart = Place.AtDigit
place_of counts Inside = Place.Within counts
place_of counts Stuck = Place.Within counts

place_is : (counts ends : Bool) → place_behind counts ends ≡ place_of counts (pen_behind ends)
place_is counts true = refl
place_is counts false = refl

-- what the pen writes with the digit of the station are its own bytes
own_lines : (digit of_line : ℕ) (pen : Pen) (bytes text : List ℕ) → (of_line == digit) ≡ true
    → station_lines_from digit (place_of true pen) (numbered_lines of_line pen bytes ++ text)
    ≡ bytes ++ station_lines_from digit (place_of true (pen_after pen bytes)) text
own_lines digit of_line pen [] text same = refl
own_lines digit of_line AtStart (b ∷ bytes) text same =
    ap (λ (counts : Bool). station_lines_from digit (Place.Within counts) (b ∷ (numbered_lines of_line (pen_behind (b == 10)) bytes ++ text))) same
    ∙ ap (λ (place : Place). b ∷ station_lines_from digit place (numbered_lines of_line (pen_behind (b == 10)) bytes ++ text)) (place_is true (b == 10))
    ∙ ap (λ (l : List ℕ). b ∷ l) (own_lines digit of_line (pen_behind (b == 10)) bytes text same)
own_lines digit of_line Inside (b ∷ bytes) text same =
    ap (λ (place : Place). b ∷ station_lines_from digit place (numbered_lines of_line (pen_behind (b == 10)) bytes ++ text)) (place_is true (b == 10))
    ∙ ap (λ (l : List ℕ). b ∷ l) (own_lines digit of_line (pen_behind (b == 10)) bytes text same)
own_lines digit of_line Stuck (b ∷ bytes) text same =
    ap (λ (place : Place). b ∷ station_lines_from digit place (numbered_lines of_line (pen_behind (b == 10)) bytes ++ text)) (place_is true (b == 10))
    ∙ ap (λ (l : List ℕ). b ∷ l) (own_lines digit of_line (pen_behind (b == 10)) bytes text same)

-- with another digit none of them is
other_lines : (digit of_line : ℕ) (pen : Pen) (bytes text : List ℕ) → (of_line == digit) ≡ false
    → station_lines_from digit (place_of false pen) (numbered_lines of_line pen bytes ++ text)
    ≡ station_lines_from digit (place_of false (pen_after pen bytes)) text
other_lines digit of_line pen [] text other = refl
other_lines digit of_line AtStart (b ∷ bytes) text other =
    ap (λ (counts : Bool). station_lines_from digit (Place.Within counts) (b ∷ (numbered_lines of_line (pen_behind (b == 10)) bytes ++ text))) other
    ∙ ap (λ (place : Place). station_lines_from digit place (numbered_lines of_line (pen_behind (b == 10)) bytes ++ text)) (place_is false (b == 10))
    ∙ other_lines digit of_line (pen_behind (b == 10)) bytes text other
other_lines digit of_line Inside (b ∷ bytes) text other =
    ap (λ (place : Place). station_lines_from digit place (numbered_lines of_line (pen_behind (b == 10)) bytes ++ text)) (place_is false (b == 10))
    ∙ other_lines digit of_line (pen_behind (b == 10)) bytes text other
other_lines digit of_line Stuck (b ∷ bytes) text other =
    ap (λ (place : Place). station_lines_from digit place (numbered_lines of_line (pen_behind (b == 10)) bytes ++ text)) (place_is false (b == 10))
    ∙ other_lines digit of_line (pen_behind (b == 10)) bytes text other

-- a part of what goes before a byte has no byte of a line
part_none : (digit of_line : ℕ) (counts : Bool) (pen : Pen) (part rest : List ℕ) → part ++ rest ≡ lead of_line pen
    → station_lines_from digit (place_of counts pen) part ≡ []
part_none digit of_line counts pen [] rest e = refl
part_none digit of_line counts AtStart (x ∷ []) rest e = refl
part_none digit of_line counts AtStart (x ∷ y ∷ []) rest e = refl
part_none digit of_line counts AtStart (x ∷ y ∷ z ∷ part) rest e =
    absurd (let bad : x ∷ y ∷ z ∷ (part ++ rest) ≡ of_line ∷ 32 ∷ [] = e in cc)
part_none digit of_line counts Inside (x ∷ part) rest e = absurd (let bad : x ∷ (part ++ rest) ≡ [] = e in cc)
part_none digit of_line counts Stuck (x ∷ part) rest e = absurd (let bad : x ∷ (part ++ rest) ≡ [] = e in cc)

digits_same : (n k : ℕ) (test : Bool) → (n == k) ≡ test → (48 + n == 48 + k) ≡ test
digits_same n k true e = grind (arith, nat_tests)
digits_same n k false e = grind (arith, nat_tests)

equal_itself : (n : ℕ) → (n == n) ≡ true
equal_itself n = grind (arith, nat_tests)

is_same : (n k : ℕ) → (n == k) ≡ true → n ≡ k
is_same n k e = grind (arith, nat_tests)

-- a turn that was not cut off writes whole lines
whole_of : (answer : MemberTurn) (bytes : List ℕ) → answer ≢ WriteFault → answer ≢ OutOfMemory → WritesWhole answer bytes
    → AreLines bytes
whole_of More bytes fits found whole = whole
whole_of Ended bytes fits found whole = whole
whole_of Unseen bytes fits found whole = whole
whole_of WriteFault bytes fits found whole = absurd (fits refl)
whole_of OutOfMemory bytes fits found whole = absurd (found refl)

-- the texts of all stations behind a turn of one of them
abbrev pub rest_of : ℕ → List ℕ → (ℕ → List ℕ) → ℕ → List ℕ
rest_of of_turn rest texts station = if of_turn == station then rest else texts station

-- One text in which each station has its own lines.
pub record Together {K : Type 0} (outlet : Outlet K) (log : List (TurnEntry K)) (texts : ℕ → List ℕ) : Type 0 where
  pub text : List ℕ
  pub are_texts : AreTextsOf outlet log text
  pub each : (station : ℕ) → station_lines station text ≡ texts station

module _ {K : Type 0} (outlet : Outlet K) where
  still_written : (e : TurnEntry K) (log : List (TurnEntry K)) (texts : ℕ → List ℕ) (rest : List ℕ) (station : ℕ)
      → WrittenBy outlet e.station log rest → WrittenBy outlet station (e ∷ log) (texts station)
      → (test : Bool) → (e.station == station) ≡ test
      → WrittenBy outlet station log (rest_of e.station rest texts station)
  still_written e log texts rest station later was true is =
      rw is (subst (λ (n : ℕ). WrittenBy outlet n log rest) (is_same e.station station is) later)
  still_written e log texts rest station later was false is =
      let P : Bool → Type 0 = λ (test : Bool). BothIf test (WritesTurn outlet e) (WrittenBy outlet station log) (texts station) in
      rw is (subst P is was)

  lines_by : (e : TurnEntry K) (bytes rest text : List ℕ) (texts : ℕ → List ℕ) (station : ℕ) → AreLines bytes
      → texts e.station ≡ bytes ++ rest → station_lines station text ≡ rest_of e.station rest texts station
      → (test : Bool) → (e.station == station) ≡ test
      → station_lines station (with_station_number e.station bytes ++ text) ≡ texts station
  lines_by e bytes rest text texts station whole split behind true is =
      let now : station_lines station text ≡ rest = behind ∙ ap (λ (test : Bool). if test then rest else texts station) is in
      own_lines (48 + station) (48 + e.station) AtStart bytes text (digits_same e.station station true is)
      ∙ (ap (λ (p : Pen). bytes ++ station_lines_from (48 + station) (place_of true p) text) whole
      ∙ (ap (λ (l : List ℕ). bytes ++ l) now ∙ (sym split ∙ ap texts (is_same e.station station is))))
  lines_by e bytes rest text texts station whole split behind false is =
      other_lines (48 + station) (48 + e.station) AtStart bytes text (digits_same e.station station false is)
      ∙ (ap (λ (p : Pen). station_lines_from (48 + station) (place_of false p) text) whole
      ∙ (behind ∙ ap (λ (test : Bool). if test then rest else texts station) is))

  lines_more : (e : TurnEntry K) (bytes part rest text : List ℕ) (texts : ℕ → List ℕ) (station : ℕ) → AreLines bytes
      → part ≡ [] → texts e.station ≡ bytes ++ rest → station_lines station text ≡ rest_of e.station rest texts station
      → (test : Bool) → (e.station == station) ≡ test
      → station_lines station ((with_station_number e.station bytes ++ part) ++ text) ≡ texts station
  lines_more e bytes part rest text texts station whole none split behind test is =
      let front : (with_station_number e.station bytes ++ part) ++ text ≡ with_station_number e.station bytes ++ text =
      ap (λ (p : List ℕ). (with_station_number e.station bytes ++ p) ++ text) none
      ∙ ap (λ (l : List ℕ). l ++ text) (append-nil (with_station_number e.station bytes)) in
      ap (λ (l : List ℕ). station_lines station l) front ∙ lines_by e bytes rest text texts station whole split behind test is

  -- a turn that is the last may be cut off: behind its bytes there is a part of what goes before the next byte
  last_lines : (e : TurnEntry K) (texts : ℕ → List ℕ) (both : Both (WritesTurn outlet e) (WrittenBy outlet e.station []) (texts e.station))
      (station : ℕ) → WrittenBy outlet station (e ∷ []) (texts station) → (test : Bool) → (e.station == station) ≡ test
      → station_lines station (with_station_number e.station both.first ++ both.first_is.part) ≡ texts station
  last_lines e texts both station was true is =
      let part = both.first_is.small in
      own_lines (48 + station) (48 + e.station) AtStart both.first both.first_is.part (digits_same e.station station true is)
      ∙ (ap (λ (l : List ℕ). both.first ++ l)
      (part_none (48 + station) (48 + e.station) true (pen_after AtStart both.first) both.first_is.part part.0 part.1 ∙ sym both.later_is)
      ∙ (sym both.whole ∙ ap texts (is_same e.station station is)))
  last_lines e texts both station was false is =
      let part = both.first_is.small in
      let P : Bool → Type 0 = λ (test : Bool). BothIf test (WritesTurn outlet e) (WrittenBy outlet station []) (texts station) in
      let none : texts station ≡ [] = subst P is was in
      other_lines (48 + station) (48 + e.station) AtStart both.first both.first_is.part (digits_same e.station station false is)
      ∙ (part_none (48 + station) (48 + e.station) false (pen_after AtStart both.first) both.first_is.part part.0 part.1 ∙ sym none)

  -- what the station of a turn wrote in it, and behind it
  both_of : (e : TurnEntry K) (log : List (TurnEntry K)) (text : List ℕ) → WrittenBy outlet e.station (e ∷ log) text
      → Both (WritesTurn outlet e) (WrittenBy outlet e.station log) text
  both_of e log text written =
      let P : Bool → Type 0 = λ (test : Bool). BothIf test (WritesTurn outlet e) (WrittenBy outlet e.station log) text in
      subst P (equal_itself e.station) written

  -- what the stations wrote stands together in one text
  pub together : (log : List (TurnEntry K)) (texts : ℕ → List ℕ) → AreUncutBeforeLast log
      → ((station : ℕ) → WrittenBy outlet station log (texts station)) → Together outlet log texts
  together [] texts uncut written = record { text = []; are_texts = refl; each = λ station. sym (written station) }
  together (e ∷ []) texts uncut written =
      let both = both_of e [] (texts e.station) (written e.station) in
      let front = with_station_number e.station both.first ++ both.first_is.part in
      record {
        text = front ++ [];
        are_texts = texts_join front [] (both.first, both.first_is, refl) refl;
        each = λ station. ap (λ (l : List ℕ). station_lines station l) (append-nil front)
            ∙ last_lines e texts both station (written station) _ refl;
      }
  together (e ∷ next ∷ log) texts uncut written =
      let both = both_of e (next ∷ log) (texts e.station) (written e.station) in
      let behind = together (next ∷ log) (rest_of e.station both.later texts) uncut.2
      (λ station. still_written e (next ∷ log) texts both.later station both.later_is (written station) _ refl) in
      let writes : WritesTurn outlet e both.first = both.first_is in
      let front = with_station_number e.station both.first ++ writes.part in
      record {
        text = front ++ behind.text;
        are_texts = texts_join front behind.text (both.first, writes, refl) behind.are_texts;
        each = λ station. lines_more e both.first writes.part both.later behind.text texts station
            (whole_of e.answer both.first uncut.0 uncut.1 writes.lines) (writes.none uncut.0) both.whole (behind.each station)
            _ refl;
      }
