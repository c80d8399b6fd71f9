-- Laws of what the turns of a station come to.
use Rattle.std.specs.Prelude.{ℕ, ◌≡◌, ◌≢◌, ◌⊎◌, List, [], ◌∷◌, ◌++◌, Some, None}
use Rattle.std.proofs.Common.{refl, sym, subst, ◌∙◌, append-nil, append_assoc}
use Rattle.std.specs.declared.option.Option.{Option}
use Rattle.causes.specs.Lists.{IsFrontOf}
use Rattle.settings_file.specs.StationSettings.{StationSettings}
use Rattle.fleet.specs.declared.member.MemberTurn.{MemberTurn}
use Rattle.fleet.specs.declared.member.MemberTurn.TheVariants.{More, Ended, Unseen, WriteFault, OutOfMemory}
use Rattle.fleet.specs.MemberTurns.{Both, texts_join}
use Rattle.fleet.proofs.Fronts.{front_behind}
use Rattle.replay_laws.specs.Kept.{Kept}
use Rattle.replay_laws.specs.Schedule.{records}
use Rattle.replay_laws.specs.Replay.{RunIsBegun, IsReplay, IsUnseen, Item}
use Rattle.replay_laws.specs.Texts.{text}
use Rattle.schedule_replay.specs.Replayed.{TookPart}
use Rattle.schedule_replay.specs.Replaying.{Course}
use Rattle.schedule_replay.specs.TextTelling.{text_join}
use Rattle.station_fleet.specs.declared.station.Station.{Station}
use Rattle.station_fleet.specs.Outcomes.{TurnsComeTo, TurnsLeadTo, TurnsOneByOne, BreaksInOneTurn, Cuts, IfLast}
use Rattle.station_fleet.specs.Outcomes.{StationStands, StationTurned}
use Rattle.station_fleet.specs.Outcomes.{end_of_turns, only, course_start, course_steps}

pub turned_none : (s : Station) → StationTurned s [] (λ bytes. bytes ≡ []) s
turned_none s = record { one_by_one = refl; leads_to = record { same = refl; writes = refl } }

-- what is known of the text may be said less exactly
pub comes_wider : (end : Option MemberTurn) (settings : StationSettings) (c : Course) (items : List Item)
    (P Q : List ℕ → Type 0) (s : Station) → ((bytes : List ℕ) → P bytes → Q bytes)
    → TurnsComeTo end settings c items P s
    → TurnsComeTo end settings c items Q s
comes_wider None settings c items P Q s wider came = tt
comes_wider (Some More) settings c items P Q s wider came =
    record { given = came.given; writes = wider (text came.given) came.writes; stands = came.stands }
comes_wider (Some Ended) settings c items P Q s wider came = record {
  given = came.given;
  writes = wider (text came.given) came.writes;
  kept = came.kept;
  took_part = came.took_part;
}
comes_wider (Some Unseen) settings c items P Q s wider came = record {
  given = came.given;
  writes = wider (text came.given) came.writes;
  is_unseen = came.is_unseen;
  kept = came.kept;
}
comes_wider (Some WriteFault) settings c items P Q s wider came = record {
  given = came.given;
  written = came.written;
  front = came.front;
  writes = wider came.written came.writes;
  is_begun = came.is_begun;
  kept = came.kept;
}
comes_wider (Some OutOfMemory) settings c items P Q s wider came = record {
  given = came.given;
  written = came.written;
  front = came.front;
  writes = wider came.written came.writes;
  is_begun = came.is_begun;
  kept = came.kept;
}

led_wider : (l m : Station) (answers : List MemberTurn) (P Q : List ℕ → Type 0)
    → ((bytes : List ℕ) → P bytes → Q bytes) → TurnsLeadTo l answers P m → TurnsLeadTo l answers Q m
led_wider l m [] P Q wider led = record { same = led.same; writes = wider [] led.writes }
led_wider l m (answer ∷ later) P Q wider led = λ settings c items stands.
    comes_wider (end_of_turns (answer ∷ later)) settings c items P Q m wider (led settings c items stands)

pub turned_wider : (l m : Station) (answers : List MemberTurn) (P Q : List ℕ → Type 0)
    → ((bytes : List ℕ) → P bytes → Q bytes) → StationTurned l answers P m → StationTurned l answers Q m
turned_wider l m answers P Q wider turned =
    record { one_by_one = turned.one_by_one; leads_to = led_wider l m answers P Q wider turned.leads_to }

-- a text of items behind others
both_texts : (P Q : List ℕ → Type 0) (first later : List Item) → P (text first) → Q (text later)
    → Both P Q (text (first ++ later))
both_texts P Q first later p q =
    subst (Both P Q) (sym (text_join first later)) (texts_join (text first) (text later) p q)

cuts_behind : (settings : StationSettings) (c : Course) (items given : List Item) (P Q : List ℕ → Type 0)
    → P (text given) → Cuts settings c (items ++ given) Q → Cuts settings c items (Both P Q)
cuts_behind settings c items given P Q p cut = record {
  given = given ++ cut.given;
  written = text given ++ cut.written;
  front = subst (λ (bytes : List ℕ). IsFrontOf (text given ++ cut.written) bytes) (sym (text_join given cut.given))
      (front_behind (text given) cut.written (text cut.given) cut.front);
  writes = texts_join (text given) cut.written p cut.writes;
  is_begun = subst (λ (xs : List Item). RunIsBegun settings (course_start c) (course_steps settings c) xs
      ⊎ IsReplay settings (course_start c) (course_steps settings c) xs)
      (append_assoc items given cut.given) cut.is_begun;
  kept = subst (λ (xs : List Item). Kept settings (records (course_steps settings c)) xs)
      (append_assoc items given cut.given) cut.kept;
}

-- what turns come to that stand behind items which were given
comes_behind : (end : Option MemberTurn) (settings : StationSettings) (c : Course) (items given : List Item)
    (P Q : List ℕ → Type 0) (s : Station) → P (text given) → TurnsComeTo end settings c (items ++ given) Q s
    → TurnsComeTo end settings c items (Both P Q) s
comes_behind None settings c items given P Q s p came = tt
comes_behind (Some More) settings c items given P Q s p came = record {
  given = given ++ came.given;
  writes = both_texts P Q given came.given p came.writes;
  stands = subst (λ (xs : List Item). StationStands settings c xs s) (append_assoc items given came.given) came.stands;
}
comes_behind (Some Ended) settings c items given P Q s p came = record {
  given = given ++ came.given;
  writes = both_texts P Q given came.given p came.writes;
  kept = subst (λ (xs : List Item). Kept settings (records (course_steps settings c)) xs)
      (append_assoc items given came.given) came.kept;
  took_part =
      subst (λ (xs : List Item). TookPart settings (course_start c) (course_steps settings c) xs c.before s.line s.disk)
      (append_assoc items given came.given) came.took_part;
}
comes_behind (Some Unseen) settings c items given P Q s p came = record {
  given = given ++ came.given;
  writes = both_texts P Q given came.given p came.writes;
  is_unseen = subst (λ (xs : List Item). IsUnseen settings (course_start c) (course_steps settings c) xs)
      (append_assoc items given came.given) came.is_unseen;
  kept = subst (λ (xs : List Item). Kept settings (records (course_steps settings c)) xs)
      (append_assoc items given came.given) came.kept;
}
comes_behind (Some WriteFault) settings c items given P Q s p came = cuts_behind settings c items given P Q p came
comes_behind (Some OutOfMemory) settings c items given P Q s p came = cuts_behind settings c items given P Q p came

-- behind turns that go on the end is that of those behind them; behind an end there is none
abbrev pub end_behind : Option MemberTurn → Option MemberTurn → Option MemberTurn
end_behind (Some More) later = later
end_behind (Some Ended) later = None
end_behind (Some Unseen) later = None
end_behind (Some WriteFault) later = None
end_behind (Some OutOfMemory) later = None
end_behind None later = None

none_behind : (answer : MemberTurn) (first : List MemberTurn) (next : MemberTurn) (later : List MemberTurn)
    → answer ≢ More
    → only answer (first ++ next ∷ later) ≡ end_behind (only answer first) (end_of_turns (next ∷ later))
none_behind More first next later goes = absurd (goes refl)
none_behind Ended [] next later goes = refl
none_behind Ended (a ∷ first) next later goes = refl
none_behind Unseen [] next later goes = refl
none_behind Unseen (a ∷ first) next later goes = refl
none_behind WriteFault [] next later goes = refl
none_behind WriteFault (a ∷ first) next later goes = refl
none_behind OutOfMemory [] next later goes = refl
none_behind OutOfMemory (a ∷ first) next later goes = refl

end_joins : (first : List MemberTurn) (next : MemberTurn) (later : List MemberTurn)
    → end_of_turns (first ++ next ∷ later) ≡ end_behind (end_of_turns first) (end_of_turns (next ∷ later))
end_joins [] next later = refl
end_joins (More ∷ first) next later = end_joins first next later
end_joins (Ended ∷ first) next later =
    none_behind Ended first next later (λ e. absurd (let no : Ended ≡ More = e in cc))
end_joins (Unseen ∷ first) next later =
    none_behind Unseen first next later (λ e. absurd (let no : Unseen ≡ More = e in cc))
end_joins (WriteFault ∷ first) next later =
    none_behind WriteFault first next later (λ e. absurd (let no : WriteFault ≡ More = e in cc))
end_joins (OutOfMemory ∷ first) next later =
    none_behind OutOfMemory first next later (λ e. absurd (let no : OutOfMemory ≡ More = e in cc))

-- what turns come to, and then others, by how the first ended
comes_joins : (end : Option MemberTurn) (next : MemberTurn) (later : List MemberTurn) (settings : StationSettings)
    (c : Course) (items : List Item) (P Q : List ℕ → Type 0) (m n : Station) → TurnsComeTo end settings c items P m
    → TurnsLeadTo m (next ∷ later) Q n
    → TurnsComeTo (end_behind end (end_of_turns (next ∷ later))) settings c items (Both P Q) n
comes_joins (Some More) next later settings c items P Q m n came turned =
    comes_behind (end_of_turns (next ∷ later)) settings c items came.given P Q n came.writes
    (turned settings c (items ++ came.given) came.stands)
comes_joins (Some Ended) next later settings c items P Q m n came turned = tt
comes_joins (Some Unseen) next later settings c items P Q m n came turned = tt
comes_joins (Some WriteFault) next later settings c items P Q m n came turned = tt
comes_joins (Some OutOfMemory) next later settings c items P Q m n came turned = tt
comes_joins None next later settings c items P Q m n came turned = tt

led_joins : (l m n : Station) (first later : List MemberTurn) (P Q : List ℕ → Type 0) → TurnsLeadTo l first P m
    → TurnsLeadTo m later Q n → TurnsLeadTo l (first ++ later) (Both P Q) n
led_joins l m n [] [] P Q one two =
    record { same = two.same ∙ one.same; writes = texts_join [] [] one.writes two.writes }
led_joins l m n [] (next ∷ later) P Q one two =
    let from : TurnsLeadTo l (next ∷ later) Q n =
    subst (λ (s : Station). TurnsLeadTo s (next ∷ later) Q n) one.same two in
    led_wider l n (next ∷ later) Q (Both P Q) (λ bytes q. texts_join [] bytes one.writes q) from
led_joins l m n (answer ∷ first) [] P Q one two =
    let to : TurnsLeadTo l (answer ∷ first) P n =
    subst (λ (s : Station). TurnsLeadTo l (answer ∷ first) P s) (sym two.same) one in
    let whole : TurnsLeadTo l (answer ∷ first) (Both P Q) n =
    led_wider l n (answer ∷ first) P (Both P Q)
    (λ bytes p. subst (Both P Q) (append-nil bytes) (texts_join bytes [] p two.writes)) to in
    subst (λ (answers : List MemberTurn). TurnsLeadTo l answers (Both P Q) n) (sym (append-nil (answer ∷ first))) whole
led_joins l m n (answer ∷ first) (next ∷ later) P Q one two = λ settings c items stands.
    subst (λ (end : Option MemberTurn). TurnsComeTo end settings c items (Both P Q) n)
    (sym (end_joins (answer ∷ first) next later))
    (comes_joins (end_of_turns (answer ∷ first)) next later settings c items P Q m n (one settings c items stands) two)

-- an end that is the last of these turns
if_last : (P : Station → Type 0) (m n : Station) (first later : List MemberTurn) → IfLast first (P m)
    → TurnsOneByOne m later n → IfLast (first ++ later) (P n)
if_last P m n [] [] one two = subst P (sym two) one
if_last P m n [] (next ∷ later) one two = tt
if_last P m n (answer ∷ first) later one two = tt

one_by_one_joins : (l m n : Station) (first later : List MemberTurn) → TurnsOneByOne l first m → TurnsOneByOne m later n
    → TurnsOneByOne l (first ++ later) n
one_by_one_joins l m n [] later one two = subst (λ (s : Station). TurnsOneByOne s later n) one two
one_by_one_joins l m n (More ∷ first) later one two =
    (one.0, one.1, one_by_one_joins one.0 m n first later one.2 two)
one_by_one_joins l m n (Ended ∷ first) later one two = one
one_by_one_joins l m n (Unseen ∷ first) later one two = if_last (BreaksInOneTurn l) m n first later one two
one_by_one_joins l m n (WriteFault ∷ first) later one two =
    if_last (λ (s : Station). s.run.turns ≡ l.run.turns) m n first later one two
one_by_one_joins l m n (OutOfMemory ∷ first) later one two =
    if_last (λ (s : Station). s.run.turns ≡ l.run.turns) m n first later one two

pub turned_joins : (l m n : Station) (first later : List MemberTurn) (P Q : List ℕ → Type 0) → StationTurned l first P m
    → StationTurned m later Q n → StationTurned l (first ++ later) (Both P Q) n
turned_joins l m n first later P Q one two = record {
  one_by_one = one_by_one_joins l m n first later one.one_by_one two.one_by_one;
  leads_to = led_joins l m n first later P Q one.leads_to two.leads_to;
}
