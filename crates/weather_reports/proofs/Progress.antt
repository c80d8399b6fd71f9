-- How far a report has come: the lines in front were written but for the text that waits, and these lines are ahead.
use Rattle.std.proofs.Common.{◌≡◌, ℕ, List, [], ◌++◌, refl, sym, ap, ◌∙◌, subst, append_assoc}
use Rattle.std.proofs.lemmas.List.{append-nil}
use Rattle.std.specs.declared.option.Option.{Option}
use Rattle.std.specs.Io.KnownBytes.{Appends}
use Rattle.causes.specs.Lists.{IsFrontOf}
use Rattle.causes.specs.Written.{Leaves, WritesPart}
use Rattle.causes.proofs.WritesInTurn.{leaves_all, leaves_less, leaves_none, part_of_all, part_of_front}
use Rattle.weather_reports.specs.Reported.{text_of_lines}
use Rattle.weather_reports.proofs.Lines.{text_join}

pub record Comes (old now : Option (List ℕ)) (lines ahead : List (List ℕ)) (pending : List ℕ) : Type 0 where
  pub front : List (List ℕ)
  pub split : front ++ ahead ≡ lines
  pub text : Leaves old now (text_of_lines front) pending

-- at the start all lines are ahead
pub comes_none : (known : Option (List ℕ)) (lines : List (List ℕ)) → Comes known known lines lines []
comes_none known lines = record { front = []; split = refl; text = leaves_all known [] }

-- the text of lines behind others, where the text that waits of these is left
with_more : (old now : Option (List ℕ)) (front more : List (List ℕ)) (pending : List ℕ) →
    Leaves old now (text_of_lines front) pending → Leaves old now (text_of_lines (front ++ more)) (pending ++ text_of_lines more)
with_more old now front more pending left = record {
  written = left.written;
  appended = left.appended;
  whole = sym (append_assoc left.written pending (text_of_lines more)) ∙ ap (λ (text : List ℕ). text ++ text_of_lines more) left.whole
      ∙ sym (text_join front more);
}

-- some lines more were written but for the text that waits then
pub comes_on : (old now new : Option (List ℕ)) (lines more ahead : List (List ℕ)) (pending left : List ℕ) →
    Comes old now lines (more ++ ahead) pending → Leaves now new (pending ++ text_of_lines more) left → Comes old new lines ahead left
comes_on old now new lines more ahead pending left before some = record {
  front = before.front ++ more;
  split = append_assoc before.front more ahead ∙ before.split;
  text = leaves_less old now new (text_of_lines (before.front ++ more)) some.written left
      (let P : List ℕ → Type 0 = λ text. Leaves old now (text_of_lines (before.front ++ more)) text in
      subst P (sym some.whole) (with_more old now before.front more pending before.text))
      some.appended;
}

-- a write of some lines more failed
pub comes_fails : (old now new : Option (List ℕ)) (lines more ahead : List (List ℕ)) (pending : List ℕ) →
    Comes old now lines (more ++ ahead) pending → WritesPart now new (pending ++ text_of_lines more) → WritesPart old new (text_of_lines lines)
comes_fails old now new lines more ahead pending before part =
    let P : List ℕ → Type 0 = λ text. WritesPart old new text in
    subst P (sym (text_join (before.front ++ more) ahead)
    ∙ ap text_of_lines (append_assoc before.front more ahead ∙ before.split))
    (part_of_front old new (text_of_lines (before.front ++ more)) (text_of_lines ahead)
    (part_of_all old now new (text_of_lines (before.front ++ more)) (pending ++ text_of_lines more)
    (with_more old now before.front more pending before.text) part))

-- what waits was written, and no lines are ahead
pub comes_whole : (old now new : Option (List ℕ)) (lines : List (List ℕ)) (pending : List ℕ) →
    Comes old now lines [] pending → Appends now new pending → Appends old new (text_of_lines lines)
comes_whole old now new lines pending before rest =
    let P : List (List ℕ) → Type 0 = λ all. Appends old new (text_of_lines all) in
    subst P (sym (append-nil before.front) ∙ before.split)
    (leaves_none old new (text_of_lines before.front)
    (leaves_less old now new (text_of_lines before.front) pending []
    (let Q : List ℕ → Type 0 = λ text. Leaves old now (text_of_lines before.front) text in subst Q (sym (append-nil pending)) before.text) rest))

-- what waits was written, and the report ends before the lines that are ahead
pub comes_front : (old now new : Option (List ℕ)) (lines ahead : List (List ℕ)) (pending : List ℕ) →
    Comes old now lines ahead pending → Appends now new pending
    → (front : List (List ℕ)) × IsFrontOf front lines × Appends old new (text_of_lines front)
comes_front old now new lines ahead pending before rest = (
  before.front,
  (ahead, before.split),
  comes_whole old now new before.front pending
      (record { front = before.front; split = append-nil before.front; text = before.text }) rest,
)

-- a write of what waits failed
pub comes_short : (old now new : Option (List ℕ)) (lines ahead : List (List ℕ)) (pending : List ℕ) →
    Comes old now lines ahead pending → WritesPart now new pending → WritesPart old new (text_of_lines lines)
comes_short old now new lines ahead pending before part =
    let P : List ℕ → Type 0 = λ text. WritesPart old new text in
    subst P (sym (text_join before.front ahead) ∙ ap text_of_lines before.split)
    (part_of_front old new (text_of_lines before.front) (text_of_lines ahead) (part_of_all old now new (text_of_lines before.front) pending before.text part))
