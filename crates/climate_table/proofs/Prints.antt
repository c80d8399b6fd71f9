-- Two prints, one after the other.
use Rattle.std.proofs.Common.{◌≡◌, ℕ, List, ◌++◌, sym, ap, ◌∙◌, subst, append_assoc}
use Rattle.std.specs.declared.option.Option.{Option}
use Rattle.causes.specs.Written.{Leaves, WritesPart}
use Rattle.causes.proofs.WritesInTurn.{leaves_less, part_of_all, part_of_front}
use Rattle.station_io.specs.declared.sink.Put.{Put}
use Rattle.station_io.specs.declared.sink.Put.TheVariants.{Done, Failed}
use Rattle.station_io.specs.Sink.{Outlet}
use Rattle.weather_reports.specs.Reported.{text_of_lines}
use Rattle.weather_reports.specs.Wrote.{Prints}
use Rattle.weather_reports.proofs.Lines.{text_join}

-- the text of both, behind what waits
joined : (held : List ℕ) (one two : List (List ℕ)) → (held ++ text_of_lines one) ++ text_of_lines two ≡ held ++ text_of_lines (one ++ two)
joined held one two = append_assoc held (text_of_lines one) (text_of_lines two) ∙ ap (λ (t : List ℕ). held ++ t) (sym (text_join one two))

-- of the first some is left, behind which the second stands
with_second : (old now : Option (List ℕ)) (held left : List ℕ) (one two : List (List ℕ))
    → Leaves old now (held ++ text_of_lines one) left → Leaves old now (held ++ text_of_lines (one ++ two)) (left ++ text_of_lines two)
with_second old now held left one two first = record {
  written = first.written;
  appended = first.appended;
  whole = sym (append_assoc first.written left (text_of_lines two)) ∙ ap (λ (t : List ℕ). t ++ text_of_lines two) first.whole ∙ joined held one two;
}

-- both were printed
pub both_done : (old now new : Option (List ℕ)) (held left rest : List ℕ) (one two : List (List ℕ))
    → Leaves old now (held ++ text_of_lines one) left → Leaves now new (left ++ text_of_lines two) rest → Leaves old new (held ++ text_of_lines (one ++ two)) rest
both_done old now new held left rest one two first second =
    leaves_less old now new (held ++ text_of_lines (one ++ two)) second.written rest
    (let P : List ℕ → Type 0 = λ text. Leaves old now (held ++ text_of_lines (one ++ two)) text in
    subst P (sym second.whole) (with_second old now held left one two first)) second.appended

-- the first failed
pub first_failed : (old new : Option (List ℕ)) (held : List ℕ) (one two : List (List ℕ))
    → WritesPart old new (held ++ text_of_lines one) → WritesPart old new (held ++ text_of_lines (one ++ two))
first_failed old new held one two part =
    let P : List ℕ → Type 0 = λ text. WritesPart old new text in
    subst P (joined held one two) (part_of_front old new (held ++ text_of_lines one) (text_of_lines two) part)

-- the second failed
pub second_failed : (old now new : Option (List ℕ)) (held left : List ℕ) (one two : List (List ℕ))
    → Leaves old now (held ++ text_of_lines one) left → WritesPart now new (left ++ text_of_lines two) → WritesPart old new (held ++ text_of_lines (one ++ two))
second_failed old now new held left one two first part =
    part_of_all old now new (held ++ text_of_lines (one ++ two)) (left ++ text_of_lines two) (with_second old now held left one two first) part

-- the bytes of both, where the second was written to its end or in front
behind : (held left rest first second : List ℕ) (one two : List (List ℕ)) → first ++ left ≡ held ++ text_of_lines one
    → second ++ rest ≡ left ++ text_of_lines two → (first ++ second) ++ rest ≡ held ++ text_of_lines (one ++ two)
behind held left rest first second one two before later =
    append_assoc first second rest ∙ ap (λ (text : List ℕ). first ++ text) later ∙ sym (append_assoc first left (text_of_lines two))
    ∙ ap (λ (text : List ℕ). text ++ text_of_lines two) before ∙ joined held one two

module _ {K : Type 0} (outlet : Outlet K) where
  -- the first was printed, and then the second, or a part of it
  pub both_printed : (answer : Put) (held left rest : List ℕ) (one two : List (List ℕ)) (s t u : K)
      → Prints outlet Done (held ++ text_of_lines one) left s t → Prints outlet answer (left ++ text_of_lines two) rest t u
      → Prints outlet answer (held ++ text_of_lines (one ++ two)) rest s u
  both_printed Done held left rest one two s t u first second =
      (first.0 ++ second.0, outlet.wrote_joins s t u first.0 second.0 first.1 second.1, behind held left rest first.0 second.0 one two first.2 second.2)
  both_printed Failed held left rest one two s t u first second = (
    first.0 ++ second.0,
    outlet.wrote_joins s t u first.0 second.0 first.1 second.1,
    (second.2.0, behind held left second.2.0 first.0 second.0 one two first.2 second.2.1),
  )

  -- a part of the first was printed
  pub part_printed : (held left rest : List ℕ) (one two : List (List ℕ)) (s t : K)
      → Prints outlet Failed (held ++ text_of_lines one) left s t → Prints outlet Failed (held ++ text_of_lines (one ++ two)) rest s t
  part_printed held left rest one two s t first = (
    first.0,
    first.1,
    (first.2.0 ++ text_of_lines two, sym (append_assoc first.0 first.2.0 (text_of_lines two)) ∙ ap (λ (text : List ℕ). text ++ text_of_lines two) first.2.1 ∙ joined held one two),
  )
