-- Bytes that are written behind others.
use Rattle.std.proofs.Common.{◌≡◌, ℕ, List, [], ◌++◌, Some, refl, sym, ap, ◌∙◌, append_assoc}
use Rattle.causes.specs.Lists.{IsFrontOf}
use Rattle.causes.specs.Written.{Leaves, WritesPart}
use Rattle.disk_model.specs.Medium.{Medium}
use Rattle.station_base.specs.declared.row.Row.{Row}
use Rattle.station_io.specs.declared.sink.Put.TheVariants.{Done, Failed}
use Rattle.station_io.specs.Sink.{Outlet}
use Rattle.weather_book.specs.declared.book.Book.{Book}
use Rattle.weather_book.specs.Stands.{StandsToReadOn}
use Rattle.weather_reports.specs.Wrote.{Prints, Wrote}

-- behind some bytes others were written, of a text whose rest waits
pub leaves_behind : (before written left all : List ℕ) → written ++ left ≡ all → Leaves (Some before) (Some (before ++ written)) all left
leaves_behind before written left all whole = record { written = written; appended = refl; whole = whole }

-- behind some bytes a front of others was written
pub part_behind : (before written all : List ℕ) → IsFrontOf written all → WritesPart (Some before) (Some (before ++ written)) all
part_behind before written all front = record { left = front.0; leaves = leaves_behind before written front.0 all front.1 }

module _ {K D : Type 0} (outlet : Outlet K) (medium : Medium D) (book : Book) (disk : D) where
  -- no bytes were written
  pub wrote_nothing : (P : List Row → List ℕ → Type 0) (s : K)
      → ((rows : List Row) → StandsToReadOn medium book disk rows → (x : List ℕ) → medium.seen disk ≡ Some x → P rows [])
      → Wrote outlet medium book disk P s s
  wrote_nothing P s holds = ([], outlet.wrote_none s, holds)

  -- what was written has a second property too
  pub wrote_as : (P Q : List Row → List ℕ → Type 0) (s t : K) → Wrote outlet medium book disk P s t
      → ((rows : List Row) → StandsToReadOn medium book disk rows → (x : List ℕ) → medium.seen disk ≡ Some x → (w : List ℕ) → P rows w → Q rows w)
      → Wrote outlet medium book disk Q s t
  wrote_as P Q s t before step =
      (before.0, before.1, λ rows stands x told. step rows stands x told before.0 (before.2 rows stands x told))

  -- more bytes were written
  pub wrote_more : (P Q : List Row → List ℕ → Type 0) (s t u : K) (more : List ℕ) → Wrote outlet medium book disk P s t → outlet.wrote t more u
      → ((rows : List Row) → StandsToReadOn medium book disk rows → (x : List ℕ) → medium.seen disk ≡ Some x → (w : List ℕ) → P rows w → Q rows (w ++ more))
      → Wrote outlet medium book disk Q s u
  wrote_more P Q s t u more before later step =
      (before.0 ++ more, outlet.wrote_joins s t u before.0 more before.1 later, λ rows stands x told. step rows stands x told before.0 (before.2 rows stands x told))

-- of a text this is left, and a part of that was written
whole : (before written left rest held text all : List ℕ) → before ++ (held ++ (text ++ rest)) ≡ all → written ++ left ≡ held ++ text
    → (before ++ written) ++ (left ++ rest) ≡ all
whole before written left rest held text all was is =
    append_assoc before written (left ++ rest)
    ∙ (ap (λ (x : List ℕ). before ++ x) (sym (append_assoc written left rest) ∙ (ap (λ (x : List ℕ). x ++ rest) is ∙ append_assoc held text rest)) ∙ was)

module _ {K : Type 0} (outlet : Outlet K) where
  -- before the first write all waits
  pub prints_nothing : (all : List ℕ) (s : K) → Prints outlet Done all all s s
  prints_nothing all s = ([], outlet.wrote_none s, refl)

  -- one more text was printed
  pub prints_more : (all held text rest left : List ℕ) (s t u : K) → Prints outlet Done all (held ++ (text ++ rest)) s t
      → Prints outlet Done (held ++ text) left t u → Prints outlet Done all (left ++ rest) s u
  prints_more all held text rest left s t u before later =
      (before.0 ++ later.0, outlet.wrote_joins s t u before.0 later.0 before.1 later.1, whole before.0 later.0 left rest held text all before.2 later.2)

  -- the printing of one more text failed
  pub prints_part : (all held text rest waits left : List ℕ) (s t u : K) → Prints outlet Done all (held ++ (text ++ rest)) s t
      → Prints outlet Failed (held ++ text) waits t u → Prints outlet Failed all left s u
  prints_part all held text rest waits left s t u before later = (
    before.0 ++ later.0,
    outlet.wrote_joins s t u before.0 later.0 before.1 later.1,
    (later.2.0 ++ rest, whole before.0 later.0 later.2.0 rest held text all before.2 later.2.1),
  )
