-- What is found as the slots of a log are read one behind another.
use Rattle.std.proofs.Common.{sym, subst, arith, length-append}
use Rattle.std.proofs.lemmas.List.{append-nil, append_assoc}
use Rattle.std.specs.Prelude.{◌≡◌, ℕ, ◌+◌, List, [], ◌++◌, length, map, Some, None, Ok, Err}
use Rattle.std.specs.declared.option.Option.{Option}
use Rattle.std.specs.declared.result.Result.{Result}
use Rattle.station_base.specs.declared.row.Row.{Row}
use Rattle.gated_log.specs.declared.version.Version.{Version}
use Rattle.gated_log.specs.Visits.{Visits}
use Rattle.weather_book.specs.declared.kept.Kept.{Kept}
use Rattle.weather_book.specs.declared.reading.Reading.{Reading}
use Rattle.weather_book.specs.declared.reading.Unfit.{Unfit}
use Rattle.weather_book.specs.declared.reading.Unfit.TheVariants.{Damaged, OutOfMemory}
use Rattle.weather_book.specs.Kept.{KeepsOf}
use Rattle.packed_rows.specs.Rows.{RowsOf, rows_from, as_read, holds, damaged, slot_total}

-- the rows of the slots of a log of this version
abbrev pub rows_of_slots : Version → List (List ℕ) → RowsOf
rows_of_slots version slots = rows_from [] 0 0 (map (as_read version) slots)

-- The slots hold the rows that are kept, and behind them so many summary slots stand open: whatever slots follow are
-- judged by these.
pub record KeepsSlots (version : Version) (slots : List (List ℕ)) (reading : Reading) : Type 0 where
  pub rows : List Row
  pub keeps : KeepsOf reading.kept.days.items reading.kept.count reading.kept.tail rows
  pub total : slot_total rows + reading.shown ≡ length slots
  pub judged_by : (more : List (List ℕ)) → rows_of_slots version (slots ++ more)
      ≡ rows_from rows reading.shown (length slots) (map (as_read version) more)

-- a reading keeps the slots; or one of them is damaged, whatever slots follow; or there was no memory
abbrev pub FoundBy : Option Unfit → Version → List (List ℕ) → Reading → Type 0
FoundBy None version slots reading = KeepsSlots version slots reading
FoundBy (Some (Damaged place)) version slots reading =
    (more : List (List ℕ)) → rows_of_slots version (slots ++ more) ≡ damaged place
FoundBy (Some OutOfMemory) version slots reading = Unit {0}

-- The reading was shown these slots, from the first of a log on.
pub record HasRead (version : Version) (slots : List (List ℕ)) (reading : Reading) : Type 0 where
  pub seen_is : reading.seen ≡ length slots
  pub found : FoundBy reading.unfit version slots reading

-- One reading became another by being shown these slots, whatever slots came before.
pub record ReadsOn (version : Version) (old : Reading) (slots : List (List ℕ)) (new : Reading) : Type 0 where
  pub seen_is : new.seen ≡ old.seen + length slots
  pub found : (before : List (List ℕ)) → HasRead version before old → HasRead version (before ++ slots) new

pub reads_none : (version : Version) (r : Reading) → ReadsOn version r [] r
reads_none version r = record {
  seen_is = omega arith;
  found = λ before has. subst (λ (slots : List (List ℕ)). HasRead version slots r) (sym (append-nil before)) has;
}

pub reads_join : (version : Version) (u v w : Reading) (first later : List (List ℕ)) → ReadsOn version u first v
    → ReadsOn version v later w → ReadsOn version u (first ++ later) w
reads_join version u v w first later one two = record {
  seen_is = omega (arith, one.seen_is, two.seen_is, length-append first later);
  found = λ before has. subst (λ (slots : List (List ℕ)). HasRead version slots w) (append_assoc before first later)
      (two.found (before ++ first) (one.found before has));
}

-- what the slots of a log are to a reading
abbrev pub reading_visits : Visits Reading
reading_visits = record {
  saw = ReadsOn;
  count = λ reading. reading.seen;
  saw_none = reads_none;
  saw_joins = reads_join;
  counts = λ version u v slots on. on.seen_is;
}

-- the clause of what is kept in the end
abbrev pub OnKept : Result Kept Unfit → (Kept → Type 0) → Type 0
OnKept (Ok kept) P = P kept
OnKept (Err unfit) P = Unit {0}

-- the clause of a damaged place
abbrev pub OnUnfit : Result Kept Unfit → (ℕ → Type 0) → Type 0
OnUnfit (Err (Damaged place)) P = P place
OnUnfit other P = Unit {0}

-- these are the rows that the slots hold, and what is kept of them
pub record KeepsAll (version : Version) (slots : List (List ℕ)) (kept : Kept) : Type 0 where
  pub rows : List Row
  pub keeps : KeepsOf kept.days.items kept.count kept.tail rows
  pub total : slot_total rows ≡ length slots
  pub holds_them : rows_of_slots version slots ≡ holds rows
