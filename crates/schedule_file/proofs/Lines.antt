-- Lines that are read one after the other.
use Rattle.std.proofs.Common.{◌≡◌, ℕ, suc, ◌+◌, ◌-◌, ◌<◌, ◌≤◌, Bool, true, false, Option, Some, None, List, [], ◌∷◌, ◌++◌, length, refl, ap, ◌∙◌, arith, Result, Ok, Err}
use Rattle.std.specs.Prelude.{nat_lt, nat_le, map, not, ◌||◌, if◌then◌else◌}
use Rattle.std.specs.Result.{is_err}
use Rattle.std.specs.Prelude.{OnOk}
use Rattle.std.specs.List.{slice_get, list_any}
use Rattle.std.proofs.lemmas.Bool.{ltb-true, leb-true}
use Rattle.schedule_file.specs.declared.fates.Fates.{Fates}
use Rattle.schedule_file.specs.declared.schedule.form.Told.{Told}
use Rattle.schedule_file.specs.declared.schedule.form.Form.TheVariants as form
use Rattle.schedule_file.specs.declared.fates.Mid.{Mid}
use Rattle.schedule_file.specs.Steps.{Said, Details, MidRecord, mid_seen, details_seen}
use Rattle.schedule_file.specs.Kinds.{is_below_last, is_in_round, is_due, FaultKind, kind_if, first_applying, told_kinds}
use Rattle.schedule_file.specs.Reading.{read_schedule_line, read_lines, accept, said_with_form, said_or}
use Rattle.schedule_file.specs.Limits.{most_records, most_mids}

-- a line that was read
pub line_more : (period n : ℕ) (line : List ℕ) (lines : List (List ℕ)) (s t : Said) → read_schedule_line period n line s ≡ Ok t
    → read_lines period n (line ∷ lines) s ≡ read_lines period (n + 1) lines t
line_more period n line lines s t read = rw read refl

-- a line that has a fault
pub line_fault : (period n kind : ℕ) (line : List ℕ) (lines : List (List ℕ)) (s : Said) → read_schedule_line period n line s ≡ Err kind
    → read_lines period n (line ∷ lines) s ≡ Err (record { line = n; kind = kind })
line_fault period n kind line lines s read = rw read refl

-- the last of several
pub last_below : (period n : ℕ) (xs : List Mid) (m : Mid) → slice_get xs (length xs - 1) ≡ Some m
    → is_below_last (map (mid_seen period) xs) n ≡ nat_lt n m.number
last_below period n [] m found = cc
last_below period n (x ∷ []) m found =
    let same : x ≡ m = cc in
    ap (λ (y : Mid). nat_lt n y.number) same
last_below period n (x ∷ y ∷ xs) m found =
    let e : length (x ∷ y ∷ xs) - 1 ≡ suc (length (y ∷ xs) - 1) = omega arith in
    last_below period n (y ∷ xs) m (rw e at found)

least_step : (applies : Bool) (kind : ℕ) (front all more : Option ℕ) → (front ≡ None → all ≡ more)
    → (if applies then Some kind else front) ≡ None → (if applies then Some kind else all) ≡ more
least_step true kind front all more rest none = cc
least_step false kind front all more rest none = rest none

-- kinds that do not apply, and more
pub least_more : (ks more : List FaultKind) → first_applying ks ≡ None → first_applying (ks ++ more) ≡ first_applying more
least_more [] more none = refl
least_more (k ∷ ks) more none = least_step k.applies k.kind (first_applying ks) (first_applying (ks ++ more)) (first_applying more) (least_more ks more) none

-- what an answer that is no error ensures
pub on_ok : {A E P : Type 0} (r : Result A E) → is_err r ≡ false → OnOk r P → P
on_ok (Ok x) right p = p
on_ok (Err e) right p = cc

not_above : (m n : ℕ) → n ≤ m → nat_lt m n ≡ false
not_above m n le = go (nat_lt m n) refl
  where
    go : (b : Bool) → nat_lt m n ≡ b → b ≡ false
    go true e = absurd (omega (arith, ltb-true m n e))
    go false e = refl

not_from : (m n : ℕ) → n < m → nat_le m n ≡ false
not_from m n lt = go (nat_le m n) refl
  where
    go : (b : Bool) → nat_le m n ≡ b → b ≡ false
    go true e = absurd (omega (arith, leb-true m n e))
    go false e = refl

-- a record that falls due in a round
pub mid_accepted : (period number : ℕ) (s : Said) (told : Told) → first_applying (told_kinds period s told 1) ≡ None → is_in_round s.turn ≡ true
    → list_any is_due s.since ≡ false → s.records + 1 ≤ most_records → is_below_last s.details.mids number ≡ false → length s.details.mids < most_mids
    → accept period s (form.Mid number told) ≡ Ok (said_with_form period s (form.Mid number told))
mid_accepted period number s told none in_round no_due few not_below room =
    let more : List FaultKind = kind_if 8 (not (is_in_round s.turn) || list_any is_due s.since) ∷ kind_if 10 (nat_lt most_records (s.records + 1))
    ∷ kind_if 13 (is_below_last s.details.mids number) ∷ kind_if 14 (nat_le most_mids (length s.details.mids)) ∷ [] in
    let rest : first_applying more ≡ None = rw (in_round, no_due, not_above most_records (s.records + 1) few, not_below, not_from most_mids (length s.details.mids) room) refl in
    ap (λ k. said_or k (said_with_form period s (form.Mid number told))) (least_more (told_kinds period s told 1) more none ∙ rest)

-- fates with other mids
pub details_with : (period : ℕ) (f g : Fates) (mids : List MidRecord) → g.host.entries ≡ f.host.entries → g.replies.entries ≡ f.replies.entries
    → g.lates.entries ≡ f.lates.entries → map (mid_seen period) g.mids.items ≡ mids
    → record (details_seen period f) { mids = mids } ≡ details_seen period g
details_with period f g mids host replies lates same = rw (host, replies, lates, same) refl

pub said_with : (s : Said) (details more : Details) (newest later : ℕ) → more ≡ details → later ≡ newest
    → ◌≡◌ {A = Said} (record s { details = more; newest = later; records = s.records + 1 }) (record s { details = details; newest = newest; records = s.records + 1 })
said_with s details more newest later same_details same_newest = rw (same_details, same_newest) refl
