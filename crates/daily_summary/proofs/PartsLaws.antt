-- The parts of a summary, entry by entry.
use Rattle.std.proofs.Common.{◌≡◌, ◌⊎◌, inl, inr, ◌≢◌, ℕ, zero, suc, ◌+◌, ◌-◌, ◌*◌, ◌≤◌, ◌<◌, List, [], ◌∷◌, ◌++◌, length, take, drop, get_or, set, replicate, Option, Some, None, refl, ap, sym, subst, ◌∙◌, arith, append_assoc, append-nil, below_more, get_or-set_other, get_or-set_same, length-set, length-append}
use Rattle.std.specs.Prelude.{IfSome, flat_map, All}
use Rattle.daily_summary.specs.WellFormed.{AreParts, BytesAreBlank, IsEntry}
use Rattle.std.specs.List.{range_with_len}
use Rattle.std.proofs.Math.Seq.{take-append_seam, drop-append_seam}
use Rattle.std.proofs.Math.ListN.{get_or-eq_default}
use Rattle.std.proofs.lemmas.Bool.{cases_lt}
use Rattle.std.proofs.lemmas.List.{length-drop, drop-drop, take-append-drop, take_all, ext_get_or}
use borrow.Rule.Slice.PartMut.{put_mid}
use Rattle.daily_summary.proofs.Entries.{zeros, all_zeros}
use Rattle.daily_summary.proofs.Pieces.{put_behind}
use Rattle.daily_summary.specs.declared.field_sum.FieldSum.{FieldSum}
use Rattle.daily_summary.specs.declared.summary.DaySummary.{DaySummary}
use Rattle.daily_summary.specs.Bounds.{IsSumOf, IsInBounds}
use Rattle.daily_summary.specs.Parts.{field_entry, entry_at, entry_in, part_size, summary_part, summary_parts, IsTyped, AreTyped, entry_size, part_count}
use Rattle.station_base.specs.Limits.{most_rows}
use Rattle.station_base.specs.Fields.{field_count}

-- the bytes are chunks of 44
chunks : (n a : ℕ) (f : ℕ → List ℕ) (xs : List ℕ) → length xs ≡ entry_size * n → ((i : ℕ) → i < n → entry_in i xs ≡ f (a + i)) → xs ≡ flat_map f (range_with_len a n)
chunks zero a f [] long each = refl
chunks zero a f (x ∷ xs) long each = absurd (omega arith)
chunks (suc n) a f xs long each =
    let first : take entry_size xs ≡ f a = each 0 (omega arith) ∙ ap f (let e : a + 0 ≡ a = omega arith in e) in
    let rest : drop entry_size xs ≡ flat_map f (range_with_len (a + 1) n) =
    chunks n (a + 1) f (drop entry_size xs) (omega (arith, length-drop entry_size xs))
    (λ i h. ap (take entry_size) (drop-drop (entry_size * i) entry_size xs ∙ ap (λ (k : ℕ). drop k xs) (let e : entry_size + entry_size * i ≡ entry_size * suc i = omega arith in e)) ∙ each (suc i) (omega arith) ∙ ap f (let e : a + suc i ≡ a + 1 + i = omega arith in e)) in
    sym (take-append-drop entry_size xs) ∙ ap (λ (ys : List ℕ). ys ++ drop entry_size xs) first ∙ ap (λ (ys : List ℕ). f a ++ ys) rest

-- and the other way round
chunk_at : (n a i : ℕ) (f : ℕ → List ℕ) → ((j : ℕ) → length (f j) ≡ entry_size) → i < n → entry_in i (flat_map f (range_with_len a n)) ≡ f (a + i)
chunk_at zero a i f long within = absurd (omega arith)
chunk_at (suc n) a zero f long within =
    ap (λ (k : ℕ). take k (f a ++ flat_map f (range_with_len (a + 1) n))) (sym (long a)) ∙ take-append_seam (f a) (flat_map f (range_with_len (a + 1) n)) ∙ ap f (let e : a ≡ a + 0 = omega arith in e)
chunk_at (suc n) a (suc i) f long within =
    let rest : List ℕ = flat_map f (range_with_len (a + 1) n) in
    let place : entry_size * suc i ≡ entry_size + entry_size * i = omega arith in
    let behind : drop entry_size (f a ++ rest) ≡ rest = ap (λ (k : ℕ). drop k (f a ++ rest)) (sym (long a)) ∙ drop-append_seam (f a) rest in
    ap (λ (k : ℕ). take entry_size (drop k (f a ++ rest))) place ∙ ap (take entry_size) (sym (drop-drop (entry_size * i) entry_size (f a ++ rest))) ∙ ap (entry_in i) behind
    ∙ chunk_at n (a + 1) i f long (omega arith) ∙ ap f (let e : a + 1 + i ≡ a + suc i = omega arith in e)

entry_long : (o : Option FieldSum) → length (field_entry o) ≡ entry_size
entry_long None = refl
entry_long (Some s) = refl

entry_at_long : (s : DaySummary) (field : ℕ) → length (entry_at field s) ≡ entry_size
unfolding entry_at
entry_at_long s field = entry_long (get_or s.fields field None)

-- thirteen parts are thirty-nine entries
entries_of : DaySummary → List ℕ
entries_of s = flat_map (λ field. entry_at field s) (range_with_len 0 39)

parts_entries : (s : DaySummary) → summary_parts s ≡ entries_of s
unfolding entries_of
parts_entries s = simp append_assoc

-- the entry of a field stands in the parts
pub entry_there : (s : DaySummary) (parts : List ℕ) (field : ℕ) → summary_parts s ≡ parts → field < 39 → entry_in field parts ≡ field_entry (get_or s.fields field None)
unfolding entries_of entry_at
entry_there s parts field is within =
    ap (entry_in field) (sym is ∙ parts_entries s) ∙ chunk_at 39 0 field (λ f. entry_at f s) (entry_at_long s) within
    ∙ ap (λ (k : ℕ). entry_at k s) (let e : 0 + field ≡ field = omega arith in e)

-- parts whose entries are those of a summary
pub parts_are : (s : DaySummary) (parts : List ℕ) → length parts ≡ part_count * part_size → ((field : ℕ) → field < 39 → entry_in field parts ≡ field_entry (get_or s.fields field None)) → summary_parts s ≡ parts
unfolding entries_of entry_at
parts_are s parts long each =
    parts_entries s ∙ sym (chunks 39 0 (λ f. entry_at f s) parts (omega (arith, long)) (λ i h. each i h ∙ ap (λ (k : ℕ). entry_at k s) (let e : i ≡ 0 + i = omega arith in e)))

-- the fields that were read so far
pub record AreRead (count rows : ℕ) (parts : List ℕ) (fields : List (Option FieldSum)) : Type 0 where
  pub long : length fields ≡ field_count
  pub right : (k : ℕ) → k < count → IsEntry rows (entry_in k parts)
  pub written : (k : ℕ) → k < count → entry_in k parts ≡ field_entry (get_or fields k None)
  pub bounds : (k : ℕ) → k < count → IfSome (get_or fields k None) (IsSumOf rows)
  pub only : (k : ℕ) → k < count → (sum : Option FieldSum) → IfSome sum IsTyped → IfSome sum (IsSumOf rows) → field_entry sum ≡ entry_in k parts → get_or fields k None ≡ sum

pub more_read : (count size rows : ℕ) (parts : List ℕ) (fields : List (Option FieldSum)) (value : Option FieldSum) → count < field_count → size ≡ entry_size → IsEntry rows (take size (drop (entry_size * count) parts)) → field_entry value ≡ take size (drop (entry_size * count) parts) → IfSome value (IsSumOf rows) →
    ((sum : Option FieldSum) → IfSome sum IsTyped → IfSome sum (IsSumOf rows) → field_entry sum ≡ take size (drop (entry_size * count) parts) → Some value ≡ Some sum) → AreRead count rows parts fields →
    AreRead (count + 1) rows parts (set fields count value)
more_read count size rows parts fields value within is44 right written bound only are =
    let room : count < length fields = omega (arith, are.long) in
    let here : get_or (set fields count value) count None ≡ value = get_or-set_same fields count value None room in
    record {
      long = length-set fields count value ∙ are.long;
      right = below_more _ _ are.right (subst (λ (n : ℕ). IsEntry rows (take n (drop (entry_size * count) parts))) is44 right);
      written = below_more _ _ (λ k h. let other : k ≢ count = omega arith in rw get_or-set_other (are.written k h)) (rw here (sym (written ∙ ap (λ (n : ℕ). take n (drop (entry_size * count) parts)) is44)));
      bounds = below_more _ _ (λ k h. let other : k ≢ count = omega arith in rw get_or-set_other (are.bounds k h)) (rw here bound);
      only = below_more _ _ (λ k h. let other : k ≢ count = omega arith in rw get_or-set_other (are.only k h))
          (λ sum stored sums same. here ∙ some_is value sum (only sum stored sums (same ∙ ap (λ (n : ℕ). take n (drop (entry_size * count) parts)) (sym is44))));
    }
  where
    some_is : (a b : Option FieldSum) → Some a ≡ Some b → a ≡ b
    some_is a b e = cc

blank_at : (s : DaySummary) (field : ℕ) → length s.fields ≡ field_count → field_count ≤ field → get_or s.fields field None ≡ None
blank_at s field long past = get_or-eq_default s.fields None {n = field} (omega (arith, long))

blank_chunk : (field : ℕ) (xs : List ℕ) → field_count ≤ field → field < 39 → drop 1628 xs ≡ replicate 88 0 → entry_in field xs ≡ replicate entry_size 0
blank_chunk field xs from to blank =
    by (field - field_count) (omega arith) ∙ refl
  where
    place : (k : ℕ) → field ≡ field_count + k → drop (entry_size * field) xs ≡ drop (entry_size * k) (replicate 88 0)
    place k e = ap (λ (n : ℕ). drop n xs) (let f : entry_size * field ≡ 1628 + entry_size * k = omega arith in f) ∙ sym (drop-drop (entry_size * k) 1628 xs) ∙ ap (drop (entry_size * k)) blank

    by : (k : ℕ) → field ≡ field_count + k → entry_in field xs ≡ replicate entry_size 0
    by zero e = ap (take entry_size) (place 0 e)
    by (suc zero) e = ap (take entry_size) (place 1 e)
    by (suc (suc k)) e = absurd (omega arith)

-- the summary of what was read
pub found_parts : (rows : ℕ) (parts : List ℕ) (fields : List (Option FieldSum)) → length parts ≡ part_count * part_size → rows ≤ most_rows → AreRead field_count rows parts fields → drop 1628 parts ≡ replicate 88 0 →
    let s : DaySummary = record { fields = fields; rows = rows } in IsInBounds s × (summary_parts s ≡ parts)
found_parts rows parts fields long few are blank =
    let s : DaySummary = record { fields = fields; rows = rows } in
    (record { rows = few; fields = λ field. bounded field (cases_lt field field_count) }, parts_are s parts long (λ field h. chunk field h (cases_lt field field_count)))
  where
    bounded : (field : ℕ) → (field < field_count) ⊎ (field_count ≤ field) → IfSome (get_or fields field None) (IsSumOf rows)
    bounded field (inl h) = are.bounds field h
    bounded field (inr h) = subst (λ (o : Option FieldSum). IfSome o (IsSumOf rows)) (sym (get_or-eq_default fields None {n = field} (omega (arith, are.long)))) tt

    chunk : (field : ℕ) → field < 39 → (field < field_count) ⊎ (field_count ≤ field) → entry_in field parts ≡ field_entry (get_or fields field None)
    chunk field within (inl h) = are.written field h
    chunk field within (inr h) = blank_chunk field parts h within blank ∙ ap field_entry (sym (get_or-eq_default fields None {n = field} (omega (arith, are.long))))

made : List (Option FieldSum) → ℕ → DaySummary
made fields rows = record { fields = fields; rows = rows }

pub only_parts : (rows : ℕ) (parts : List ℕ) (fields : List (Option FieldSum)) (s : DaySummary) → AreRead field_count rows parts fields → s.rows ≡ rows → IsInBounds s → AreTyped s → summary_parts s ≡ parts →
    record { fields = fields; rows = rows } ≡ s
unfolding made
only_parts rows parts fields s are count within stored is =
    let same : fields ≡ s.fields = ext_get_or None fields s.fields (are.long ∙ sym stored.long)
    (λ i h. let small : i < field_count = omega (arith, are.long) in are.only i small (get_or s.fields i None) (stored.each i) (subst (λ (n : ℕ). IfSome (get_or s.fields i None) (IsSumOf n)) count (within.fields i))
    (sym (entry_there s parts i is (omega arith)))) in
    let e : made fields rows ≡ made s.fields s.rows = rw (same, count) refl in e

-- the bytes past the last field
pub rest_there : (s : DaySummary) (parts : List ℕ) → length parts ≡ part_count * part_size → length s.fields ≡ field_count → summary_parts s ≡ parts → drop 1628 parts ≡ replicate 88 0
unfolding entry_at
rest_there s parts long fields is =
    let ys : List ℕ = drop 1628 parts in
    let two : ys ≡ flat_map (λ f. entry_at f s) (range_with_len field_count 2) =
    chunks 2 field_count (λ f. entry_at f s) ys (omega (arith, length-drop 1628 parts))
    (λ i h. ap (take entry_size) (drop-drop (entry_size * i) 1628 parts ∙ ap (λ (k : ℕ). drop k parts) (let e : 1628 + entry_size * i ≡ entry_size * (field_count + i) = omega arith in e)) ∙ entry_there s parts (field_count + i) is (omega arith)) in
    two ∙ ap (λ (o : Option FieldSum). field_entry o ++ (field_entry (get_or s.fields 38 None) ++ [])) (blank_at s field_count fields (omega arith))
    ∙ ap (λ (o : Option FieldSum). replicate entry_size 0 ++ (field_entry o ++ [])) (blank_at s 38 fields (omega arith))

pub field_only : (rows : ℕ) (parts : List ℕ) (s : DaySummary) (field size : ℕ) (read : Option (Option FieldSum)) → field < field_count → size ≡ entry_size → s.rows ≡ rows → IsInBounds s → AreTyped s → summary_parts s ≡ parts → read ≡ None →
    ((sum : Option FieldSum) → IfSome sum IsTyped → IfSome sum (IsSumOf rows) → field_entry sum ≡ take size (drop (entry_size * field) parts) → read ≡ Some sum) → ⊥
field_only rows parts s field size read small is44 count within stored is none only =
    let e = only (get_or s.fields field None) (stored.each field) (subst (λ (n : ℕ). IfSome (get_or s.fields field None) (IsSumOf n)) count (within.fields field)) (sym (entry_there s parts field is (omega arith)) ∙ ap (λ (n : ℕ). take n (drop (entry_size * field) parts)) (sym is44)) in
    cc

pub blank_all : (parts : List ℕ) → drop 1628 parts ≡ replicate 88 0 → All {X = ℕ} (λ byte. byte ≡ 0) (take 88 (drop 1628 parts))
blank_all parts is = subst (λ (xs : List ℕ). All {X = ℕ} (λ byte. byte ≡ 0) (take 88 xs)) (sym is) (all_zeros 88)

pub all_blank : (parts : List ℕ) → length parts ≡ part_count * part_size → All {X = ℕ} (λ byte. byte ≡ 0) (take 88 (drop 1628 parts)) → drop 1628 parts ≡ replicate 88 0
all_blank parts long all =
    let size : length (drop 1628 parts) ≡ 88 = omega (arith, length-drop 1628 parts) in
    zeros (drop 1628 parts) 88 size (subst (λ (xs : List ℕ). All {X = ℕ} (λ byte. byte ≡ 0) xs) (take_all 88 (drop 1628 parts) (omega (arith, size))) all)

pub part_long : (k : ℕ) (s : DaySummary) → length (summary_part k s) ≡ part_size
part_long k s =
    omega (arith, length-append (entry_at (3 * k) s ++ entry_at (3 * k + 1) s) (entry_at (3 * k + 2) s), length-append (entry_at (3 * k) s) (entry_at (3 * k + 1) s), entry_at_long s (3 * k), entry_at_long s (3 * k + 1), entry_at_long s (3 * k + 2))

-- the parts of a whole summary are right
pub right_parts : (rows : ℕ) (parts : List ℕ) (fields : List (Option FieldSum)) → length parts ≡ part_count * part_size → rows ≤ most_rows → AreRead field_count rows parts fields → drop 1628 parts ≡ replicate 88 0 → AreParts rows parts
right_parts rows parts fields long few are blank = record { few = few; entries = are.right; past = subst BytesAreBlank (sym blank) (all_zeros 88) }

-- so many entries from a field on, in front of zeros in place of those that are still to be written
pub record AreWritten (s : DaySummary) (first count : ℕ) (part : List ℕ) : Type 0 where
  pub bytes : part ≡ flat_map (λ field. entry_at field s) (range_with_len first count) ++ drop (entry_size * count) (replicate part_size 0)

entries_long : (s : DaySummary) (first count : ℕ) → length (flat_map (λ field. entry_at field s) (range_with_len first count)) ≡ entry_size * count
entries_long s first zero = refl
entries_long s first (suc count) =
    omega (arith, length-append (entry_at first s) (flat_map (λ field. entry_at field s) (range_with_len (first + 1) count)), entry_at_long s first, entries_long s (first + 1) count)

entries_more : (s : DaySummary) (first count : ℕ) →
    flat_map (λ field. entry_at field s) (range_with_len first (suc count)) ≡ flat_map (λ field. entry_at field s) (range_with_len first count) ++ entry_at (first + count) s
entries_more s first zero = append-nil (entry_at first s) ∙ ap (λ (k : ℕ). entry_at k s) (let e : first ≡ first + 0 = omega arith in e)
entries_more s first (suc count) =
    let rest : List ℕ = flat_map (λ field. entry_at field s) (range_with_len (first + 1) count) in
    ap (λ (xs : List ℕ). entry_at first s ++ xs) (entries_more s (first + 1) count) ∙ sym (append_assoc (entry_at first s) rest (entry_at (first + 1 + count) s))
    ∙ ap (λ (k : ℕ). (entry_at first s ++ rest) ++ entry_at k s) (let e : first + 1 + count ≡ first + suc count = omega arith in e)

pub one_written : (s : DaySummary) (first count size : ℕ) (part new : List ℕ) → size ≡ entry_size → AreWritten s first count part → new ≡ entry_at (first + count) s →
    AreWritten s first (count + 1) (put_mid (entry_size * count) size part new)
one_written s first count size part new is44 are new_is =
    let front : List ℕ = flat_map (λ field. entry_at field s) (range_with_len first count) in
    let blank : List ℕ = replicate part_size 0 in
    let place : entry_size + entry_size * count ≡ entry_size * (count + 1) = omega arith in
    record {
      bytes =
          ap (λ (n : ℕ). put_mid (entry_size * count) n part new) is44 ∙ ap (λ (xs : List ℕ). put_mid (entry_size * count) entry_size xs new) are.bytes
          ∙ put_behind (entry_size * count) entry_size front (drop (entry_size * count) blank) new (entries_long s first count)
          ∙ ap (λ (xs : List ℕ). front ++ (new ++ xs)) (drop-drop entry_size (entry_size * count) blank)
          ∙ ap (λ (k : ℕ). front ++ (new ++ drop k blank)) (let e : entry_size * count + entry_size ≡ entry_size * (count + 1) = omega arith in e)
          ∙ ap (λ (xs : List ℕ). front ++ (xs ++ drop (entry_size * (count + 1)) blank)) new_is
          ∙ sym (append_assoc front (entry_at (first + count) s) (drop (entry_size * (count + 1)) blank))
          ∙ ap (λ (xs : List ℕ). xs ++ drop (entry_size * (count + 1)) blank) (sym (entries_more s first count) ∙ ap (λ (k : ℕ). flat_map (λ field. entry_at field s) (range_with_len first k)) (let e : suc count ≡ count + 1 = omega arith in e));
    }

pub part_written : (s : DaySummary) (k count : ℕ) (part : List ℕ) → count ≡ 3 → AreWritten s (3 * k) count part → part ≡ summary_part k s
part_written s k count part all are =
    let three = subst (λ (n : ℕ). AreWritten s (3 * k) n part) all are in
    three.bytes ∙ ap (λ (n : ℕ). (entry_at (3 * k) s ++ (entry_at (3 * k + 1) s ++ (entry_at n s ++ []))) ++ []) (let e : 3 * k + 1 + 1 ≡ 3 * k + 2 = omega arith in e) ∙ simp (append_assoc, append-nil)

-- the bytes past the last field, as the code takes them
pub blank_front : (parts : List ℕ) → length parts ≡ part_count * part_size → BytesAreBlank (drop 1628 parts) → BytesAreBlank (take 88 (drop 1628 parts))
blank_front parts long blank = subst BytesAreBlank (sym (take_all 88 (drop 1628 parts) (omega (arith, length-drop 1628 parts)))) blank
