-- The parts of a summary in the slots that close its day.
use Rattle.std.proofs.Common.{◌≡◌, inl, inr, ℕ, ℤ, zero, suc, ◌+◌, ◌*◌, ◌<◌, ◌≤◌, List, [], ◌∷◌, ◌++◌, length, take, drop, get_or, replicate, refl, sym, ◌∙◌, ap, subst, arith, append_assoc, append-nil, length-append, ◌-◌}
use Rattle.std.specs.Prelude.{flat_map}
use Rattle.std.specs.List.{range_with_len}
use Rattle.std.proofs.Math.Seq.{take-append_seam}
use Rattle.std.proofs.lemmas.List.{length-drop, drop-drop, drop-take, take-take, length-take}
use Rattle.daily_summary.proofs.Pieces.{put_behind}
use Rattle.packed_rows.specs.Closed.{IsClosedAt, part_at, parts_at}
use borrow.Rule.Slice.PartMut.{put_mid}
use Rattle.daily_summary.specs.declared.summary.DaySummary.{DaySummary}
use Rattle.daily_summary.specs.Bounds.{IsInBounds}
use Rattle.daily_summary.specs.Parts.{part_size, summary_part, summary_parts, part_count}
use Rattle.daily_summary.specs.WellFormed.{IsStoredAs}
use Rattle.daily_summary.proofs.PartsLaws.{part_long}
use Rattle.gated_log.specs.Log.{as_handed}
use Rattle.gated_log.specs.Stands.{AreSlots, IsSlot}
use Rattle.gated_log.specs.Layout.{slot_size}
use Rattle.packed_rows.specs.Closing.{part_place, summary_slot}

-- the part in a slot
pub part_in : List ℕ → List ℕ
part_in slot = take part_size (drop part_place slot)

same_part : (slot : List ℕ) → part_in (as_handed slot) ≡ part_in slot
unfolding part_in
same_part [] = refl
same_part (a ∷ []) = refl
same_part (a ∷ b ∷ []) = refl
same_part (a ∷ b ∷ c ∷ []) = refl
same_part (a ∷ b ∷ c ∷ d ∷ rest) = refl

part_written : (day : ℤ) (k : ℕ) (s : DaySummary) → part_in (summary_slot day k s) ≡ summary_part k s
unfolding part_in summary_slot
part_written day k s =
    ap (λ (n : ℕ). take n (summary_part k s ++ replicate (slot_size - part_place - part_size) 0)) (sym (part_long k s)) ∙ take-append_seam (summary_part k s) (replicate (slot_size - part_place - part_size) 0)

-- what is read of a slot that closes a day has its part
pub part_read : (day : ℤ) (k : ℕ) (s : DaySummary) (slot bytes : List ℕ) → IsSlot slot bytes → as_handed slot ≡ summary_slot day k s → take part_size (drop part_place bytes) ≡ summary_part k s
unfolding part_in
part_read day k s slot bytes (inl same) is = ap part_in (sym same) ∙ sym (same_part slot) ∙ ap part_in is ∙ part_written day k s
part_read day k s slot bytes (inr same) is = sym (same_part bytes) ∙ ap part_in (sym same) ∙ sym (same_part slot) ∙ ap part_in is ∙ part_written day k s

-- lists that are the same part by part
same_parts : (n a : ℕ) (f g : ℕ → List ℕ) → ((i : ℕ) → i < n → f (a + i) ≡ g (a + i)) → flat_map f (range_with_len a n) ≡ flat_map g (range_with_len a n)
same_parts zero a f g each = refl
same_parts (suc n) a f g each =
    let first : f a ≡ g a = ap f (let e : a ≡ a + 0 = omega arith in e) ∙ each 0 (omega arith) ∙ ap g (let e : a + 0 ≡ a = omega arith in e) in
    let rest = same_parts n (a + 1) f g (λ i h. ap f (let e : a + 1 + i ≡ a + suc i = omega arith in e) ∙ each (suc i) (omega arith) ∙ ap g (let e : a + suc i ≡ a + 1 + i = omega arith in e)) in
    ap (λ (xs : List ℕ). xs ++ flat_map f (range_with_len (a + 1) n)) first ∙ ap (λ (xs : List ℕ). g a ++ xs) rest

-- the parts in slots that close a day are those of its summary
pub parts_read : (slots : List (List ℕ)) (place : ℕ) (day : ℤ) (s : DaySummary) (bytes : List ℕ) → length bytes ≡ part_count * slot_size → AreSlots slots place bytes → IsClosedAt slots place day s → parts_at bytes ≡ summary_parts s
parts_read slots place day s bytes long are closed =
    same_parts part_count 0 (part_at bytes) (λ k. summary_part k s)
    (λ i h. ap (part_at bytes) (let e : 0 + i ≡ i = omega arith in e) ∙ one i h ∙ ap (λ (k : ℕ). summary_part k s) (let e : i ≡ 0 + i = omega arith in e))
  where
    one : (i : ℕ) → i < part_count → part_at bytes i ≡ summary_part i s
    one i h =
        let slot_bytes : List ℕ = take slot_size (drop (slot_size * i) bytes) in
        let inner : take part_size (drop part_place slot_bytes) ≡ part_at bytes i =
        ap (take part_size) (drop-take part_place (slot_size - part_place) (drop (slot_size * i) bytes)) ∙ take-take part_size (slot_size - part_place) (drop part_place (drop (slot_size * i) bytes)) (omega arith) ∙ ap (take part_size) (drop-drop part_place (slot_size * i) bytes) in
        sym inner ∙ part_read day i s (get_or slots (place + i) []) slot_bytes (are i (omega (arith, long, h))) (closed.each i h)

-- so many parts in front of zeros in place of those that are still to be copied
pub record AreCopied (bytes : List ℕ) (count : ℕ) (parts : List ℕ) : Type 0 where
  pub parts_are : parts ≡ flat_map (part_at bytes) (range_with_len 0 count) ++ drop (part_size * count) (replicate (part_count * part_size) 0)

part_at_long : (bytes : List ℕ) (k : ℕ) → length bytes ≡ part_count * slot_size → k < part_count → length (part_at bytes k) ≡ part_size
part_at_long bytes k long lt = let a = length-take part_size (drop (slot_size * k + part_place) bytes) in let b = length-drop (slot_size * k + part_place) bytes in omega (arith, a, b, long, lt)

front_size : (bytes : List ℕ) (a n : ℕ) → length bytes ≡ part_count * slot_size → a + n ≤ part_count → length (flat_map (part_at bytes) (range_with_len a n)) ≡ part_size * n
front_size bytes a zero long le = refl
front_size bytes a (suc n) long le =
    let one = part_at_long bytes a long (omega arith) in let rest = front_size bytes (a + 1) n long (omega arith) in
    omega (arith, length-append (part_at bytes a) (flat_map (part_at bytes) (range_with_len (a + 1) n)), one, rest)

more_parts : (bytes : List ℕ) (a n : ℕ) → flat_map (part_at bytes) (range_with_len a (suc n)) ≡ flat_map (part_at bytes) (range_with_len a n) ++ part_at bytes (a + n)
more_parts bytes a zero = append-nil (part_at bytes a) ∙ ap (part_at bytes) (let e : a ≡ a + 0 = omega arith in e)
more_parts bytes a (suc n) =
    let rest : List ℕ = flat_map (part_at bytes) (range_with_len (a + 1) n) in
    ap (λ (xs : List ℕ). part_at bytes a ++ xs) (more_parts bytes (a + 1) n) ∙ sym (append_assoc (part_at bytes a) rest (part_at bytes (a + 1 + n)))
    ∙ ap (λ (k : ℕ). (part_at bytes a ++ rest) ++ part_at bytes k) (let e : a + 1 + n ≡ a + suc n = omega arith in e)

pub one_copied : (bytes : List ℕ) (count size : ℕ) (parts new : List ℕ) → length bytes ≡ part_count * slot_size → count < part_count → size ≡ part_size → AreCopied bytes count parts → new ≡ part_at bytes count →
    AreCopied bytes (count + 1) (put_mid (part_size * count) size parts new)
one_copied bytes count size parts new long lt sized are new_is =
    let front : List ℕ = flat_map (part_at bytes) (range_with_len 0 count) in
    let blank : List ℕ = replicate (part_count * part_size) 0 in
    record {
      parts_are =
          ap (λ (n : ℕ). put_mid (part_size * count) n parts new) sized ∙ ap (λ (xs : List ℕ). put_mid (part_size * count) part_size xs new) are.parts_are
          ∙ put_behind (part_size * count) part_size front (drop (part_size * count) blank) new (front_size bytes 0 count long (omega arith))
          ∙ ap (λ (xs : List ℕ). front ++ (new ++ xs)) (drop-drop part_size (part_size * count) blank)
          ∙ ap (λ (k : ℕ). front ++ (new ++ drop k blank)) (let e : part_size * count + part_size ≡ part_size * (count + 1) = omega arith in e)
          ∙ ap (λ (xs : List ℕ). front ++ (xs ++ drop (part_size * (count + 1)) blank)) (new_is ∙ ap (part_at bytes) (let e : count ≡ 0 + count = omega arith in e))
          ∙ sym (append_assoc front (part_at bytes (0 + count)) (drop (part_size * (count + 1)) blank))
          ∙ ap (λ (xs : List ℕ). xs ++ drop (part_size * (count + 1)) blank) (sym (more_parts bytes 0 count) ∙ ap (λ (k : ℕ). flat_map (part_at bytes) (range_with_len 0 k)) (let e : suc count ≡ count + 1 = omega arith in e));
    }

pub all_copied : (bytes : List ℕ) (count : ℕ) (parts : List ℕ) → count ≡ part_count → AreCopied bytes count parts → parts ≡ parts_at bytes
all_copied bytes count parts all are =
    let thirteen = subst (λ (n : ℕ). AreCopied bytes n parts) all are in
    thirteen.parts_are ∙ append-nil (parts_at bytes)

pub stored_as : (rows : ℕ) (parts : List ℕ) (s : DaySummary) → s.rows ≡ rows → IsInBounds s → summary_parts s ≡ parts → IsStoredAs rows parts s
stored_as rows parts s count bounds bytes = record { count = count; bounds = bounds; bytes = bytes }
