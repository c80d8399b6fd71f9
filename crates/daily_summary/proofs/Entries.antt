-- The bytes of a field, read back.
use Rattle.std.proofs.Common.{◌≡◌, ℕ, ℤ, pos, negsuc, ◌+◌, ◌^◌, ◌≤◌, ◌<◌, List, [], ◌∷◌, ◌++◌, length, drop, refl, ap, sym, subst, ◌∙◌, arith, append-nil, replicate, zero, suc, All}
use Rattle.std.specs.Prelude.{FitsSigned, Option, Some, None}
use Rattle.std.specs.Int.{w32, w64, cast_signed, cast_unsigned}
use Rattle.std.proofs.lemmas.Int.{to_z-of_z, of_z-to_z}
use Rattle.std.proofs.lemmas.List.Elements.{All-head, All-tail, All-replicate}
use Rattle.std.proofs.lemmas.List.{length-drop, drop-drop, drop_all, take-append-drop}
use Rattle.byteorder.specs.Endian.{little_bytes, little_number}
use Rattle.byteorder.specs.Numbers.{little_number-reads_back, little_from-lt}
use Rattle.row_slot.specs.Slot.{number_at}
use Rattle.causes.specs.Lists.{AreBytes}
use Rattle.causes.proofs.Bytes.{bytes_behind}
use Rattle.row_slot.proofs.Bytes.{bytes_again}
use Rattle.jiff_core.proofs.CalendarLemmas.{days_in_month_bounds}
use Rattle.station_base.specs.CivilMinute.{CivilMinute, IsCivilMinute}
use Rattle.station_base.specs.Stamp.{date_word_of, time_word_of, stamp_of_words}
use Rattle.station_base.proofs.Words.{stamp_of_words-of, words_of-stamp}
use Rattle.daily_summary.specs.declared.field_sum.FieldSum.{FieldSum}
use Rattle.daily_summary.specs.Parts.{count_in, field_entry, stamp_at, sum_in, sum_with, IsTyped, entry_size}
use Rattle.daily_summary.specs.Bounds.{IsSumOf}
use Rattle.daily_summary.specs.WellFormed.{BytesAreBlank, IsEntry}
use Rattle.std.specs.Option.{IsSomeAnd}
use Rattle.std.specs.Prelude.{IfSome}
use Rattle.daily_summary.proofs.JoinedSums.{same_sum}

-- one part of the bytes, and what stands behind it
part_at : (n p q : ℕ) (b : List ℕ) → p + n ≡ q → q ≤ length b → AreBytes b → drop p b ≡ little_bytes n (number_at n p b) ++ drop q b
part_at n p q b e long fits =
    let room : n ≤ length (drop p b) = omega (arith, length-drop p b) in
    sym (take-append-drop n (drop p b)) ∙ ap (λ (xs : List ℕ). xs ++ drop n (drop p b)) (sym (bytes_again n (drop p b) room (bytes_behind p b fits)))
    ∙ ap (λ (xs : List ℕ). little_bytes n (number_at n p b) ++ xs) (drop-drop n p b ∙ ap (λ (k : ℕ). drop k b) e)

chained : (b d4 d6 d8 d12 d14 d16 d24 d28 d36 b0 b4 b6 b8 b12 b14 b16 b24 b28 b36 : List ℕ) → b ≡ b0 ++ d4 → d4 ≡ b4 ++ d6 → d6 ≡ b6 ++ d8 → d8 ≡ b8 ++ d12 → d12 ≡ b12 ++ d14 → d14 ≡ b14 ++ d16 →
    d16 ≡ b16 ++ d24 → d24 ≡ b24 ++ d28 → d28 ≡ b28 ++ d36 → d36 ≡ b36 → b ≡ b0 ++ (b4 ++ (b6 ++ (b8 ++ (b12 ++ (b14 ++ (b16 ++ (b24 ++ (b28 ++ b36))))))))
chained b d4 d6 d8 d12 d14 d16 d24 d28 d36 b0 b4 b6 b8 b12 b14 b16 b24 b28 b36 e0 e4 e6 e8 e12 e14 e16 e24 e28 e36 = rw (e0, e4, e6, e8, e12, e14, e16, e24, e28, e36) refl

-- the bytes are those of their numbers
numbers_again : (b : List ℕ) → length b ≡ entry_size → AreBytes b →
    b ≡ little_bytes 4 (number_at 4 0 b) ++ (little_bytes 2 (number_at 2 4 b) ++ (little_bytes 2 (number_at 2 6 b) ++ (little_bytes 4 (number_at 4 8 b) ++ (little_bytes 2 (number_at 2 12 b)
    ++ (little_bytes 2 (number_at 2 14 b) ++ (little_bytes 8 (number_at 8 16 b) ++ (little_bytes 4 (number_at 4 24 b) ++ (little_bytes 8 (number_at 8 28 b) ++ little_bytes 8 (number_at 8 36 b)))))))))
numbers_again b long fits =
    let none : drop entry_size b ≡ [] = drop_all entry_size b (omega (arith, long)) in
    chained b (drop 4 b) (drop 6 b) (drop 8 b) (drop 12 b) (drop 14 b) (drop 16 b) (drop 24 b) (drop 28 b) (drop 36 b)
    (little_bytes 4 (number_at 4 0 b)) (little_bytes 2 (number_at 2 4 b)) (little_bytes 2 (number_at 2 6 b)) (little_bytes 4 (number_at 4 8 b)) (little_bytes 2 (number_at 2 12 b)) (little_bytes 2 (number_at 2 14 b))
    (little_bytes 8 (number_at 8 16 b)) (little_bytes 4 (number_at 4 24 b)) (little_bytes 8 (number_at 8 28 b)) (little_bytes 8 (number_at 8 36 b))
    (part_at 4 0 4 b refl (omega arith) fits) (part_at 2 4 6 b refl (omega arith) fits) (part_at 2 6 8 b refl (omega arith) fits) (part_at 4 8 12 b refl (omega arith) fits) (part_at 2 12 14 b refl (omega arith) fits)
    (part_at 2 14 16 b refl (omega arith) fits) (part_at 8 16 24 b refl (omega arith) fits) (part_at 4 24 28 b refl (omega arith) fits) (part_at 8 28 36 b refl (omega arith) fits)
    (part_at 8 36 entry_size b refl (omega arith) fits ∙ ap (λ (xs : List ℕ). little_bytes 8 (number_at 8 36 b) ++ xs) none ∙ append-nil (little_bytes 8 (number_at 8 36 b)))

below : (n p : ℕ) (b : List ℕ) → AreBytes b → number_at n p b < 256 ^ n
below n p b fits = little_from-lt 0 n (drop p b) (bytes_behind p b fits)

-- a sum of numbers that were read
pub record IsReadOf (s : FieldSum) (b : List ℕ) : Type 0 where
  pub least : s.least ≡ cast_signed w32 (number_at 4 0 b)
  pub least_at : stamp_of_words (number_at 2 4 b) (number_at 2 6 b) ≡ Some s.least_at
  pub greatest : s.greatest ≡ cast_signed w32 (number_at 4 8 b)
  pub greatest_at : stamp_of_words (number_at 2 12 b) (number_at 2 14 b) ≡ Some s.greatest_at
  pub sum : s.sum ≡ cast_signed w64 (number_at 8 16 b)
  pub count : s.count ≡ number_at 4 24 b
  pub wsum : s.wsum ≡ cast_signed w64 (number_at 8 28 b)
  pub sumtime : s.sumtime ≡ number_at 8 36 b

entry_by : (s : FieldSum) (n0 n4 n6 n8 n12 n14 n16 n24 n28 n36 : ℕ) → cast_unsigned w32 s.least ≡ n0 → date_word_of s.least_at ≡ n4 → time_word_of s.least_at ≡ n6 → cast_unsigned w32 s.greatest ≡ n8 →
    date_word_of s.greatest_at ≡ n12 → time_word_of s.greatest_at ≡ n14 → cast_unsigned w64 s.sum ≡ n16 → s.count ≡ n24 → cast_unsigned w64 s.wsum ≡ n28 → s.sumtime ≡ n36 →
    field_entry (Some s) ≡ little_bytes 4 n0 ++ (little_bytes 2 n4 ++ (little_bytes 2 n6 ++ (little_bytes 4 n8 ++ (little_bytes 2 n12 ++ (little_bytes 2 n14 ++ (little_bytes 8 n16 ++ (little_bytes 4 n24 ++ (little_bytes 8 n28 ++ little_bytes 8 n36))))))))
entry_by s n0 n4 n6 n8 n12 n14 n16 n24 n28 n36 e0 e4 e6 e8 e12 e14 e16 e24 e28 e36 = rw (e0, e4, e6, e8, e12, e14, e16, e24, e28, e36) refl

-- what was read is written as these bytes
pub entry_again : (s : FieldSum) (b : List ℕ) → length b ≡ entry_size → AreBytes b → IsReadOf s b → field_entry (Some s) ≡ b
entry_again s b long fits is =
    let w1 = words_of-stamp (number_at 2 4 b) (number_at 2 6 b) s.least_at is.least_at in
    let w2 = words_of-stamp (number_at 2 12 b) (number_at 2 14 b) s.greatest_at is.greatest_at in
    entry_by s _ _ _ _ _ _ _ _ _ _
    (ap (cast_unsigned w32) is.least ∙ of_z-to_z w32 (number_at 4 0 b) (below 4 0 b fits)) w1.0 w1.1
    (ap (cast_unsigned w32) is.greatest ∙ of_z-to_z w32 (number_at 4 8 b) (below 4 8 b fits)) w2.0 w2.1
    (ap (cast_unsigned w64) is.sum ∙ of_z-to_z w64 (number_at 8 16 b) (below 8 16 b fits)) is.count
    (ap (cast_unsigned w64) is.wsum ∙ of_z-to_z w64 (number_at 8 28 b) (below 8 28 b fits)) is.sumtime
    ∙ sym (numbers_again b long fits)

-- the words of a stamp fit two bytes
day_small : (c : CivilMinute) → IsCivilMinute c → c.day ≤ 31
day_small c civil = let b = days_in_month_bounds (pos c.year) c.month in let d = civil.day_to in omega (arith, b)

date_small : (c : CivilMinute) → IsCivilMinute c → date_word_of c < 256 ^ 2
date_small c civil = let d = day_small c civil in omega (arith, civil.year_from, civil.year_to, civil.month_to)

time_small : (c : CivilMinute) → IsCivilMinute c → time_word_of c < 256 ^ 2
time_small c civil = omega (arith, civil.hour_to, civil.minute_to)

unsigned_32 : (z : ℤ) → FitsSigned w32 z → cast_unsigned w32 z < 256 ^ 4
unsigned_32 (pos n) fits = let small : n < 2 ^ 31 = fits.sfits in omega arith
unsigned_32 (negsuc n) fits = omega arith

unsigned_64 : (z : ℤ) → FitsSigned w64 z → cast_unsigned w64 z < 256 ^ 8
unsigned_64 (pos n) fits = let small : n < 2 ^ 63 = fits.sfits in omega arith
unsigned_64 (negsuc n) fits = omega arith

read_32 : (p : ℕ) (z : ℤ) (b rest : List ℕ) → FitsSigned w32 z → drop p b ≡ little_bytes 4 (cast_unsigned w32 z) ++ rest → z ≡ cast_signed w32 (number_at 4 p b)
read_32 p z b rest fits is =
    sym (ap (λ (xs : List ℕ). cast_signed w32 (little_number 4 xs)) is ∙ ap (cast_signed w32) (little_number-reads_back 4 (cast_unsigned w32 z) rest (unsigned_32 z fits)) ∙ to_z-of_z w32 z fits)

read_64 : (p : ℕ) (z : ℤ) (b rest : List ℕ) → FitsSigned w64 z → drop p b ≡ little_bytes 8 (cast_unsigned w64 z) ++ rest → z ≡ cast_signed w64 (number_at 8 p b)
read_64 p z b rest fits is =
    sym (ap (λ (xs : List ℕ). cast_signed w64 (little_number 8 xs)) is ∙ ap (cast_signed w64) (little_number-reads_back 8 (cast_unsigned w64 z) rest (unsigned_64 z fits)) ∙ to_z-of_z w64 z fits)

read_number : (n p x : ℕ) (b rest : List ℕ) → x < 256 ^ n → drop p b ≡ little_bytes n x ++ rest → x ≡ number_at n p b
read_number n p x b rest small is = sym (ap (little_number n) is ∙ little_number-reads_back n x rest small)

read_stamp : (p q : ℕ) (c : CivilMinute) (b rest more : List ℕ) → IsCivilMinute c → drop p b ≡ little_bytes 2 (date_word_of c) ++ rest → drop q b ≡ little_bytes 2 (time_word_of c) ++ more →
    stamp_of_words (number_at 2 p b) (number_at 2 q b) ≡ Some c
read_stamp p q c b rest more civil one two =
    let date : number_at 2 p b ≡ date_word_of c = sym (read_number 2 p (date_word_of c) b rest (date_small c civil) one) in
    let time : number_at 2 q b ≡ time_word_of c = sym (read_number 2 q (time_word_of c) b more (time_small c civil) two) in
    ap (λ (n : ℕ). stamp_of_words n (number_at 2 q b)) date ∙ ap (stamp_of_words (date_word_of c)) time ∙ stamp_of_words-of c civil

-- the bytes of a sum are read as this sum
read_here : (s : FieldSum) → IsTyped s → IsReadOf s (field_entry (Some s))
read_here s is =
    let b : List ℕ = field_entry (Some s) in
    record {
      least = read_32 0 s.least b (drop 4 b) is.least refl;
      least_at = read_stamp 4 6 s.least_at b (drop 6 b) (drop 8 b) is.least_at refl refl;
      greatest = read_32 8 s.greatest b (drop 12 b) is.greatest refl;
      greatest_at = read_stamp 12 14 s.greatest_at b (drop 14 b) (drop 16 b) is.greatest_at refl refl;
      sum = read_64 16 s.sum b (drop 24 b) is.sum refl;
      count = read_number 4 24 s.count b (drop 28 b) (omega (arith, is.count)) refl;
      wsum = read_64 28 s.wsum b (drop 36 b) is.wsum refl;
      sumtime = read_number 8 36 s.sumtime b [] (omega (arith, is.sumtime)) refl;
    }

pub read_of : (s : FieldSum) (b : List ℕ) → IsTyped s → field_entry (Some s) ≡ b → IsReadOf s b
read_of s b is same = subst (λ (xs : List ℕ). IsReadOf s xs) same (read_here s is)

-- the sum that an entry tells is the one that is read of it
with_stamps : (s : FieldSum) (b : List ℕ) (least_at greatest_at : Option CivilMinute) → sum_with least_at greatest_at b ≡ Some s → stamp_at 4 b ≡ least_at → stamp_at 12 b ≡ greatest_at → IsReadOf s b
with_stamps s b None greatest_at e one two = cc
with_stamps s b (Some least_at) None e one two = cc
with_stamps s b (Some least_at) (Some greatest_at) e one two =
    subst (λ (t : FieldSum). IsReadOf t b) (some_is _ s e)
    (record { least = refl; least_at = one; greatest = refl; greatest_at = two; sum = refl; count = refl; wsum = refl; sumtime = refl })
  where
    some_is : (x y : FieldSum) → Some x ≡ Some y → x ≡ y
    some_is x y e = cc

pub read_by : (s : FieldSum) (b : List ℕ) → sum_in b ≡ Some s → IsReadOf s b
read_by s b e = with_stamps s b (stamp_at 4 b) (stamp_at 12 b) e refl refl

pub sum_read : (s : FieldSum) (b : List ℕ) → IsReadOf s b → sum_in b ≡ Some s
sum_read s b is =
    ap (λ (o : Option CivilMinute). sum_with o (stamp_at 12 b) b) is.least_at ∙ ap (λ (o : Option CivilMinute). sum_with (Some s.least_at) o b) is.greatest_at
    ∙ ap Some (same_sum _ s (sym is.least) refl (sym is.greatest) refl (sym is.sum) (sym is.count) (sym is.wsum) (sym is.sumtime))

-- the bytes of a sum are not all 0
pub count_read : (s : FieldSum) (b : List ℕ) → IsTyped s → field_entry (Some s) ≡ b → b ≡ replicate entry_size 0 → s.count ≡ 0
count_read s b is same blank = (read_of s b is same).count ∙ ap (number_at 4 24) blank

pub zeros : (b : List ℕ) (n : ℕ) → length b ≡ n → All (λ byte. byte ≡ 0) b → b ≡ replicate n 0
zeros [] n long all = rw (sym long) refl
zeros (x ∷ xs) zero long all = absurd (omega arith)
zeros (x ∷ xs) (suc n) long all =
    let first : x ≡ 0 = All-head (λ byte. byte ≡ 0) x xs all in
    ap (λ (y : ℕ). y ∷ xs) first ∙ ap (λ (ys : List ℕ). 0 ∷ ys) (zeros xs n (omega arith) (All-tail (λ byte. byte ≡ 0) x xs all))

pub all_zeros : (n : ℕ) → All {X = ℕ} (λ byte. byte ≡ 0) (replicate n 0)
all_zeros n = let P : ℕ → Type 0 = λ byte. byte ≡ 0 in All-replicate P n 0 refl

-- an entry that is not all 0 tells a sum
pub sum_there : (rows : ℕ) (b : List ℕ) → IsEntry rows b → (BytesAreBlank b → ⊥) → IsSomeAnd (sum_in b) (IsSumOf rows)
sum_there rows b is filled = by (count_in b) refl
  where
    by : (n : ℕ) → count_in b ≡ n → IsSomeAnd (sum_in b) (IsSumOf rows)
    by zero e = absurd (filled (is.blank e))
    by (suc n) e = is.sum (λ none. absurd (omega arith))

-- an entry that is all 0, and one that tells a sum
pub blank_entry : (rows : ℕ) (b : List ℕ) → b ≡ replicate entry_size 0 → BytesAreBlank b → IsEntry rows b
blank_entry rows b zeros blank =
    let none : count_in b ≡ 0 = ap count_in zeros in
    record { blank = λ e. blank; sum = λ filled. absurd (filled none) }

pub filled_entry : (rows : ℕ) (b : List ℕ) (s : FieldSum) → sum_in b ≡ Some s → IsSumOf rows s → IsEntry rows b
filled_entry rows b s is within =
    let count : s.count ≡ count_in b = (read_by s b is).count in
    let some : 1 ≤ s.count = within.sum_is.some in
    record {
      blank = λ e. absurd (omega arith);
      sum = λ filled. subst (λ (o : Option FieldSum). IsSomeAnd o (IsSumOf rows)) (sym is) within;
    }

-- no sum, or one beyond its bounds, is no entry
pub no_entry : (rows : ℕ) (b : List ℕ) (o : Option FieldSum) → o ≡ sum_in b → (BytesAreBlank b → ⊥) → IfSome o (λ s. IsSumOf rows s → ⊥) → IsEntry rows b → ⊥
no_entry rows b None is filled bad entry = subst (λ (o : Option FieldSum). IsSomeAnd o (IsSumOf rows)) (sym is) (sum_there rows b entry filled)
no_entry rows b (Some s) is filled bad entry = bad (subst (λ (o : Option FieldSum). IsSomeAnd o (IsSumOf rows)) (sym is) (sum_there rows b entry filled))
