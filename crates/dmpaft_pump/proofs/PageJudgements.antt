-- What bytes are for a page.
use Rattle.std.proofs.Common.{◌≡◌, ℕ, zero, suc, ◌-◌, ◌<◌, ◌%◌, Bool, true, false, List, [], ◌∷◌, length, refl, sym, ◌∙◌, ap, arith, eq-eqb}
use Rattle.std.specs.Prelude.{◌==◌, ◌&&◌, if◌then◌else◌, slice_index}
use Rattle.std.proofs.lemmas.Bool.{eqb-true, and_parts, and_left}
use Rattle.crc_ccitt.specs.Check.{check, is_good}
use Rattle.crc_ccitt.proofs.Good.{good_when, good_check, not_good}
use Rattle.vantage_frames.specs.Slots.{page_size}
use Rattle.dmpaft_pump.specs.declared.page_judge.Judged.TheVariants as judged
use Rattle.dmpaft_pump.specs.Page.{has_sequence, is_page_for, is_page_before, is_any_page, is_ahead}
use Rattle.dmpaft_pump.specs.PageJudging.{JudgesPage}

pub not_equal : (a b : ℕ) → (a ≡ b → ⊥) → (a == b) ≡ false
not_equal a b ne = go (a == b) refl
  where
    go : (t : Bool) → (a == b) ≡ t → t ≡ false
    go true e = absurd (ne (eqb-true a b e))
    go false e = refl

and_true : (a b c : Bool) → a ≡ true → b ≡ c → (a && b) ≡ c
and_true true b c p e = e
and_true false b c p e = cc

any_page : (bytes : List ℕ) → length bytes ≡ page_size → check bytes ≡ 0 → is_any_page bytes ≡ true
any_page bytes l e = and_true (length bytes == page_size) (is_good bytes) true (eq-eqb (length bytes) page_size l) (good_when bytes e)

pub not_checked : (bytes : List ℕ) → length bytes ≡ page_size → (check bytes ≡ 0 → ⊥) → is_any_page bytes ≡ false
not_checked bytes l ne = and_true (length bytes == page_size) (is_good bytes) false (eq-eqb (length bytes) page_size l) (not_good bytes ne)

pub not_whole : (bytes : List ℕ) → length bytes < page_size → is_any_page bytes ≡ false
not_whole bytes l = and_left (length bytes == page_size) (is_good bytes) (not_equal (length bytes) page_size (λ e. absurd (omega (arith, l, e))))

at_front : (n : ℕ) (bytes : List ℕ) → length bytes ≡ page_size → has_sequence n bytes ≡ (slice_index bytes 0 == n)
at_front n [] l = absurd (omega arith)
at_front n (b ∷ bytes) l = refl

pub is_for : (k : ℕ) (bytes : List ℕ) → length bytes ≡ page_size → check bytes ≡ 0 → slice_index bytes 0 ≡ k % 256 → is_page_for k bytes ≡ true
is_for k bytes l e s = and_true (is_any_page bytes) (has_sequence (k % 256) bytes) true (any_page bytes l e) (at_front (k % 256) bytes l ∙ eq-eqb (slice_index bytes 0) (k % 256) s)

pub not_for : (k : ℕ) (bytes : List ℕ) → length bytes ≡ page_size → check bytes ≡ 0 → (slice_index bytes 0 ≡ k % 256 → ⊥) → is_page_for k bytes ≡ false
not_for k bytes l e s = and_true (is_any_page bytes) (has_sequence (k % 256) bytes) false (any_page bytes l e) (at_front (k % 256) bytes l ∙ not_equal (slice_index bytes 0) (k % 256) s)

pub before : (k : ℕ) (bytes : List ℕ) → length bytes ≡ page_size → check bytes ≡ 0 → 0 < k → slice_index bytes 0 ≡ (k - 1) % 256 → is_page_before k bytes ≡ true
before zero bytes l e p s = absurd (omega arith)
before (suc k) bytes l e p s = let z : suc k - 1 ≡ k = omega arith in is_for k bytes l e (s ∙ ap (λ n. n % 256) z)

pub not_before : (k : ℕ) (bytes : List ℕ) → length bytes ≡ page_size → check bytes ≡ 0 → (0 < k → slice_index bytes 0 ≡ (k - 1) % 256 → ⊥) → is_page_before k bytes ≡ false
not_before zero bytes l e s = refl
not_before (suc k) bytes l e s = let z : k ≡ suc k - 1 = omega arith in not_for k bytes l e (λ q. s (omega arith) (q ∙ ap (λ n. n % 256) z))

pub again : (k : ℕ) (bytes : List ℕ) → length bytes ≡ page_size → check bytes ≡ 0 → (slice_index bytes 0 ≡ k % 256 → ⊥) → is_page_before k bytes ≡ true → JudgesPage k bytes (judged.Again 6)
again k bytes l e s b = (
  not_for k bytes l e s,
  and_true (is_any_page bytes) (if is_page_before k bytes then false else true) false (any_page bytes l e) (ap (λ (t : Bool). if t then false else true) b),
  ap (λ (t : Bool). if t then 6 else 21) (sym b),
)

pub ahead : (k : ℕ) (bytes : List ℕ) → length bytes ≡ page_size → check bytes ≡ 0 → (slice_index bytes 0 ≡ k % 256 → ⊥) → is_page_before k bytes ≡ false → is_ahead k bytes ≡ true
ahead k bytes l e s b = and_true (is_any_page bytes) (if is_page_before k bytes then false else true) true (any_page bytes l e) (ap (λ (t : Bool). if t then false else true) b)

none_before : (k : ℕ) (bytes : List ℕ) → is_any_page bytes ≡ false → is_page_before k bytes ≡ false
none_before zero bytes e = refl
none_before (suc k) bytes e = and_left (is_any_page bytes) (has_sequence (k % 256) bytes) e

-- a short or bad answer
pub no_page : (k : ℕ) (bytes : List ℕ) → is_any_page bytes ≡ false → JudgesPage k bytes (judged.Again 21)
no_page k bytes e = (
  and_left (is_any_page bytes) (has_sequence (k % 256) bytes) e,
  and_left (is_any_page bytes) (if is_page_before k bytes then false else true) e,
  ap (λ (t : Bool). if t then 6 else 21) (sym (none_before k bytes e)),
)

-- the check of a page is good
pub page_checked : (k : ℕ) (bytes : List ℕ) → is_page_for k bytes ≡ true → check bytes ≡ 0
page_checked k bytes e =
    good_check bytes (and_parts (length bytes == page_size) (is_good bytes) (and_parts ((length bytes == page_size) && is_good bytes) (has_sequence (k % 256) bytes) e).0).1
