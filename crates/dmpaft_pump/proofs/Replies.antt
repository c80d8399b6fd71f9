-- What the answer to a stamp frame is read as, and what it is.
use Rattle.std.proofs.Common.{◌≡◌, ℕ, zero, suc, ◌≤◌, Bool, true, false, List, length, drop, refl, sym, ◌∙◌, ap, inl, inr, arith, eq-eqb}
use Rattle.std.specs.Prelude.{◌==◌, nat_lt, slice_index}
use Rattle.std.proofs.lemmas.Bool.{eqb-true, lt-ltb, ltb-true, ltb-false, le-ltb}
use Rattle.vantage_frames.specs.Header.{pages_in, place_in, CanBegin, CannotBegin}
use Rattle.vantage_frames.specs.HeaderReading.{HasNumbers}
use Rattle.vantage_frames.specs.declared.header.TheConstants.{MOST_PAGES, LAST_PLACE}
use Rattle.dmpaft_pump.specs.declared.outcome.Trouble.{Trouble}
use Rattle.dmpaft_pump.specs.declared.outcome.Trouble.TheVariants.{Asleep, NoAck, ShortHeader, NoHeaderAck, HeaderCheck, HeaderNumbers, PageLost, PageAhead}
use Rattle.dmpaft_pump.specs.Header.{IsHeader, IsNoHeader}
use Rattle.crc_ccitt.specs.Check.{is_good}
use Rattle.dmpaft_pump.specs.Reply.{Reply, Header, NoHeader, placed, paged, numbered_reply, checked_reply, acknowledged_reply, sized, reply_of}
use Rattle.crc_ccitt.proofs.Good.{good_when, good_check, not_good}
use Rattle.dmpaft_pump.proofs.PageJudgements.{not_equal}

-- the bytes are what they are read as
abbrev pub Replies : List ℕ → Reply → Type 0
Replies bytes (Header pages place) = IsHeader bytes pages place
Replies bytes (NoHeader trouble) = IsNoHeader bytes trouble

differ : (x y : ℕ) → (x == y) ≡ false → x ≡ y → ⊥
differ x y e same = let z : true ≡ false = sym (eq-eqb x y same) ∙ e in cc

module _ (bs : List ℕ) (whole : length bs ≡ 7) (acked : slice_index bs 0 ≡ 6) where
  is_placed : (n p : ℕ) → HasNumbers (drop 1 bs) (suc n) p → suc n ≤ MOST_PAGES → (x : Bool) → nat_lt LAST_PLACE p ≡ x → Replies bs (placed (suc n) p x)
  is_placed n p has few true e = (whole, acked, has, inr ((λ z. cc), ltb-true LAST_PLACE p e))
  is_placed n p has few false e = record { whole = whole; acked = acked; numbers = has; possible = (few, inr (ltb-false LAST_PLACE p e)) }

  is_paged : (n p : ℕ) → HasNumbers (drop 1 bs) n p → (x : Bool) → nat_lt MOST_PAGES n ≡ x → Replies bs (paged n p x)
  is_paged n p has true e = (whole, acked, has, inl (ltb-true MOST_PAGES n e))
  is_paged zero p has false e = record { whole = whole; acked = acked; numbers = has; possible = (ltb-false MOST_PAGES zero e, inl refl) }
  is_paged (suc n) p has false e = is_placed n p has (ltb-false MOST_PAGES (suc n) e) (nat_lt LAST_PLACE p) refl

  is_checked : (x : Bool) → is_good (drop 1 bs) ≡ x → Replies bs (checked_reply (drop 1 bs) x)
  is_checked true e =
      let n = pages_in (drop 1 bs) in
      let p = place_in (drop 1 bs) in
      is_paged n p (record { good = good_check (drop 1 bs) e; pages = refl; place = refl }) (nat_lt MOST_PAGES n) refl
  is_checked false e = (whole, acked, λ c. (let z : true ≡ false = sym (good_when (drop 1 bs) c) ∙ e in cc))

is_replied : (bs : List ℕ) → length bs ≡ 7 → (x : Bool) → (slice_index bs 0 == 6) ≡ x → Replies bs (acknowledged_reply bs x)
is_replied bs l true e = is_checked bs l (eqb-true (slice_index bs 0) 6 e) (is_good (drop 1 bs)) refl
is_replied bs l false e = (l, refl, differ (slice_index bs 0) 6 e)

is_sized : (bs : List ℕ) → length bs ≤ 7 → (x : Bool) → (length bs == 7) ≡ x → Replies bs (sized bs x)
is_sized bs l true e = is_replied bs (eqb-true (length bs) 7 e) (slice_index bs 0 == 6) refl
is_sized bs l false e = let ne = differ (length bs) 7 e in (refl, grind (arith, ne, l))

pub reply_is : (bs : List ℕ) → length bs ≤ 7 → Replies bs (reply_of bs)
reply_is bs l = is_sized bs l (length bs == 7) refl

placed_as : (n p : ℕ) → suc n ≤ MOST_PAGES → (x : Bool) → nat_lt LAST_PLACE p ≡ x → numbered_reply (suc n) p ≡ placed (suc n) p x
placed_as n p few x e = ap (λ (y : Bool). paged (suc n) p y) (le-ltb MOST_PAGES (suc n) few) ∙ ap (λ (y : Bool). placed (suc n) p y) e

can_begin : (n p : ℕ) → CanBegin n p → numbered_reply n p ≡ Header n p
can_begin zero p (few, how) = ap (λ (y : Bool). paged zero p y) (le-ltb MOST_PAGES zero few)
can_begin (suc n) p (few, inl none) = cc
can_begin (suc n) p (few, inr within) = placed_as n p few false (le-ltb LAST_PLACE p within)

cannot_begin : (n p : ℕ) → CannotBegin n p → numbered_reply n p ≡ NoHeader (HeaderNumbers n p)
cannot_begin n p (inl many) = ap (λ (y : Bool). paged n p y) (lt-ltb MOST_PAGES n many)
cannot_begin zero p (inr (some, beyond)) = absurd (some refl)
cannot_begin (suc n) p (inr (some, beyond)) = go (nat_lt MOST_PAGES (suc n)) refl
  where
    go : (x : Bool) → nat_lt MOST_PAGES (suc n) ≡ x → numbered_reply (suc n) p ≡ NoHeader (HeaderNumbers (suc n) p)
    go true e = ap (λ (y : Bool). paged (suc n) p y) e
    go false e = placed_as n p (ltb-false MOST_PAGES (suc n) e) true (lt-ltb LAST_PLACE p beyond)

whole_as : (bs : List ℕ) → length bs ≡ 7 → reply_of bs ≡ acknowledged_reply bs (slice_index bs 0 == 6)
whole_as bs l = ap (λ (y : Bool). sized bs y) (eq-eqb (length bs) 7 l)

acked_as : (bs : List ℕ) → length bs ≡ 7 → slice_index bs 0 ≡ 6 → reply_of bs ≡ checked_reply (drop 1 bs) (is_good (drop 1 bs))
acked_as bs l e = whole_as bs l ∙ ap (λ (y : Bool). acknowledged_reply bs y) (eq-eqb (slice_index bs 0) 6 e)

numbers_as : (bs : List ℕ) (n p : ℕ) → length bs ≡ 7 → slice_index bs 0 ≡ 6 → HasNumbers (drop 1 bs) n p → reply_of bs ≡ numbered_reply n p
numbers_as bs n p l e has =
    acked_as bs l e ∙ ap (λ (y : Bool). checked_reply (drop 1 bs) y) (good_when (drop 1 bs) has.good) ∙ ap (λ x. numbered_reply x (place_in (drop 1 bs))) has.pages ∙ ap (λ x. numbered_reply n x) has.place

pub header_is : (bs : List ℕ) (n p : ℕ) → IsHeader bs n p → reply_of bs ≡ Header n p
header_is bs n p h = numbers_as bs n p h.whole h.acked h.numbers ∙ can_begin n p h.possible

pub no_header_is : (bs : List ℕ) (trouble : Trouble) → IsNoHeader bs trouble → reply_of bs ≡ NoHeader trouble
no_header_is bs (ShortHeader count) x = ap (λ (y : Bool). sized bs y) (not_equal (length bs) 7 (λ e. absurd (omega (arith, e, x.0, x.1)))) ∙ ap (λ n. NoHeader (ShortHeader n)) x.0
no_header_is bs (NoHeaderAck first) x =
    whole_as bs x.0 ∙ ap (λ (y : Bool). acknowledged_reply bs y) (not_equal (slice_index bs 0) 6 (λ e. x.2 (sym x.1 ∙ e))) ∙ ap (λ n. NoHeader (NoHeaderAck n)) x.1
no_header_is bs HeaderCheck x = acked_as bs x.0 x.1 ∙ ap (λ (y : Bool). checked_reply (drop 1 bs) y) (not_good (drop 1 bs) x.2)
no_header_is bs (HeaderNumbers n p) x = numbers_as bs n p x.0 x.1 x.2 ∙ cannot_begin n p x.3
no_header_is bs Asleep x = absurd x
no_header_is bs (NoAck first) x = absurd x
no_header_is bs (PageLost page) x = absurd x
no_header_is bs (PageAhead page sequence) x = absurd x
