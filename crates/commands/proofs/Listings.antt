-- What is left of a listing, page by page.
use Rattle.std.proofs.Common.{◌≡◌, ◌≢◌, ℕ, ◌+◌, ◌<◌, ◌≤◌, List, [], ◌∷◌, ◌++◌, length, drop, get_or, arith, eq-eqb, eqb, false, inl, inr, refl}
use Rattle.std.proofs.lemmas.List.{drop_all, drop_more}
use Rattle.std.proofs.lemmas.Bool.Decides.{eqb_tells}
use Rattle.std.specs.declared.option.Option.{Option}
use Rattle.crc_ccitt.specs.Check.{check}
use Rattle.run_output.specs.declared.status.Status.TheVariants.{Done}
use Rattle.run_output.specs.Output.{Output, led_by}
use Rattle.run_output.specs.Streams.{OutputIsLeft}
use Rattle.run_output.proofs.PrintedPieces.{pending_grows, pending_is_left}
use Rattle.commands.specs.PageText.{page_text}
use Rattle.commands.specs.Listing.{bad_page, listing_from}
use Rattle.commands.specs.Style.{RowStyle}

differs : (m n : ℕ) → m ≢ n → eqb m n ≡ false
differs m n different = elim (eqb_tells m n) [ inl same ↦ absurd (different same.1) | inr other ↦ other.0 ]

short_is_bad : (style : RowStyle) (number : ℕ) (short : List ℕ) → 0 < length short → listing_from style number [] short ≡ bad_page number
short_is_bad style number [] some = absurd (omega arith)
short_is_bad style number (byte ∷ short) some = refl

-- What is left is led by the text that waits, and the pages from this index on give the rest.
pub record LeftAt (old now : Option (List ℕ)) (all : Output) (style : RowStyle) (number index : ℕ) (pages : List (List ℕ)) (short pending : List ℕ)
    : Type 0 where
  pub left : OutputIsLeft old now all (led_by pending (listing_from style number (drop index pages) short))

module _ {old now : Option (List ℕ)} {all : Output} {style : RowStyle} {number index : ℕ} {pages : List (List ℕ)} {short pending : List ℕ}
    (ahead : LeftAt old now all style number index pages short pending) where
  at_page : index < length pages → OutputIsLeft old now all (led_by pending (listing_from style number (get_or pages index [] ∷ drop (index + 1) pages) short))
  at_page within = rw (drop_more pages index [] within) at ahead.left

  -- behind a good page its lines wait too
  pub left-good : (more : List ℕ) → more ≡ pending ++ page_text style number (get_or pages index []) → index < length pages
      → check (get_or pages index []) ≡ 0 → LeftAt old now all style (number + 1) (index + 1) pages short more
  left-good more lines within good = record {
    left = rw lines (pending_grows old now all (listing_from style (number + 1) (drop (index + 1) pages) short) pending
        (page_text style number (get_or pages index [])) (rw (eq-eqb (check (get_or pages index [])) 0 good) at (at_page within)));
  }

  -- a bad page is the last
  pub left-bad : index < length pages → check (get_or pages index []) ≢ 0 → OutputIsLeft old now all (led_by pending (bad_page number))
  left-bad within bad = rw (differs (check (get_or pages index [])) 0 bad) at (at_page within)

  -- so is a short one behind all pages
  pub left-short : length pages ≤ index → 0 < length short → OutputIsLeft old now all (led_by pending (bad_page number))
  left-short beyond some = rw (drop_all index pages beyond, short_is_bad style number short some) at ahead.left

  -- and with nothing behind them only the text that waits is left
  pub left-end : length pages ≤ index → short ≡ [] → OutputIsLeft old now all (record { text = pending; status = Done })
  left-end beyond none =
      pending_is_left old now all (record { text = []; status = Done }) pending (rw (drop_all index pages beyond, none) at ahead.left) refl
