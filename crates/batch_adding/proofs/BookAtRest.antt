-- What images have, and what a crash leaves, where nothing is changed.
use Rattle.std.proofs.Common.{◌≡◌, ℕ, List, inl, inr, ⊎_elim, sym, ◌∙◌, subst, append-nil, Some}
use Rattle.disk_model.specs.Medium.{Medium}
use Rattle.disk_model.specs.Disk.{LeavesOnly, Stays}
use Rattle.station_base.specs.declared.row.Row.{Row}
use Rattle.packed_rows.specs.Rows.{holds}
use Rattle.weather_book.specs.Stands.{HasRows, NowHasRows, ReadsRows}
use Rattle.batch_adding.specs.Adding.{HasSome}

-- the same rows, and the same next ones
pub same_some : (mine rows next others : List Row) (image : List ℕ) → mine ≡ rows → next ≡ others → HasSome mine next image → HasSome rows others image
same_some mine rows next others image same also some =
    let P : List Row → Type 0 = λ r. HasSome r next image in let Q : List Row → Type 0 = λ r. HasSome rows r image in subst Q also (subst P same some)

module _ {D : Type 0} (medium : Medium D) where
  -- what a crash leaves stays where nothing is changed
  pub leaves_stays : (P : List ℕ → Type 0) (d e f : D) → LeavesOnly medium P d e → Stays medium e f → LeavesOnly medium P d f
  leaves_stays P d e f leaves stays t c le now = leaves t c le (stays.nothing_else t c now)

  -- none of the next rows is added
  pub adds_none : (mine next : List Row) (d e : D) → LeavesOnly medium (HasRows mine) d e → LeavesOnly medium (HasSome mine next) d e
  adds_none mine next d e leaves t c le now =
      ⊎_elim (λ was. inl was) (λ has. inr (0, subst (λ (rows : List Row). HasRows rows c) (sym (append-nil mine)) has)) (leaves t c le now)

  -- the rows that each image has are those that are read
  pub same_rows : (d : D) (image : List ℕ) (mine rows : List Row) → medium.seen d ≡ Some image → NowHasRows medium d mine → ReadsRows medium d rows → mine ≡ rows
  same_rows d image mine rows told crash reads = held mine rows (sym (crash image (medium.reads_image d image told)).rows_are ∙ reads image told)
    where
      held : (a b : List Row) → holds a ≡ holds b → a ≡ b
      held a b is = cc
