-- What a book, and what a crash, keeps over batches.
use Rattle.std.proofs.Common.{◌≡◌, ℕ, ◌+◌, ◌≤◌, List, ◌++◌, take, drop, inl, inr, ⊎_elim, sym, ◌∙◌, ap, subst, arith, append_assoc}
use Rattle.std.proofs.Math.Seq.{take-add}
use Rattle.disk_model.specs.Medium.{Medium}
use Rattle.disk_model.specs.Disk.{LeavesOnly}
use Rattle.station_base.specs.declared.row.Row.{Row}
use Rattle.weather_book.specs.Stands.{HasRows, RowsOldOrAll}
use Rattle.batch_adding.specs.Adding.{HasOldOrAll, HasSome}

module _ {D : Type 0} (medium : Medium D) where
  -- a crash leaves the old rows or all, whether it is late or not
  pub late_or_not : (old new : List Row) (late : Type 0) (d e : D) → LeavesOnly medium (RowsOldOrAll old new late) d e → LeavesOnly medium (HasOldOrAll old new) d e
  late_or_not old new late d e leaves t c le now =
      ⊎_elim (λ was. inl was) (λ some. inr (⊎_elim (λ o. inl o) (λ n. inr n.1) some)) (leaves t c le now)

  -- nothing was begun
  pub nothing_left : (P : List ℕ → Type 0) (d e : D) → e ≡ d → LeavesOnly medium P d e
  nothing_left P d e same t c le now = inl (subst (λ (x : D). medium.left x t c) same now)

  -- what one step leaves and the next one
  pub leaves_join : (P Q : List ℕ → Type 0) (d e f : D) → medium.moment d ≤ medium.moment e → LeavesOnly medium P d e → LeavesOnly medium Q e f
      → ((c : List ℕ) → Q c → P c) → LeavesOnly medium P d f
  leaves_join P Q d e f later one two weaker t c le now =
      ⊎_elim (λ was. one t c le was) (λ q. inr (weaker c q)) (two t c (omega (arith, le, later)) now)

  -- a batch of the next rows leaves none or more of them
  pub batch_leaves : (mine next new : List Row) (n k : ℕ) (d e : D) → new ≡ take k (drop n next) → LeavesOnly medium (HasOldOrAll (mine ++ take n next) new) d e
      → LeavesOnly medium (HasSome mine next) d e
  batch_leaves mine next new n k d e is leaves t c late now =
      let all : (mine ++ take n next) ++ new ≡ mine ++ take (n + k) next =
      append_assoc mine (take n next) new ∙ ap (λ (rows : List Row). mine ++ (take n next ++ rows)) is ∙ ap (λ (rows : List Row). mine ++ rows) (sym (take-add n k next)) in
      ⊎_elim (λ was. inl was)
      (λ some. inr (⊎_elim (λ o. (n, o)) (λ h. (n + k, subst (λ (rows : List Row). HasRows rows c) all h)) some))
      (leaves t c late now)
