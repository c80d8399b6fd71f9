-- What a crash keeps over the batches of a copy.
use Rattle.std.proofs.Common.{◌≡◌, ℕ, ◌+◌, ◌-◌, ◌≤◌, List, ◌++◌, length, take, drop, sym, ◌∙◌, ap, arith}
use Rattle.std.proofs.lemmas.List.{drop-drop}
use Rattle.disk_model.specs.Medium.{Medium}
use Rattle.disk_model.specs.Disk.{LeavesOnly}
use Rattle.station_base.specs.declared.row.Row.{Row}
use Rattle.batch_adding.specs.Adding.{HasOldOrAll, HasSome}
use Rattle.batch_adding.proofs.Kept as batches

module _ {D : Type 0} (medium : Medium D) where
  -- a batch of the next rows leaves none or more of them
  pub batch_leaves : (mine theirs new : List Row) (at k : ℕ) (d e : D) → length mine ≤ at → new ≡ take k (drop at theirs)
      → LeavesOnly medium (HasOldOrAll (mine ++ take (at - length mine) (drop (length mine) theirs)) new) d e → LeavesOnly medium (HasSome mine (drop (length mine) theirs)) d e
  batch_leaves mine theirs new at k d e le is =
      let place : length mine + (at - length mine) ≡ at = omega (arith, le) in
      batches.batch_leaves medium mine (drop (length mine) theirs) new (at - length mine) k d e
      (is ∙ ap (take k) (sym (drop-drop (at - length mine) (length mine) theirs ∙ ap (λ (n : ℕ). drop n theirs) place)))
