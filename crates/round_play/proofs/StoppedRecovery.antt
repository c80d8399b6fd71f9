-- What the changes of a recovery make of a disk that may stop within one of them.
use Rattle.std.proofs.Common.{◌≡◌, ℕ, zero, suc, ◌+◌, ◌-◌, ◌<◌, ◌≤◌, ◌==◌, max, Bool, true, false, if◌then◌else◌, List, [], Some, None, refl, sym, ◌∙◌, ap, arith, take}
use Rattle.std.proofs.lemmas.Bool.{false≢true}
use Rattle.disk_model.specs.Calls.{wrote, synced}
use Rattle.disk_model.specs.Effects.{Effect}
use Rattle.disk_model.specs.StoppingState.{StoppingState, after_stops, and_stop}
use Rattle.disk_model.specs.declared.disk.Disked.{Disked}
use Rattle.disk_model.specs.declared.disk.Disked.TheVariants.{Done, Failed}
use Rattle.gated_log.specs.Calls.{up_to, recovery_changes, any_failed}
use Rattle.gated_log.proofs.StoppedCalls.{IsArmed, one_of, wrote_done, synced_done, wrote_stopped, synced_stopped, written, after_sync, fits_write, no_misfit, no_misfit_sync, wrote_fails, synced_fails, not_one, is_one}
use Rattle.gated_log.specs.Layout.{empty_size}

-- the length that the file has within a change of these
abbrev pub length_within : ℕ → ℕ → ℕ
length_within j size = if j == 1 then size else max size empty_size

-- The disk went on through these changes.
pub record Passed (s u : StoppingState) (k j larger : ℕ) : Type 0 where
  pub passed : 1 ≤ k → j < k
  pub armed_is : u.armed ≡ k - j
  pub goes : u.stopped ≡ false
  pub sure : u.inner.fails_at ≡ 0
  pub size_is : u.inner.size ≡ larger
  pub synced_is : u.inner.synced_size ≡ larger
  pub changes_are : s.inner.changes ≤ u.inner.changes + j
  pub bytes_are : s.inner.bytes ≤ u.inner.bytes + empty_size

-- The disk stopped within this change of them.
pub record Halted (u : StoppingState) (size larger k pick j : ℕ) : Type 0 where
  pub halted : u.stopped ≡ true
  pub at : k ≡ j
  pub pick_is : u.pick ≡ pick
  pub sure : u.inner.fails_at ≡ 0
  pub size_is : u.inner.size ≡ larger
  pub synced_is : u.inner.synced_size ≡ size

abbrev nothing : List Effect
nothing = []

module _ (s u : StoppingState) (size k pick capacity : ℕ) (r : IsArmed s size k pick capacity 3 empty_size) where
  -- the first sync alone
  pub synced_once : after_stops (Some s) (up_to (take 1 recovery_changes) Done) ≡ Some u → Passed s u k 1 size
  synced_once h =
      let q = synced_done s u h in
      let w = after_sync s u q.2 in
      let n = not_one s.armed q.1 in
      record {
        passed = λ some. grind (arith, n, r.armed_is, some);
        armed_is = omega (arith, w.armed, r.armed_is);
        goes = w.goes;
        sure = omega (arith, w.sure, r.sure);
        size_is = w.size ∙ r.size_is;
        synced_is = w.synced ∙ r.size_is;
        changes_are = omega (arith, w.changes);
        bytes_are = omega (arith, w.bytes);
      }

  -- all three
  pub made_anew : after_stops (Some s) (up_to (take 3 recovery_changes) Done) ≡ Some u → Passed s u k 3 (max size empty_size)
  made_anew h =
      let p3 = one_of (and_stop (and_stop (Some s) (synced Done)) (wrote 0 empty_size None Done)) (synced Done) u h in
      let p2 = one_of (and_stop (Some s) (synced Done)) (wrote 0 empty_size None Done) p3.0 p3.1 in
      let q1 = synced_done s p2.0 p2.1 in
      let q2 = wrote_done p2.0 p3.0 0 empty_size None p2.2 in
      let q3 = synced_done p3.0 u p3.2 in
      let w1 = after_sync s p2.0 q1.2 in
      let w2 = written p2.0 p3.0 0 empty_size None 0 q2.2 in
      let w3 = after_sync p3.0 u q3.2 in
      let n1 = not_one s.armed q1.1 in
      let n2 = not_one p2.0.armed q2.1 in
      let n3 = not_one p3.0.armed q3.1 in
      let e1 : p2.0.armed ≡ k - 1 = omega (arith, w1.armed, r.armed_is) in
      let e2 : p3.0.armed ≡ k - 2 = omega (arith, w2.armed, e1) in
      record {
        passed = λ some. grind (arith, n1, n2, n3, e1, e2, r.armed_is, some);
        armed_is = omega (arith, w3.armed, e2);
        goes = w3.goes;
        sure = omega (arith, w3.sure, w2.sure, w1.sure, r.sure);
        size_is = omega (arith, w3.size, w2.size, w1.size, r.size_is);
        synced_is = omega (arith, w3.synced, w2.size, w1.size, r.size_is);
        changes_are = omega (arith, w3.changes, w2.changes, w1.changes);
        bytes_are = omega (arith, w3.bytes, w2.bytes, w1.bytes);
      }

  -- it stops within one of them
  pub stops_within : (j : ℕ) → empty_size ≤ capacity → 1 ≤ j → j ≤ 3 → after_stops (Some s) (up_to (take j recovery_changes) Failed) ≡ Some u
      → Halted u size (length_within j size) k pick j
  stops_within zero room low high h = absurd (omega (arith, low))
  stops_within (suc zero) room low high h =
      let stop = synced_fails s u h r.goes (no_misfit_sync s.inner r.sure (omega (arith, r.changes_are))) in
      let q = synced_stopped s u h r.goes stop in
      record {
        halted = stop;
        at = sym r.armed_is ∙ is_one s.armed q.0;
        pick_is = ap (λ (x : StoppingState). x.pick) q.1 ∙ r.pick_is;
        sure = omega (arith, ap (λ (x : StoppingState). x.inner.fails_at) q.1, r.sure);
        size_is = ap (λ (x : StoppingState). x.inner.size) q.1 ∙ r.size_is;
        synced_is = ap (λ (x : StoppingState). x.inner.synced_size) q.1 ∙ r.synced_is;
      }
  stops_within (suc (suc zero)) room low high h =
      let p2 = one_of (and_stop (Some s) (synced Done)) (wrote 0 empty_size None Failed) u h in
      let q1 = synced_done s p2.0 p2.1 in
      let w1 = after_sync s p2.0 q1.2 in
      let sure : p2.0.inner.fails_at ≡ 0 = omega (arith, w1.sure, r.sure) in
      let fits : 0 + empty_size ≤ p2.0.inner.limits.capacity = omega (arith, w1.capacity, r.capacity_is, room) in
      let changes : 1 ≤ p2.0.inner.changes = omega (arith, w1.changes, r.changes_are) in
      let bytes : empty_size ≤ p2.0.inner.bytes = omega (arith, w1.bytes, r.bytes_are) in
      let stop = wrote_fails p2.0 u 0 empty_size None p2.2 w1.goes (no_misfit p2.0.inner 0 empty_size None sure fits changes bytes) in
      let q = wrote_stopped p2.0 u 0 empty_size None p2.2 w1.goes stop in
      let f = fits_write p2.0.inner 0 empty_size None Failed sure fits changes bytes in
      let one = is_one p2.0.armed q.0 in
      record {
        halted = stop;
        at = omega (arith, w1.armed, r.armed_is, one);
        pick_is = ap (λ (x : StoppingState). x.pick) q.1 ∙ w1.pick ∙ r.pick_is;
        sure = omega (arith, ap (λ (x : StoppingState). x.inner.fails_at) q.1, ap (λ x. x.fails_at) f, sure);
        size_is = omega (arith, ap (λ (x : StoppingState). x.inner.size) q.1, ap (λ x. x.size) f, w1.size, r.size_is);
        synced_is = ap (λ (x : StoppingState). x.inner.synced_size) q.1 ∙ ap (λ x. x.synced_size) f ∙ w1.synced ∙ r.size_is;
      }
  stops_within (suc (suc (suc zero))) room low high h =
      let p3 = one_of (and_stop (and_stop (Some s) (synced Done)) (wrote 0 empty_size None Done)) (synced Failed) u h in
      let p2 = one_of (and_stop (Some s) (synced Done)) (wrote 0 empty_size None Done) p3.0 p3.1 in
      let q1 = synced_done s p2.0 p2.1 in
      let q2 = wrote_done p2.0 p3.0 0 empty_size None p2.2 in
      let w1 = after_sync s p2.0 q1.2 in
      let w2 = written p2.0 p3.0 0 empty_size None 0 q2.2 in
      let goes : p3.0.stopped ≡ false = ap (λ (x : StoppingState). x.stopped) q2.2 in
      let sure : p3.0.inner.fails_at ≡ 0 = omega (arith, w2.sure, w1.sure, r.sure) in
      let stop = synced_fails p3.0 u p3.2 goes (no_misfit_sync p3.0.inner sure (omega (arith, w2.changes, w1.changes, r.changes_are))) in
      let q = synced_stopped p3.0 u p3.2 goes stop in
      let one = is_one p3.0.armed q.0 in
      record {
        halted = stop;
        at = omega (arith, w2.armed, w1.armed, r.armed_is, one);
        pick_is = ap (λ (x : StoppingState). x.pick) q.1 ∙ w2.pick ∙ w1.pick ∙ r.pick_is;
        sure = omega (arith, ap (λ (x : StoppingState). x.inner.fails_at) q.1, sure);
        size_is = omega (arith, ap (λ (x : StoppingState). x.inner.size) q.1, w2.size, w1.size, r.size_is);
        synced_is = ap (λ (x : StoppingState). x.inner.synced_size) q.1 ∙ w2.synced ∙ w1.synced ∙ r.size_is;
      }
  stops_within (suc (suc (suc (suc n)))) room low high h = absurd (omega (arith, high))

-- of changes of a recovery one failed only where the last did, and there is one
pub last_failed : (j : ℕ) (answer : Disked) → j ≤ 3 → any_failed (up_to (take j recovery_changes) answer) ≡ true → (1 ≤ j) × (answer ≡ Failed)
last_failed zero answer high h = absurd (false≢true h)
last_failed (suc zero) Done high h = absurd (false≢true h)
last_failed (suc zero) Failed high h = (omega arith, refl)
last_failed (suc (suc zero)) Done high h = absurd (false≢true h)
last_failed (suc (suc zero)) Failed high h = (omega arith, refl)
last_failed (suc (suc (suc zero))) Done high h = absurd (false≢true h)
last_failed (suc (suc (suc zero))) Failed high h = (omega arith, refl)
last_failed (suc (suc (suc (suc j)))) answer high h = absurd (omega (arith, high))

-- where none did, the last was done
pub last_done : (j : ℕ) (answer : Disked) → 1 ≤ j → j ≤ 3 → any_failed (up_to (take j recovery_changes) answer) ≡ false → answer ≡ Done
last_done zero answer low high h = absurd (omega (arith, low))
last_done j Done low high h = refl
last_done (suc zero) Failed low high h = absurd (false≢true (sym h))
last_done (suc (suc zero)) Failed low high h = absurd (false≢true (sym h))
last_done (suc (suc (suc zero))) Failed low high h = absurd (false≢true (sym h))
last_done (suc (suc (suc (suc j)))) Failed low high h = absurd (omega (arith, high))
