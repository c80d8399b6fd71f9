-- What the calls of a recovery and of an append make of a disk that stops within one of them.
use Rattle.std.proofs.Common.{◌≡◌, ℕ, zero, suc, ◌+◌, ◌-◌, ◌<◌, ◌≤◌, ◌==◌, max, Bool, true, false, if◌then◌else◌, List, ◌∷◌, Option, Some, None, refl, sym, ◌∙◌, ap, arith}
use Rattle.gated_log.specs.Calls.{up_to, append_changes}
use Rattle.std.specs.Prelude.{take, ◌&&◌}
use Rattle.std.proofs.lemmas.Bool.Decides.{nat_tests}
use Rattle.std.proofs.lemmas.Option.{same_Some}
use Rattle.disk_model.specs.Calls.{DiskCall, wrote, synced}
use Rattle.disk_model.specs.declared.disk.Disked.{Disked}
use Rattle.disk_model.specs.declared.disk.Disked.TheVariants.{Done, Failed}
use Rattle.disk_model.specs.DiskState.{DiskState, call_counted, call_done, next_disk_state, must_fail, misfit_write, same_truth}
use Rattle.disk_model.specs.StoppingState.{StoppingState, after_stop, and_stop, after_stops, go_on}

abbrev pub going : DiskState → ℕ → ℕ → StoppingState
going inner armed pick = record { inner = inner; armed = armed; pick = pick; stopped = false }

abbrev pub halted : DiskState → ℕ → StoppingState
halted inner pick = record { inner = inner; armed = 0; pick = pick; stopped = true }

-- a write that was done
pub wrote_done : (s u : StoppingState) (at len : ℕ) (byte : Option ℕ) → after_stop s (wrote at len byte Done) ≡ Some u
    → (s.stopped ≡ false) × ((s.armed == 1) ≡ false) × (u ≡ going (call_done (call_counted s.inner) (wrote at len byte Done)) (s.armed - 1) s.pick)
wrote_done s u at len byte h = go s.stopped (s.armed == 1) (must_fail s.inner (wrote at len byte Done)) refl refl h
  where
    go : (t b m : Bool) → s.stopped ≡ t → (s.armed == 1) ≡ b
        → (if t then None else if b then None else go_on (s.armed - 1) s.pick (if same_truth m false && true then Some (if m then call_counted s.inner else call_done (call_counted s.inner) (wrote at len byte Done)) else None)) ≡ Some u
        → (s.stopped ≡ false) × ((s.armed == 1) ≡ false) × (u ≡ going (call_done (call_counted s.inner) (wrote at len byte Done)) (s.armed - 1) s.pick)
    go true b m e f h = absurd cc
    go false true m e f h = absurd cc
    go false false true e f h = absurd cc
    go false false false e f h = (e, f, sym (same_Some (going (call_done (call_counted s.inner) (wrote at len byte Done)) (s.armed - 1) s.pick) u h))

-- a sync that was done
pub synced_done : (s u : StoppingState) → after_stop s (synced Done) ≡ Some u
    → (s.stopped ≡ false) × ((s.armed == 1) ≡ false) × (u ≡ going (call_done (call_counted s.inner) (synced Done)) (s.armed - 1) s.pick)
synced_done s u h = go s.stopped (s.armed == 1) (must_fail s.inner (synced Done)) refl refl h
  where
    go : (t b m : Bool) → s.stopped ≡ t → (s.armed == 1) ≡ b
        → (if t then None else if b then None else go_on (s.armed - 1) s.pick (if same_truth m false && true then Some (if m then call_counted s.inner else call_done (call_counted s.inner) (synced Done)) else None)) ≡ Some u
        → (s.stopped ≡ false) × ((s.armed == 1) ≡ false) × (u ≡ going (call_done (call_counted s.inner) (synced Done)) (s.armed - 1) s.pick)
    go true b m e f h = absurd cc
    go false true m e f h = absurd cc
    go false false true e f h = absurd cc
    go false false false e f h = (e, f, sym (same_Some (going (call_done (call_counted s.inner) (synced Done)) (s.armed - 1) s.pick) u h))

-- a write within which the disk stopped
pub wrote_stopped : (s u : StoppingState) (at len : ℕ) (byte : Option ℕ) → after_stop s (wrote at len byte Failed) ≡ Some u → s.stopped ≡ false → u.stopped ≡ true
    → ((s.armed == 1) ≡ true) × (u ≡ halted (next_disk_state s.inner (wrote at len byte Failed)) s.pick)
wrote_stopped s u at len byte h ok stop = go s.stopped (s.armed == 1) (must_fail s.inner (wrote at len byte Failed)) ok refl h
  where
    go : (t b m : Bool) → t ≡ false → (s.armed == 1) ≡ b
        → (if t then Some (record s { inner = call_counted s.inner; stopped = true }) else if b then Some (halted (next_disk_state s.inner (wrote at len byte Failed)) s.pick) else go_on (s.armed - 1) s.pick (if same_truth m true && true then Some (if m then call_counted s.inner else call_done (call_counted s.inner) (wrote at len byte Failed)) else None)) ≡ Some u
        → ((s.armed == 1) ≡ true) × (u ≡ halted (next_disk_state s.inner (wrote at len byte Failed)) s.pick)
    go true b m e f h = absurd cc
    go false true m e f h = (f, sym (same_Some (halted (next_disk_state s.inner (wrote at len byte Failed)) s.pick) u h))
    go false false true e f h = absurd (let y = same_Some (going (call_counted s.inner) (s.armed - 1) s.pick) u h in let z : false ≡ true = ap (λ x. x.stopped) y ∙ stop in cc)
    go false false false e f h = absurd cc

-- a sync within which the disk stopped
pub synced_stopped : (s u : StoppingState) → after_stop s (synced Failed) ≡ Some u → s.stopped ≡ false → u.stopped ≡ true
    → ((s.armed == 1) ≡ true) × (u ≡ halted (call_counted s.inner) s.pick)
synced_stopped s u h ok stop = go s.stopped (s.armed == 1) (must_fail s.inner (synced Failed)) ok refl h
  where
    go : (t b m : Bool) → t ≡ false → (s.armed == 1) ≡ b
        → (if t then Some (record s { inner = call_counted s.inner; stopped = true }) else if b then Some (halted (call_counted s.inner) s.pick) else go_on (s.armed - 1) s.pick (if same_truth m true && true then Some (if m then call_counted s.inner else call_done (call_counted s.inner) (synced Failed)) else None)) ≡ Some u
        → ((s.armed == 1) ≡ true) × (u ≡ halted (call_counted s.inner) s.pick)
    go true b m e f h = absurd cc
    go false true m e f h = (f, sym (same_Some (halted (call_counted s.inner) s.pick) u h))
    go false false true e f h = absurd (let y = same_Some (going (call_counted s.inner) (s.armed - 1) s.pick) u h in let z : false ≡ true = ap (λ x. x.stopped) y ∙ stop in cc)
    go false false false e f h = absurd cc

-- one call of several
pub one_of : (o : Option StoppingState) (call : DiskCall) (u : StoppingState) → and_stop o call ≡ Some u → (s : StoppingState) × (o ≡ Some s) × (after_stop s call ≡ Some u)
one_of None call u h = absurd cc
one_of (Some s) call u h = (s, refl, h)

-- A disk at rest: so long, all of it synced, armed so, no call to fail, and with room for so many changes and bytes of writes.
pub record IsArmed (s : StoppingState) (size armed pick capacity changes bytes : ℕ) : Type 0 where
  pub goes : s.stopped ≡ false
  pub armed_is : s.armed ≡ armed
  pub pick_is : s.pick ≡ pick
  pub sure : s.inner.fails_at ≡ 0
  pub size_is : s.inner.size ≡ size
  pub synced_is : s.inner.synced_size ≡ size
  pub capacity_is : capacity ≤ s.inner.limits.capacity
  pub changes_are : changes ≤ s.inner.changes
  pub bytes_are : bytes ≤ s.inner.bytes

-- a write that has room is there
pub fits_write : (s : DiskState) (at len : ℕ) (byte : Option ℕ) (answer : Disked) → s.fails_at ≡ 0 → at + len ≤ s.limits.capacity → 1 ≤ s.changes → len ≤ s.bytes → next_disk_state s (wrote at len byte answer) ≡ call_done (call_counted s) (wrote at len byte answer)
fits_write s at len byte answer sure room changes bytes =
    let a : (s.fails_at == 1) ≡ false = grind (arith, nat_tests, sure) in
    let b : misfit_write s.limits.capacity s.changes s.bytes at len ≡ false = grind (arith, nat_tests) in
    rw (a, b) refl

-- the fields after a write
pub record Written (s u : StoppingState) (at len : ℕ) : Type 0 where
  pub armed : u.armed ≡ s.armed - 1
  pub pick : u.pick ≡ s.pick
  pub sure : u.inner.fails_at ≡ s.inner.fails_at - 1
  pub size : u.inner.size ≡ max s.inner.size (at + len)
  pub synced : u.inner.synced_size ≡ s.inner.synced_size
  pub capacity : u.inner.limits.capacity ≡ s.inner.limits.capacity
  pub changes : u.inner.changes ≡ s.inner.changes - 1
  pub bytes : u.inner.bytes ≡ s.inner.bytes - len

pub written : (s u : StoppingState) (at len : ℕ) (byte : Option ℕ) (armed : ℕ) → u ≡ going (call_done (call_counted s.inner) (wrote at len byte Done)) (s.armed - 1) s.pick → Written s u at len
written s u at len byte armed e = record {
  armed = ap (λ x. x.armed) e;
  pick = ap (λ x. x.pick) e;
  sure = ap (λ x. x.inner.fails_at) e;
  size = ap (λ x. x.inner.size) e;
  synced = ap (λ x. x.inner.synced_size) e;
  capacity = ap (λ x. x.inner.limits.capacity) e;
  changes = ap (λ x. x.inner.changes) e;
  bytes = ap (λ x. x.inner.bytes) e;
}

-- the fields after a sync
pub record AfterSync (s u : StoppingState) : Type 0 where
  pub armed : u.armed ≡ s.armed - 1
  pub pick : u.pick ≡ s.pick
  pub sure : u.inner.fails_at ≡ s.inner.fails_at - 1
  pub size : u.inner.size ≡ s.inner.size
  pub synced : u.inner.synced_size ≡ s.inner.size
  pub capacity : u.inner.limits.capacity ≡ s.inner.limits.capacity
  pub changes : u.inner.changes ≡ s.inner.changes - 1
  pub bytes : u.inner.bytes ≡ s.inner.bytes
  pub goes : u.stopped ≡ false

pub after_sync : (s u : StoppingState) → u ≡ going (call_done (call_counted s.inner) (synced Done)) (s.armed - 1) s.pick → AfterSync s u
after_sync s u e = record {
  armed = ap (λ x. x.armed) e;
  pick = ap (λ x. x.pick) e;
  sure = ap (λ x. x.inner.fails_at) e;
  size = ap (λ x. x.inner.size) e;
  synced = ap (λ x. x.inner.synced_size) e;
  capacity = ap (λ x. x.inner.limits.capacity) e;
  changes = ap (λ x. x.inner.changes) e;
  bytes = ap (λ x. x.inner.bytes) e;
  goes = ap (λ x. x.stopped) e;
}

pub not_one : (k : ℕ) → (k == 1) ≡ false → k ≡ 1 → ⊥
not_one k h e = let y : (k == 1) ≡ true = grind (arith, nat_tests, e) in cc

pub is_one : (k : ℕ) → (k == 1) ≡ true → k ≡ 1
is_one k h = grind (arith, nat_tests, h)

-- a batch that was kept
pub batch_done : (s u : StoppingState) (gate len size k pick capacity changes bytes : ℕ) → IsArmed s size k pick capacity (changes + 4) (bytes + (len + 1)) → after_stops (Some s) (up_to (append_changes gate len) Done) ≡ Some u
    → (1 ≤ k → 4 < k) × IsArmed u (max size (gate + 1 + len)) (k - 4) pick capacity changes bytes
batch_done s u gate len size k pick capacity changes bytes r h =
    let a = wrote (gate + 1) len None Done in
    let c = wrote gate 1 (Some 1) Done in
    let p4 = one_of (and_stop (and_stop (and_stop (Some s) (wrote (gate + 1) len None Done)) (synced Done)) (wrote gate 1 (Some 1) Done)) (synced Done) u h in
    let p3 = one_of (and_stop (and_stop (Some s) (wrote (gate + 1) len None Done)) (synced Done)) (wrote gate 1 (Some 1) Done) p4.0 p4.1 in
    let p2 = one_of (and_stop (Some s) (wrote (gate + 1) len None Done)) (synced Done) p3.0 p3.1 in
    let q1 = wrote_done s p2.0 (gate + 1) len None p2.1 in
    let q2 = synced_done p2.0 p3.0 p2.2 in
    let q3 = wrote_done p3.0 p4.0 gate 1 (Some 1) p3.2 in
    let q4 = synced_done p4.0 u p4.2 in
    let w1 = written s p2.0 (gate + 1) len None 0 q1.2 in
    let w2 = after_sync p2.0 p3.0 q2.2 in
    let w3 = written p3.0 p4.0 gate 1 (Some 1) 0 q3.2 in
    let w4 = after_sync p4.0 u q4.2 in
    let n1 = not_one s.armed q1.1 in
    let n2 = not_one p2.0.armed q2.1 in
    let n3 = not_one p3.0.armed q3.1 in
    let n4 = not_one p4.0.armed q4.1 in
    let e1 : p2.0.armed ≡ k - 1 = omega (arith, w1.armed, r.armed_is) in
    let e2 : p3.0.armed ≡ k - 2 = omega (arith, w2.armed, e1) in
    let e3 : p4.0.armed ≡ k - 3 = omega (arith, w3.armed, e2) in
    let long : 1 ≤ k → 4 < k = λ some. grind (arith, n1, n2, n3, n4, e1, e2, e3, r.armed_is, some) in (
      long,
      record {
        goes = w4.goes;
        armed_is = omega (arith, w4.armed, e3);
        pick_is = w4.pick ∙ w3.pick ∙ w2.pick ∙ w1.pick ∙ r.pick_is;
        sure = omega (arith, w4.sure, w3.sure, w2.sure, w1.sure, r.sure);
        size_is = omega (arith, w4.size, w3.size, w2.size, w1.size, r.size_is);
        synced_is = omega (arith, w4.synced, w3.size, w2.size, w1.size, r.size_is);
        capacity_is = omega (arith, w4.capacity, w3.capacity, w2.capacity, w1.capacity, r.capacity_is);
        changes_are = omega (arith, w4.changes, w3.changes, w2.changes, w1.changes, r.changes_are);
        bytes_are = omega (arith, w4.bytes, w3.bytes, w2.bytes, w1.bytes, r.bytes_are);
      },
    )

-- what a stop within a batch leaves
pub record Halts (u : StoppingState) (gate size larger k pick j : ℕ) : Type 0 where
  pub at : k ≡ j
  pub pick_is : u.pick ≡ pick
  pub size_is : u.inner.size ≡ larger
  pub early : j ≤ 2 → u.inner.synced_size ≡ size
  pub late : 3 ≤ j → (u.inner.synced_size ≡ larger) × ((more : List (ℕ × ℕ)) × (u.inner.singles ≡ (gate, 1) ∷ more))

pub batch_stopped : (s u : StoppingState) (gate len size k pick capacity j : ℕ) → IsArmed s size k pick capacity 4 (len + 1) → gate + 1 + len ≤ capacity → 1 ≤ j → j ≤ 4
    → after_stops (Some s) (up_to (take j (append_changes gate len)) Failed) ≡ Some u → u.stopped ≡ true → Halts u gate size (max size (gate + 1 + len)) k pick j
batch_stopped s u gate len size k pick capacity zero r room low high h stop = absurd (omega (arith, low))
batch_stopped s u gate len size k pick capacity (suc zero) r room low high h stop =
    let q = wrote_stopped s u (gate + 1) len None h r.goes stop in
    let f = fits_write s.inner (gate + 1) len None Failed r.sure (omega (arith, room, r.capacity_is)) (omega (arith, r.changes_are)) (omega (arith, r.bytes_are)) in
    let one : k ≡ 1 = sym r.armed_is ∙ is_one s.armed q.0 in
    record {
      at = one;
      pick_is = ap (λ x. x.pick) q.1 ∙ r.pick_is;
      size_is = omega (arith, ap (λ x. x.inner.size) q.1, ap (λ x. x.size) f, r.size_is);
      early = λ y. ap (λ x. x.inner.synced_size) q.1 ∙ ap (λ x. x.synced_size) f ∙ r.synced_is;
      late = λ y. absurd (omega (arith, y));
    }
batch_stopped s u gate len size k pick capacity (suc (suc zero)) r room low high h stop =
    let p2 = one_of (and_stop (Some s) (wrote (gate + 1) len None Done)) (synced Failed) u h in
    let q1 = wrote_done s p2.0 (gate + 1) len None p2.1 in
    let w1 = written s p2.0 (gate + 1) len None 0 q1.2 in
    let q = synced_stopped p2.0 u p2.2 (ap (λ x. x.stopped) q1.2) stop in
    let one = is_one p2.0.armed q.0 in
    record {
      at = omega (arith, w1.armed, r.armed_is, one);
      pick_is = ap (λ x. x.pick) q.1 ∙ w1.pick ∙ r.pick_is;
      size_is = omega (arith, ap (λ x. x.inner.size) q.1, w1.size, r.size_is);
      early = λ y. ap (λ x. x.inner.synced_size) q.1 ∙ w1.synced ∙ r.synced_is;
      late = λ y. absurd (omega (arith, y));
    }
batch_stopped s u gate len size k pick capacity (suc (suc (suc zero))) r room low high h stop =
    let p3 = one_of (and_stop (and_stop (Some s) (wrote (gate + 1) len None Done)) (synced Done)) (wrote gate 1 (Some 1) Failed) u h in
    let p2 = one_of (and_stop (Some s) (wrote (gate + 1) len None Done)) (synced Done) p3.0 p3.1 in
    let q1 = wrote_done s p2.0 (gate + 1) len None p2.1 in
    let q2 = synced_done p2.0 p3.0 p2.2 in
    let w1 = written s p2.0 (gate + 1) len None 0 q1.2 in
    let w2 = after_sync p2.0 p3.0 q2.2 in
    let q = wrote_stopped p3.0 u gate 1 (Some 1) p3.2 w2.goes stop in
    let f = fits_write p3.0.inner gate 1 (Some 1) Failed (omega (arith, w2.sure, w1.sure, r.sure)) (omega (arith, room, r.capacity_is, w1.capacity, w2.capacity)) (omega (arith, r.changes_are, w1.changes, w2.changes)) (omega (arith, r.bytes_are, w1.bytes, w2.bytes)) in
    let one = is_one p3.0.armed q.0 in
    record {
      at = omega (arith, w2.armed, w1.armed, r.armed_is, one);
      pick_is = ap (λ x. x.pick) q.1 ∙ w2.pick ∙ w1.pick ∙ r.pick_is;
      size_is = omega (arith, ap (λ x. x.inner.size) q.1, ap (λ x. x.size) f, w2.size, w1.size, r.size_is);
      early = λ y. absurd (omega (arith, y));
      late = λ y. (omega (arith, ap (λ x. x.inner.synced_size) q.1, ap (λ x. x.synced_size) f, w2.synced, w1.size, r.size_is), (p3.0.inner.singles, ap (λ x. x.inner.singles) q.1 ∙ ap (λ x. x.singles) f));
    }
batch_stopped s u gate len size k pick capacity (suc (suc (suc (suc zero)))) r room low high h stop =
    let p4 = one_of (and_stop (and_stop (and_stop (Some s) (wrote (gate + 1) len None Done)) (synced Done)) (wrote gate 1 (Some 1) Done)) (synced Failed) u h in
    let p3 = one_of (and_stop (and_stop (Some s) (wrote (gate + 1) len None Done)) (synced Done)) (wrote gate 1 (Some 1) Done) p4.0 p4.1 in
    let p2 = one_of (and_stop (Some s) (wrote (gate + 1) len None Done)) (synced Done) p3.0 p3.1 in
    let q1 = wrote_done s p2.0 (gate + 1) len None p2.1 in
    let q2 = synced_done p2.0 p3.0 p2.2 in
    let q3 = wrote_done p3.0 p4.0 gate 1 (Some 1) p3.2 in
    let w1 = written s p2.0 (gate + 1) len None 0 q1.2 in
    let w2 = after_sync p2.0 p3.0 q2.2 in
    let w3 = written p3.0 p4.0 gate 1 (Some 1) 0 q3.2 in
    let q = synced_stopped p4.0 u p4.2 (ap (λ x. x.stopped) q3.2) stop in
    let one = is_one p4.0.armed q.0 in
    record {
      at = omega (arith, w3.armed, w2.armed, w1.armed, r.armed_is, one);
      pick_is = ap (λ x. x.pick) q.1 ∙ w3.pick ∙ w2.pick ∙ w1.pick ∙ r.pick_is;
      size_is = omega (arith, ap (λ x. x.inner.size) q.1, w3.size, w2.size, w1.size, r.size_is);
      early = λ y. absurd (omega (arith, y));
      late = λ y. (omega (arith, ap (λ x. x.inner.synced_size) q.1, w3.synced, w2.synced, w1.size, r.size_is), (p3.0.inner.singles, ap (λ x. x.inner.singles) q.1 ∙ ap (λ x. x.inner.singles) q3.2));
    }
batch_stopped s u gate len size k pick capacity (suc (suc (suc (suc (suc n))))) r room low high h stop = absurd (omega (arith, high))

pub no_misfit : (s : DiskState) (at len : ℕ) (byte : Option ℕ) → s.fails_at ≡ 0 → at + len ≤ s.limits.capacity → 1 ≤ s.changes → len ≤ s.bytes → must_fail s (wrote at len byte Failed) ≡ false
no_misfit s at len byte sure room changes bytes =
    let a : (s.fails_at == 1) ≡ false = grind (arith, nat_tests, sure) in
    let b : misfit_write s.limits.capacity s.changes s.bytes at len ≡ false = grind (arith, nat_tests) in
    rw (a, b) refl

pub no_misfit_sync : (s : DiskState) → s.fails_at ≡ 0 → 1 ≤ s.changes → must_fail s (synced Failed) ≡ false
no_misfit_sync s sure changes =
    let a : (s.fails_at == 1) ≡ false = grind (arith, nat_tests, sure) in
    let b : (s.changes == 0) ≡ false = grind (arith, nat_tests) in
    rw (a, b) refl

-- a write that has room fails by a stop alone
pub wrote_fails : (s u : StoppingState) (at len : ℕ) (byte : Option ℕ) → after_stop s (wrote at len byte Failed) ≡ Some u → s.stopped ≡ false → must_fail s.inner (wrote at len byte Failed) ≡ false → u.stopped ≡ true
wrote_fails s u at len byte h ok fit = go s.stopped (s.armed == 1) (must_fail s.inner (wrote at len byte Failed)) ok fit h
  where
    go : (t b m : Bool) → t ≡ false → m ≡ false
        → (if t then Some (record s { inner = call_counted s.inner; stopped = true }) else if b then Some (halted (next_disk_state s.inner (wrote at len byte Failed)) s.pick) else go_on (s.armed - 1) s.pick (if same_truth m true && true then Some (if m then call_counted s.inner else call_done (call_counted s.inner) (wrote at len byte Failed)) else None)) ≡ Some u
        → u.stopped ≡ true
    go true b m e f h = absurd cc
    go false b true e f h = absurd cc
    go false true false e f h = sym (ap (λ x. x.stopped) (same_Some (halted (next_disk_state s.inner (wrote at len byte Failed)) s.pick) u h))
    go false false false e f h = absurd cc

pub synced_fails : (s u : StoppingState) → after_stop s (synced Failed) ≡ Some u → s.stopped ≡ false → must_fail s.inner (synced Failed) ≡ false → u.stopped ≡ true
synced_fails s u h ok fit = go s.stopped (s.armed == 1) (must_fail s.inner (synced Failed)) ok fit h
  where
    go : (t b m : Bool) → t ≡ false → m ≡ false
        → (if t then Some (record s { inner = call_counted s.inner; stopped = true }) else if b then Some (halted (call_counted s.inner) s.pick) else go_on (s.armed - 1) s.pick (if same_truth m true && true then Some (if m then call_counted s.inner else call_done (call_counted s.inner) (synced Failed)) else None)) ≡ Some u
        → u.stopped ≡ true
    go true b m e f h = absurd cc
    go false b true e f h = absurd cc
    go false true false e f h = sym (ap (λ x. x.stopped) (same_Some (halted (call_counted s.inner) s.pick) u h))
    go false false false e f h = absurd cc

-- a batch that has room fails by a stop alone
pub batch_fails : (s u : StoppingState) (gate len size k pick capacity j : ℕ) → IsArmed s size k pick capacity 4 (len + 1) → gate + 1 + len ≤ capacity → 1 ≤ j → j ≤ 4
    → after_stops (Some s) (up_to (take j (append_changes gate len)) Failed) ≡ Some u → u.stopped ≡ true
batch_fails s u gate len size k pick capacity zero r room low high h = absurd (omega (arith, low))
batch_fails s u gate len size k pick capacity (suc zero) r room low high h =
    wrote_fails s u (gate + 1) len None h r.goes (no_misfit s.inner (gate + 1) len None r.sure (omega (arith, room, r.capacity_is)) (omega (arith, r.changes_are)) (omega (arith, r.bytes_are)))
batch_fails s u gate len size k pick capacity (suc (suc zero)) r room low high h =
    let p2 = one_of (and_stop (Some s) (wrote (gate + 1) len None Done)) (synced Failed) u h in
    let q1 = wrote_done s p2.0 (gate + 1) len None p2.1 in
    let w1 = written s p2.0 (gate + 1) len None 0 q1.2 in
    synced_fails p2.0 u p2.2 (ap (λ x. x.stopped) q1.2) (no_misfit_sync p2.0.inner (omega (arith, w1.sure, r.sure)) (omega (arith, w1.changes, r.changes_are)))
batch_fails s u gate len size k pick capacity (suc (suc (suc zero))) r room low high h =
    let p3 = one_of (and_stop (and_stop (Some s) (wrote (gate + 1) len None Done)) (synced Done)) (wrote gate 1 (Some 1) Failed) u h in
    let p2 = one_of (and_stop (Some s) (wrote (gate + 1) len None Done)) (synced Done) p3.0 p3.1 in
    let q1 = wrote_done s p2.0 (gate + 1) len None p2.1 in
    let q2 = synced_done p2.0 p3.0 p2.2 in
    let w1 = written s p2.0 (gate + 1) len None 0 q1.2 in
    let w2 = after_sync p2.0 p3.0 q2.2 in
    wrote_fails p3.0 u gate 1 (Some 1) p3.2 w2.goes (no_misfit p3.0.inner gate 1 (Some 1) (omega (arith, w2.sure, w1.sure, r.sure)) (omega (arith, room, r.capacity_is, w1.capacity, w2.capacity)) (omega (arith, r.changes_are, w1.changes, w2.changes)) (omega (arith, r.bytes_are, w1.bytes, w2.bytes)))
batch_fails s u gate len size k pick capacity (suc (suc (suc (suc zero)))) r room low high h =
    let p4 = one_of (and_stop (and_stop (and_stop (Some s) (wrote (gate + 1) len None Done)) (synced Done)) (wrote gate 1 (Some 1) Done)) (synced Failed) u h in
    let p3 = one_of (and_stop (and_stop (Some s) (wrote (gate + 1) len None Done)) (synced Done)) (wrote gate 1 (Some 1) Done) p4.0 p4.1 in
    let p2 = one_of (and_stop (Some s) (wrote (gate + 1) len None Done)) (synced Done) p3.0 p3.1 in
    let q1 = wrote_done s p2.0 (gate + 1) len None p2.1 in
    let q2 = synced_done p2.0 p3.0 p2.2 in
    let q3 = wrote_done p3.0 p4.0 gate 1 (Some 1) p3.2 in
    let w1 = written s p2.0 (gate + 1) len None 0 q1.2 in
    let w2 = after_sync p2.0 p3.0 q2.2 in
    let w3 = written p3.0 p4.0 gate 1 (Some 1) 0 q3.2 in
    synced_fails p4.0 u p4.2 (ap (λ x. x.stopped) q3.2) (no_misfit_sync p4.0.inner (omega (arith, w3.sure, w2.sure, w1.sure, r.sure)) (omega (arith, w3.changes, w2.changes, w1.changes, r.changes_are)))
batch_fails s u gate len size k pick capacity (suc (suc (suc (suc (suc n))))) r room low high h = absurd (omega (arith, high))
