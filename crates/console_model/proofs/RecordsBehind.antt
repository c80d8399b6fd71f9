-- Records that follow a history.
use Rattle.std.proofs.Common.{◌≡◌, ℕ, zero, suc, ◌+◌, ◌<◌, ◌≤◌, List, [], ◌∷◌, ◌++◌, length, take, get_or, sym, ap, subst, append_assoc, arith, length-append, ◌-◌, ◌^◌, Option, Some, None}
use Rattle.std.specs.Prelude.{IsSomeAnd, min}
use Rattle.std.proofs.lemmas.List.{append-nil}
use Rattle.station_base.specs.CivilMinute.{CivilMinute, minute_of}
use Rattle.station_base.specs.LastStamp.{CanFollow}
use Rattle.archive_record.specs.Reading.{stamp_in}
use Rattle.console_ring.specs.History.{newest_stamp, CanExtend, IsHistory}
use Rattle.console_ring.proofs.Histories.{rises_push}
use Rattle.console_ring.specs.Standing.{KeptRecords, RingStandsFor, Puts}
use Rattle.console_ring.specs.declared.put.RingPut.{RingPut}
use Rattle.console_ring.specs.declared.put.RingPut.TheVariants.{Done, NotRising}
use Rattle.console_model.specs.Valid.{EachFollows}
use Rattle.console_model.proofs.HistoryLength.{few_records}

clash : (newest of_bytes : Option CivilMinute) (last : CivilMinute) → newest ≡ Some last →
    CanFollow newest of_bytes → IsSomeAnd of_bytes (λ s. minute_of s ≤ minute_of last) → ⊥
clash None of_bytes last is follows after = cc
clash (Some n) None last is follows after = absurd follows
clash (Some n) (Some s) last is follows after =
    let same : minute_of n ≡ minute_of last = ap minute_of (cc) in
    omega arith

-- a record that can follow is put
pub put_follows : (history : List (List ℕ)) (bytes : List ℕ) (old new : KeptRecords) (answer : RingPut) → CanExtend history bytes → Puts history bytes old answer new →
    RingStandsFor new (history ++ bytes ∷ [])
put_follows history bytes old new Done follows puts = puts.1
put_follows history bytes old new (NotRising newest) follows puts = absurd (clash (newest_stamp history) (stamp_in bytes) newest puts.0 follows puts.1)

-- each of them can follow what is before it
pub each_at : (history records : List (List ℕ)) (i : ℕ) (none : List ℕ) → EachFollows history records → i < length records →
    CanExtend (history ++ take i records) (get_or records i none)
each_at history [] i none each within = absurd (omega arith)
each_at history (r ∷ rs) zero none each within = subst (λ (h : List (List ℕ)). CanExtend h r) (sym (append-nil history)) each.0
each_at history (r ∷ rs) (suc i) none each within =
    subst (λ (h : List (List ℕ)). CanExtend h (get_or rs i none)) (append_assoc history (r ∷ []) (take i rs))
    (each_at (history ++ r ∷ []) rs i none each.1 (omega arith))

-- and so can one that follows them all
pub each_more : (history records : List (List ℕ)) (bytes : List ℕ) → EachFollows history records → CanExtend (history ++ records) bytes → EachFollows history (records ++ bytes ∷ [])
each_more history [] bytes each follows = (subst (λ (h : List (List ℕ)). CanExtend h bytes) (append-nil history) follows, tt)
each_more history (r ∷ rs) bytes each follows =
    (each.0, each_more (history ++ r ∷ []) rs bytes each.1 (subst (λ (h : List (List ℕ)). CanExtend h bytes) (sym (append_assoc history (r ∷ []) rs)) follows))

-- the count of a history with one more
pub counts_more : (history : List (List ℕ)) (bytes : List ℕ) (puts now : ℕ) → IsHistory (history ++ bytes ∷ []) → puts ≡ length history → now ≡ min (puts + 1) (2 ^ 64 - 1) → now ≡ length (history ++ bytes ∷ [])
counts_more history bytes puts now rises was is = omega (arith, length-append history (bytes ∷ []), few_records (history ++ bytes ∷ []) rises)

-- a history and the records that follow it are a history
pub rises_all : (history records : List (List ℕ)) → IsHistory history → EachFollows history records → IsHistory (history ++ records)
rises_all history [] rises each = subst IsHistory (sym (append-nil history)) rises
rises_all history (r ∷ rs) rises each =
    subst IsHistory (append_assoc history (r ∷ []) rs) (rises_all (history ++ r ∷ []) rs (rises_push history r rises each.0) each.1)
