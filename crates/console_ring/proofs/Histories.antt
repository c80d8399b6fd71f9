-- Histories that grow by a record.
use Rattle.std.proofs.Common.{◌≡◌, ℕ, ◌+◌, ◌-◌, ◌%◌, ◌<◌, ◌≤◌, List, [], ◌∷◌, ◌++◌, length, take, drop, get_or, refl, sym, ap, ◌∙◌, arith, length-append, length-drop, below_more, Bool, true, false, Option, Some, None}
use Rattle.std.specs.Prelude.{if◌then◌else◌, nat_lt, slice_get, IfSome}
use Rattle.std.proofs.lemmas.Bool.{lt-ltb, ltb-true}
use Rattle.std.proofs.lemmas.Bool.Decides.{nat_tests}
use Rattle.std.proofs.lemmas.List.{drop-append-le, drop-drop, take-append-le}
use Rattle.std.proofs.Math.ListN.{get_or-append}
use Rattle.std.proofs.Math.Seq.{get_or-append_seam, take-append_seam}
use Rattle.circular_buffer.specs.Buffer.{keep_last, last_item}
use Rattle.circular_buffer.proofs.Places.{slice_get-drop}
use Rattle.station_base.specs.CivilMinute.{CivilMinute, minute_of}
use Rattle.station_base.specs.LastStamp.{CanFollow}
use Rattle.archive_record.specs.Reading.{stamp_in}
use Rattle.console_ring.specs.History.{retained, newest_stamp, CanExtend, IsHistory, ring_size}
use Rattle.console_ring.specs.Picture.{last_number_in, ring_slot}
use Rattle.console_ring.specs.Standing.{KeptRecords, RingStandsFor}

pub retained_push : (history : List (List ℕ)) (bytes : List ℕ) → keep_last ring_size (retained history ++ bytes ∷ []) ≡ retained (history ++ bytes ∷ [])
retained_push history bytes =
    let overwritten : ℕ = length history - ring_size in
    let long = length-append (retained history) (bytes ∷ []) in
    let kept = length-drop overwritten history in
    let all = length-append history (bytes ∷ []) in
    let front : drop overwritten history ++ bytes ∷ [] ≡ drop overwritten (history ++ bytes ∷ []) = sym (drop-append-le overwritten history (bytes ∷ []) (omega arith)) in
    let gone : ℕ = length (retained history ++ bytes ∷ []) - ring_size in
    let sum : overwritten + gone ≡ length (history ++ bytes ∷ []) - ring_size = omega (arith, long, kept, all) in
    ap (λ xs. drop gone xs) front ∙ drop-drop gone overwritten (history ++ bytes ∷ []) ∙ ap (λ n. drop n (history ++ bytes ∷ [])) sum

-- the last of those that are left is the last of all
pub last_retained : (history : List (List ℕ)) → last_item (retained history) ≡ last_item history
last_retained [] = refl
last_retained (r ∷ rs) =
    let overwritten : ℕ = length (r ∷ rs) - ring_size in
    slice_get-drop overwritten (r ∷ rs) (length (retained (r ∷ rs)) - 1) (length (r ∷ rs) - 1) (omega (arith, length-drop overwritten (r ∷ rs)))

-- the item so many behind the last one, where there are more
abbrev item_behind : Bool → List (List ℕ) → ℕ → Option (List ℕ)
item_behind more items behind = if more then slice_get items (length items - behind - 1) else None

-- what a ring has so many behind its last record is what was put last in a slot
pub slot_kept : (records : List (List ℕ)) (next number behind : ℕ) (history : List (List ℕ)) →
    RingStandsFor (record { records = records; next_slot = next }) history → number < ring_size → behind ≡ (next + ring_size - 1 - number) % ring_size →
    item_behind (nat_lt behind (length records)) records behind ≡ ring_slot history number
slot_kept records next number behind history stands small is =
    ap (λ items. item_behind (nat_lt behind (length items)) items behind) stands.records ∙ by_put (nat_lt number (length history)) refl
  where
    by_put : (put : Bool) → nat_lt number (length history) ≡ put →
        item_behind (nat_lt behind (length (retained history))) (retained history) behind ≡ (if put then slice_get history (last_number_in (length history) number) else None)
    by_put true test =
        let long = length-drop (length history - ring_size) history in
        let put : number < length history = ltb-true number (length history) test in
        let within : behind < length (retained history) = omega (arith, long, put, stands.next_slot, small, is) in
        ap (λ more. item_behind more (retained history) behind) (lt-ltb behind (length (retained history)) within)
        ∙ slice_get-drop (length history - ring_size) history (length (retained history) - behind - 1) (last_number_in (length history) number) (omega (arith, long, put, stands.next_slot, small, is, within))
    by_put false test =
        let long = length-drop (length history - ring_size) history in
        let unput : length history ≤ number = grind (arith, nat_tests, test) in
        let beyond : length (retained history) ≤ behind = omega (arith, long, unput, stands.next_slot, small, is) in
        let past : nat_lt behind (length (retained history)) ≡ false = grind (arith, nat_tests, beyond) in
        ap (λ more. item_behind more (retained history) behind) past

moved : (h h2 : List (List ℕ)) (b b2 : List ℕ) → h2 ≡ h → b2 ≡ b → CanExtend h b → CanExtend h2 b2
moved h h2 b b2 e f follows = rw (e, f) follows

pub rises_push : (history : List (List ℕ)) (bytes : List ℕ) → IsHistory history → CanExtend history bytes → IsHistory (history ++ bytes ∷ [])
rises_push history bytes rises follows i none within =
    let long = length-append history (bytes ∷ []) in
    let below : i < length history + 1 = omega (arith, long, within) in
    below_more (λ k. CanExtend (take k (history ++ bytes ∷ [])) (get_or (history ++ bytes ∷ []) k none)) (length history)
    (λ k lt. moved (take k history) (take k (history ++ bytes ∷ [])) (get_or history k none) (get_or (history ++ bytes ∷ []) k none)
    (take-append-le k history (bytes ∷ []) (omega arith)) (get_or-append history (bytes ∷ []) none k lt) (rises k none lt))
    (moved history (take (length history) (history ++ bytes ∷ [])) bytes (get_or (history ++ bytes ∷ []) (length history) none)
    (take-append_seam history (bytes ∷ [])) (get_or-append_seam history bytes [] none) follows)
    i below

next_push : (next long : ℕ) → next ≡ long % ring_size → (next + 1) % ring_size ≡ (long + 1) % ring_size
next_push next long is = omega (arith, is)

kept : List (List ℕ) → ℕ → KeptRecords
kept records next = record { records = records; next_slot = next }

pub appended : (records more : List (List ℕ)) (next capacity : ℕ) (history : List (List ℕ)) (bytes : List ℕ) →
    RingStandsFor (record { records = records; next_slot = next }) history → CanExtend history bytes → capacity ≡ ring_size → more ≡ keep_last capacity (records ++ bytes ∷ []) →
    RingStandsFor (record { records = more; next_slot = (next + 1) % ring_size }) (history ++ bytes ∷ [])
appended records more next capacity history bytes stands follows size is = record {
  records = is ∙ ap (λ n. keep_last n (records ++ bytes ∷ [])) size ∙ ap (λ xs. keep_last ring_size (xs ++ bytes ∷ [])) stands.records ∙ retained_push history bytes;
  next_slot = next_push next (length history) stands.next_slot ∙ ap (λ n. n % ring_size) (sym (length-append history (bytes ∷ [])));
  rises = rises_push history bytes stands.rises follows;
}

followed : (newest of_bytes : Option CivilMinute) (stamp : CivilMinute) → of_bytes ≡ Some stamp → IfSome newest (λ n. minute_of n < minute_of stamp) →
    CanFollow newest of_bytes
followed newest of_bytes stamp is above = rw is above

above_none : (newest : Option CivilMinute) (stamp : CivilMinute) → newest ≡ None → IfSome newest (λ n. minute_of n < minute_of stamp)
above_none newest stamp is = rw is tt

above_some : (newest : Option CivilMinute) (last stamp : CivilMinute) → newest ≡ Some last → minute_of last < minute_of stamp → IfSome newest (λ n. minute_of n < minute_of stamp)
above_some newest last stamp is above = rw is above

-- any record can be the first, and one with a later stamp can follow
pub first_follows : (history : List (List ℕ)) (bytes : List ℕ) (stamp : CivilMinute) → stamp_in bytes ≡ Some stamp → newest_stamp history ≡ None → CanExtend history bytes
first_follows history bytes stamp is empty = followed (newest_stamp history) (stamp_in bytes) stamp is (above_none (newest_stamp history) stamp empty)

pub later_follows : (history : List (List ℕ)) (bytes : List ℕ) (stamp last : CivilMinute) → stamp_in bytes ≡ Some stamp → newest_stamp history ≡ Some last →
    minute_of last < minute_of stamp → CanExtend history bytes
later_follows history bytes stamp last is newest above = followed (newest_stamp history) (stamp_in bytes) stamp is (above_some (newest_stamp history) last stamp newest above)
