-- Slots that are shown one behind another.
use Rattle.std.proofs.Common.{◌≡◌, ℕ, zero, suc, ◌+◌, ◌-◌, ◌*◌, ◌<◌, ◌≤◌, List, [], ◌∷◌, ◌++◌, length, take, drop, get_or, refl, sym, ◌∙◌, ap, subst, arith, false, length-append, append_assoc}
use Rattle.std.specs.Prelude.{slice_index}
use Rattle.std.specs.Simd.{first_chunks}
use Rattle.std.proofs.lemmas.List.{drop-drop, drop-take, take-take, append-nil, nil_from_length}
use Rattle.gated_log.specs.Log.{in_slots, as_handed}
use Rattle.gated_log.specs.Visits.{Visits, IsShown}
use Rattle.gated_log.specs.Walk.{BeginWith, IsOpenAt, OnBatches, OnFound, WalkEnds, Walks, WalksOn}
use Rattle.gated_log.specs.declared.walk.Found.{Found}
use Rattle.gated_log.specs.declared.walk.Found.TheVariants.{Batches, ClosedGate, NoBatch, Fault}
use Rattle.gated_log.specs.declared.version.Version.{Version}
use Rattle.gated_log.proofs.Chains.{length-in_slots}
use Rattle.gated_log.proofs.SlotAt.{in_slots_at, as_handed_back, as_handed_front}
use Rattle.gated_log.proofs.Walks.{open_in, same_walk, walk_more}
use Rattle.gated_log.specs.Layout.{slot_size}

-- chunks of the size of a slot are slots
chunks_are : (n : ℕ) (xs : List ℕ) → first_chunks slot_size n xs ≡ in_slots n xs
chunks_are zero xs = refl
chunks_are (suc n) xs = ap (λ (ys : List (List ℕ)). take slot_size xs ∷ ys) (chunks_are n (drop slot_size xs))

-- one slot more
in_slots_more : (n : ℕ) (xs : List ℕ) → in_slots (suc n) xs ≡ in_slots n xs ++ take slot_size (drop (slot_size * n) xs) ∷ []
in_slots_more zero xs = refl
in_slots_more (suc n) xs =
    ap (λ (ys : List (List ℕ)). take slot_size xs ∷ ys) (in_slots_more n (drop slot_size xs)
    ∙ ap (λ (zs : List ℕ). in_slots n (drop slot_size xs) ++ take slot_size zs ∷ []) (drop-drop (slot_size * n) slot_size xs
    ∙ ap (λ (k : ℕ). drop k xs) (let e : slot_size + slot_size * n ≡ slot_size * suc n = omega arith in e)))

-- behind the first slot of a batch nothing is as_handed
unmarked_behind : (n : ℕ) (xs : List ℕ) → 0 < n → drop (slot_size * n) (as_handed xs) ≡ drop (slot_size * n) xs
unmarked_behind zero xs some = absurd (omega arith)
unmarked_behind (suc n) xs some =
    let e : slot_size * suc n ≡ suc (suc (suc (suc ((slot_size - 4) + slot_size * n)))) = omega arith in
    ap (λ (j : ℕ). drop j (as_handed xs)) e ∙ as_handed_back ((slot_size - 4) + slot_size * n) xs ∙ ap (λ (j : ℕ). drop j xs) (sym e)

module _ (n : ℕ) (batch : List ℕ) (chunks : List (List ℕ)) (chunks_is : chunks ≡ first_chunks slot_size n batch) where
  chunk_at : (k : ℕ) → k < n → get_or chunks k [] ≡ take slot_size (drop (slot_size * k) batch)
  chunk_at k lt = ap (λ (ys : List (List ℕ)). get_or ys k []) (chunks_is ∙ chunks_are n batch) ∙ in_slots_at n k batch lt

  -- the first slot of a batch, and each behind it
  pub first_slot : 0 < n → as_handed (get_or chunks 0 []) ∷ [] ≡ in_slots 1 (as_handed batch)
  first_slot some = ap (λ (x : List ℕ). as_handed x ∷ []) (chunk_at 0 some) ∙ ap (λ (x : List ℕ). x ∷ []) (sym (as_handed_front batch))

  pub next_slot : (k : ℕ) → 0 < k → k < n → in_slots k (as_handed batch) ++ get_or chunks k [] ∷ [] ≡ in_slots (k + 1) (as_handed batch)
  next_slot k some lt =
      ap (λ (x : List ℕ). in_slots k (as_handed batch) ++ x ∷ []) (chunk_at k lt)
      ∙ ap (λ (xs : List ℕ). in_slots k (as_handed batch) ++ take slot_size xs ∷ []) (sym (unmarked_behind k batch some))
      ∙ sym (in_slots_more k (as_handed batch))
      ∙ ap (λ (j : ℕ). in_slots j (as_handed batch)) (let e : suc k ≡ k + 1 = omega arith in e)

-- what was shown, and then more
module _ {V : Type 0} (visits : Visits V) (version : Version) where
  pub shown_none : (v : V) (P : List (List ℕ) → Type 0) → P [] → IsShown visits version v 0 P v
  shown_none v P p = record { slots = []; saw = visits.saw_none version v; count_is = refl; are = p }

  module _ {u v : V} {n : ℕ} {P : List (List ℕ) → Type 0} (shown : IsShown visits version u n P v) where
    pub shown_count : visits.count v ≡ visits.count u + n
    shown_count = visits.counts version u v shown.slots shown.saw ∙ ap (λ (k : ℕ). visits.count u + k) (sym shown.count_is)

    pub shown_as : (Q : List (List ℕ) → Type 0) → ((xs : List (List ℕ)) → n ≡ length xs → P xs → Q xs) → IsShown visits version u n Q v
    shown_as Q f = record { slots = shown.slots; saw = shown.saw; count_is = shown.count_is; are = f shown.slots shown.count_is shown.are }

    pub shown_more : {w : V} {m k : ℕ} {Q : List (List ℕ) → Type 0} (R : List (List ℕ) → Type 0) → IsShown visits version v m Q w → k ≡ n + m
        → ((xs ys : List (List ℕ)) → n ≡ length xs → m ≡ length ys → P xs → Q ys → R (xs ++ ys)) → IsShown visits version u k R w
    shown_more {w} {m} {k} {Q} R more sum f = record {
      slots = shown.slots ++ more.slots;
      saw = visits.saw_joins version u v w shown.slots more.slots shown.saw more.saw;
      count_is = omega (arith, sum, shown.count_is, more.count_is, length-append shown.slots more.slots);
      are = f shown.slots more.slots shown.count_is more.count_is shown.are more.are;
    }

-- no slots more
pub walks_on_none : (c : List ℕ) (p : ℕ) → WalksOn c p []
walks_on_none c p before walks = same_walk c p (p + 0) before (before ++ []) (omega arith) (sym (append-nil before)) walks

-- no slots before
pub behind_none : (c : List ℕ) (p : ℕ) (xs ys : List (List ℕ)) → length xs ≡ 0 → WalksOn c p ys → WalksOn c p (xs ++ ys)
behind_none c p xs ys none on = subst (λ (zs : List (List ℕ)). WalksOn c p (zs ++ ys)) (sym (nil_from_length xs none)) on

-- where no batch was found
pub none_found : (f : Found) (P : ℕ → Type 0) → ((n : ℕ) → f ≡ Batches n → ⊥) → P 0 → OnFound f P
none_found (Batches n) P not p = absurd (not n refl)
none_found ClosedGate P not p = p
none_found NoBatch P not p = p
none_found Fault P not p = tt

pub no_batches : (f : Found) (P : ℕ → Type 0) → ((n : ℕ) → f ≡ Batches n → ⊥) → OnBatches f P
no_batches (Batches n) P not = absurd (not n refl)
no_batches ClosedGate P not = tt
no_batches NoBatch P not = tt
no_batches Fault P not = tt

-- the slots of a batch that stands whole in what was read of a file
module _ (c piece : List ℕ) (p left : ℕ) (long : length c ≡ p + left) (is : piece ≡ take (length piece) (drop p c)) where
  part_read : (at m : ℕ) → at + m ≤ length piece → take m (drop at piece) ≡ take m (drop (p + at) c)
  part_read at m fits =
      let split : length piece ≡ at + (length piece - at) = omega (arith, fits) in
      ap (λ (xs : List ℕ). take m (drop at xs)) (is ∙ ap (λ (j : ℕ). take j (drop p c)) split)
      ∙ ap (take m) (drop-take at (length piece - at) (drop p c))
      ∙ take-take m (length piece - at) (drop at (drop p c)) (omega (arith, fits))
      ∙ ap (take m) (drop-drop at p c)

  pub batch_more : (at n : ℕ) (slots : List (List ℕ)) → at ≡ slot_size * length slots → at + 4 ≤ length piece → at + slot_size * n ≤ length piece → at < left
      → BeginWith (drop at piece) (left - at) n → WalksOn c p slots → WalksOn c p (slots ++ in_slots n (as_handed (take (slot_size * n) (drop at piece))))
  batch_more at n slots place some fits within head on before walks =
      let more : List (List ℕ) = in_slots n (as_handed (take (slot_size * n) (drop at piece))) in
      let so_far : Walks c (p + at) (before ++ slots) = same_walk c (p + slot_size * length slots) (p + at) (before ++ slots) (before ++ slots) (omega (arith, place)) refl (on before walks) in
      let same : in_slots n (as_handed (take (slot_size * n) (drop (p + at) c))) ≡ more = ap (λ (xs : List ℕ). in_slots n (as_handed xs)) (sym (part_read at (slot_size * n) fits)) in
      same_walk c (p + at + slot_size * n) (p + slot_size * length (slots ++ more)) ((before ++ slots) ++ in_slots n (as_handed (take (slot_size * n) (drop (p + at) c)))) (before ++ (slots ++ more))
      (omega (arith, place, length-append slots more, length-in_slots n (as_handed (take (slot_size * n) (drop at piece)))))
      (ap (λ (xs : List (List ℕ)). (before ++ slots) ++ xs) same ∙ append_assoc before slots more)
      (walk_more c (p + at) (before ++ slots) so_far (omega (arith, long, within)) n (open_in c piece p at left n is long some head))

-- the slots of a batch that was read alone
pub batch_alone : (c buf : List ℕ) (p n : ℕ) → p < length c → buf ≡ take (length buf) (drop p c) → length buf ≡ slot_size * n → IsOpenAt c p n false
    → WalksOn c p (in_slots n (as_handed buf))
batch_alone c buf p n within is long there before walks =
    let same : in_slots n (as_handed (take (slot_size * n) (drop p c))) ≡ in_slots n (as_handed buf) = ap (λ (xs : List ℕ). in_slots n (as_handed xs)) (sym (is ∙ ap (λ (k : ℕ). take k (drop p c)) long)) in
    same_walk c (p + slot_size * n) (p + slot_size * length (in_slots n (as_handed buf))) (before ++ in_slots n (as_handed (take (slot_size * n) (drop p c)))) (before ++ in_slots n (as_handed buf))
    (omega (arith, length-in_slots n (as_handed buf))) (ap (λ (xs : List (List ℕ)). before ++ xs) same) (walk_more c p before walks within n there)

-- a walk that has gone through no batch, that goes on, and that ends
pub no_walk : (c : List ℕ) → Walks c slot_size []
no_walk c = record { batches = []; each = tt; parts = refl; place = refl; slots_are = refl }

pub walks_further : (c : List ℕ) (p n : ℕ) (xs ys : List (List ℕ)) → n ≡ length ys → Walks c p xs → WalksOn c p ys → Walks c (p + slot_size * n) (xs ++ ys)
walks_further c p n xs ys some walks on = subst (λ (k : ℕ). Walks c (p + slot_size * k) (xs ++ ys)) (sym some) (on xs walks)

pub walk_ends : (c : List ℕ) (p : ℕ) (xs ys : List (List ℕ)) → 0 ≡ length ys → Walks c p xs → WalksOn c p ys → p < length c → slice_index c p ≡ 0 → WalkEnds c (xs ++ ys)
walk_ends c p xs ys none walks on within closed =
    let e : p + slot_size * length ys ≡ p = omega (arith, none) in
    record { place = p; walks = subst (λ (k : ℕ). Walks c k (xs ++ ys)) e (on xs walks); within = within; closed = closed }
