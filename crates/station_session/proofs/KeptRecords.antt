-- The records that a round keeps are those that rise among all slots that its attempts took.
use Rattle.std.proofs.Common.{◌≡◌, ℕ, ◌+◌, Bool, true, false, inl, inr, List, [], ◌∷◌, ◌++◌, refl, sym, ◌∙◌, ap, subst, append-nil, append_assoc, Option}
use Rattle.station_base.specs.CivilMinute.{CivilMinute}
use Rattle.dmpaft_pump.specs.Batch.{slots_in_page, slot_is_newer, one_if, last_if, rising, newest, batches, records_in, all_slots, answered_batches, add}
use Rattle.station_base.specs.LastStamp.{last_stamp}
use Rattle.archive_record.specs.Reading.{stamp_in}
use Rattle.dmpaft_pump.specs.Keeper.{Handed, kept_all, join, last_kept}
use Rattle.dmpaft_driver.specs.Gathered as gathered
use Rattle.causes.specs.declared.stored.Stored.{Stored}
use Rattle.causes.specs.declared.stored.Stored.TheVariants.{Done}
use Rattle.dmpaft_pump.specs.declared.outcome.DumpEnd.{DumpEnd}
use Rattle.dmpaft_pump.specs.declared.outcome.DumpEnd.TheVariants as dump_end
use Rattle.dmpaft_pump.proofs.HandedBatches.{join_none, kept_answered}
use Rattle.dmpaft_pump.proofs.RisingBatches.{rising_joins, batches_rise}
use Rattle.dmpaft_pump.proofs.LastBatch.{newest_joins}
use Rattle.station_session.specs.declared.round_end.RoundEnd.{RoundEnd}
use Rattle.station_session.specs.Attempts.{MadeAttempt, AreAttempts, batches_in, stamp_after, all_batches}
use Rattle.station_session.specs.Batches.{kept_records, last_answer}
use Rattle.causes.specs.Lists.{IsFrontOf}
use Rattle.station_session.specs.SlotsTaken.{slots_taken}
use Rattle.station_session.proofs.Ends.{goes_on, last_in, last_behind, kept_append, kept_done}
use Rattle.station_session.proofs.KeptBatches.{but_last, kept_batches, kept_by_end}

-- the batches of an attempt, put together
joined_rise : (last : Option CivilMinute) (place : ℕ) (taken : List (List ℕ)) → records_in (batches last place taken) ≡ rising last (all_slots place taken)
joined_rise last place taken = batches_rise last place taken

-- the last of the records that rise has the greatest stamp
last_rising : (a : Option CivilMinute) (ss : List (List ℕ)) → last_stamp stamp_in (rising a ss) a ≡ newest a ss
last_rising a [] = refl
last_rising a (s ∷ ss) = by_test (slot_is_newer a s) refl (λ b. last_rising b ss)
  where
    by_test : (t : Bool) → slot_is_newer a s ≡ t → ((b : Option CivilMinute) → last_stamp stamp_in (rising b ss) b ≡ newest b ss) → last_stamp stamp_in (rising a (s ∷ ss)) a ≡ newest a (s ∷ ss)
    by_test true e behind = ap (λ (t : Bool). last_stamp stamp_in (one_if t s ++ rising (last_if t a s) ss) a) e ∙ behind (last_if true a s) ∙ ap (λ (t : Bool). newest (last_if t a s) ss) (sym e)
    by_test false e behind = ap (λ (t : Bool). last_stamp stamp_in (one_if t s ++ rising (last_if t a s) ss) a) e ∙ behind a ∙ ap (λ (t : Bool). newest (last_if t a s) ss) (sym e)

kept_first : (r : List (List ℕ)) (bs : List (List (List ℕ))) (a : Option CivilMinute) → last_kept (kept_all (add r bs)) a ≡ last_kept (kept_all bs) (last_stamp stamp_in r a)
kept_first [] bs a = refl
kept_first (x ∷ r) bs a = refl

-- the stamp of the last record kept, where every batch was
newest_kept : (a : Option CivilMinute) (place : ℕ) (taken : List (List ℕ)) → last_kept (kept_all (batches a place taken)) a ≡ newest a (all_slots place taken)
newest_kept a place [] = refl
newest_kept a place (page ∷ more) =
    let b = newest a (slots_in_page place page) in
    kept_first (rising a (slots_in_page place page)) (batches b 0 more) a
    ∙ ap (λ (x : Option CivilMinute). last_kept (kept_all (batches b 0 more)) x) (last_rising a (slots_in_page place page))
    ∙ newest_kept b 0 more ∙ sym (newest_joins a (slots_in_page place page) (all_slots 0 more))

front_whole : (xs ys : List (List ℕ)) → xs ≡ ys → IsFrontOf xs ys
front_whole xs ys e = ([], append-nil xs ∙ e)

front_behind : (b xs ys : List (List ℕ)) → IsFrontOf xs ys → IsFrontOf (b ++ xs) (b ++ ys)
front_behind b xs ys h = (h.0, append_assoc b xs h.0 ∙ ap (λ (x : List (List ℕ)). b ++ x) h.1)

-- all but the last batch are the first ones
pub front_but_last : (bs : List (List (List ℕ))) → IsFrontOf (records_in (but_last bs)) (records_in bs)
front_but_last [] = ([], refl)
front_but_last (b ∷ []) = (b ++ [], refl)
front_but_last (b ∷ c ∷ bs) = front_behind b (records_in (but_last (c ∷ bs))) (records_in (c ∷ bs)) (front_but_last (c ∷ bs))

front_kept : (e : DumpEnd) (bs : List (List (List ℕ))) → IsFrontOf (records_in (kept_batches e bs)) (records_in bs)
front_kept dump_end.Full bs = front_but_last bs
front_kept dump_end.Stale bs = front_but_last bs
front_kept dump_end.DiskFault bs = front_but_last bs
front_kept dump_end.Whole bs = front_whole (records_in bs) (records_in bs) refl
front_kept (dump_end.Failed trouble) bs = front_whole (records_in bs) (records_in bs) refl
front_kept dump_end.Flood bs = front_whole (records_in bs) (records_in bs) refl
front_kept dump_end.LinkFault bs = front_whole (records_in bs) (records_in bs) refl
front_kept dump_end.OutOfMemory bs = front_whole (records_in bs) (records_in bs) refl

-- the records kept of one attempt
front_of_one : (last : Option CivilMinute) (t : MadeAttempt) → IsFrontOf (kept_records (batches_in last t)) (rising last (all_slots t.place t.taken))
front_of_one last t =
    subst (λ (x : List (List ℕ)). IsFrontOf x (rising last (all_slots t.place t.taken))) (sym (kept_by_end t.end (batches last t.place t.taken)))
    (subst (λ (x : List (List ℕ)). IsFrontOf (records_in (kept_batches t.end (batches last t.place t.taken))) x) (joined_rise last t.place t.taken)
    (front_kept t.end (batches last t.place t.taken)))

module _ (last : Option CivilMinute) (t : MadeAttempt) (all : gathered.keeper_answer t.end ≡ Done) where
  all_kept : batches_in last t ≡ kept_all (batches last t.place t.taken)
  all_kept = ap (λ (a : Stored). answered_batches a (batches last t.place t.taken)) all ∙ kept_answered (batches last t.place t.taken)

  -- all of them, where no batch was refused
  whole_of_one : kept_records (batches_in last t) ≡ rising last (all_slots t.place t.taken)
  whole_of_one = ap kept_records all_kept ∙ kept_done (batches last t.place t.taken) ∙ joined_rise last t.place t.taken

  stamp_then : stamp_after last t ≡ newest last (all_slots t.place t.taken)
  stamp_then = ap (λ (h : Handed). last_kept h last) all_kept ∙ newest_kept last t.place t.taken

  -- and those of the attempts behind it
  kept_more : (behind : Handed) → kept_records (join (batches_in last t) behind) ≡ kept_records (batches_in last t) ++ kept_records behind
  kept_more behind =
      ap (λ (h : Handed). kept_records (join h behind)) all_kept ∙ kept_append (batches last t.place t.taken) behind
      ∙ ap (λ (x : List (List ℕ)). x ++ kept_records behind) (sym (ap kept_records all_kept ∙ kept_done (batches last t.place t.taken)))

  with_more : (ts : List MadeAttempt) → rising last (slots_taken (t ∷ ts)) ≡ kept_records (batches_in last t) ++ rising (stamp_after last t) (slots_taken ts)
  with_more ts =
      rising_joins last (all_slots t.place t.taken) (slots_taken ts)
      ∙ ap (λ (x : List (List ℕ)). x ++ rising (newest last (all_slots t.place t.taken)) (slots_taken ts)) (sym whole_of_one)
      ∙ ap (λ (x : Option CivilMinute). kept_records (batches_in last t) ++ rising x (slots_taken ts)) (sym stamp_then)

alone : (last : Option CivilMinute) (t : MadeAttempt) → kept_records (all_batches last (t ∷ [])) ≡ kept_records (batches_in last t)
alone last t = ap kept_records (join_none (batches_in last t))

slots_alone : (last : Option CivilMinute) (t : MadeAttempt) → rising last (slots_taken (t ∷ [])) ≡ rising last (all_slots t.place t.taken)
slots_alone last t = ap (λ (x : List (List ℕ)). rising last x) (append-nil (all_slots t.place t.taken))

pub front_of_round : (made : ℕ) (last : Option CivilMinute) (ts : List MadeAttempt) (end : RoundEnd) → AreAttempts made last ts end → IsFrontOf (kept_records (all_batches last ts)) (rising last (slots_taken ts))
front_of_round made last [] end h = ([], refl)
front_of_round made last (t ∷ ts) end (less, attempt, inl (e, more)) =
    subst (λ (x : List (List ℕ)). IsFrontOf x (rising last (slots_taken (t ∷ ts)))) (sym (kept_more last t (goes_on t.end e) (all_batches (stamp_after last t) ts)))
    (subst (λ (x : List (List ℕ)). IsFrontOf (kept_records (batches_in last t) ++ kept_records (all_batches (stamp_after last t) ts)) x) (sym (with_more last t (goes_on t.end e) ts))
    (front_behind (kept_records (batches_in last t)) (kept_records (all_batches (stamp_after last t) ts)) (rising (stamp_after last t) (slots_taken ts))
    (front_of_round (made + 1) (stamp_after last t) ts end more)))
front_of_round made last (t ∷ ts) end (less, attempt, inr (e, none)) =
    subst (λ (x : List MadeAttempt). IsFrontOf (kept_records (all_batches last (t ∷ x))) (rising last (slots_taken (t ∷ x)))) (sym none)
    (subst (λ (x : List (List ℕ)). IsFrontOf x (rising last (slots_taken (t ∷ [])))) (sym (alone last t))
    (subst (λ (x : List (List ℕ)). IsFrontOf (kept_records (batches_in last t)) x) (sym (slots_alone last t)) (front_of_one last t)))

pub whole_of_round : (made : ℕ) (last : Option CivilMinute) (ts : List MadeAttempt) (end : RoundEnd) → AreAttempts made last ts end → last_answer (all_batches last ts) ≡ Done → kept_records (all_batches last ts) ≡ rising last (slots_taken ts)
whole_of_round made last [] end h done = refl
whole_of_round made last (t ∷ ts) end (less, attempt, inl (e, more)) done =
    let behind = sym (last_behind last t (all_batches (stamp_after last t) ts) e) ∙ done in
    kept_more last t (goes_on t.end e) (all_batches (stamp_after last t) ts)
    ∙ ap (λ (x : List (List ℕ)). kept_records (batches_in last t) ++ x) (whole_of_round (made + 1) (stamp_after last t) ts end more behind)
    ∙ sym (with_more last t (goes_on t.end e) ts)
whole_of_round made last (t ∷ ts) end (less, attempt, inr (e, none)) done =
    let one : last_answer (all_batches last (t ∷ [])) ≡ Done = subst (λ (x : List MadeAttempt). last_answer (all_batches last (t ∷ x)) ≡ Done) none done in
    let all : gathered.keeper_answer t.end ≡ Done = sym (last_in last t attempt) ∙ ap last_answer (sym (join_none (batches_in last t))) ∙ one in
    subst (λ (x : List MadeAttempt). kept_records (all_batches last (t ∷ x)) ≡ rising last (slots_taken (t ∷ x))) (sym none)
    (alone last t ∙ whole_of_one last t all ∙ sym (slots_alone last t))
