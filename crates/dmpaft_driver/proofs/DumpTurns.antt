-- A dump, turn by turn.
use Rattle.std.proofs.Common.{◌≡◌, ◌≢◌, ℕ, zero, suc, ◌+◌, ◌≤◌, ◌⊎◌, Bool, true, false, List, [], ◌∷◌, ◌++◌, length, refl, sym, ◌∙◌, ap, subst, inl, inr, arith, append_assoc, Option}
use Rattle.std.specs.Prelude.{◌==◌, bytes_eq}
use Rattle.station_base.specs.CivilMinute.{CivilMinute}
use Rattle.vantage_frames.specs.StampFrame.{stamp_frame_of}
use Rattle.serial_link.specs.Talk.{message}
use Rattle.serial_link.specs.declared.talk.TalkItem.{TalkItem}
use Rattle.serial_link.specs.declared.talk.TalkItem.TheVariants.{Said, Heard, Quiet}
use Rattle.wake_retry.specs.Parts.{ends_awake}
use Rattle.causes.specs.declared.stored.Stored.{Stored}
use Rattle.causes.specs.declared.stored.Stored.TheVariants as stored
use Rattle.dmpaft_pump.specs.declared.outcome.DumpEnd.{DumpEnd}
use Rattle.dmpaft_pump.specs.declared.outcome.Tally.{Tally}
use Rattle.dmpaft_pump.specs.declared.phase.Phase.{Phase}
use Rattle.dmpaft_pump.specs.declared.phase.Phase.TheVariants as phase
use Rattle.dmpaft_pump.specs.declared.pump_end.PumpEnd.{PumpEnd}
use Rattle.dmpaft_pump.specs.declared.pump_end.PumpEnd.TheVariants as pump_end
use Rattle.dmpaft_pump.specs.declared.stage.Stage.{Stage}
use Rattle.dmpaft_pump.specs.declared.stage.Stage.TheVariants as stage
use Rattle.dmpaft_pump.specs.declared.pump.Pump.{Pump}
use Rattle.dmpaft_driver.specs.Attempt.{Attempt, End}
use Rattle.dmpaft_pump.specs.Command.{dmpaft}
use Rattle.dmpaft_pump.specs.Batch.{slots_in_page, rising, newest, all_slots, add, batches, answered_batches, EndsGiving}
use Rattle.dmpaft_driver.specs.Exact.{attempt_end}
use Rattle.dmpaft_pump.specs.Keeper.{Handed, one_batch, kept_all, join, count, last_kept}
use Rattle.archive_record.specs.Reading.{stamp_in}
use Rattle.station_base.specs.LastStamp.{Rises, last_stamp}
use Rattle.vantage_frames.specs.Header.{most_pages}
use Rattle.dmpaft_pump.specs.Ledger.{Ledger}
use Rattle.dmpaft_driver.specs.Outcome.{Ended, EndsSaying, IsCutAfter}
use Rattle.dmpaft_driver.specs.Gathered.{keeper_answer}
use Rattle.dmpaft_pump.specs.Page.{is_page_for, is_ahead, next_said}
use Rattle.dmpaft_pump.specs.Phases.{part_of_phase, PhaseFits}
use Rattle.dmpaft_pump.specs.Reply.{Reply, Header, NoHeader, reply_of}
use Rattle.dmpaft_pump.specs.Slot.{StampIsWithin}
use Rattle.dmpaft_pump.specs.Pump.{AttemptPart, Settling, Waking, Calling, Heading, Asking, Resettling, Acking, GivingUp, AttemptState, Saying, Hearing, Keeping, Over, Astray, words, most, quiets, next_after_part, batched, woken, called, headed, asked_again, page_judged, onward, words_said, saying, begun, state_at, answered_by, said_if, is_said, heard_if, waited_if, newest_in_pages, batch_of, pump_from, pump_after}
use Rattle.dmpaft_pump.specs.Shown.{Tallied, all_kept, pump_answer, PumpShows, ShowsAt, keeps_at, talks_at}
use Rattle.dmpaft_driver.specs.Standing.{place_of_part, taken_in, HasTaken, AttemptCanEnd, handed_over, gives}
use Rattle.dmpaft_driver.specs.Turning.{dump_end_of, DumpIsCut, SaysLast, IsOneStep}
use Rattle.dmpaft_driver.proofs.CutTurns.{saying_has, fine_shown, begun_not_over}
use Rattle.dmpaft_driver.proofs.Exactly.{sound}
use Rattle.dmpaft_driver.proofs.SilentEnds.{Fine}
use Rattle.dmpaft_pump.proofs.LastBatch.{newest_joins}
use Rattle.dmpaft_driver.proofs.JoinedTalks.{joins}
use Rattle.dmpaft_driver.proofs.Taken.{were_taken}
use Rattle.dmpaft_pump.proofs.HandedBatches.{join_none, kept_answered, one_size, last_joins, count_join, count_kept}
use Rattle.dmpaft_pump.proofs.PagesSoFar.{kept_none}
use Rattle.dmpaft_pump.proofs.Rows.{rows_rise, within_self}
use Rattle.dmpaft_pump.proofs.Steps.{rest_same, one_more, last_of_rising}
use Rattle.dmpaft_pump.proofs.PumpSteps.{astray_stays}

module _ (a : Option CivilMinute) where
  handed_told : (p : AttemptPart) → handed_over a (words_said p) ≡ all_kept a (place_of_part p) (taken_in p)
  handed_told Settling = refl
  handed_told (Waking left) = refl
  handed_told Calling = refl
  handed_told Heading = refl
  handed_told (Asking more at taken left b) = refl
  handed_told (Resettling more at taken left b) = refl
  handed_told (Acking at taken) = kept_answered (batches a at taken)
  handed_told (GivingUp at taken trouble) = kept_answered (batches a at taken)

  pub handed_saying : (p : AttemptPart) (l : List TalkItem) → handed_over a (saying p l) ≡ all_kept a (place_of_part p) (taken_in p)
  handed_saying p [] = handed_told p
  handed_saying p (i ∷ l) = refl

  handed_onward : (more place : ℕ) (taken : List (List ℕ)) → handed_over a (begun a (onward more place taken)) ≡ all_kept a place taken
  handed_onward zero place taken = refl
  handed_onward (suc more) place taken = refl

  handed_batched : (more place : ℕ) (taken : List (List ℕ)) (page : List ℕ) (rows : List (List ℕ)) → batch_of a place taken page ≡ rows → handed_over a (state_at a (batched more place taken page rows)) ≡ all_kept a place taken
  handed_batched more place taken page [] e = handed_onward more place (taken ++ page ∷ []) ∙ kept_none a place taken page e
  handed_batched more place taken page (r ∷ rows) e = refl

  handed_woken : (left : ℕ) (b : Bool) → handed_over a (state_at a (woken left b)) ≡ Handed.Nothing
  handed_woken left true = handed_saying Calling (message dmpaft)
  handed_woken zero false = refl
  handed_woken (suc left) false = refl

  handed_called : (bs : List ℕ) (b : Bool) → handed_over a (state_at a (called bs b)) ≡ Handed.Nothing
  handed_called bs true = handed_saying Heading (message (stamp_frame_of a))
  handed_called bs false = refl

  handed_headed : (y : Reply) → handed_over a (state_at a (headed y)) ≡ Handed.Nothing
  handed_headed (Header zero place) = refl
  handed_headed (Header (suc more) place) = refl
  handed_headed (NoHeader trouble) = refl

  handed_again : (more place : ℕ) (taken : List (List ℕ)) (left b : ℕ) → handed_over a (state_at a (asked_again more place taken left b)) ≡ all_kept a place taken
  handed_again more place taken zero b = refl
  handed_again more place taken (suc left) b = refl

  handed_judged : (more place : ℕ) (taken : List (List ℕ)) (left : ℕ) (bs : List ℕ) (x y : Bool) → handed_over a (state_at a (page_judged a more place taken left bs x y)) ≡ all_kept a place taken
  handed_judged more place taken left bs true y = handed_batched more place taken bs (batch_of a place taken bs) refl
  handed_judged more place taken left bs false true = refl
  handed_judged more place taken left bs false false = handed_again more place taken left (next_said (length taken) bs)

  handed_next : (p : AttemptPart) (full : Bool) (bs : List ℕ) → handed_over a (state_at a (next_after_part a p full bs)) ≡ all_kept a (place_of_part p) (taken_in p)
  handed_next Settling true bs = refl
  handed_next Settling false bs = refl
  handed_next (Waking left) true bs = refl
  handed_next (Waking left) false bs = handed_woken left (ends_awake bs)
  handed_next Calling full bs = handed_called bs (bytes_eq bs (6 ∷ []))
  handed_next Heading full bs = handed_headed (reply_of bs)
  handed_next (Asking more place taken left b) full bs = handed_judged more place taken left bs (is_page_for (length taken) bs) (is_ahead (length taken) bs)
  handed_next (Resettling more place taken left b) true bs = kept_answered (batches a place taken)
  handed_next (Resettling more place taken left b) false bs = refl
  handed_next (Acking place taken) full bs = refl
  handed_next (GivingUp place taken trouble) full bs = refl

  -- nothing is handed over by what is said and heard
  pub handed_items : (s : AttemptState) (t : List TalkItem) → pump_from a s t [] ≢ Astray → handed_over a (pump_from a s t []) ≡ handed_over a s
  handed_items s [] ne = ap (handed_over a) (rest_same a s)
  handed_items (Saying p i l) (x ∷ t) ne = go (is_said i x) ne (handed_items (saying p l) t)
    where
      go : (b : Bool) → pump_from a (said_if p l b) t [] ≢ Astray → (pump_from a (saying p l) t [] ≢ Astray → handed_over a (pump_from a (saying p l) t []) ≡ handed_over a (saying p l)) → handed_over a (pump_from a (said_if p l b) t []) ≡ all_kept a (place_of_part p) (taken_in p)
      go true n ih = ih n ∙ handed_saying p l
      go false n ih = absurd (n (astray_stays a t []))
  handed_items (Hearing p bs r) (Said b ends ∷ t) ne = absurd (ne (astray_stays a t []))
  handed_items (Hearing p bs r) (Heard b ∷ t) ne = go (length (bs ++ b ∷ []) == most p) ne (handed_items (state_at a (next_after_part a p true (bs ++ b ∷ []))) t) (handed_items (Hearing p (bs ++ b ∷ []) 0) t)
    where
      go : (y : Bool) → pump_from a (heard_if a p (bs ++ b ∷ []) y) t [] ≢ Astray
          → (pump_from a (state_at a (next_after_part a p true (bs ++ b ∷ []))) t [] ≢ Astray → handed_over a (pump_from a (state_at a (next_after_part a p true (bs ++ b ∷ []))) t []) ≡ handed_over a (state_at a (next_after_part a p true (bs ++ b ∷ []))))
          → (pump_from a (Hearing p (bs ++ b ∷ []) 0) t [] ≢ Astray → handed_over a (pump_from a (Hearing p (bs ++ b ∷ []) 0) t []) ≡ all_kept a (place_of_part p) (taken_in p))
          → handed_over a (pump_from a (heard_if a p (bs ++ b ∷ []) y) t []) ≡ all_kept a (place_of_part p) (taken_in p)
      go true n f g = f n ∙ handed_next p true (bs ++ b ∷ [])
      go false n f g = g n
  handed_items (Hearing p bs r) (Quiet ∷ t) ne = go (r + 1 == quiets p) ne (handed_items (state_at a (next_after_part a p false bs)) t) (handed_items (Hearing p bs (r + 1)) t)
    where
      go : (y : Bool) → pump_from a (waited_if a p bs (r + 1) y) t [] ≢ Astray
          → (pump_from a (state_at a (next_after_part a p false bs)) t [] ≢ Astray → handed_over a (pump_from a (state_at a (next_after_part a p false bs)) t []) ≡ handed_over a (state_at a (next_after_part a p false bs)))
          → (pump_from a (Hearing p bs (r + 1)) t [] ≢ Astray → handed_over a (pump_from a (Hearing p bs (r + 1)) t []) ≡ all_kept a (place_of_part p) (taken_in p))
          → handed_over a (pump_from a (waited_if a p bs (r + 1) y) t []) ≡ all_kept a (place_of_part p) (taken_in p)
      go true n f g = f n ∙ handed_next p false bs
      go false n f g = g n
  handed_items (Keeping more place taken page) (x ∷ t) ne = absurd (ne (astray_stays a t []))
  handed_items (Over place taken end) (x ∷ t) ne = absurd (ne (astray_stays a t []))
  handed_items Astray (x ∷ t) ne = absurd (ne (astray_stays a t []))

  handed_answer : (more place : ℕ) (taken : List (List ℕ)) (page : List ℕ) → batch_of a place taken page ≢ [] → (k : Stored)
      → handed_over a (answered_by a more place (taken ++ page ∷ []) k) ≡ join (all_kept a place taken) (one_batch k (batch_of a place taken page))
  handed_answer more place taken page some stored.Done = handed_onward more place (taken ++ page ∷ []) ∙ sym (kept_answered (batches a place (taken ++ page ∷ []))) ∙ one_more a place taken page some stored.Done
  handed_answer more place taken page some stored.Full = one_more a place taken page some stored.Full
  handed_answer more place taken page some stored.Stale = one_more a place taken page some stored.Stale
  handed_answer more place taken page some stored.DiskFault = one_more a place taken page some stored.DiskFault

  pub none_given : (s : AttemptState) → gives a s [] ≡ Handed.Nothing
  none_given (Saying p i l) = refl
  none_given (Hearing p bs r) = refl
  none_given (Keeping more at taken page) = refl
  none_given (Over at taken end) = refl
  none_given Astray = refl

  -- what a turn hands over joins what was handed over before
  pub handed_turn : (s : AttemptState) (t : List TalkItem) (ks : List Stored) → pump_from a s t ks ≢ Astray → IsOneStep a s t ks → handed_over a (pump_from a s t ks) ≡ join (handed_over a s) (gives a s ks)
  handed_turn s t ks ne (inl (e, call)) =
      ap (λ (y : List Stored). handed_over a (pump_from a s t y)) e ∙ handed_items s t (λ z. ne (ap (λ (y : List Stored). pump_from a s t y) e ∙ z)) ∙ sym (join_none (handed_over a s))
      ∙ ap (λ (y : Handed). join (handed_over a s) y) (sym (none_given s)) ∙ ap (λ (y : List Stored). join (handed_over a s) (gives a s y)) (sym e)
  handed_turn s t ks ne (inr (te, k, ke, more, place, taken, page, is, some)) =
      ap (λ (y : AttemptState). handed_over a (pump_from a y t ks)) is ∙ ap (λ (y : List TalkItem). handed_over a (pump_from a (Keeping more place taken page) y ks)) te ∙ ap (λ (y : List Stored). handed_over a (pump_from a (Keeping more place taken page) [] y)) ke
      ∙ handed_answer more place taken page some k ∙ ap (λ (y : List Stored). join (handed_over a (Keeping more place taken page)) (gives a (Keeping more place taken page) y)) (sym ke) ∙ ap (λ (y : AttemptState). join (handed_over a y) (gives a y ks)) (sym is)

  -- in a turn nothing is handed over, or all that was handed over before was kept
  none_or_kept : (s : AttemptState) (t : List TalkItem) (ks : List Stored) → IsOneStep a s t ks → (gives a s ks ≡ Handed.Nothing) ⊎ ((bs : List (List (List ℕ))) × (handed_over a s ≡ kept_all bs))
  none_or_kept s t ks (inl (e, call)) = inl (ap (gives a s) e ∙ none_given s)
  none_or_kept s t ks (inr (te, k, ke, more, place, taken, page, is, some)) = inr (batches a place taken, ap (handed_over a) is)

  module _ (s : AttemptState) (t : List TalkItem) (ks : List Stored) (ne : pump_from a s t ks ≢ Astray) (one : IsOneStep a s t ks) where
    -- where a turn hands nothing over, that stays which was handed over
    same_turn : gives a s ks ≡ Handed.Nothing → handed_over a (pump_from a s t ks) ≡ handed_over a s
    same_turn none = handed_turn s t ks ne one ∙ ap (λ (y : Handed). join (handed_over a s) y) none ∙ join_none (handed_over a s)

    -- else it joins batches that were kept
    more_turn : (bs : List (List (List ℕ))) → handed_over a s ≡ kept_all bs → handed_over a (pump_from a s t ks) ≡ join (kept_all bs) (gives a s ks)
    more_turn bs kept = handed_turn s t ks ne one ∙ ap (λ (y : Handed). join y (gives a s ks)) kept

    -- a keeper that took what was handed over takes what a turn hands over
    pub keeps_turn : {K : Type 0} (ledger : Ledger K) (k0 k l : K) → ledger.keeps k0 (handed_over a s) k → ledger.keeps k (gives a s ks) l → (gives a s ks ≡ Handed.Nothing → l ≡ k) → ledger.keeps k0 (handed_over a (pump_from a s t ks)) l
    keeps_turn {K} ledger k0 k l was now still = go (none_or_kept s t ks one)
      where
        go : (gives a s ks ≡ Handed.Nothing) ⊎ ((bs : List (List (List ℕ))) × (handed_over a s ≡ kept_all bs)) → ledger.keeps k0 (handed_over a (pump_from a s t ks)) l
        go (inl none) = subst (λ (y : Handed). ledger.keeps k0 y l) (sym (same_turn none)) (subst (λ (y : K). ledger.keeps k0 (handed_over a s) y) (sym (still none)) was)
        go (inr (bs, kept)) = subst (λ (y : Handed). ledger.keeps k0 y l) (sym (more_turn bs kept)) (ledger.keeps_joins k0 k l bs (gives a s ks) (subst (λ (y : Handed). ledger.keeps k0 y k) kept was) now)

    -- the last record kept, after a turn
    pub last_turn : (before : Option CivilMinute) → last_kept (handed_over a (pump_from a s t ks)) before ≡ last_kept (gives a s ks) (last_kept (handed_over a s) before)
    last_turn before = go (none_or_kept s t ks one)
      where
        go : (gives a s ks ≡ Handed.Nothing) ⊎ ((bs : List (List (List ℕ))) × (handed_over a s ≡ kept_all bs)) → last_kept (handed_over a (pump_from a s t ks)) before ≡ last_kept (gives a s ks) (last_kept (handed_over a s) before)
        go (inl none) = ap (λ (y : Handed). last_kept y before) (same_turn none) ∙ ap (λ (y : Handed). last_kept y (last_kept (handed_over a s) before)) (sym none)
        go (inr (bs, kept)) = ap (λ (y : Handed). last_kept y before) (more_turn bs kept) ∙ last_joins bs (gives a s ks) before ∙ ap (λ (y : Handed). last_kept (gives a s ks) (last_kept y before)) (sym kept)

    -- what a turn hands over is counted with what was handed over before
    pub count_turn : count (handed_over a (pump_from a s t ks)) ≡ count (handed_over a s) + count (gives a s ks)
    count_turn = go (none_or_kept s t ks one)
      where
        go : (gives a s ks ≡ Handed.Nothing) ⊎ ((bs : List (List (List ℕ))) × (handed_over a s ≡ kept_all bs)) → count (handed_over a (pump_from a s t ks)) ≡ count (handed_over a s) + count (gives a s ks)
        go (inl none) = omega (arith, ap count (same_turn none), ap count none)
        go (inr (bs, kept)) = omega (arith, ap count (more_turn bs kept), count_join bs (gives a s ks), count_kept bs, ap count kept)

-- the newest stamp is not below that of the last record kept
pub within_kept : (place : ℕ) (taken : List (List ℕ)) (a b : Option CivilMinute) → StampIsWithin b a → StampIsWithin (last_kept (all_kept a place taken) b) (newest_in_pages a place taken)
within_kept place [] a b w = w
within_kept place (p ∷ taken) a b w =
    subst (λ (y : Option CivilMinute). StampIsWithin (last_kept (all_kept a place (p ∷ taken)) b) y) (sym (newest_joins a (slots_in_page place p) (all_slots 0 taken)))
    (go (rising a (slots_in_page place p)) (last_of_rising a (slots_in_page place p)) (λ c v. within_kept 0 taken (newest a (slots_in_page place p)) c v))
  where
    go : (rows : List (List ℕ)) → last_stamp stamp_in rows a ≡ newest a (slots_in_page place p)
        → ((c : Option CivilMinute) → StampIsWithin c (newest a (slots_in_page place p)) → StampIsWithin (last_kept (all_kept (newest a (slots_in_page place p)) 0 taken) c) (newest_in_pages (newest a (slots_in_page place p)) 0 taken))
        → StampIsWithin (last_kept (kept_all (add rows (batches (newest a (slots_in_page place p)) 0 taken))) b) (newest_in_pages (newest a (slots_in_page place p)) 0 taken)
    go [] e ih = ih b (subst (λ (y : Option CivilMinute). StampIsWithin b y) e w)
    go (r ∷ rows) e ih =
        ih (last_stamp stamp_in (r ∷ rows) b) (subst (λ (y : Option CivilMinute). StampIsWithin (last_stamp stamp_in (r ∷ rows) b) y) e (within_self (last_stamp stamp_in (r ∷ rows) b)))

answered_size : (k : Stored) (bs : List (List (List ℕ))) → count (answered_batches k bs) ≡ length bs
answered_size k [] = refl
answered_size k (rows ∷ []) = one_size k rows
answered_size k (rows ∷ x ∷ bs) = omega (arith, answered_size k (x ∷ bs))

add_size : (rows : List (List ℕ)) (bs : List (List (List ℕ))) → length (add rows bs) ≤ length bs + 1
add_size [] bs = omega arith
add_size (r ∷ rows) bs = omega arith

pub batches_few : (a : Option CivilMinute) (place : ℕ) (taken : List (List ℕ)) → length (batches a place taken) ≤ length taken
batches_few a place [] = omega arith
batches_few a place (p ∷ taken) = omega (arith, batches_few (newest a (slots_in_page place p)) 0 taken, add_size (rising a (slots_in_page place p)) (batches (newest a (slots_in_page place p)) 0 taken))

pub kept_few : (k : Stored) (a : Option CivilMinute) (place : ℕ) (taken : List (List ℕ)) → count (answered_batches k (batches a place taken)) ≤ length taken
kept_few k a place taken = omega (arith, answered_size k (batches a place taken), batches_few a place taken)

-- the keeper can take the batch
pub suits_at : (st : Stage) (start : Tally) (a : Option CivilMinute) (s : AttemptState) (pump : Pump) → ShowsAt st start a s pump → keeps_at st ≡ true
    → (o b : Option CivilMinute) → o ≡ last_kept (handed_over a s) b → StampIsWithin b a → (room0 room : ℕ) → most_pages ≤ room0 → room0 ≤ room + count (handed_over a s) → Rises stamp_in o pump.batch × (1 ≤ room)
suits_at (stage.Saying q) start a s pump h k o b e w room0 room m l = cc
suits_at (stage.Hearing q) start a s pump h k o b e w room0 room m l = cc
suits_at (stage.Ended end) start a s pump h k o b e w room0 room m l = cc
suits_at (stage.Keeping more) start a s pump h k o b e w room0 room m l =
    let given : handed_over a s ≡ all_kept a h.place h.taken = ap (handed_over a) h.is in
    let o_is : o ≡ last_kept (all_kept a h.place h.taken) b = e ∙ ap (λ (y : Handed). last_kept y b) given in
    let within : StampIsWithin o (newest_in_pages a h.place h.taken) = subst (λ (y : Option CivilMinute). StampIsWithin y (newest_in_pages a h.place h.taken)) (sym o_is) (within_kept h.place h.taken a b w) in (
      subst (λ (y : List (List ℕ)). Rises stamp_in o y) (sym h.batch) (rows_rise o (newest_in_pages a h.place h.taken) _ within),
      omega (arith, m, l, ap count given, count_kept (batches a h.place h.taken), batches_few a h.place h.taken, h.fits),
    )

abbrev OverTells : Tally → Option CivilMinute → Pump → AttemptState → Type 0
OverTells start a pump (Over place taken end) = Tallied start a place taken (answered_batches (pump_answer end) (batches a place taken)) pump × (pump_answer end ≢ stored.Done → EndsGiving a place taken)
OverTells start a pump (Saying p i l) = Unit {0}
OverTells start a pump (Hearing p bs r) = Unit {0}
OverTells start a pump (Keeping more place taken page) = Unit {0}
OverTells start a pump Astray = Unit {0}

over_at : (st : Stage) (start : Tally) (a : Option CivilMinute) (place : ℕ) (taken : List (List ℕ)) (end : PumpEnd) (pump : Pump) → ShowsAt st start a (Over place taken end) pump → OverTells start a pump (Over place taken end)
over_at (stage.Saying q) start a place taken end pump h = absurd (begun_not_over a (part_of_phase h.place h.taken q) place taken end (sym h.is))
over_at (stage.Hearing q) start a place taken end pump h = let z = h.is in cc
over_at (stage.Keeping more) start a place taken end pump h = let z = h.is in cc
over_at (stage.Ended e) start a place taken end pump h = subst (OverTells start a pump) (sym h.is) (h.tallied, h.gives)

-- what is over was tallied
pub over_shown : (start : Tally) (a : Option CivilMinute) (s : AttemptState) (place : ℕ) (taken : List (List ℕ)) (end : PumpEnd) (pump : Pump) → PumpShows start a s pump → s ≡ Over place taken end
    → Tallied start a place taken (answered_batches (pump_answer end) (batches a place taken)) pump × (pump_answer end ≢ stored.Done → EndsGiving a place taken)
over_shown start a s place taken end pump h e = over_at pump.stage start a place taken end pump (subst (λ (x : AttemptState). PumpShows start a x pump) e h)

place_same : (q : Phase) (place : ℕ) (taken : List (List ℕ)) → PhaseFits q place taken → (place ≡ place_of_part (part_of_phase place taken q)) × (taken ≡ taken_in (part_of_phase place taken q))
place_same phase.Settling place taken f = f
place_same (phase.Waking left) place taken f = f
place_same phase.Calling place taken f = f
place_same phase.Heading place taken f = f
place_same (phase.Asking more left b) place taken f = (refl, refl)
place_same (phase.Resettling more left b) place taken f = (refl, refl)
place_same phase.Acking place taken f = (refl, refl)
place_same (phase.GivingUp trouble) place taken f = (refl, refl)

same_kept : (a : Option CivilMinute) (m n : ℕ) (s t : List (List ℕ)) → m ≡ n → s ≡ t → all_kept a n t ≡ all_kept a m s
same_kept a m n s t e f = ap (λ x. all_kept a x t) (sym e) ∙ ap (λ (y : List (List ℕ)). all_kept a m y) (sym f)

-- what was taken where the link fails
cut_at : (st : Stage) (start : Tally) (a : Option CivilMinute) (s : AttemptState) (pump : Pump) → ShowsAt st start a s pump → talks_at st ≡ true
    → (place : ℕ) × (taken : List (List ℕ)) × HasTaken s place taken × Tallied start a place taken (all_kept a place taken) pump × (handed_over a s ≡ all_kept a place taken)
cut_at (stage.Saying q) start a s pump h k =
    let p = part_of_phase h.place h.taken q in
    let f = place_same q h.place h.taken h.fits in (
      h.place,
      h.taken,
      subst (λ (x : AttemptState). HasTaken x h.place h.taken) (sym h.is) (saying_has p (message (words a p)) h.place h.taken f),
      h.counts.tallied,
      ap (handed_over a) h.is ∙ handed_saying a p (message (words a p)) ∙ same_kept a h.place (place_of_part p) h.taken (taken_in p) f.0 f.1,
    )
cut_at (stage.Hearing q) start a s pump h k =
    let p = part_of_phase h.place h.taken q in
    let f = place_same q h.place h.taken h.ready.fits in
    (h.place, h.taken, subst (λ (x : AttemptState). HasTaken x h.place h.taken) (sym h.is) f, h.ready.counts.tallied, ap (handed_over a) h.is ∙ same_kept a h.place (place_of_part p) h.taken (taken_in p) f.0 f.1)
cut_at (stage.Keeping more) start a s pump h k = cc
cut_at (stage.Ended end) start a s pump h k = cc

pub cut_shown : (start : Tally) (a : Option CivilMinute) (s : AttemptState) (pump : Pump) → PumpShows start a s pump → talks_at pump.stage ≡ true
    → (place : ℕ) × (taken : List (List ℕ)) × HasTaken s place taken × Tallied start a place taken (all_kept a place taken) pump × (handed_over a s ≡ all_kept a place taken)
cut_shown start a s pump h k = cut_at pump.stage start a s pump h k

pub ended_as : (G : List TalkItem → List (List ℕ) → End → Type 0) (end : PumpEnd) (t : List TalkItem) (taken : List (List ℕ)) → G t taken (attempt_end end) → Ended G (dump_end_of end) t taken
ended_as G pump_end.Whole t taken x = x
ended_as G (pump_end.Failed trouble) t taken x = x
ended_as G pump_end.Full t taken x = x
ended_as G pump_end.Stale t taken x = x
ended_as G pump_end.DiskFault t taken x = x
ended_as G pump_end.Flood t taken x = x

pub ended_cut : (G : List TalkItem → List (List ℕ) → End → Type 0) (end : DumpEnd) → DumpIsCut end → (t : List TalkItem) (taken : List (List ℕ)) → IsCutAfter G t taken → Ended G end t taken
ended_cut G end (inl c) t taken x = subst (λ (y : DumpEnd). Ended G y t taken) (sym c) x
ended_cut G end (inr c) t taken x = subst (λ (y : DumpEnd). Ended G y t taken) (sym c) x

pub cut_answer : (end : DumpEnd) → DumpIsCut end → keeper_answer end ≡ stored.Done
cut_answer end (inl c) = ap keeper_answer c
cut_answer end (inr c) = ap keeper_answer c

pub answer_same : (end : PumpEnd) → pump_answer end ≡ keeper_answer (dump_end_of end)
answer_same pump_end.Whole = refl
answer_same (pump_end.Failed trouble) = refl
answer_same pump_end.Full = refl
answer_same pump_end.Stale = refl
answer_same pump_end.DiskFault = refl
answer_same pump_end.Flood = refl

pub not_cut : (end : PumpEnd) → DumpIsCut (dump_end_of end) → ⊥
not_cut pump_end.Whole (inl c) = cc
not_cut pump_end.Whole (inr c) = cc
not_cut (pump_end.Failed trouble) (inl c) = cc
not_cut (pump_end.Failed trouble) (inr c) = cc
not_cut pump_end.Full (inl c) = cc
not_cut pump_end.Full (inr c) = cc
not_cut pump_end.Stale (inl c) = cc
not_cut pump_end.Stale (inr c) = cc
not_cut pump_end.DiskFault (inl c) = cc
not_cut pump_end.DiskFault (inr c) = cc
not_cut pump_end.Flood (inl c) = cc
not_cut pump_end.Flood (inr c) = cc

has_no_astray : (s : AttemptState) (place : ℕ) (taken : List (List ℕ)) → HasTaken s place taken → s ≢ Astray
has_no_astray s place taken h e = subst (λ (x : AttemptState). HasTaken x place taken) e h

fine_no_astray : (s : AttemptState) → Fine s → s ≢ Astray
fine_no_astray s f e = subst Fine e f

pub shown_no_astray : (start : Tally) (a : Option CivilMinute) (s : AttemptState) (pump : Pump) → PumpShows start a s pump → s ≢ Astray
shown_no_astray start a s pump h = fine_no_astray s (fine_shown start a s pump h)

-- a talk goes on from where it stands
pub goes_on : (a : Option CivilMinute) (t u : List TalkItem) (ks js : List Stored) (s : AttemptState) → pump_after a t ks ≡ s → s ≢ Astray → pump_after a (t ++ u) (ks ++ js) ≡ pump_from a s u js
goes_on a t u ks js s e ne = joins a (begun a Settling) t u ks js (λ z. ne (sym e ∙ z)) ∙ ap (λ (x : AttemptState). pump_from a x u js) e

-- an attempt that ends by nothing more, and not by a refusal, is over
nothing_more : (a : Option CivilMinute) (s : AttemptState) (place : ℕ) (taken : List (List ℕ)) (end : PumpEnd) (ks : List Stored) → attempt_end end ≢ End.Refused → pump_from a s [] ks ≡ Over place taken end → s ≡ Over place taken end
nothing_more a (Saying p i l) place taken end [] mild e = cc
nothing_more a (Saying p i l) place taken end (k ∷ ks) mild e = cc
nothing_more a (Hearing p bs r) place taken end [] mild e = cc
nothing_more a (Hearing p bs r) place taken end (k ∷ ks) mild e = cc
nothing_more a (Keeping more at pages page) place taken end [] mild e = cc
nothing_more a (Keeping zero at pages page) place taken end (stored.Done ∷ []) mild e = cc
nothing_more a (Keeping (suc more) at pages page) place taken end (stored.Done ∷ []) mild e = cc
nothing_more a (Keeping more at pages page) place taken end (stored.Full ∷ []) mild e = let z : end ≡ pump_end.Full = cc in absurd (mild (ap attempt_end z))
nothing_more a (Keeping more at pages page) place taken end (stored.Stale ∷ []) mild e = let z : end ≡ pump_end.Stale = cc in absurd (mild (ap attempt_end z))
nothing_more a (Keeping more at pages page) place taken end (stored.DiskFault ∷ []) mild e = let z : end ≡ pump_end.DiskFault = cc in absurd (mild (ap attempt_end z))
nothing_more a (Keeping more at pages page) place taken end (k ∷ m ∷ ks) mild e = cc
nothing_more a (Over at pages x) place taken end [] mild e = e
nothing_more a (Over at pages x) place taken end (k ∷ ks) mild e = cc
nothing_more a Astray place taken end [] mild e = cc
nothing_more a Astray place taken end (k ∷ ks) mild e = cc

-- what was said last is said last
says_on : (s t : List TalkItem) → EndsSaying t → EndsSaying (s ++ t)
says_on s t (u, byte, e) = (s ++ u, byte, ap (λ (x : List TalkItem). s ++ x) e ∙ sym (append_assoc s u (Said byte true ∷ [])))

-- a cut talk is the front of an attempt
pub cut_front : (a : Option CivilMinute) (t u : List TalkItem) (ks : List Stored) (s : AttemptState) (place : ℕ) (taken : List (List ℕ)) → pump_after a t ks ≡ s → s ≢ Astray
    → HasTaken (pump_from a s u []) place taken × AttemptCanEnd a (pump_from a s u []) place taken → SaysLast a s u
    → IsCutAfter (λ y pages x. Attempt (stamp_frame_of a) y place pages x) (t ++ u) taken
cut_front a t u ks s place taken e ne x says =
    let (has, ends) = x in
    let (rest, answers, end, over, mild) = ends in
    let k : pump_after a (t ++ u) (ks ++ []) ≡ pump_from a s u [] = goes_on a t u ks [] s e ne in
    let no = has_no_astray (pump_from a s u []) place taken has in
    let whole : pump_after a ((t ++ u) ++ rest) ((ks ++ []) ++ answers) ≡ Over place taken end = goes_on a (t ++ u) rest (ks ++ []) answers (pump_from a s u []) k no ∙ over in
    record {
      rest = rest;
      end = attempt_end end;
      whole = sound a ((t ++ u) ++ rest) ((ks ++ []) ++ answers) place taken end whole;
      goes_on = mild;
      said_all = λ none. says_on t u (says place taken end (nothing_more a (pump_from a s u []) place taken end answers mild (ap (λ (y : List TalkItem). pump_from a (pump_from a s u []) y answers) (sym none) ∙ over)));
      were_taken = were_taken a (pump_from a s u []) no place taken has (t ++ u) (ks ++ []) k;
    }
