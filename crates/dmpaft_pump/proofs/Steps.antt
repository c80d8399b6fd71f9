-- A pump that takes what comes, and the attempt that stands where it did.
use Rattle.std.proofs.Common.{◌≡◌, ◌≢◌, ℕ, ◌<◌, ◌≤◌, Bool, true, false, List, [], ◌∷◌, ◌++◌, length, length-append, map, refl, sym, ◌∙◌, ap, arith, append_assoc, append-nil, Option, eq-eqb}
use Rattle.station_base.specs.CivilMinute.{CivilMinute}
use Rattle.archive_record.specs.Reading.{stamp_in}
use Rattle.serial_link.specs.Talk.{message}
use Rattle.serial_link.specs.declared.talk.TalkItem.{TalkItem}
use Rattle.serial_link.specs.declared.talk.TalkItem.TheVariants.{Heard}
use Rattle.causes.specs.declared.stored.Stored.{Stored}
use Rattle.causes.specs.declared.stored.Stored.TheVariants as stored
use Rattle.dmpaft_pump.specs.declared.outcome.Tally.{Tally}
use Rattle.dmpaft_pump.specs.declared.phase.Phase.{Phase}
use Rattle.dmpaft_pump.specs.declared.phase.Phase.TheVariants as phase
use Rattle.dmpaft_pump.specs.declared.pump.Pump.{Pump}
use Rattle.dmpaft_pump.specs.declared.stage.Stage.{Stage}
use Rattle.dmpaft_pump.specs.Keeper.{Handed, one_batch, join, last_kept}
use Rattle.station_base.specs.LastStamp.{last_stamp}
use Rattle.dmpaft_pump.specs.Batch.{slots_in_page, rising, newest, last_if, slot_is_newer, one_if, batches, answered_batches}
use Rattle.dmpaft_pump.specs.Pump.{AttemptPart, AttemptState, Saying, Hearing, Keeping, Over, Astray, words, most, next_after_part, words_said, begun, state_at, heard_if, newest_in_pages, next_place, batch_of, pump_from}
use Rattle.dmpaft_pump.specs.Phases.{part_of_phase, most_bytes_of, words_of_phase}
use Rattle.dmpaft_pump.specs.Shown.{PumpCounts, all_kept, IsSaying, ShowsAt}
use Rattle.dmpaft_pump.specs.Stages.{told_stage}
use Rattle.dmpaft_pump.proofs.PageJudgements.{not_equal}
use Rattle.dmpaft_pump.proofs.HandedBatches.{kept_answered, answered_snoc, add_some, last_joins}
use Rattle.dmpaft_pump.proofs.PagesSoFar.{batches_more, newest_more}
use Rattle.dmpaft_pump.proofs.Rows.{last_any}
use Rattle.dmpaft_pump.proofs.PumpSteps.{said_in}

pub words_same : (a : Option CivilMinute) (place : ℕ) (taken : List (List ℕ)) (q : Phase) → words a (part_of_phase place taken q) ≡ words_of_phase a q
words_same a place taken phase.Settling = refl
words_same a place taken (phase.Waking left) = refl
words_same a place taken phase.Calling = refl
words_same a place taken phase.Heading = refl
words_same a place taken (phase.Asking more left b) = refl
words_same a place taken (phase.Resettling more left b) = refl
words_same a place taken phase.Acking = refl
words_same a place taken (phase.GivingUp trouble) = refl

pub most_same : (place : ℕ) (taken : List (List ℕ)) (q : Phase) → most (part_of_phase place taken q) ≡ most_bytes_of q
most_same place taken phase.Settling = refl
most_same place taken (phase.Waking left) = refl
most_same place taken phase.Calling = refl
most_same place taken phase.Heading = refl
most_same place taken (phase.Asking more left b) = refl
most_same place taken (phase.Resettling more left b) = refl
most_same place taken phase.Acking = refl
most_same place taken (phase.GivingUp trouble) = refl

-- nothing taken changes nothing
pub rest_same : (a : Option CivilMinute) (s : AttemptState) → pump_from a s [] [] ≡ s
rest_same a (Saying p i l) = refl
rest_same a (Hearing p bs r) = refl
rest_same a (Keeping more place taken page) = refl
rest_same a (Over place taken end) = refl
rest_same a Astray = refl

-- the words of a part are said
pub said_all : (a : Option CivilMinute) (place : ℕ) (taken : List (List ℕ)) (q : Phase) → pump_from a (begun a (part_of_phase place taken q)) (message (words_of_phase a q)) [] ≡ words_said (part_of_phase place taken q)
said_all a place taken q =
    let p = part_of_phase place taken q in
    ap (λ (y : List ℕ). pump_from a (begun a p) (message y) []) (sym (words_same a place taken q)) ∙ ap (λ (y : List TalkItem). pump_from a (begun a p) y []) (sym (append-nil (message (words a p)))) ∙ said_in a p (words a p) [] [] ∙ rest_same a (words_said p)

module _ (a : Option CivilMinute) (p : AttemptPart) where
  -- bytes that are not yet as many as can be heard
  pub heard_some : (bs ys : List ℕ) (r : ℕ) → 1 ≤ length ys → length (bs ++ ys) < most p → pump_from a (Hearing p bs r) (map (λ x. Heard x) ys) [] ≡ Hearing p (bs ++ ys) 0
  heard_some bs [] r some less = absurd (omega arith)
  heard_some bs (y ∷ []) r some less = ap (λ (b : Bool). pump_from a (heard_if a p (bs ++ y ∷ []) b) [] []) (not_equal (length (bs ++ y ∷ [])) (most p) (λ e. absurd (omega (arith, e, less))))
  heard_some bs (y ∷ z ∷ ys) r some less =
      let size = length-append (bs ++ y ∷ []) (z ∷ ys) in
      let e : (bs ++ y ∷ []) ++ (z ∷ ys) ≡ bs ++ (y ∷ z ∷ ys) = append_assoc bs (y ∷ []) (z ∷ ys) in
      ap (λ (b : Bool). pump_from a (heard_if a p (bs ++ y ∷ []) b) (map (λ x. Heard x) (z ∷ ys)) []) (not_equal (length (bs ++ y ∷ [])) (most p) (λ f. absurd (omega (arith, f, size, ap length e, less))))
      ∙ heard_some (bs ++ y ∷ []) (z ∷ ys) 0 (omega arith) (omega (arith, ap length e, less)) ∙ ap (λ (x : List ℕ). Hearing p x 0) e

  -- the last byte that can be heard
  pub heard_last : (bs ys : List ℕ) (r : ℕ) → 1 ≤ length ys → length (bs ++ ys) ≡ most p → pump_from a (Hearing p bs r) (map (λ x. Heard x) ys) [] ≡ state_at a (next_after_part a p true (bs ++ ys))
  heard_last bs [] r some all = absurd (omega arith)
  heard_last bs (y ∷ []) r some all = ap (λ (b : Bool). pump_from a (heard_if a p (bs ++ y ∷ []) b) [] []) (eq-eqb (length (bs ++ y ∷ [])) (most p) all) ∙ rest_same a (state_at a (next_after_part a p true (bs ++ y ∷ [])))
  heard_last bs (y ∷ z ∷ ys) r some all =
      let size = length-append (bs ++ y ∷ []) (z ∷ ys) in
      let e : (bs ++ y ∷ []) ++ (z ∷ ys) ≡ bs ++ (y ∷ z ∷ ys) = append_assoc bs (y ∷ []) (z ∷ ys) in
      ap (λ (b : Bool). pump_from a (heard_if a p (bs ++ y ∷ []) b) (map (λ x. Heard x) (z ∷ ys)) []) (not_equal (length (bs ++ y ∷ [])) (most p) (λ f. absurd (omega (arith, f, size, ap length e, all))))
      ∙ heard_last (bs ++ y ∷ []) (z ∷ ys) 0 (omega arith) (ap length e ∙ all) ∙ ap (λ (x : List ℕ). state_at a (next_after_part a p true x)) e

-- where a pump stands is not counted
pub counts_as : (start : Tally) (a : Option CivilMinute) (place : ℕ) (taken : List (List ℕ)) (steps : Handed) (to : Stage) (pump : Pump) → PumpCounts start a place taken steps pump → PumpCounts start a place taken steps (record pump { stage = to })
counts_as start a place taken steps to pump h = record {
  tallied = record { asked = h.tallied.asked; bounded = h.tallied.bounded; pages = h.tallied.pages; skipped = h.tallied.skipped; last = h.tallied.last };
  number = h.number;
  from = h.from;
  low = h.low;
  newest = h.newest;
  few = h.few;
  rare = h.rare;
}

-- once its words are said a part hears, or the attempt is over
pub said_shows : (start : Tally) (a : Option CivilMinute) (q : Phase) (s : AttemptState) (pump : Pump) → IsSaying start a q s pump → ShowsAt (told_stage q) start a (pump_from a s (message (words_of_phase a q)) []) (record pump { stage = told_stage q })
said_shows start a phase.Settling s pump h = record {
  place = h.place;
  taken = h.taken;
  bytes = [];
  is = ap (λ (x : AttemptState). pump_from a x (message (words_of_phase a phase.Settling)) []) h.is ∙ said_all a h.place h.taken phase.Settling ∙ ap (λ r. Hearing (part_of_phase h.place h.taken phase.Settling) [] r) (sym h.run);
  run = omega (arith, h.run);
  ready = record {
    counts = counts_as start a h.place h.taken (all_kept a h.place h.taken) (told_stage phase.Settling) pump h.counts;
    fits = h.fits;
    hears = tt;
    count = h.count;
    sized = omega arith;
    heard = h.tail;
  };
}
said_shows start a (phase.Waking left) s pump h = record {
  place = h.place;
  taken = h.taken;
  bytes = [];
  is = ap (λ (x : AttemptState). pump_from a x (message (words_of_phase a (phase.Waking left))) []) h.is ∙ said_all a h.place h.taken (phase.Waking left) ∙ ap (λ r. Hearing (part_of_phase h.place h.taken (phase.Waking left)) [] r) (sym h.run);
  run = omega (arith, h.run);
  ready = record {
    counts = counts_as start a h.place h.taken (all_kept a h.place h.taken) (told_stage (phase.Waking left)) pump h.counts;
    fits = h.fits;
    hears = tt;
    count = h.count;
    sized = omega arith;
    heard = h.tail;
  };
}
said_shows start a phase.Calling s pump h = record {
  place = h.place;
  taken = h.taken;
  bytes = [];
  is = ap (λ (x : AttemptState). pump_from a x (message (words_of_phase a phase.Calling)) []) h.is ∙ said_all a h.place h.taken phase.Calling ∙ ap (λ r. Hearing (part_of_phase h.place h.taken phase.Calling) [] r) (sym h.run);
  run = omega (arith, h.run);
  ready = record {
    counts = counts_as start a h.place h.taken (all_kept a h.place h.taken) (told_stage phase.Calling) pump h.counts;
    fits = h.fits;
    hears = tt;
    count = h.count;
    sized = omega arith;
    heard = refl;
  };
}
said_shows start a phase.Heading s pump h = record {
  place = h.place;
  taken = h.taken;
  bytes = [];
  is = ap (λ (x : AttemptState). pump_from a x (message (words_of_phase a phase.Heading)) []) h.is ∙ said_all a h.place h.taken phase.Heading ∙ ap (λ r. Hearing (part_of_phase h.place h.taken phase.Heading) [] r) (sym h.run);
  run = omega (arith, h.run);
  ready = record {
    counts = counts_as start a h.place h.taken (all_kept a h.place h.taken) (told_stage phase.Heading) pump h.counts;
    fits = h.fits;
    hears = tt;
    count = h.count;
    sized = omega arith;
    heard = refl;
  };
}
said_shows start a (phase.Asking more left b) s pump h = record {
  place = h.place;
  taken = h.taken;
  bytes = [];
  is = ap (λ (x : AttemptState). pump_from a x (message (words_of_phase a (phase.Asking more left b))) []) h.is ∙ said_all a h.place h.taken (phase.Asking more left b) ∙ ap (λ r. Hearing (part_of_phase h.place h.taken (phase.Asking more left b)) [] r) (sym h.run);
  run = omega (arith, h.run);
  ready = record {
    counts = counts_as start a h.place h.taken (all_kept a h.place h.taken) (told_stage (phase.Asking more left b)) pump h.counts;
    fits = h.fits;
    hears = tt;
    count = h.count;
    sized = omega arith;
    heard = refl;
  };
}
said_shows start a (phase.Resettling more left b) s pump h = record {
  place = h.place;
  taken = h.taken;
  bytes = [];
  is = ap (λ (x : AttemptState). pump_from a x (message (words_of_phase a (phase.Resettling more left b))) []) h.is ∙ said_all a h.place h.taken (phase.Resettling more left b) ∙ ap (λ r. Hearing (part_of_phase h.place h.taken (phase.Resettling more left b)) [] r) (sym h.run);
  run = omega (arith, h.run);
  ready = record {
    counts = counts_as start a h.place h.taken (all_kept a h.place h.taken) (told_stage (phase.Resettling more left b)) pump h.counts;
    fits = h.fits;
    hears = tt;
    count = h.count;
    sized = omega arith;
    heard = h.tail;
  };
}
said_shows start a phase.Acking s pump h = record {
  place = h.place;
  taken = h.taken;
  is = ap (λ (x : AttemptState). pump_from a x (message (words_of_phase a phase.Acking)) []) h.is ∙ said_all a h.place h.taken phase.Acking;
  tallied = record { asked = h.counts.tallied.asked; bounded = h.counts.tallied.bounded; pages = h.counts.tallied.pages; skipped = h.counts.tallied.skipped; last = h.counts.tallied.last ∙ ap (λ (x : Handed). last_kept x start.last) (sym (kept_answered (batches a h.place h.taken))) };
  gives = λ ne. absurd (ne refl);
}
said_shows start a (phase.GivingUp trouble) s pump h = record {
  place = h.place;
  taken = h.taken;
  is = ap (λ (x : AttemptState). pump_from a x (message (words_of_phase a (phase.GivingUp trouble))) []) h.is ∙ said_all a h.place h.taken (phase.GivingUp trouble);
  tallied = record { asked = h.counts.tallied.asked; bounded = h.counts.tallied.bounded; pages = h.counts.tallied.pages; skipped = h.counts.tallied.skipped; last = h.counts.tallied.last ∙ ap (λ (x : Handed). last_kept x start.last) (sym (kept_answered (batches a h.place h.taken))) };
  gives = λ ne. absurd (ne refl);
}

-- the newest stamp is that of the last record of a batch, or as it was
pub last_of_rising : (b : Option CivilMinute) (ss : List (List ℕ)) → last_stamp stamp_in (rising b ss) b ≡ newest b ss
last_of_rising b [] = refl
last_of_rising b (s ∷ ss) = go (slot_is_newer b s) (last_of_rising (stamp_in s) ss) (last_of_rising b ss)
  where
    go : (n : Bool) → last_stamp stamp_in (rising (stamp_in s) ss) (stamp_in s) ≡ newest (stamp_in s) ss → last_stamp stamp_in (rising b ss) b ≡ newest b ss → last_stamp stamp_in (one_if n s ++ rising (last_if n b s) ss) b ≡ newest (last_if n b s) ss
    go true x y = x
    go false x y = y

module _ (a : Option CivilMinute) (place : ℕ) (taken : List (List ℕ)) (page : List ℕ) (some : batch_of a place taken page ≢ []) where
  pub one_more : (answer : Stored) → answered_batches answer (batches a place (taken ++ page ∷ [])) ≡ join (all_kept a place taken) (one_batch answer (batch_of a place taken page))
  one_more answer =
      ap (λ (x : List (List (List ℕ))). answered_batches answer x) (batches_more a place taken page ∙ ap (λ (x : List (List (List ℕ))). batches a place taken ++ x) (add_some (batch_of a place taken page) some))
      ∙ answered_snoc answer (batches a place taken) (batch_of a place taken page)

  -- a batch that is kept has the last record
  pub last_done : (before : Option CivilMinute) → newest_in_pages a place (taken ++ page ∷ []) ≡ last_kept (all_kept a place (taken ++ page ∷ [])) before
  last_done before =
      let rows = batch_of a place taken page in
      newest_more a place taken page ∙ sym (last_of_rising (newest_in_pages a place taken) (slots_in_page (next_place place taken) page)) ∙ last_any rows (newest_in_pages a place taken) (last_kept (all_kept a place taken) before) some
      ∙ sym (last_joins (batches a place taken) (one_batch stored.Done rows) before) ∙ ap (λ (x : Handed). last_kept x before) (sym (one_more stored.Done) ∙ kept_answered (batches a place (taken ++ page ∷ [])))

  pub last_full : (before : Option CivilMinute) → last_kept (all_kept a place taken) before ≡ last_kept (answered_batches stored.Full (batches a place (taken ++ page ∷ []))) before
  last_full before = sym (last_joins (batches a place taken) (one_batch stored.Full (batch_of a place taken page)) before) ∙ ap (λ (x : Handed). last_kept x before) (sym (one_more stored.Full))

  pub last_stale : (before : Option CivilMinute) → last_kept (all_kept a place taken) before ≡ last_kept (answered_batches stored.Stale (batches a place (taken ++ page ∷ []))) before
  last_stale before = sym (last_joins (batches a place taken) (one_batch stored.Stale (batch_of a place taken page)) before) ∙ ap (λ (x : Handed). last_kept x before) (sym (one_more stored.Stale))

  pub last_disk_fault : (before : Option CivilMinute) → last_kept (all_kept a place taken) before ≡ last_kept (answered_batches stored.DiskFault (batches a place (taken ++ page ∷ []))) before
  last_disk_fault before = sym (last_joins (batches a place taken) (one_batch stored.DiskFault (batch_of a place taken page)) before) ∙ ap (λ (x : Handed). last_kept x before) (sym (one_more stored.DiskFault))
