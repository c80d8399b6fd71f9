-- What a pump hands over on its way to its end.
use Rattle.std.proofs.Common.{◌≡◌, ◌≢◌, ℕ, zero, suc, ◌+◌, ◌==◌, Bool, true, false, List, [], ◌∷◌, ◌++◌, length, refl, sym, ◌∙◌, ap, inr, Option}
use Rattle.std.specs.Prelude.{bytes_eq}
use Rattle.station_base.specs.CivilMinute.{CivilMinute}
use Rattle.vantage_frames.specs.StampFrame.{stamp_frame_of}
use Rattle.causes.specs.declared.stored.Stored.{Stored}
use Rattle.causes.specs.declared.stored.Stored.TheVariants as reply
use Rattle.serial_link.specs.Talk.{message}
use Rattle.serial_link.specs.declared.talk.TalkItem.{TalkItem}
use Rattle.serial_link.specs.declared.talk.TalkItem.TheVariants.{Said, Heard, Quiet}
use Rattle.wake_retry.specs.Parts.{ends_awake}
use Rattle.dmpaft_pump.specs.Command.{dmpaft}
use Rattle.dmpaft_pump.specs.Batch.{answered_batches, batches}
use Rattle.dmpaft_pump.specs.Keeper.{Handed, join}
use Rattle.dmpaft_pump.specs.Page.{is_page_for, is_ahead}
use Rattle.dmpaft_pump.specs.Pump.{AttemptPart, Settling, Waking, Calling, Heading, Asking, Resettling, Acking, GivingUp, AttemptState, Saying, Hearing, Keeping, Over, Astray, answered_by, asked_again, state_at, batch_of, batched, begun, called, answer_taken, headed, heard_if, is_said, page_judged, most, next_after_part, onward, pump_from, quiets, said_if, saying, attempt_step, words_said, ungiven, unless_given, waited_if, woken}
use Rattle.dmpaft_pump.specs.Reply.{Reply, Header, NoHeader, reply_of}
use Rattle.dmpaft_pump.specs.Shown.{pump_answer}
use Rattle.dmpaft_driver.specs.Standing.{gives, handed_over}
use Rattle.dmpaft_pump.specs.declared.pump_end.PumpEnd.{PumpEnd}
use Rattle.dmpaft_driver.proofs.DumpTurns.{handed_items, handed_turn}
use Rattle.dmpaft_pump.proofs.HandedBatches.{join_assoc, join_none}
use Rattle.dmpaft_pump.proofs.Steps.{rest_same}
use Rattle.dmpaft_pump.proofs.PumpSteps.{no_astray}

-- a batch that is with the keeper has a record
abbrev pub HasRecords : Option CivilMinute → AttemptState → Type 0
HasRecords after (Saying part i others) = Unit {0}
HasRecords after (Hearing part bytes run) = Unit {0}
HasRecords after (Keeping more place taken page) = batch_of after place taken page ≢ []
HasRecords after (Over place taken end) = Unit {0}
HasRecords after Astray = Unit {0}

-- all that is handed over from here on
abbrev pub gives_all : Option CivilMinute → AttemptState → List TalkItem → List Stored → Handed
gives_all after s [] answers = gives after s answers
gives_all after s (i ∷ talk) answers =
    join (gives after s answers) (gives_all after (attempt_step after (answer_taken after s answers) i) talk (ungiven s answers))

-- where no item comes any more the pump is over
pub over_by : (answers : List Stored) (g : AttemptState) (place : ℕ) (taken : List (List ℕ)) (end : PumpEnd)
    → unless_given answers g ≡ Over place taken end → (answers ≡ []) × (g ≡ Over place taken end)
over_by [] g place taken end e = (refl, e)
over_by (a ∷ rest) g place taken end e = absurd (let bad : Astray ≡ Over place taken end = e in cc)

module _ (a : Option CivilMinute) where
  some_told : (p : AttemptPart) → HasRecords a (words_said p)
  some_told Settling = tt
  some_told (Waking left) = tt
  some_told Calling = tt
  some_told Heading = tt
  some_told (Asking more place taken left b) = tt
  some_told (Resettling more place taken left b) = tt
  some_told (Acking place taken) = tt
  some_told (GivingUp place taken trouble) = tt

  some_saying : (p : AttemptPart) (l : List TalkItem) → HasRecords a (saying p l)
  some_saying p [] = some_told p
  some_saying p (i ∷ l) = tt

  some_onward : (more place : ℕ) (taken : List (List ℕ)) → HasRecords a (begun a (onward more place taken))
  some_onward zero place taken = tt
  some_onward (suc more) place taken = tt

  some_batched : (more place : ℕ) (taken : List (List ℕ)) (page : List ℕ) (rows : List (List ℕ))
      → batch_of a place taken page ≡ rows → HasRecords a (state_at a (batched more place taken page rows))
  some_batched more place taken page [] e = some_onward more place (taken ++ page ∷ [])
  some_batched more place taken page (r ∷ rows) e = λ none. absurd (let bad : r ∷ rows ≡ [] = sym e ∙ none in cc)

  some_woken : (left : ℕ) (b : Bool) → HasRecords a (state_at a (woken left b))
  some_woken left true = some_saying Calling (message dmpaft)
  some_woken zero false = tt
  some_woken (suc left) false = tt

  some_called : (bs : List ℕ) (b : Bool) → HasRecords a (state_at a (called bs b))
  some_called bs true = some_saying Heading (message (stamp_frame_of a))
  some_called bs false = tt

  some_headed : (y : Reply) → HasRecords a (state_at a (headed y))
  some_headed (Header zero place) = tt
  some_headed (Header (suc more) place) = tt
  some_headed (NoHeader trouble) = tt

  some_again : (more place : ℕ) (taken : List (List ℕ)) (left b : ℕ) → HasRecords a (state_at a (asked_again more place taken left b))
  some_again more place taken zero b = tt
  some_again more place taken (suc left) b = tt

  some_judged : (more place : ℕ) (taken : List (List ℕ)) (left : ℕ) (bs : List ℕ) (x y : Bool)
      → HasRecords a (state_at a (page_judged a more place taken left bs x y))
  some_judged more place taken left bs true y = some_batched more place taken bs (batch_of a place taken bs) refl
  some_judged more place taken left bs false true = tt
  some_judged more place taken left bs false false = some_again more place taken left _

  some_next : (p : AttemptPart) (full : Bool) (bs : List ℕ) → HasRecords a (state_at a (next_after_part a p full bs))
  some_next Settling true bs = tt
  some_next Settling false bs = tt
  some_next (Waking left) true bs = tt
  some_next (Waking left) false bs = some_woken left (ends_awake bs)
  some_next Calling full bs = some_called bs (bytes_eq bs (6 ∷ []))
  some_next Heading full bs = some_headed (reply_of bs)
  some_next (Asking more place taken left b) full bs =
      some_judged more place taken left bs (is_page_for (length taken) bs) (is_ahead (length taken) bs)
  some_next (Resettling more place taken left b) true bs = tt
  some_next (Resettling more place taken left b) false bs = tt
  some_next (Acking place taken) full bs = tt
  some_next (GivingUp place taken trouble) full bs = tt

  some_said : (p : AttemptPart) (others : List TalkItem) (b : Bool) → HasRecords a (said_if p others b)
  some_said p others true = some_saying p others
  some_said p others false = tt

  some_heard : (p : AttemptPart) (bs : List ℕ) (b : Bool) → HasRecords a (heard_if a p bs b)
  some_heard p bs true = some_next p true bs
  some_heard p bs false = tt

  some_waited : (p : AttemptPart) (bs : List ℕ) (run : ℕ) (b : Bool) → HasRecords a (waited_if a p bs run b)
  some_waited p bs run true = some_next p false bs
  some_waited p bs run false = tt

  some_step : (g : AttemptState) (i : TalkItem) → HasRecords a (attempt_step a g i)
  some_step (Saying p i others) j = some_said p others (is_said i j)
  some_step (Hearing p bs run) (Said b ends) = tt
  some_step (Hearing p bs run) (Heard b) = some_heard p (bs ++ b ∷ []) (length (bs ++ b ∷ []) == most p)
  some_step (Hearing p bs run) Quiet = some_waited p bs (run + 1) (run + 1 == quiets p)
  some_step (Keeping more place taken page) j = tt
  some_step (Over place taken end) j = tt
  some_step Astray j = tt

  -- no answer leads astray
  not_astray : (more place : ℕ) (taken : List (List ℕ)) (k : Stored) → answered_by a more place taken k ≢ Astray
  not_astray zero place taken reply.Done = λ e. cc
  not_astray (suc more) place taken reply.Done = λ e. cc
  not_astray more place taken reply.Full = λ e. cc
  not_astray more place taken reply.Stale = λ e. cc
  not_astray more place taken reply.DiskFault = λ e. cc

  handed_given : (s : AttemptState) (ks : List Stored) → HasRecords a s → handed_over a (answer_taken a s ks) ≡ join (handed_over a s) (gives a s ks)
  handed_given (Saying p i l) ks some = sym (join_none (handed_over a (Saying p i l)))
  handed_given (Hearing p bs r) ks some = sym (join_none (handed_over a (Hearing p bs r)))
  handed_given (Keeping more place taken page) [] some = sym (join_none (handed_over a (Keeping more place taken page)))
  handed_given (Keeping more place taken page) (k ∷ ks) some =
      handed_turn a (Keeping more place taken page) [] (k ∷ []) (not_astray more place (taken ++ page ∷ []) k)
      (inr (refl, k, refl, more, place, taken, page, refl, some))
  handed_given (Over place taken end) ks some = sym (join_none (handed_over a (Over place taken end)))
  handed_given Astray ks some = refl

  handed_item : (g : AttemptState) (i : TalkItem) → attempt_step a g i ≢ Astray → handed_over a (attempt_step a g i) ≡ handed_over a g
  handed_item (Saying p j l) i ne =
      ap (handed_over a) (sym (rest_same a (attempt_step a (Saying p j l) i)))
      ∙ handed_items a (Saying p j l) (i ∷ []) (λ z. ne (sym (rest_same a (attempt_step a (Saying p j l) i)) ∙ z))
  handed_item (Hearing p bs r) i ne =
      ap (handed_over a) (sym (rest_same a (attempt_step a (Hearing p bs r) i)))
      ∙ handed_items a (Hearing p bs r) (i ∷ []) (λ z. ne (sym (rest_same a (attempt_step a (Hearing p bs r) i)) ∙ z))
  handed_item (Keeping more place taken page) i ne = absurd (ne refl)
  handed_item (Over place taken end) i ne = absurd (ne refl)
  handed_item Astray i ne = refl

  -- at its end a pump has handed over the batches of all pages that it took
  pub handed_all : (talk : List TalkItem) (s : AttemptState) (ks : List Stored) (place : ℕ) (taken : List (List ℕ)) (end : PumpEnd)
      → HasRecords a s → pump_from a s talk ks ≡ Over place taken end
      → answered_batches (pump_answer end) (batches a place taken) ≡ join (handed_over a s) (gives_all a s talk ks)
  handed_all [] s ks place taken end some e =
      ap (handed_over a) (sym (over_by (ungiven s ks) (answer_taken a s ks) place taken end e).1) ∙ handed_given s ks some
  handed_all (i ∷ talk) s ks place taken end some e =
      let g = answer_taken a s ks in
      let n = attempt_step a g i in
      let ne : n ≢ Astray = λ z. no_astray a talk (ungiven s ks) place taken end
      (ap (λ (x : AttemptState). pump_from a x talk (ungiven s ks)) (sym z) ∙ e) in
      handed_all talk n (ungiven s ks) place taken end (some_step g i) e
      ∙ ap (λ (x : Handed). join x (gives_all a n talk (ungiven s ks))) (handed_item g i ne ∙ handed_given s ks some)
      ∙ join_assoc (handed_over a s) (gives a s ks) (gives_all a n talk (ungiven s ks))
