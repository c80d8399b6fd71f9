-- From wherever a pump stands, silence brings it to the end, and no page more.
use Rattle.std.proofs.Common.{◌≡◌, ◌≢◌, ℕ, zero, suc, ◌+◌, ◌-◌, ◌<◌, Bool, true, false, List, [], ◌∷◌, ◌++◌, length, refl, sym, ◌∙◌, ap, subst, inl, inr, arith, append-nil, Option}
use Rattle.std.specs.Prelude.{bytes_eq}
use Rattle.station_base.specs.CivilMinute.{CivilMinute}
use Rattle.serial_link.specs.Talk.{message}
use Rattle.serial_link.specs.declared.talk.TalkItem.{TalkItem}
use Rattle.wake_retry.specs.Parts.{heard, ends_awake}
use Rattle.wake_retry.proofs.ListeningSoFar.{silence}
use Rattle.causes.specs.declared.stored.Stored.{Stored}
use Rattle.causes.specs.declared.stored.Stored.TheVariants as stored
use Rattle.vantage_frames.specs.Slots.{page_size}
use Rattle.dmpaft_pump.specs.declared.outcome.Trouble.{Trouble}
use Rattle.dmpaft_pump.specs.declared.outcome.Trouble.TheVariants.{ShortHeader}
use Rattle.dmpaft_pump.specs.declared.pump_end.PumpEnd.{PumpEnd}
use Rattle.dmpaft_pump.specs.declared.pump_end.PumpEnd.TheVariants as pump_end
use Rattle.dmpaft_driver.specs.Attempt.{End}
use Rattle.dmpaft_driver.specs.Exact.{AllDone, attempt_end}
use Rattle.dmpaft_pump.specs.Page.{is_page_for, is_ahead, next_said}
use Rattle.dmpaft_pump.specs.Pump.{AttemptPart, Settling, Waking, Calling, Heading, Asking, Resettling, Acking, GivingUp, AttemptState, Saying, Hearing, Keeping, Over, Astray, words, quiets, most, next_after_part, woken, called, headed, asked_again, page_judged, onward, words_said, saying, begun, state_at, pump_from}
use Rattle.dmpaft_pump.specs.Reply.{Reply}
use Rattle.dmpaft_driver.specs.Standing.{place_of_part, taken_in, HasTaken}
use Rattle.dmpaft_driver.proofs.Exactly.{kept_done, told_is, some_quiets}
use Rattle.dmpaft_pump.proofs.Hears.{HearsFrom}
use Rattle.dmpaft_pump.proofs.PageJudgements.{no_page, not_whole}
use Rattle.dmpaft_pump.proofs.Replies.{no_header_is}
use Rattle.dmpaft_driver.proofs.Rest.{Listens}
use Rattle.dmpaft_pump.proofs.PumpSteps.{said_in, heard_in}
use Rattle.dmpaft_pump.specs.Pump.{most_askings}

-- a part hears a message's rest, or hears and is not at its end
abbrev pub Fine : AttemptState → Type 0
Fine (Saying p i l) = (bytes : List ℕ) × (i ∷ l ≡ message bytes)
Fine (Hearing p bs r) = Listens p × (r < quiets p) × (length bs < most p)
Fine (Keeping more at taken page) = Unit {0}
Fine (Over at taken end) = Unit {0}
Fine Astray = ⊥

-- it was not refused
abbrev pub Mild : AttemptState → Type 0
Mild (Saying p i l) = Unit {0}
Mild (Hearing p bs r) = Unit {0}
Mild (Keeping more at taken page) = Unit {0}
Mild (Over at taken end) = attempt_end end ≢ End.Refused
Mild Astray = Unit {0}

silent : (n : ℕ) → heard (silence n) ≡ []
silent zero = refl
silent (suc n) = silent n

quiet_hears : (q m r k n : ℕ) → r + suc n ≡ q → HearsFrom q m r k (silence (suc n)) false
quiet_hears q m r k zero e = inl (e, refl, refl)
quiet_hears q m r k (suc n) e = inr (omega (arith, e), quiet_hears q m (r + 1) k n (omega (arith, e)))

module _ (a : Option CivilMinute) where
  abbrev pub Finishes : AttemptState → ℕ → List (List ℕ) → Type 0
  Finishes s place taken = (rest : List TalkItem) × (ks : List Stored) × (end : PumpEnd) × (pump_from a s rest ks ≡ Over place taken end) × AllDone ks × (attempt_end end ≢ End.Refused)

  over : (place : ℕ) (taken : List (List ℕ)) (end : PumpEnd) → attempt_end end ≢ End.Refused → Finishes (Over place taken end) place taken
  over place taken end mild = ([], [], end, refl, tt, mild)

  pub by_words : (p : AttemptPart) (place : ℕ) (taken : List (List ℕ)) (bytes : List ℕ) → Finishes (words_said p) place taken → Finishes (saying p (message bytes)) place taken
  by_words p place taken bytes f = (message bytes ++ f.0, f.1, f.2, said_in a p bytes f.0 f.1 ∙ f.3, f.4, f.5)

  by_silence : (p : AttemptPart) (bs : List ℕ) (r : ℕ) (place : ℕ) (taken : List (List ℕ)) → r < quiets p → Finishes (state_at a (next_after_part a p false bs)) place taken → Finishes (Hearing p bs r) place taken
  by_silence p bs r place taken few f =
      let n = quiets p - r - 1 in
      let h = quiet_hears (quiets p) (most p) r (length bs) n (omega (arith, few)) in (
        silence (suc n) ++ f.0,
        f.1,
        f.2,
        heard_in a p bs r (silence (suc n)) f.0 false f.1 h
            ∙ ap (λ (x : List ℕ). pump_from a (state_at a (next_after_part a p false (bs ++ x))) f.0 f.1) (silent (suc n)) ∙ ap (λ (x : List ℕ). pump_from a (state_at a (next_after_part a p false x)) f.0 f.1) (append-nil bs) ∙ f.3,
        f.4,
        f.5,
      )

  by_part : (p : AttemptPart) → Listens p → (place : ℕ) (taken : List (List ℕ)) → Finishes (state_at a (next_after_part a p false [])) place taken → Finishes (begun a p) place taken
  by_part p is place taken f =
      by_words p place taken (words a p) (subst (λ (s : AttemptState). Finishes s place taken) (sym (told_is p is)) (by_silence p [] 0 place taken (some_quiets p) f))

  giving : (place : ℕ) (taken : List (List ℕ)) (trouble : Trouble) → Finishes (begun a (GivingUp place taken trouble)) place taken
  giving place taken trouble = by_words (GivingUp place taken trouble) place taken (27 ∷ []) (over place taken (pump_end.Failed trouble) (λ z. cc))

  acking : (place : ℕ) (taken : List (List ℕ)) → Finishes (begun a (Acking place taken)) place taken
  acking place taken = by_words (Acking place taken) place taken (6 ∷ []) (over place taken pump_end.Whole (λ z. cc))

  module _ (more place : ℕ) (taken : List (List ℕ)) where
    unjudged : (left : ℕ) (bs : List ℕ) → length bs < page_size → Finishes (state_at a (asked_again more place taken left (next_said (length taken) bs))) place taken
        → Finishes (state_at a (page_judged a more place taken left bs (is_page_for (length taken) bs) (is_ahead (length taken) bs))) place taken
    unjudged left bs less f =
        let j = no_page (length taken) bs (not_whole bs less) in
        subst (λ (x : Bool). Finishes (state_at a (page_judged a more place taken left bs x (is_ahead (length taken) bs))) place taken) (sym j.0)
        (subst (λ (x : Bool). Finishes (state_at a (page_judged a more place taken left bs false x)) place taken) (sym j.1) f)

    mutual_asking : (left b : ℕ) (bs : List ℕ) → length bs < page_size → Finishes (state_at a (next_after_part a (Asking more place taken left b) false bs)) place taken
    mutual_asking zero b bs less = unjudged 0 bs less (giving place taken _)
    mutual_asking (suc left) b bs less =
        let c = next_said (length taken) bs in
        unjudged (suc left) bs less (by_part (Resettling more place taken left c) tt place taken (by_part (Asking more place taken left c) tt place taken (mutual_asking left c [] (omega arith))))

    asking : (left b : ℕ) → Finishes (begun a (Asking more place taken left b)) place taken
    asking left b = by_part (Asking more place taken left b) tt place taken (mutual_asking left b [] (omega arith))

  heading_from : (bs : List ℕ) → length bs < 7 → Finishes (state_at a (next_after_part a Heading false bs)) 0 []
  heading_from bs less = subst (λ (y : Reply). Finishes (state_at a (headed y)) 0 []) (sym (no_header_is bs (ShortHeader (length bs)) (refl, less))) (giving 0 [] (ShortHeader (length bs)))

  heading : Finishes (begun a Heading) 0 []
  heading = by_part Heading tt 0 [] (heading_from [] (omega arith))

  called_from : (bs : List ℕ) (b : Bool) → Finishes (state_at a (called bs b)) 0 []
  called_from bs true = heading
  called_from bs false = giving 0 [] _

  calling : Finishes (begun a Calling) 0 []
  calling = by_part Calling tt 0 [] (called_from [] (bytes_eq [] (6 ∷ [])))

  woken_from : (left : ℕ) (b : Bool) → Finishes (state_at a (woken left b)) 0 []
  woken_from left true = calling
  woken_from zero false = giving 0 [] _
  woken_from (suc left) false = by_part (Waking left) tt 0 [] (woken_from left (ends_awake []))

  waking : (left : ℕ) → Finishes (begun a (Waking left)) 0 []
  waking left = by_part (Waking left) tt 0 [] (woken_from left (ends_awake []))

  from_hearing : (p : AttemptPart) (bs : List ℕ) → Listens p → length bs < most p → Finishes (state_at a (next_after_part a p false bs)) (place_of_part p) (taken_in p)
  from_hearing Settling bs is less = waking 2
  from_hearing (Waking left) bs is less = woken_from left (ends_awake bs)
  from_hearing Calling bs is less = called_from bs (bytes_eq bs (6 ∷ []))
  from_hearing Heading bs is less = heading_from bs less
  from_hearing (Asking more place taken left b) bs is less = mutual_asking more place taken left b bs less
  from_hearing (Resettling more place taken left b) bs is less = asking more place taken left b
  from_hearing (Acking place taken) bs none less = absurd none
  from_hearing (GivingUp place taken trouble) bs none less = absurd none

  pub from_told : (p : AttemptPart) → Finishes (words_said p) (place_of_part p) (taken_in p)
  from_told Settling = by_silence Settling [] 0 0 [] (omega arith) (from_hearing Settling [] tt (omega arith))
  from_told (Waking left) = by_silence (Waking left) [] 0 0 [] (omega arith) (from_hearing (Waking left) [] tt (omega arith))
  from_told Calling = by_silence Calling [] 0 0 [] (omega arith) (from_hearing Calling [] tt (omega arith))
  from_told Heading = by_silence Heading [] 0 0 [] (omega arith) (from_hearing Heading [] tt (omega arith))
  from_told (Asking more place taken left b) = by_silence (Asking more place taken left b) [] 0 place taken (omega arith) (from_hearing (Asking more place taken left b) [] tt (omega arith))
  from_told (Resettling more place taken left b) = by_silence (Resettling more place taken left b) [] 0 place taken (omega arith) (from_hearing (Resettling more place taken left b) [] tt (omega arith))
  from_told (Acking place taken) = over place taken pump_end.Whole (λ z. cc)
  from_told (GivingUp place taken trouble) = over place taken (pump_end.Failed trouble) (λ z. cc)

  from_onward : (more place : ℕ) (taken : List (List ℕ)) → Finishes (begun a (onward more place taken)) place taken
  from_onward zero place taken = acking place taken
  from_onward (suc more) place taken = asking more place taken (most_askings - 1) 6

  pub finishes : (s : AttemptState) → Fine s → Mild s → (place : ℕ) (taken : List (List ℕ)) → HasTaken s place taken → Finishes s place taken
  finishes (Saying p i l) fine mild place taken h =
      let f = by_words p (place_of_part p) (taken_in p) fine.0 (from_told p) in
      subst (λ (y : List (List ℕ)). Finishes (Saying p i l) place y) (sym h.1) (subst (λ n. Finishes (Saying p i l) n (taken_in p)) (sym h.0) (subst (λ (y : List TalkItem). Finishes (saying p y) (place_of_part p) (taken_in p)) (sym fine.1) f))
  finishes (Hearing p bs r) fine mild place taken h =
      subst (λ (y : List (List ℕ)). Finishes (Hearing p bs r) place y) (sym h.1) (subst (λ n. Finishes (Hearing p bs r) n (taken_in p)) (sym h.0) (by_silence p bs r (place_of_part p) (taken_in p) fine.1 (from_hearing p bs fine.0 fine.2)))
  finishes (Keeping more at pages page) fine mild place taken h =
      let f = from_onward more at (pages ++ page ∷ []) in
      subst (λ (y : List (List ℕ)). Finishes (Keeping more at pages page) place y) (sym h.1) (subst (λ n. Finishes (Keeping more at pages page) n (pages ++ page ∷ [])) (sym h.0)
      (f.0, stored.Done ∷ f.1, f.2, kept_done a more at pages page f.0 f.1 ∙ f.3, (refl, f.4), f.5))
  finishes (Over at pages end) fine mild place taken h =
      subst (λ (y : List (List ℕ)). Finishes (Over at pages end) place y) (sym h.1) (subst (λ n. Finishes (Over at pages end) n pages) (sym h.0) (over at pages end mild))
  finishes Astray fine mild place taken h = absurd fine
