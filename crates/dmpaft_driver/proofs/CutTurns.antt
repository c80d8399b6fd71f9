-- A turn that a link cuts off, and one that hands nothing over.
use Rattle.std.proofs.Common.{◌≡◌, ◌≢◌, ℕ, ◌<◌, true, false, List, [], ◌∷◌, ◌++◌, length, refl, sym, ◌∙◌, ap, subst, inl, inr, arith, append-nil, Option, Some, None}
use Rattle.station_base.specs.CivilMinute.{CivilMinute}
use Rattle.serial_link.specs.Talk.{message}
use Rattle.serial_link.specs.declared.talk.TalkItem.{TalkItem}
use Rattle.dmpaft_pump.specs.declared.outcome.DumpEnd.{DumpEnd}
use Rattle.dmpaft_pump.specs.declared.outcome.Tally.{Tally}
use Rattle.dmpaft_pump.specs.declared.phase.Phase.{Phase}
use Rattle.dmpaft_pump.specs.declared.phase.Phase.TheVariants as phase
use Rattle.dmpaft_pump.specs.declared.stage.Stage.{Stage}
use Rattle.dmpaft_pump.specs.declared.stage.Stage.TheVariants as stage
use Rattle.dmpaft_pump.specs.declared.pump.Pump.{Pump}
use Rattle.dmpaft_pump.specs.Keeper.{Handed, last_kept}
use Rattle.dmpaft_pump.specs.Phases.{part_of_phase, quiets_of, PhaseHears}
use Rattle.dmpaft_pump.specs.Pump.{AttemptPart, Settling, Waking, Calling, Heading, Asking, Resettling, Acking, GivingUp, AttemptState, Saying, Hearing, Keeping, Over, Astray, words, quiets, words_said, saying, begun, pump_from}
use Rattle.dmpaft_pump.specs.Shown.{PumpShows, ShowsAt, said_at, talks_at, room_at}
use Rattle.dmpaft_driver.specs.Standing.{place_of_part, taken_in, HasTaken, AttemptCanEnd, gives}
use Rattle.dmpaft_driver.specs.Turning.{AttemptStays, SaysLast, AttemptTurnsTo, ListensTo}
use Rattle.vantage_frames.specs.StampFrame.{stamp_frame_of}
use Rattle.serial_link.specs.declared.talk.TalkItem.TheVariants.{Said}
use Rattle.dmpaft_pump.specs.declared.pump_end.PumpEnd.{PumpEnd}
use Rattle.dmpaft_pump.specs.Command.{dmpaft}
use Rattle.dmpaft_pump.specs.Ledger.{Ledger}
use Rattle.dmpaft_driver.specs.Outcome.{EndsSaying}
use Rattle.dmpaft_driver.proofs.Exactly.{told_is}
use Rattle.dmpaft_driver.proofs.Rest.{Listens}
use Rattle.dmpaft_pump.proofs.Steps.{most_same, rest_same}
use Rattle.dmpaft_driver.proofs.JoinedTalks.{said_front}
use Rattle.dmpaft_driver.proofs.SilentEnds.{Fine, Mild, finishes}

quiets_same : (place : ℕ) (taken : List (List ℕ)) (q : Phase) → quiets (part_of_phase place taken q) ≡ quiets_of q
quiets_same place taken phase.Settling = refl
quiets_same place taken (phase.Waking left) = refl
quiets_same place taken phase.Calling = refl
quiets_same place taken phase.Heading = refl
quiets_same place taken (phase.Asking more left b) = refl
quiets_same place taken (phase.Resettling more left b) = refl
quiets_same place taken phase.Acking = refl
quiets_same place taken (phase.GivingUp trouble) = refl

pub listens_same : (place : ℕ) (taken : List (List ℕ)) (q : Phase) → PhaseHears q → Listens (part_of_phase place taken q)
listens_same place taken phase.Settling h = tt
listens_same place taken (phase.Waking left) h = tt
listens_same place taken phase.Calling h = tt
listens_same place taken phase.Heading h = tt
listens_same place taken (phase.Asking more left b) h = tt
listens_same place taken (phase.Resettling more left b) h = tt
listens_same place taken phase.Acking h = h
listens_same place taken (phase.GivingUp trouble) h = h

fine_told : (p : AttemptPart) → Fine (words_said p)
fine_told Settling = (tt, omega arith, omega arith)
fine_told (Waking left) = (tt, omega arith, omega arith)
fine_told Calling = (tt, omega arith, omega arith)
fine_told Heading = (tt, omega arith, omega arith)
fine_told (Asking more at taken left b) = (tt, omega arith, omega arith)
fine_told (Resettling more at taken left b) = (tt, omega arith, omega arith)
fine_told (Acking at taken) = tt
fine_told (GivingUp at taken trouble) = tt

pub fine_saying : (p : AttemptPart) (bytes : List ℕ) → Fine (saying p (message bytes))
fine_saying p [] = fine_told p
fine_saying p (b ∷ []) = (b ∷ [], refl)
fine_saying p (b ∷ c ∷ bs) = (b ∷ c ∷ bs, refl)

fine_at : (st : Stage) (start : Tally) (a : Option CivilMinute) (s : AttemptState) (pump : Pump) → ShowsAt st start a s pump → Fine s
fine_at (stage.Saying q) start a s pump h = subst Fine (sym h.is) (fine_saying (part_of_phase h.place h.taken q) (words a (part_of_phase h.place h.taken q)))
fine_at (stage.Hearing q) start a s pump h =
    subst Fine (sym h.is) (listens_same h.place h.taken q h.ready.hears, omega (arith, h.run, quiets_same h.place h.taken q), omega (arith, h.ready.sized, most_same h.place h.taken q))
fine_at (stage.Keeping more) start a s pump h = subst Fine (sym h.is) tt
fine_at (stage.Ended end) start a s pump h = subst Fine (sym h.is) tt

pub mild_told : (p : AttemptPart) → Mild (words_said p)
mild_told Settling = tt
mild_told (Waking left) = tt
mild_told Calling = tt
mild_told Heading = tt
mild_told (Asking more at taken left b) = tt
mild_told (Resettling more at taken left b) = tt
mild_told (Acking at taken) = λ z. cc
mild_told (GivingUp at taken trouble) = λ z. cc

pub mild_saying : (p : AttemptPart) (l : List TalkItem) → Mild (saying p l)
mild_saying p [] = mild_told p
mild_saying p (i ∷ l) = tt

mild_at : (st : Stage) (start : Tally) (a : Option CivilMinute) (s : AttemptState) (pump : Pump) → ShowsAt st start a s pump → talks_at st ≡ true → Mild s
mild_at (stage.Saying q) start a s pump h k = subst Mild (sym h.is) (mild_saying (part_of_phase h.place h.taken q) (message (words a (part_of_phase h.place h.taken q))))
mild_at (stage.Hearing q) start a s pump h k = subst Mild (sym h.is) tt
mild_at (stage.Keeping more) start a s pump h k = cc
mild_at (stage.Ended end) start a s pump h k = cc

pub fine_shown : (start : Tally) (a : Option CivilMinute) (s : AttemptState) (pump : Pump) → PumpShows start a s pump → Fine s
fine_shown start a s pump h = fine_at pump.stage start a s pump h

told_has : (p : AttemptPart) (place : ℕ) (taken : List (List ℕ)) → (place ≡ place_of_part p) × (taken ≡ taken_in p) → HasTaken (words_said p) place taken
told_has Settling place taken h = h
told_has (Waking left) place taken h = h
told_has Calling place taken h = h
told_has Heading place taken h = h
told_has (Asking more at pages left b) place taken h = h
told_has (Resettling more at pages left b) place taken h = h
told_has (Acking at pages) place taken h = h
told_has (GivingUp at pages trouble) place taken h = h

has_told : (p : AttemptPart) (place : ℕ) (taken : List (List ℕ)) → HasTaken (words_said p) place taken → (place ≡ place_of_part p) × (taken ≡ taken_in p)
has_told Settling place taken h = h
has_told (Waking left) place taken h = h
has_told Calling place taken h = h
has_told Heading place taken h = h
has_told (Asking more at pages left b) place taken h = h
has_told (Resettling more at pages left b) place taken h = h
has_told (Acking at pages) place taken h = h
has_told (GivingUp at pages trouble) place taken h = h

pub saying_has : (p : AttemptPart) (l : List TalkItem) (place : ℕ) (taken : List (List ℕ)) → (place ≡ place_of_part p) × (taken ≡ taken_in p) → HasTaken (saying p l) place taken
saying_has p [] place taken h = told_has p place taken h
saying_has p (i ∷ l) place taken h = h

has_saying : (p : AttemptPart) (l : List TalkItem) (place : ℕ) (taken : List (List ℕ)) → HasTaken (saying p l) place taken → (place ≡ place_of_part p) × (taken ≡ taken_in p)
has_saying p [] place taken h = has_told p place taken h
has_saying p (i ∷ l) place taken h = h

saying_not_over : (p : AttemptPart) (l : List TalkItem) (place : ℕ) (taken : List (List ℕ)) (end : PumpEnd) → Listens p → saying p l ≡ Over place taken end → ⊥
saying_not_over p [] place taken end is e = let z : Hearing p [] 0 ≡ Over place taken end = sym (told_is p is) ∙ e in cc
saying_not_over p (i ∷ l) place taken end is e = cc

pub begun_not_over : (a : Option CivilMinute) (p : AttemptPart) (place : ℕ) (taken : List (List ℕ)) (end : PumpEnd) → begun a p ≡ Over place taken end → ⊥
begun_not_over a Settling place taken end e = saying_not_over Settling [] place taken end tt e
begun_not_over a (Waking left) place taken end e = cc
begun_not_over a Calling place taken end e = saying_not_over Calling (message dmpaft) place taken end tt e
begun_not_over a Heading place taken end e = saying_not_over Heading (message (stamp_frame_of a)) place taken end tt e
begun_not_over a (Asking more at pages left b) place taken end e = cc
begun_not_over a (Resettling more at pages left b) place taken end e = saying_not_over (Resettling more at pages left b) [] place taken end tt e
begun_not_over a (Acking at pages) place taken end e = cc
begun_not_over a (GivingUp at pages trouble) place taken end e = cc

-- a message ends
says_message : (bytes : List ℕ) → 0 < length bytes → EndsSaying (message bytes)
says_message [] l = absurd (omega (arith, l))
says_message (b ∷ []) l = ([], b, refl)
says_message (b ∷ c ∷ bs) l = let y = says_message (c ∷ bs) (omega arith) in (Said b false ∷ y.0, y.1, ap (λ (x : List TalkItem). Said b false ∷ x) y.2)

not_over_yet : (p : AttemptPart) (left : List ℕ) (place : ℕ) (taken : List (List ℕ)) (end : PumpEnd) → saying p (message left) ≡ Over place taken end → left ≡ []
not_over_yet p [] place taken end e = refl
not_over_yet p (b ∷ []) place taken end e = cc
not_over_yet p (b ∷ c ∷ bs) place taken end e = cc

-- where the attempt is over by a message, it was said to its end
pub says_saying : (a : Option CivilMinute) (s : AttemptState) (p : AttemptPart) (bytes : List ℕ) (t rest : List TalkItem) → 0 < length bytes → s ≡ begun a p → bytes ≡ words a p → t ++ rest ≡ message bytes → SaysLast a s t
says_saying a s p bytes t rest some is w e = λ place taken end over.
    let f = said_front a p (words a p) t rest (e ∙ ap message w) in
    let k : pump_from a s t [] ≡ saying p (message f.0) = ap (λ (x : AttemptState). pump_from a x t []) is ∙ f.2 in
    let none : f.0 ≡ [] = not_over_yet p f.0 place taken end (sym k ∙ over) in
    let all : t ≡ message bytes = sym (append-nil t) ∙ ap (λ (x : List TalkItem). t ++ x) (sym (f.1 ∙ ap message none)) ∙ e in
    subst EndsSaying (sym all) (says_message bytes some)

stage_not_over : (st : Stage) (start : Tally) (a : Option CivilMinute) (s : AttemptState) (pump : Pump) → ShowsAt st start a s pump → talks_at st ≡ true → (place : ℕ) (taken : List (List ℕ)) (end : PumpEnd) → s ≡ Over place taken end → ⊥
stage_not_over (stage.Saying q) start a s pump h k place taken end e = begun_not_over a (part_of_phase h.place h.taken q) place taken end (sym h.is ∙ e)
stage_not_over (stage.Hearing q) start a s pump h k place taken end e = let z = sym h.is ∙ e in cc
stage_not_over (stage.Keeping more) start a s pump h k place taken end e = cc
stage_not_over (stage.Ended x) start a s pump h k place taken end e = cc

-- the front of a message takes no page
pub stays_saying : (a : Option CivilMinute) (s : AttemptState) (p : AttemptPart) (bytes : List ℕ) (t rest : List TalkItem) → s ≡ begun a p → bytes ≡ words a p → t ++ rest ≡ message bytes → AttemptStays a s t
stays_saying a s p bytes t rest is w e = λ place taken h.
    let f = said_front a p (words a p) t rest (e ∙ ap message w) in
    let k : pump_from a s t [] ≡ saying p (message f.0) = ap (λ (x : AttemptState). pump_from a x t []) is ∙ f.2 in
    let was = has_saying p (message (words a p)) place taken (subst (λ (x : AttemptState). HasTaken x place taken) is h) in
    let now = saying_has p (message f.0) place taken was in
    let ends = finishes a (saying p (message f.0)) (fine_saying p f.0) (mild_saying p (message f.0)) place taken now in
    subst (λ (x : AttemptState). HasTaken x place taken × AttemptCanEnd a x place taken) (sym k) (now, (ends.0, ends.1, ends.2, ends.3, ends.5))

-- nothing takes no page
pub stays_none : (start : Tally) (a : Option CivilMinute) (s : AttemptState) (pump : Pump) (t : List TalkItem) → PumpShows start a s pump → talks_at pump.stage ≡ true → t ≡ [] → AttemptStays a s t
stays_none start a s pump t h k e = λ place taken has.
    let ends = finishes a s (fine_shown start a s pump h) (mild_at pump.stage start a s pump h k) place taken has in
    subst (λ (x : AttemptState). HasTaken x place taken × AttemptCanEnd a x place taken) (sym (ap (λ (y : List TalkItem). pump_from a s y []) e ∙ rest_same a s)) (has, (ends.0, ends.1, ends.2, ends.3, ends.5))

-- nothing ends nothing
says_none : (start : Tally) (a : Option CivilMinute) (s : AttemptState) (pump : Pump) (t : List TalkItem) → PumpShows start a s pump → talks_at pump.stage ≡ true → t ≡ [] → SaysLast a s t
says_none start a s pump t h k e = λ place taken end over.
    absurd (stage_not_over pump.stage start a s pump h k place taken end (sym (rest_same a s) ∙ ap (λ (y : List TalkItem). pump_from a s y []) (sym e) ∙ over))

pub gives_none : (a : Option CivilMinute) (s : AttemptState) → Handed.Nothing ≡ gives a s []
gives_none a (Saying p i l) = refl
gives_none a (Hearing p bs r) = refl
gives_none a (Keeping more at taken page) = refl
gives_none a (Over at taken end) = refl
gives_none a Astray = refl

pub not_keeping_said : (a : Option CivilMinute) (st : Stage) → 0 < length (said_at a st) → talks_at st ≡ true
not_keeping_said a (stage.Saying q) l = refl
not_keeping_said a (stage.Hearing q) l = refl
not_keeping_said a (stage.Keeping more) l = absurd (omega (arith, l))
not_keeping_said a (stage.Ended end) l = absurd (omega (arith, l))

pub not_keeping_heard : (st : Stage) (count : ℕ) → 0 < room_at st count → talks_at st ≡ true
not_keeping_heard (stage.Saying q) count l = refl
not_keeping_heard (stage.Hearing q) count l = refl
not_keeping_heard (stage.Keeping more) count l = absurd (omega (arith, l))
not_keeping_heard (stage.Ended end) count l = absurd (omega (arith, l))

pub listened : (start : Tally) (a : Option CivilMinute) (s : AttemptState) (t : List TalkItem) (pump pump' : Pump) → PumpShows start a s pump → talks_at pump.stage ≡ true
    → (r : Option DumpEnd) → ListensTo r start a s t pump pump' → AttemptTurnsTo r start a s t [] pump pump'
listened start a s t pump pump' h k None x = (x.0, inl (refl, x.1))
listened start a s t pump pump' h k (Some end) x = (x.0, inr (x.1, refl, k, stays_none start a s pump t h k x.2, says_none start a s pump t h k x.2))

module _ {K : Type 0} (ledger : Ledger K) (a : Option CivilMinute) (s : AttemptState) (k : K) where
  pub keeps_same : ledger.keeps k (gives a s []) k
  keeps_same = subst (λ (y : Handed). ledger.keeps k y k) (gives_none a s) (ledger.keeps_none k)

  pub last_same : ledger.last k ≡ last_kept (gives a s []) (ledger.last k)
  last_same = ap (λ (y : Handed). last_kept y (ledger.last k)) (gives_none a s)

pub some_words : (bytes : List ℕ) → 0 < length bytes → bytes ≢ []
some_words bytes l none = absurd (omega (arith, l, ap (λ (y : List ℕ). length y) none))
