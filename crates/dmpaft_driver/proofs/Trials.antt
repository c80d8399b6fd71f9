-- A trial, step by step.
use Rattle.std.proofs.Common.{◌≡◌, ◌≢◌, ℕ, ◌+◌, ◌<◌, Bool, true, false, List, [], ◌∷◌, ◌++◌, length, length-append, drop, refl, sym, ◌∙◌, ap, subst, arith, append_assoc, append-nil, Option}
use Rattle.std.specs.Prelude.{◌==◌}
use Rattle.station_base.specs.CivilMinute.{CivilMinute}
use Rattle.causes.specs.declared.stored.Stored.{Stored}
use Rattle.causes.specs.declared.stored.Stored.TheVariants as stored
use Rattle.vantage_frames.specs.StampFrame.{stamp_frame_of}
use Rattle.serial_link.specs.Talk.{message}
use Rattle.serial_link.specs.declared.talk.TalkItem.{TalkItem}
use Rattle.serial_link.specs.declared.talk.TalkItem.TheVariants.{Said, Heard, Quiet}
use Rattle.dmpaft_pump.specs.declared.outcome.Tally.{Tally}
use Rattle.dmpaft_pump.specs.declared.pump.Pump.{Pump}
use Rattle.dmpaft_pump.specs.declared.pump_end.PumpEnd.{PumpEnd}
use Rattle.dmpaft_pump.specs.declared.stage.Stage.{Stage}
use Rattle.dmpaft_pump.specs.declared.stage.Stage.TheVariants as stage
use Rattle.dmpaft_driver.specs.declared.trying.TrialEnd.{TrialEnd}
use Rattle.dmpaft_driver.specs.declared.trying.TrialEnd.TheVariants as trial_end
use Rattle.dmpaft_driver.specs.Attempt.{Attempt}
use Rattle.dmpaft_driver.specs.Exact.{AllDone, attempt_end}
use Rattle.dmpaft_pump.specs.Pump.{AttemptPart, Settling, Next, Goes, Keeps, Empty, Floods, AttemptState, Saying, Hearing, Keeping, Over, Astray, words, quiets, most, next_after_part, onward, saying, begun, state_at, answer_taken, attempt_step, is_said, said_if, heard_if, waited_if, pump_from, pump_after}
use Rattle.dmpaft_pump.specs.Shown.{PumpShows, ShowsAt, room_of, room_at}
use Rattle.dmpaft_driver.specs.Standing.{place_of_part, taken_in}
use Rattle.dmpaft_driver.specs.Trial.{AttemptGoesOn, TalkIsTried}
use Rattle.dmpaft_driver.specs.Trying.{is_last, Differs, SpellsMessage, MightEnd, TrialStopsAt, later}
use Rattle.dmpaft_driver.proofs.CutTurns.{mild_saying, fine_shown}
use Rattle.dmpaft_driver.proofs.DumpTurns.{goes_on}
use Rattle.dmpaft_driver.proofs.Exactly.{sound}
use Rattle.dmpaft_driver.proofs.SilentEnds.{Fine, Mild, finishes}
use Rattle.dmpaft_driver.proofs.JoinedTalks.{said_front}
use Rattle.dmpaft_pump.proofs.PageJudgements.{not_equal}
use Rattle.dmpaft_pump.proofs.Steps.{rest_same}
use Rattle.dmpaft_driver.proofs.Stuck.{stuck}
use Rattle.dmpaft_pump.proofs.PumpSteps.{said_is, no_astray, astray_stays}

message_cons : (b : ℕ) (bs : List ℕ) → message (b ∷ bs) ≡ Said b (is_last bs) ∷ message bs
message_cons b [] = refl
message_cons b (c ∷ bs) = refl

-- no item yet
pub spells_none : (words : List ℕ) (items : List TalkItem) → SpellsMessage words items 0 words items
spells_none words items = record { said = []; items_are = refl; message_is = refl; counted = refl; sized = omega arith }

-- one item more
pub spells_more : (words : List ℕ) (items : List TalkItem) (n b : ℕ) (bs : List ℕ) (i : TalkItem) (rest : List TalkItem) → SpellsMessage words items n (b ∷ bs) (i ∷ rest) → is_said (Said b (is_last bs)) i ≡ true
    → SpellsMessage words items (n + 1) bs rest
spells_more words items n b bs i rest h e = record {
  said = h.said ++ i ∷ [];
  items_are = h.items_are ∙ sym (append_assoc h.said (i ∷ []) rest);
  message_is = h.message_is ∙ ap (λ (x : List TalkItem). h.said ++ x) (message_cons b bs) ∙ ap (λ (x : TalkItem). h.said ++ x ∷ message bs) (sym (said_is (Said b (is_last bs)) i e)) ∙ sym (append_assoc h.said (i ∷ []) (message bs));
  counted = omega (arith, h.counted, length-append h.said (i ∷ []));
  sized = omega (arith, h.sized);
}

module _ (a : Option CivilMinute) where
  -- an attempt might still end from each place where one may stand
  pub might_end : (s : AttemptState) → Fine s → (rest : List TalkItem) × MightEnd a s rest
  might_end (Saying p i l) fine =
      let f = finishes a (Saying p i l) fine tt (place_of_part p) (taken_in p) (refl, refl) in
      (f.0, record { answers = f.1; place = place_of_part p; taken = taken_in p; end = f.2; is_over = f.3; kept = f.4 })
  might_end (Hearing p bs r) fine =
      let f = finishes a (Hearing p bs r) fine tt (place_of_part p) (taken_in p) (refl, refl) in
      (f.0, record { answers = f.1; place = place_of_part p; taken = taken_in p; end = f.2; is_over = f.3; kept = f.4 })
  might_end (Keeping more at pages page) fine =
      let f = finishes a (Keeping more at pages page) fine tt at (pages ++ page ∷ []) (refl, refl) in
      (f.0, record { answers = f.1; place = at; taken = pages ++ page ∷ []; end = f.2; is_over = f.3; kept = f.4 })
  might_end (Over at pages end) fine = ([], record { answers = []; place = at; taken = pages; end = end; is_over = refl; kept = tt })
  might_end Astray fine = absurd fine

  saying_more : (p : AttemptPart) (i : TalkItem) (l : List TalkItem) (ks : List Stored) (place : ℕ) (taken : List (List ℕ)) (end : PumpEnd) → pump_from a (Saying p i l) [] ks ≡ Over place taken end → ⊥
  saying_more p i l [] place taken end e = cc
  saying_more p i l (k ∷ ks) place taken end e = cc

  hearing_more : (p : AttemptPart) (bs : List ℕ) (r : ℕ) (ks : List Stored) (place : ℕ) (taken : List (List ℕ)) (end : PumpEnd) → pump_from a (Hearing p bs r) [] ks ≡ Over place taken end → ⊥
  hearing_more p bs r [] place taken end e = cc
  hearing_more p bs r (k ∷ ks) place taken end e = cc

  abbrev pub Unended : AttemptState → Type 0
  Unended s = (rest : List TalkItem) × (rest ≢ []) × MightEnd a s rest

  -- what is to be said, or heard, goes on
  saying_goes : (p : AttemptPart) (i : TalkItem) (l : List TalkItem) → Fine (Saying p i l) → Unended (Saying p i l)
  saying_goes p i l fine =
      let (rest, may) = might_end (Saying p i l) fine in
      (rest, (λ none. saying_more p i l may.answers may.place may.taken may.end (ap (λ (y : List TalkItem). pump_from a (Saying p i l) y may.answers) (sym none) ∙ may.is_over)), may)

  hearing_goes : (p : AttemptPart) (bs : List ℕ) (r : ℕ) → Fine (Hearing p bs r) → Unended (Hearing p bs r)
  hearing_goes p bs r fine =
      let (rest, may) = might_end (Hearing p bs r) fine in
      (rest, (λ none. hearing_more p bs r may.answers may.place may.taken may.end (ap (λ (y : List TalkItem). pump_from a (Hearing p bs r) y may.answers) (sym none) ∙ may.is_over)), may)

  message_goes : (p : AttemptPart) (left : List ℕ) → left ≢ [] → Unended (saying p (message left))
  message_goes p [] some = absurd (some refl)
  message_goes p (b ∷ []) some = saying_goes p (Said b true) [] (b ∷ [], refl)
  message_goes p (b ∷ c ∷ bs) some = saying_goes p (Said b false) (message (c ∷ bs)) (b ∷ c ∷ bs, refl)

  message_none : (left : List ℕ) → message left ≡ [] → left ≡ []
  message_none [] e = refl
  message_none (b ∷ []) e = cc
  message_none (b ∷ c ∷ bs) e = cc

  -- a message that is not said to its end
  pub cut_message : (s : AttemptState) (p : AttemptPart) (bytes : List ℕ) (t : List TalkItem) (left : List ℕ) → s ≡ begun a p → bytes ≡ words a p → message bytes ≡ t ++ message left → left ≢ [] → Unended (pump_from a s t [])
  cut_message s p bytes t left is w e some =
      let f = said_front a p (words a p) t (message left) (sym e ∙ ap message w) in
      let k : pump_from a s t [] ≡ saying p (message f.0) = ap (λ (x : AttemptState). pump_from a x t []) is ∙ f.2 in
      subst (λ (x : AttemptState). Unended x) (sym k) (message_goes p f.0 (λ none. some (message_none left (f.1 ∙ ap message none))))

  stuck_message : (p : AttemptPart) (b : ℕ) (bs : List ℕ) (i : TalkItem) (more : List Stored) → is_said (Said b (is_last bs)) i ≡ false → attempt_step a (answer_taken a (saying p (message (b ∷ bs))) more) i ≡ Astray
  stuck_message p b [] i more e = ap (λ (x : Bool). said_if p [] x) e
  stuck_message p b (c ∷ bs) i more e = ap (λ (x : Bool). said_if p (message (c ∷ bs)) x) e

  -- and the next item is none of it
  pub wrong_item : (s : AttemptState) (p : AttemptPart) (bytes : List ℕ) (t : List TalkItem) (b : ℕ) (bs : List ℕ) (i : TalkItem) → s ≡ begun a p → bytes ≡ words a p → message bytes ≡ t ++ message (b ∷ bs) → is_said (Said b (is_last bs)) i ≡ false
      → (more : List Stored) → attempt_step a (answer_taken a (pump_from a s t []) more) i ≡ Astray
  wrong_item s p bytes t b bs i is w e differs more =
      let f = said_front a p (words a p) t (message (b ∷ bs)) (sym e ∙ ap message w) in
      let k : pump_from a s t [] ≡ saying p (message (b ∷ bs)) = ap (λ (x : AttemptState). pump_from a x t []) is ∙ f.2 ∙ ap (λ (y : List TalkItem). saying p y) (sym f.1) in
      ap (λ (x : AttemptState). attempt_step a (answer_taken a x more) i) k ∙ stuck_message p b bs i more differs

  Hears : AttemptState → Type 0
  Hears s = (p : AttemptPart) × (bs : List ℕ) × (r : ℕ) × (s ≡ Hearing p bs r)

  hears_at : (st : Stage) (count : ℕ) (start : Tally) (s : AttemptState) (pump : Pump) → ShowsAt st start a s pump → 0 < room_at st count → Hears s
  unfolding Hears
  hears_at (stage.Saying q) count start s pump h l = absurd (omega (arith, l))
  hears_at (stage.Hearing q) count start s pump h l = (_, h.bytes, _, h.is)
  hears_at (stage.Keeping more) count start s pump h l = absurd (omega (arith, l))
  hears_at (stage.Ended end) count start s pump h l = absurd (omega (arith, l))

  -- a pump that listens might hear more
  pub hears_more : (start : Tally) (s : AttemptState) (pump : Pump) → PumpShows start a s pump → 0 < room_of pump → Unended (pump_from a s [] [])
  unfolding Hears
  hears_more start s pump h l =
      let x = hears_at pump.stage pump.count start s pump h l in
      subst (λ (y : AttemptState). Unended y) (sym (rest_same a s)) (subst (λ (y : AttemptState). Unended y) (sym x.3) (hearing_goes x.0 x.1 x.2 (subst Fine x.3 (fine_shown start a s pump h))))

  -- and takes nothing that is said
  pub hears_nothing_said : (start : Tally) (s : AttemptState) (pump : Pump) → PumpShows start a s pump → 0 < room_of pump → (b : ℕ) (ends : Bool) (more : List Stored) → attempt_step a (answer_taken a (pump_from a s [] []) more) (Said b ends) ≡ Astray
  unfolding Hears
  hears_nothing_said start s pump h l b ends more =
      let x = hears_at pump.stage pump.count start s pump h l in
      ap (λ (y : AttemptState). attempt_step a (answer_taken a y more) (Said b ends)) (rest_same a s ∙ x.3)

  mild_next : (x : Next) → Mild (state_at a x)
  mild_next (Goes p) = mild_saying p (message (words a p))
  mild_next (Keeps more at taken page) = tt
  mild_next (Empty place) = λ z. cc
  mild_next (Floods place taken) = λ z. cc

  mild_item : (s : AttemptState) (x : TalkItem) → Mild (attempt_step a s x)
  mild_item (Saying p i l) x = go (is_said i x)
    where
      go : (b : Bool) → Mild (said_if p l b)
      go true = mild_saying p l
      go false = tt
  mild_item (Hearing p bs r) (Said b ends) = tt
  mild_item (Hearing p bs r) (Heard b) = go (length (bs ++ b ∷ []) == most p)
    where
      go : (y : Bool) → Mild (heard_if a p (bs ++ b ∷ []) y)
      go true = mild_next (next_after_part a p true (bs ++ b ∷ []))
      go false = tt
  mild_item (Hearing p bs r) Quiet = go (r + 1 == quiets p)
    where
      go : (y : Bool) → Mild (waited_if a p bs (r + 1) y)
      go true = mild_next (next_after_part a p false bs)
      go false = tt
  mild_item (Keeping more at taken page) x = tt
  mild_item (Over at taken end) x = tt
  mild_item Astray x = tt

  -- a pump whose batches were all kept is not refused
  pub mild_runs : (s : AttemptState) (t : List TalkItem) (ks : List Stored) → Mild s → AllDone ks → Mild (pump_from a s t ks)
  mild_runs (Saying p i l) [] [] m d = tt
  mild_runs (Saying p i l) [] (k ∷ ks) m d = tt
  mild_runs (Saying p i l) (x ∷ t) ks m d = mild_runs (attempt_step a (Saying p i l) x) t ks (mild_item (Saying p i l) x) d
  mild_runs (Hearing p bs r) [] [] m d = tt
  mild_runs (Hearing p bs r) [] (k ∷ ks) m d = tt
  mild_runs (Hearing p bs r) (x ∷ t) ks m d = mild_runs (attempt_step a (Hearing p bs r) x) t ks (mild_item (Hearing p bs r) x) d
  mild_runs (Keeping more at taken page) [] [] m d = tt
  mild_runs (Keeping more at taken page) (x ∷ t) [] m d = mild_runs Astray t [] tt tt
  mild_runs (Keeping more at taken page) [] (k ∷ j ∷ ks) m d = tt
  mild_runs (Keeping more at taken page) [] (stored.Done ∷ []) m d = mild_saying (onward more at (taken ++ page ∷ [])) (message (words a (onward more at (taken ++ page ∷ []))))
  mild_runs (Keeping more at taken page) [] (stored.Full ∷ []) m d = let z = d.0 in cc
  mild_runs (Keeping more at taken page) [] (stored.Stale ∷ []) m d = let z = d.0 in cc
  mild_runs (Keeping more at taken page) [] (stored.DiskFault ∷ []) m d = let z = d.0 in cc
  mild_runs (Keeping more at taken page) (x ∷ t) (k ∷ ks) m d =
      mild_runs (attempt_step a (answer_taken a (Keeping more at taken page) (k ∷ ks)) x) t ks (mild_item (answer_taken a (Keeping more at taken page) (k ∷ ks)) x) d.1
  mild_runs (Over at taken end) [] [] m d = m
  mild_runs (Over at taken end) [] (k ∷ ks) m d = tt
  mild_runs (Over at taken end) (x ∷ t) ks m d = mild_runs Astray t ks tt d
  mild_runs Astray t ks m d = subst Mild (sym (astray_stays a t ks)) tt

  pub all_done : (ks js : List Stored) → AllDone ks → AllDone js → AllDone (ks ++ js)
  all_done [] js d e = e
  all_done (k ∷ ks) js d e = (d.0, all_done ks js d.1 e)

  no_end : (s : AttemptState) (rest : List TalkItem) → MightEnd a s rest → s ≢ Astray
  no_end s rest m e = no_astray a rest m.answers m.place m.taken m.end (ap (λ (y : AttemptState). pump_from a y rest m.answers) (sym e) ∙ m.is_over)

  -- a talk goes on where its pump might end
  goes : (t rest : List TalkItem) (ks : List Stored) → AllDone ks → MightEnd a (pump_after a t ks) rest → AttemptGoesOn a t rest
  goes t rest ks d m =
      let over : pump_after a (t ++ rest) (ks ++ m.answers) ≡ Over m.place m.taken m.end = goes_on a t rest ks m.answers (pump_after a t ks) refl (no_end (pump_after a t ks) rest m) ∙ m.is_over in
      record {
        place = m.place;
        taken = m.taken;
        end = attempt_end m.end;
        whole = sound a (t ++ rest) (ks ++ m.answers) m.place m.taken m.end over;
        kept = subst Mild over (mild_runs (begun a Settling) (t ++ rest) (ks ++ m.answers) tt (all_done ks m.answers d m.kept));
      }

  module _ (talk t u : List TalkItem) (ks : List Stored) (s : AttemptState) (is : talk ≡ t ++ u) (at : pump_after a t ks ≡ s) (d : AllDone ks) (ne : s ≢ Astray) where
    -- from where the items before were taken on
    from : (v : List TalkItem) → pump_after a (t ++ v) (ks ++ []) ≡ pump_from a s v []
    from v = goes_on a t v ks [] s at ne

    goes_by : (v rest : List TalkItem) → MightEnd a (pump_from a s v []) rest → AttemptGoesOn a (t ++ v) rest
    goes_by v rest m = goes (t ++ v) rest (ks ++ []) (all_done ks [] d tt) (subst (λ (y : AttemptState). MightEnd a y rest) (sym (from v)) m)

    -- what stops a step ends the trial
    pub tried : (e : TrialEnd) → TrialStopsAt a s u e → TalkIsTried a talk (later (length t) e)
    tried (trial_end.Attempt end) (none, place, taken, over) =
        let all : talk ≡ t = is ∙ ap (λ (y : List TalkItem). t ++ y) none ∙ append-nil t in
        let whole : pump_after a talk ks ≡ Over place taken end = ap (λ (y : List TalkItem). pump_after a y ks) all ∙ at ∙ over in
        (place, taken, sound a talk ks place taken end whole, subst Mild whole (mild_runs (begun a Settling) talk ks tt d))
    tried trial_end.Unfinished (rest, some, m) = (rest, some, subst (λ (y : List TalkItem). AttemptGoesOn a y rest) (sym is) (goes_by u rest m))
    tried (trial_end.Not count) m =
        let v = m.front in
        let i = m.next in (
          t ++ v,
          i,
          m.rest,
          is ∙ ap (λ (y : List TalkItem). t ++ y) m.items_are ∙ sym (append_assoc t v (i ∷ m.rest)),
          omega (arith, length-append t v, m.counted),
          (m.other, goes_by v m.other m.might_end),
          λ b.
              stuck a (t ++ v) (ks ++ []) (pump_from a s v []) i (from v) (all_done ks [] d tt) (no_end (pump_from a s v []) m.other m.might_end) m.astray b.0 b.1.place b.1.taken b.1.end b.1.kept
              (subst (λ (y : List TalkItem). Attempt (stamp_frame_of a) y b.1.place b.1.taken b.1.end) (append_assoc (t ++ v) (i ∷ []) b.0) b.1.whole),
        )

    -- a step goes on
    pub tries_on : (v : List TalkItem) (js : List Stored) → AllDone js → (pump_after a (t ++ v) (ks ++ js) ≡ pump_from a s v js) × AllDone (ks ++ js)
    tries_on v js e = (goes_on a t v ks js s at ne, all_done ks js d e)

pub drop_front : (t u : List TalkItem) → drop (length t) (t ++ u) ≡ u
drop_front [] u = refl
drop_front (x ∷ t) u = drop_front t u

pub next_in : (p : TalkItem) (l : List TalkItem) → l ≡ p ∷ [] → l ≢ []
next_in p l e none = let z : p ∷ [] ≡ [] = sym e ∙ none in cc

pub count_below : (a : Option CivilMinute) (s : AttemptState) (items : List TalkItem) (n : ℕ) → TrialStopsAt a s items (trial_end.Not n) → n < length items
count_below a s items n m = omega (arith, m.counted, ap (λ (y : List TalkItem). length y) m.items_are, length-append m.front (m.next ∷ m.rest))

last_is : (bs : List ℕ) → (length bs == 0) ≡ is_last bs
last_is [] = refl
last_is (b ∷ bs) = not_equal (length (b ∷ bs)) 0 (λ e. absurd (omega (arith, e)))

-- one item more, as it was split off
pub spells_next : (words : List ℕ) (items : List TalkItem) (n : ℕ) (left : List ℕ) (rest : List TalkItem) (b : ℕ) (others : List ℕ) (i : TalkItem) (later : List TalkItem) (ends : Bool) → SpellsMessage words items n left rest → left ≡ b ∷ others → rest ≡ i ∷ later
    → ends ≡ (length others == 0) → true ≡ is_said (Said b ends) i → SpellsMessage words items (n + 1) others later
spells_next words items n left rest b others i later ends h e f last is =
    spells_more words items n b others i later (subst (λ (x : List ℕ). SpellsMessage words items n x (i ∷ later)) e (subst (λ (x : List TalkItem). SpellsMessage words items n left x) f h))
    (ap (λ (x : Bool). is_said (Said b x) i) (sym (last ∙ last_is others)) ∙ sym is)

pub no_items : (items : List TalkItem) → length items ≡ 0 → items ≡ []
no_items [] e = refl
no_items (i ∷ items) e = absurd (omega (arith, e))

nothing_behind : (said rest : List TalkItem) → length said ≡ length (said ++ rest) → rest ≡ []
nothing_behind said [] e = refl
nothing_behind said (i ∷ rest) e = absurd (omega (arith, e, length-append said (i ∷ rest)))

module _ (a : Option CivilMinute) (s : AttemptState) (p : AttemptPart) (bytes : List ℕ) (items : List TalkItem) (n : ℕ) (left : List ℕ) (rest : List TalkItem) (is : s ≡ begun a p) (w : bytes ≡ words a p) (h : SpellsMessage bytes items n left rest) (short : n ≡ length bytes → ⊥) where
  left_some : left ≢ []
  left_some none = short (omega (arith, h.sized, ap (λ (y : List ℕ). length y) none))

  -- the items end within a message
  pub stops_short : n ≡ length items → Unended a (pump_from a s items [])
  stops_short e =
      let none : rest ≡ [] = nothing_behind h.said rest (h.counted ∙ e ∙ ap (λ (y : List TalkItem). length y) h.items_are) in
      let all : h.said ≡ items = sym (h.items_are ∙ ap (λ (y : List TalkItem). h.said ++ y) none ∙ append-nil h.said) in
      subst (λ (y : List TalkItem). Unended a (pump_from a s y [])) all (cut_message a s p bytes h.said left is w h.message_is left_some)

  -- an item is not the one to be said
  pub stops_wrong : (n ≡ length items → ⊥) → Differs left rest → TrialStopsAt a s items (trial_end.Not n)
  stops_wrong more differs = go left rest h.items_are h.message_is left_some differs
    where
      go : (l : List ℕ) (r : List TalkItem) → items ≡ h.said ++ r → message bytes ≡ h.said ++ message l → l ≢ [] → Differs l r → TrialStopsAt a s items (trial_end.Not n)
      go [] r e f some d = absurd (some refl)
      go (b ∷ bs) [] e f some d = absurd (more (sym h.counted ∙ sym (ap (λ (y : List TalkItem). length y) (e ∙ append-nil h.said))))
      go (b ∷ bs) (i ∷ r) e f some d =
          let m = cut_message a s p bytes h.said (b ∷ bs) is w f some in
          record {
            front = h.said;
            next = i;
            rest = r;
            items_are = e;
            counted = h.counted;
            other = m.0;
            might_end = m.2;
            astray = wrong_item a s p bytes h.said b bs i is w f d;
          }

-- after the end no item comes
pub stops_over : (a : Option CivilMinute) (s : AttemptState) (place : ℕ) (taken : List (List ℕ)) (end : PumpEnd) (items : List TalkItem) → s ≡ Over place taken end → (length items == 0) ≡ false → TrialStopsAt a s items (trial_end.Not 0)
stops_over a s place taken end [] is some = cc
stops_over a s place taken end (i ∷ items) is some =
    let k : pump_from a s [] [] ≡ Over place taken end = rest_same a s ∙ is in
    record {
      front = [];
      next = i;
      rest = items;
      items_are = refl;
      counted = refl;
      other = [];
      might_end = record { answers = []; place = place; taken = taken; end = end; is_over = ap (λ (x : AttemptState). pump_from a x [] []) k; kept = tt };
      astray = λ more. ap (λ (x : AttemptState). attempt_step a (answer_taken a x more) i) k;
    }
