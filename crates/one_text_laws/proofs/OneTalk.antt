-- Over one line, and over one archive, an attempt has one talk.
use Rattle.std.proofs.Common.{ℕ, ◌≡◌, ◌≢◌, ◌+◌, ◌==◌, ◌&&◌, ◌⊎◌, Bool, true, false, List, [], ◌∷◌, ◌++◌, length, Option, Some, None, refl, sym, ap, subst, ◌∙◌, arith, if◌then◌else◌, inl, inr}
use Rattle.std.proofs.lemmas.Bool.Decides.{nat_tests}
use Rattle.causes.specs.declared.stored.Stored.{Stored}
use Rattle.causes.specs.declared.stored.Stored.TheVariants as reply
use Rattle.station_base.specs.CivilMinute.{CivilMinute}
use Rattle.serial_link.specs.declared.talk.TalkItem.{TalkItem}
use Rattle.serial_link.specs.declared.talk.TalkItem.TheVariants.{Said, Heard, Quiet}
use Rattle.schedule_file.specs.Fates.{FatesByNumber}
use Rattle.station_sim.specs.declared.part.Part.{Part}
use Rattle.station_sim.specs.declared.part.Part.TheVariants.{Byte, Wait}
use Rattle.station_sim.specs.Joining.{and_then_some}
use Rattle.station_sim.specs.Line.{Line}
use Rattle.station_sim.specs.Talk.{ConsoleTalk, console_talk, hearing, line_step, waiting}
use Rattle.dmpaft_pump.specs.Pump as pump
use Rattle.dmpaft_pump.specs.Pump.{AttemptState, Saying, Hearing, Keeping, Over, Astray, answered_by, batch_of, begun, answer_taken, is_said, onward, pump_from, said_if, attempt_step, ungiven, unless_given}
use Rattle.dmpaft_pump.specs.declared.pump_end.PumpEnd.{PumpEnd}
use Rattle.dmpaft_driver.proofs.CutTurns.{begun_not_over}
use Rattle.dmpaft_pump.proofs.PumpSteps.{no_astray, said_is}
use Rattle.schedule_file.specs.declared.schedule.step.Stop.{Stop}
use Rattle.one_text_laws.proofs.AnsweredBatches.{AreAnswered, answers_meet, done_too, one_answer}
use Rattle.one_text_laws.proofs.HandedOver.{gives_all, over_by}

-- a pump that stands so takes this talk and these answers to its end
abbrev pub Ends : Option CivilMinute → AttemptState → List TalkItem → List Stored → Type 0
Ends after s talk answers = (place : ℕ) × (taken : List (List ℕ)) × (end : PumpEnd)
    × (pump_from after s talk answers ≡ Over place taken end)

-- a pump that went astray ends no attempt
never : {A : Type 0} (after : Option CivilMinute) (talk : List TalkItem) (answers : List Stored) → Ends after Astray talk answers → A
never after talk answers e = absurd (no_astray after talk answers e.0 e.1 e.2 e.3)

-- the disk failed in one of two talks, and that one is a prefix of the other one
abbrev pub CutShort : Bool → Bool → List TalkItem → List TalkItem → Type 0
CutShort fails falls talk others = ((fails ≡ true) × (more : List TalkItem) × (others ≡ talk ++ more))
    ⊎ ((falls ≡ true) × (more : List TalkItem) × (talk ≡ others ++ more))

-- the talks and the answers are the same, or the disk failed
abbrev pub Alike : Bool → Bool → List TalkItem → List TalkItem → List Stored → List Stored → Type 0
Alike fails falls talk others answers replies = ((talk ≡ others) × (answers ≡ replies)) ⊎ CutShort fails falls talk others

alike_turned : (fails falls : Bool) (talk others : List TalkItem) (answers replies : List Stored)
    → Alike fails falls talk others answers replies → Alike falls fails others talk replies answers
alike_turned fails falls talk others answers replies (inl same) = inl (sym same.0, sym same.1)
alike_turned fails falls talk others answers replies (inr (inl cut)) = inr (inr cut)
alike_turned fails falls talk others answers replies (inr (inr cut)) = inr (inl cut)

-- the same behind one item
alike_item : (fails falls : Bool) (i j : TalkItem) (talk others : List TalkItem) (answers replies : List Stored) → i ≡ j
    → Alike fails falls talk others answers replies → Alike fails falls (i ∷ talk) (j ∷ others) answers replies
alike_item fails falls i j talk others answers replies is (inl same) =
    inl (ap (λ (x : TalkItem). x ∷ talk) is ∙ ap (λ (t : List TalkItem). j ∷ t) same.0, same.1)
alike_item fails falls i j talk others answers replies is (inr (inl (fault, more, prefix))) =
    inr (inl (fault, more, ap (λ (x : TalkItem). x ∷ others) (sym is) ∙ ap (λ (t : List TalkItem). i ∷ t) prefix))
alike_item fails falls i j talk others answers replies is (inr (inr (fault, more, prefix))) =
    inr (inr (fault, more, ap (λ (x : TalkItem). x ∷ talk) is ∙ ap (λ (t : List TalkItem). j ∷ t) prefix))

-- and behind one answer
alike_answer : (fails falls : Bool) (x y : Stored) (talk others : List TalkItem) (answers replies : List Stored) → x ≡ y
    → Alike fails falls talk others answers replies → Alike fails falls talk others (x ∷ answers) (y ∷ replies)
alike_answer fails falls x y talk others answers replies is (inl same) =
    inl (same.0, ap (λ (k : Stored). k ∷ answers) is ∙ ap (λ (ks : List Stored). y ∷ ks) same.1)
alike_answer fails falls x y talk others answers replies is (inr cut) = inr cut

both : (p q : Bool) → (p && q) ≡ true → (p ≡ true) × (q ≡ true)
both true q e = (refl, e)
both false q e = absurd (let bad : false ≡ true = e in cc)

same_number : (b c : ℕ) → (b == c) ≡ true → b ≡ c
same_number b c e = grind (arith, nat_tests)

-- what is heard is the first byte in flight
heard_if : (test : Bool) (x b : ℕ) (w m : Line) → (x == b) ≡ test → (if test then Some w else None) ≡ Some m → x ≡ b
heard_if true x b w m is e = same_number x b is
heard_if false x b w m is e = absurd (let bad : None ≡ Some m = e in cc)

first_byte : (l : List Part) (b : ℕ) (w m : Line) → hearing l b w ≡ Some m
    → (x : ℕ) × (more : List Part) × (l ≡ Byte x ∷ more) × (x ≡ b)
first_byte [] b w m e = absurd (let bad : None ≡ Some m = e in cc)
first_byte (Byte x ∷ l) b w m e = (x, l, refl, heard_if (x == b) x b _ m refl e)
first_byte (Wait ∷ l) b w m e = absurd (let bad : None ≡ Some m = e in cc)

no_wait : {A : Type 0} (l : List Part) (f : FatesByNumber) (w m : Line) (x : ℕ) (more : List Part) → l ≡ Byte x ∷ more
    → waiting l f w ≡ Some m → A
no_wait [] f w m x more is e = absurd (let bad : [] ≡ Byte x ∷ more = is in cc)
no_wait (Byte y ∷ l) f w m x more is e = absurd (let bad : None ≡ Some m = e in cc)
no_wait (Wait ∷ l) f w m x more is e = absurd (let bad : Wait ∷ l ≡ Byte x ∷ more = is in cc)

one_byte : (x y : ℕ) (l more : List Part) → Byte x ∷ l ≡ Byte y ∷ more → x ≡ y
one_byte x y l more e = cc

pub same_line : (w v : Line) → Some w ≡ Some v → w ≡ v
same_line w v e = cc

module _ (most : ℕ) (stop : Option Stop) (after : Option CivilMinute) (f : FatesByNumber) where
  -- From this state of the pump, over this line and with so many batches stored and rows held, the talk and the answers lead to the end. The answers
  -- are those of an archive with so many rows.
  pub record Leads (fails : Bool) (s : AttemptState) (stored held : ℕ) (w : Line) (talk : List TalkItem) (answers : List Stored) : Type 0 where
    pub ends : Ends after s talk answers
    pub answered : AreAnswered most stop fails stored held (gives_all after s talk answers)
    pub line : Line
    pub talks : ConsoleTalk f talk w line

  -- the same with an item first, where no answer is taken before it
  pub record Goes (fails : Bool) (g : AttemptState) (stored held : ℕ) (w : Line) (i : TalkItem) (talk : List TalkItem) (answers : List Stored) : Type 0 where
    pub ends : Ends after (attempt_step after g i) talk answers
    pub answered : AreAnswered most stop fails stored held (gives_all after (attempt_step after g i) talk answers)
    pub line : Line
    pub talks : ConsoleTalk f (i ∷ talk) w line

  -- behind a batch that is kept an attempt goes on
  not_done : {A : Type 0} (more place : ℕ) (taken : List (List ℕ)) (page : List ℕ) (k : Stored) (answers : List Stored) → k ≡ reply.Done
      → Ends after (Keeping more place taken page) [] (k ∷ answers) → A
  not_done more place taken page k answers done e =
      let kept : Ends after (Keeping more place taken page) [] (reply.Done ∷ answers) =
      subst (λ (x : Stored). Ends after (Keeping more place taken page) [] (x ∷ answers)) done e in
      absurd (begun_not_over after (onward more place (taken ++ page ∷ [])) kept.0 kept.1 kept.2
      (over_by answers (begun after (onward more place (taken ++ page ∷ []))) kept.0 kept.1 kept.2 kept.3).1)

  module _ (fails falls : Bool) where
    -- what is to be said is said
    said_right : (part : pump.AttemptPart) (k : TalkItem) (l : List TalkItem) (i : TalkItem) (talk : List TalkItem) (answers : List Stored) (p : Bool)
        → is_said k i ≡ p → Ends after (said_if part l p) talk answers → i ≡ k
    said_right part k l i talk answers true is e = said_is k i is
    said_right part k l i talk answers false is e = never after talk answers e

    -- the line has one item to hear
    heard_right : (part : pump.AttemptPart) (bytes : List ℕ) (run stored held : ℕ) (w : Line) (i j : TalkItem) (talk others : List TalkItem)
        (answers replies : List Stored) → Goes fails (Hearing part bytes run) stored held w i talk answers
        → Goes falls (Hearing part bytes run) stored held w j others replies → i ≡ j
    heard_right part bytes run stored held w (Said b ends) j talk others answers replies x y = never after talk answers x.ends
    heard_right part bytes run stored held w (Heard b) (Said d ends) talk others answers replies x y = never after others replies y.ends
    heard_right part bytes run stored held w (Heard b) (Heard d) talk others answers replies x y =
        let m = and_then_some (hearing w.flight b w) (console_talk f talk) x.line x.talks in
        let n = and_then_some (hearing w.flight d w) (console_talk f others) y.line y.talks in
        let p = first_byte w.flight b w m.0 m.1 in
        let q = first_byte w.flight d w n.0 n.1 in
        let same : b ≡ d = sym p.3 ∙ (one_byte p.0 q.0 p.1 q.1 (sym p.2 ∙ q.2) ∙ q.3) in
        ap (λ (z : ℕ). Heard z) same
    heard_right part bytes run stored held w (Heard b) Quiet talk others answers replies x y =
        let m = and_then_some (hearing w.flight b w) (console_talk f talk) x.line x.talks in
        let n = and_then_some (waiting w.flight f w) (console_talk f others) y.line y.talks in
        let p = first_byte w.flight b w m.0 m.1 in
        no_wait w.flight f w n.0 p.0 p.1 p.2 n.1
    heard_right part bytes run stored held w Quiet (Said d ends) talk others answers replies x y = never after others replies y.ends
    heard_right part bytes run stored held w Quiet (Heard d) talk others answers replies x y =
        let m = and_then_some (waiting w.flight f w) (console_talk f talk) x.line x.talks in
        let n = and_then_some (hearing w.flight d w) (console_talk f others) y.line y.talks in
        let q = first_byte w.flight d w n.0 n.1 in
        no_wait w.flight f w m.0 q.0 q.1 q.2 m.1
    heard_right part bytes run stored held w Quiet Quiet talk others answers replies x y = refl

    one_item : (g : AttemptState) (stored held : ℕ) (w : Line) (i j : TalkItem) (talk others : List TalkItem)
        (answers replies : List Stored) → Goes fails g stored held w i talk answers → Goes falls g stored held w j others replies → i ≡ j
    one_item (Saying part k l) stored held w i j talk others answers replies x y =
        said_right part k l i talk answers (is_said k i) refl x.ends
        ∙ sym (said_right part k l j others replies (is_said k j) refl y.ends)
    one_item (Hearing part bytes run) stored held w i j talk others answers replies x y =
        heard_right part bytes run stored held w i j talk others answers replies x y
    one_item (Keeping more place taken page) stored held w i j talk others answers replies x y = never after talk answers x.ends
    one_item (Over place taken end) stored held w i j talk others answers replies x y = never after talk answers x.ends
    one_item Astray stored held w i j talk others answers replies x y = never after talk answers x.ends

    -- from one place on talks are alike
    abbrev pub AlikeFrom : List TalkItem → Type 0
    AlikeFrom talk = (s : AttemptState) (stored held : ℕ) (w : Line) (others : List TalkItem) (answers replies : List Stored)
        → Leads fails s stored held w talk answers → Leads falls s stored held w others replies → Alike fails falls talk others answers replies

    module _ (talk : List TalkItem) (again : AlikeFrom talk) where
      behind : (g : AttemptState) (stored held : ℕ) (w : Line) (i : TalkItem) (others : List TalkItem) (answers replies : List Stored)
          → Goes fails g stored held w i talk answers → Goes falls g stored held w i others replies → Alike fails falls talk others answers replies
      behind g stored held w i others answers replies x y =
          let p = and_then_some (line_step f i w) (console_talk f talk) x.line x.talks in
          let q = and_then_some (line_step f i w) (console_talk f others) y.line y.talks in
          let same : q.0 ≡ p.0 = same_line q.0 p.0 (sym q.1 ∙ p.1) in
          again (attempt_step after g i) stored held p.0 others answers replies
          (record { ends = x.ends; answered = x.answered; line = x.line; talks = p.2 })
          (record {
            ends = y.ends;
            answered = y.answered;
            line = y.line;
            talks = subst (λ (m : Line). ConsoleTalk f others m y.line) same q.2;
          })

      at : (g : AttemptState) (stored held : ℕ) (w : Line) (i j : TalkItem) (others : List TalkItem) (answers replies : List Stored)
          → Goes fails g stored held w i talk answers → Goes falls g stored held w j others replies
          → Alike fails falls (i ∷ talk) (j ∷ others) answers replies
      at g stored held w i j others answers replies x y =
          let is = one_item g stored held w i j talk others answers replies x y in
          alike_item fails falls i j talk others answers replies is (behind g stored held w i others answers replies x
          (subst (λ (k : TalkItem). Goes falls g stored held w k others replies) (sym is) y))

      -- a batch is with the keeper, and the attempt goes on
      kept : (more place : ℕ) (taken : List (List ℕ)) (page : List ℕ) (stored held : ℕ) (w : Line) (i j : TalkItem) (others : List TalkItem)
          (k l : Stored) (answers replies : List Stored) → Leads fails (Keeping more place taken page) stored held w (i ∷ talk) (k ∷ answers)
          → Leads falls (Keeping more place taken page) stored held w (j ∷ others) (l ∷ replies)
          → Alike fails falls (i ∷ talk) (j ∷ others) (k ∷ answers) (l ∷ replies)
      kept more place taken page stored held w i j others reply.Done reply.Done answers replies x y =
          alike_answer fails falls reply.Done reply.Done (i ∷ talk) (j ∷ others) answers replies refl
          (at (begun after (onward more place (taken ++ page ∷ []))) (stored + 1) (held + length (batch_of after place taken page)) w i j
          others answers replies
          (record { ends = x.ends; answered = x.answered.1; line = x.line; talks = x.talks })
          (record { ends = y.ends; answered = y.answered.1; line = y.line; talks = y.talks }))
      kept more place taken page stored held w i j others reply.Done reply.Full answers replies x y = never after others replies y.ends
      kept more place taken page stored held w i j others reply.Done reply.Stale answers replies x y = never after others replies y.ends
      kept more place taken page stored held w i j others reply.Done reply.DiskFault answers replies x y = never after others replies y.ends
      kept more place taken page stored held w i j others reply.Full l answers replies x y = never after talk answers x.ends
      kept more place taken page stored held w i j others reply.Stale l answers replies x y = never after talk answers x.ends
      kept more place taken page stored held w i j others reply.DiskFault l answers replies x y = never after talk answers x.ends

      from : (s : AttemptState) (stored held : ℕ) (w : Line) (i j : TalkItem) (others : List TalkItem) (answers replies : List Stored)
          → Leads fails s stored held w (i ∷ talk) answers → Leads falls s stored held w (j ∷ others) replies
          → Alike fails falls (i ∷ talk) (j ∷ others) answers replies
      from (Saying part k l) stored held w i j others answers replies x y = at (Saying part k l) stored held w i j others answers replies
          (record { ends = x.ends; answered = x.answered; line = x.line; talks = x.talks })
          (record { ends = y.ends; answered = y.answered; line = y.line; talks = y.talks })
      from (Hearing part bytes run) stored held w i j others answers replies x y = at (Hearing part bytes run) stored held w i j others answers replies
          (record { ends = x.ends; answered = x.answered; line = x.line; talks = x.talks })
          (record { ends = y.ends; answered = y.answered; line = y.line; talks = y.talks })
      from (Keeping more place taken page) stored held w i j others [] replies x y = never after talk [] x.ends
      from (Keeping more place taken page) stored held w i j others (k ∷ answers) [] x y = never after others [] y.ends
      from (Keeping more place taken page) stored held w i j others (k ∷ answers) (l ∷ replies) x y =
          kept more place taken page stored held w i j others k l answers replies x y
      from (Over place taken end) stored held w i j others answers replies x y = never after talk answers x.ends
      from Astray stored held w i j others answers replies x y = never after talk answers x.ends

    no_end : {A : Type 0} (g : AttemptState) (answers : List Stored) → ((place : ℕ) (taken : List (List ℕ)) (end : PumpEnd) → g ≢ Over place taken end)
        → (place : ℕ) × (taken : List (List ℕ)) × (end : PumpEnd) × (unless_given answers g ≡ Over place taken end) → A
    no_end g answers not e = absurd (not e.0 e.1 e.2 (over_by answers g e.0 e.1 e.2 e.3).1)

    -- two that end here
    both_end : (s : AttemptState) (stored held : ℕ) (w : Line) (answers replies : List Stored) → Leads fails s stored held w [] answers
        → Leads falls s stored held w [] replies → Alike fails falls [] [] answers replies
    both_end (Saying part i l) stored held w answers replies x y =
        no_end (Saying part i l) answers (λ place taken end e. cc) x.ends
    both_end (Hearing part bytes run) stored held w answers replies x y =
        no_end (Hearing part bytes run) answers (λ place taken end e. cc) x.ends
    both_end (Keeping more place taken page) stored held w [] replies x y =
        no_end (Keeping more place taken page) [] (λ at pages end e. cc) x.ends
    both_end (Keeping more place taken page) stored held w (k ∷ answers) [] x y =
        no_end (Keeping more place taken page) [] (λ at pages end e. cc) y.ends
    both_end (Keeping more place taken page) stored held w (k ∷ answers) (l ∷ replies) x y =
        go (answers_meet most stop fails falls stored held (batch_of after place taken page) k l
        (one_answer most stop fails stored held (batch_of after place taken page) k x.answered)
        (one_answer most stop falls stored held (batch_of after place taken page) l y.answered))
      where
        none : (z : Stored) (zs : List Stored) → Ends after (Keeping more place taken page) [] (z ∷ zs) → zs ≡ []
        none z zs e = (over_by zs (answered_by after more place (taken ++ page ∷ []) z) e.0 e.1 e.2 e.3).0

        go : (k ≡ l) ⊎ (fails ≡ true) ⊎ (falls ≡ true) → Alike fails falls [] [] (k ∷ answers) (l ∷ replies)
        go (inl same) = alike_answer fails falls k l [] [] answers replies same
            (inl (refl, none k answers x.ends ∙ sym (none l replies y.ends)))
        go (inr (inl fault)) = inr (inl (fault, [], refl))
        go (inr (inr fault)) = inr (inr (fault, [], refl))
    both_end (Over place taken end) stored held w answers replies x y =
        inl (
          refl,
          (over_by answers (Over place taken end) x.ends.0 x.ends.1 x.ends.2 x.ends.3).0
              ∙ sym (over_by replies (Over place taken end) y.ends.0 y.ends.1 y.ends.2 y.ends.3).0,
        )
    both_end Astray stored held w answers replies x y = never after [] answers x.ends

    -- one that ends here, and one that goes on
    first_ends : (s : AttemptState) (stored held : ℕ) (w : Line) (j : TalkItem) (others : List TalkItem) (answers replies : List Stored)
        → Leads fails s stored held w [] answers → Leads falls s stored held w (j ∷ others) replies
        → Alike fails falls [] (j ∷ others) answers replies
    first_ends (Saying part i l) stored held w j others answers replies x y =
        no_end (Saying part i l) answers (λ place taken end e. cc) x.ends
    first_ends (Hearing part bytes run) stored held w j others answers replies x y =
        no_end (Hearing part bytes run) answers (λ place taken end e. cc) x.ends
    first_ends (Keeping more place taken page) stored held w j others [] replies x y =
        no_end (Keeping more place taken page) [] (λ at pages end e. cc) x.ends
    first_ends (Keeping more place taken page) stored held w j others (k ∷ answers) [] x y = never after others [] y.ends
    first_ends (Keeping more place taken page) stored held w j others (k ∷ answers) (reply.Done ∷ replies) x y =
        go (done_too most stop fails falls stored held (batch_of after place taken page) k
        (one_answer most stop fails stored held (batch_of after place taken page) k x.answered) y.answered.0)
      where
        go : (k ≡ reply.Done) ⊎ (fails ≡ true) → Alike fails falls [] (j ∷ others) (k ∷ answers) (reply.Done ∷ replies)
        go (inl done) = not_done more place taken page k answers done x.ends
        go (inr fault) = inr (inl (fault, j ∷ others, refl))
    first_ends (Keeping more place taken page) stored held w j others (k ∷ answers) (reply.Full ∷ replies) x y = never after others replies y.ends
    first_ends (Keeping more place taken page) stored held w j others (k ∷ answers) (reply.Stale ∷ replies) x y = never after others replies y.ends
    first_ends (Keeping more place taken page) stored held w j others (k ∷ answers) (reply.DiskFault ∷ replies) x y = never after others replies y.ends
    first_ends (Over place taken end) stored held w j others answers replies x y = never after others replies y.ends
    first_ends Astray stored held w j others answers replies x y = never after [] answers x.ends

  module _ (fails falls : Bool) where
    alike_none : AlikeFrom fails falls []
    alike_none s stored held w [] answers replies x y = both_end fails falls s stored held w answers replies x y
    alike_none s stored held w (j ∷ others) answers replies x y = first_ends fails falls s stored held w j others answers replies x y

    alike_more : (i : TalkItem) (talk : List TalkItem) → AlikeFrom fails falls talk → AlikeFrom fails falls (i ∷ talk)
    alike_more i talk again s stored held w [] answers replies x y =
        alike_turned falls fails [] (i ∷ talk) replies answers (first_ends falls fails s stored held w i talk replies answers y x)
    alike_more i talk again s stored held w (j ∷ others) answers replies x y =
        from fails falls talk again s stored held w i j others answers replies x y

    -- two talks from one place on, of which each is that of an attempt over the archive
    pub alike_from : (talk : List TalkItem) → AlikeFrom fails falls talk
    alike_from [] = alike_none
    alike_from (i ∷ talk) = alike_more i talk (alike_from talk)
