-- A whole attempt without unseen delivery, from a calm line, clears nothing.
use Rattle.std.proofs.Common.{◌≡◌, ℕ, zero, suc, ◌+◌, ◌≤◌, if◌then◌else◌, Bool, true, false, ◌⊎◌, inl, inr, List, [], ◌∷◌, ◌++◌, length, Some, None, refl, sym, ◌∙◌, ap, subst, arith, append_assoc, append-nil, length-append}
use Rattle.std.specs.Prelude.{nat_lt}
use Rattle.std.proofs.lemmas.Option.{same_Some}
use Rattle.vantage_frames.specs.Slots.{page_size}
use Rattle.console_model.specs.Console.{Store, ConsoleState}
use Rattle.console_model.specs.declared.signal.Signal.{Signal}
use Rattle.console_model.specs.Reading.{signal}
use Rattle.console_model.proofs.Orders.{read_empty, read_dump_after, read_without_first}
use Rattle.dmpaft_pump.specs.declared.outcome.Trouble.{Trouble}
use Rattle.dmpaft_pump.specs.Header.{IsHeader, IsNoHeader}
use Rattle.dmpaft_driver.specs.Attempt.{last_said, Attempt, Requests, Heads, Pages, TakesPage, Misses, AskFloods, End, esc}
use Rattle.dmpaft_pump.specs.Command.{dmpaft}
use Rattle.console_model.specs.declared.frame.FrameKind.TheVariants.{ForDump}
use Rattle.console_model.specs.Console.ConsoleState.{Asleep, Command, Overlong, Frame, Dump, Looping}
use Rattle.console_model.specs.declared.signal.Signal.TheVariants.{Lf, Next, Again, Stop, Other}
use Rattle.console_model.specs.Frame.{at_frame}
use Rattle.console_model.specs.Line.{silent, to}
use Rattle.console_model.specs.Tick.{tick}
use Rattle.schedule_file.specs.Fates.{FatesByNumber}
use Rattle.station_sim.specs.Delivery.{delivered}
use Rattle.station_sim.specs.Line.{Line, flies, message_counted, sends_message, says_byte}
use Rattle.serial_link.specs.declared.talk.TalkItem.{TalkItem}
use Rattle.station_sim.specs.Talk.{console_talk, line_step, and_then}
use Rattle.station_sim.specs.Sound.{IsSound, AreSound}
use Rattle.station_sim.specs.Calm.{ConsoleRests, IsCalm}
use Rattle.wake_retry.specs.Parts.{IsFull, heard, Wakes, answer_waits, settled_waits}
use Rattle.serial_link.specs.declared.talk.TalkItem.TheVariants.{Said, Heard, Quiet}
use Rattle.line_laws.specs.Unharmed.{Rested}
use Rattle.line_laws.specs.Host.{OnlyListens}
use Rattle.line_laws.specs.Records.{Now}
use Rattle.serial_link.specs.Talk.{message}
use Rattle.dmpaft_pump.specs.Page.{is_page_before, next_said}
use Rattle.console_model.specs.Valid.{EachFollows}
use Rattle.dmpaft_pump.specs.Pump.{most_askings}
use Rattle.line_laws.proofs.Asked.{at_state}
use Rattle.station_sim.specs.Joining.{and_then_some, talks_part}
use Rattle.line_laws.proofs.FrameStage.{hearing_is, waiting_is}
use Rattle.line_laws.proofs.Plainly.{begun_joins}
use Rattle.line_laws.proofs.SettledConsole.{Still-listens}
use Rattle.line_laws.proofs.Floods.{no_flood}
use Rattle.line_laws.proofs.Pages.{goes_unseen, awaits_listens}
use Rattle.line_laws.proofs.HeaderLaws.{frame_goes}
use Rattle.line_laws.proofs.WakeLaws.{Awaiting, woken, wakes_law, wake_no_flood, asks_law, call_goes}
use Rattle.line_laws.proofs.Attempts.{listens_begun, settled_line}
use Rattle.station_sim.specs.Falling.{FallDue}
use Rattle.line_laws.proofs.Records.{is_clear, Unclear, clears, now_sends, now_listens, hears_begun}

abbrev pub not_lf : Signal → Bool
not_lf Lf = false
not_lf Next = true
not_lf Again = true
not_lf Stop = true
not_lf Other = true

not_lf_clears : (s : ConsoleState) (m : Signal) → not_lf m ≡ true → clears s m ≡ false
not_lf_clears Asleep m e = refl
not_lf_clears (Command line) Lf e = absurd cc
not_lf_clears (Command line) Next e = refl
not_lf_clears (Command line) Again e = refl
not_lf_clears (Command line) Stop e = refl
not_lf_clears (Command line) Other e = refl
not_lf_clears Overlong m e = refl
not_lf_clears (Frame kind got) m e = refl
not_lf_clears (Dump p sent) m e = refl
not_lf_clears (Looping n) m e = refl

-- messages of one byte that is no LF, and listening
abbrev pub IsPlain : List TalkItem → Type 0
IsPlain [] = Unit {0}
IsPlain (Said b ends ∷ t) = (ends ≡ true) × (not_lf (signal b) ≡ true) × IsPlain t
IsPlain (Heard b ∷ t) = IsPlain t
IsPlain (Quiet ∷ t) = IsPlain t

plain_listens : (t : List TalkItem) → OnlyListens t → IsPlain t
plain_listens [] s = tt
plain_listens (Said b ends ∷ t) s = absurd s
plain_listens (Heard b ∷ t) s = plain_listens t s
plain_listens (Quiet ∷ t) s = plain_listens t s

plain_join : (s t : List TalkItem) → IsPlain s → IsPlain t → IsPlain (s ++ t)
plain_join [] t a b = b
plain_join (Said x ends ∷ s) t a b = (a.0, a.1, plain_join s t a.2 b)
plain_join (Heard x ∷ s) t a b = plain_join s t a b
plain_join (Quiet ∷ s) t a b = plain_join s t a b

plain_said : (b : ℕ) (t rest talk : List TalkItem) → talk ≡ Said b true ∷ t ++ rest → not_lf (signal b) ≡ true → OnlyListens t → IsPlain rest → IsPlain talk
plain_said b t rest talk e n s r = subst IsPlain (sym e) (refl, n, plain_join t rest (plain_listens t s) r)

next_plain : (t : Bool) → not_lf (signal (if t then 6 else 21)) ≡ true
next_plain true = refl
next_plain false = refl

said_next : (k : ℕ) (bytes : List ℕ) → not_lf (signal (next_said k bytes)) ≡ true
said_next k bytes = next_plain (is_page_before k bytes)

takes_plain : (left k b : ℕ) (talk : List TalkItem) (bytes : List ℕ) → not_lf (signal b) ≡ true → TakesPage left k b talk bytes → IsPlain talk
takes_plain zero k b talk bytes n x = absurd x
takes_plain (suc left) k b talk bytes n (t, rest, split, awaits, inl (page, none, is)) = plain_said b t rest talk split n (awaits_listens page_size t awaits) (rw none tt)
takes_plain (suc left) k b talk bytes n (t, rest, split, awaits, inr (page, ahead, (s, more, split2, still, again))) =
    plain_said b t rest talk split n (awaits_listens page_size t awaits) (subst IsPlain (sym split2) (plain_join s more (plain_listens s (Still-listens settled_waits s still)) (takes_plain left k (next_said k (heard t)) more bytes (said_next k (heard t)) again)))

misses_plain : (left k b : ℕ) (talk : List TalkItem) (trouble : Trouble) → not_lf (signal b) ≡ true → Misses left k b talk trouble → IsPlain talk
misses_plain zero k b talk trouble n x = absurd x
misses_plain (suc left) k b talk trouble n (t, rest, split, awaits, page, inl (ahead, none, is)) = plain_said b t rest talk split n (awaits_listens page_size t awaits) (rw none tt)
misses_plain (suc left) k b talk trouble n (t, rest, split, awaits, page, inr (inl (ahead, last, none, is))) = plain_said b t rest talk split n (awaits_listens page_size t awaits) (rw none tt)
misses_plain (suc left) k b talk trouble n (t, rest, split, awaits, page, inr (inr (ahead, (s, more, split2, still, again)))) =
    plain_said b t rest talk split n (awaits_listens page_size t awaits) (subst IsPlain (sym split2) (plain_join s more (plain_listens s (Still-listens settled_waits s still)) (misses_plain left k (next_said k (heard t)) more trouble (said_next k (heard t)) again)))

flood_plain : (q r : ℕ) (t : List TalkItem) → IsFull q r t → IsPlain t
flood_plain q r [] s = absurd s
flood_plain q r (Said b ends ∷ t) s = absurd s
flood_plain q r (Heard b ∷ []) s = tt
flood_plain q r (Heard b ∷ i ∷ t) s = flood_plain q 0 (i ∷ t) s
flood_plain q r (Quiet ∷ t) s = flood_plain q (r + 1) t s.1

floods_plain : (left k b : ℕ) (talk : List TalkItem) → not_lf (signal b) ≡ true → AskFloods left k b talk → IsPlain talk
floods_plain zero k b talk n x = absurd x
floods_plain (suc left) k b talk n (t, rest, split, awaits, page, ahead, inl flood) = plain_said b t rest talk split n (awaits_listens page_size t awaits) (flood_plain settled_waits 0 rest flood.1.0)
floods_plain (suc left) k b talk n (t, rest, split, awaits, page, ahead, inr (s, more, split2, still, again)) =
    plain_said b t rest talk split n (awaits_listens page_size t awaits) (subst IsPlain (sym split2) (plain_join s more (plain_listens s (Still-listens settled_waits s still)) (floods_plain left k (next_said k (heard t)) more (said_next k (heard t)) again)))

last_plain : (k : ℕ) → IsPlain (last_said k)
last_plain zero = tt
last_plain (suc k) = (refl, refl, tt)

pages_plain : (left k : ℕ) (talk : List TalkItem) (taken : List (List ℕ)) (end : End) → Pages left k talk taken end → IsPlain talk
pages_plain zero k talk taken end (split, none, is) = subst IsPlain (sym split) (last_plain k)
pages_plain (suc left) k talk taken end (inl (t, rest, bytes, more, split, takes, is, inl again)) = subst IsPlain (sym split) (plain_join t rest (takes_plain most_askings k 6 t bytes refl takes) (pages_plain left (k + 1) rest more end again))
pages_plain (suc left) k talk taken end (inl (t, rest, bytes, more, split, takes, is, inr (none, no_more, refused))) = subst IsPlain (sym split) (plain_join t rest (takes_plain most_askings k 6 t bytes refl takes) (rw none tt))
pages_plain (suc left) k talk taken end (inr (inl (t, trouble, split, misses, none, failed))) = subst IsPlain (sym split) (plain_join t esc (misses_plain most_askings k 6 t trouble refl misses) (refl, refl, tt))
pages_plain (suc left) k talk taken end (inr (inr (floods, none, is))) = floods_plain most_askings k 6 talk refl floods

-- one LF, to a console that rests
lf_unclear : (s : ConsoleState) (g : List (List ℕ)) (d : Store) (hs : List (List ℕ)) (i : ℕ) → ConsoleRests s → Unclear (10 ∷ []) (at_state g d hs s i)
lf_unclear Asleep g d hs i r = (refl, tt)
lf_unclear (Command []) g d hs i r = (ap is_clear (read_empty [] refl), tt)
lf_unclear (Command (b ∷ line)) g d hs i r = absurd cc
lf_unclear Overlong g d hs i r = absurd r
lf_unclear (Frame kind got) g d hs i r = absurd r
lf_unclear (Dump p sent) g d hs i r = (refl, tt)
lf_unclear (Looping n) g d hs i r = absurd r

-- DMPAFT
call_unclear : (s : ConsoleState) (g : List (List ℕ)) (d : Store) (hs : List (List ℕ)) (i : ℕ) → ConsoleRests s → Unclear dmpaft (at_state g d hs s i)
unfolding dmpaft
call_unclear Asleep g d hs i r = (refl, (refl, (refl, (refl, (refl, (refl, (ap is_clear read_without_first, tt)))))))
call_unclear (Command []) g d hs i r = (refl, (refl, (refl, (refl, (refl, (refl, (ap is_clear read_dump_after, tt)))))))
call_unclear (Command (b ∷ line)) g d hs i r = absurd cc
call_unclear Overlong g d hs i r = absurd r
call_unclear (Frame kind got) g d hs i r = absurd r
call_unclear (Dump p sent) g d hs i r = (refl, (refl, (refl, (refl, (refl, (refl, (ap is_clear read_dump_after, tt)))))))
call_unclear (Looping n) g d hs i r = absurd r

-- a stamp frame, to a console that awaits it
frame_unclear : (bs acc : List ℕ) (g : List (List ℕ)) (d : Store) (hs : List (List ℕ)) (i : ℕ) → length acc + length bs ≤ 6 → Unclear bs (at_state g d hs (Frame ForDump acc) i)
frame_unclear [] acc g d hs i n = tt
frame_unclear (b ∷ []) acc g d hs i n = (refl, tt)
frame_unclear (b ∷ c ∷ bs) acc g d hs i n =
    let e : nat_lt (length acc + 1) 6 ≡ true = grind arith in
    let x = at_state g d hs (Frame ForDump acc) i in
    (refl, subst (λ t. Unclear (c ∷ bs) (if t then silent (to x (Frame ForDump (acc ++ b ∷ []))) else at_frame ForDump (acc ++ b ∷ []) x).next) (sym e) (frame_unclear (c ∷ bs) (acc ++ b ∷ []) g d hs 0 (omega (arith, length-append acc (b ∷ [])))))

module _ (f : FatesByNumber) (ok : AreSound f) (left : ℕ → List (List ℕ)) (falls : FallDue f left) (all : List (List ℕ)) (rises : EachFollows [] all) where
  -- a message of one byte that is no LF
  now_said : (b : ℕ) (w : Line) → Now left all w → w.begun ≡ [] → not_lf (signal b) ≡ true → (says_byte f b true w).unseen ≡ None → Now left all (says_byte f b true w) × ((says_byte f b true w).begun ≡ [])
  now_said b w n z l u =
      let m = w.begun ++ b ∷ [] in
      let e : m ≡ b ∷ [] = ap (λ x. x ++ b ∷ []) z in (
        now_sends f left falls all rises m w n (λ same. subst (λ x. Unclear x w.console) (sym e) (not_lf_clears w.console.state (signal b) l, tt)) u,
        hears_begun f (delivered (f.host (w.messages + 1)) m) (message_counted f m w),
      )

  now_plain : (t : List TalkItem) (w v : Line) → IsPlain t → Now left all w → w.begun ≡ [] → console_talk f t w ≡ Some v → v.unseen ≡ None → Now left all v
  now_plain [] w v p n z e u = subst (Now left all) (same_Some w v e) n
  now_plain (Said b true ∷ t) w v p n z e u =
      let q = now_said b w n z p.1 (goes_unseen f t (says_byte f b true w) v e u) in
      now_plain t (says_byte f b true w) v p.2 q.0 q.1 e u
  now_plain (Said b false ∷ t) w v p n z e u = absurd (let x : false ≡ true = p.0 in cc)
  now_plain (Heard b ∷ t) w v p n z e u =
      let g = and_then_some (line_step f (Heard b) w) (console_talk f t) v e in
      let q = hearing_is w.flight b w g.0 refl g.1 in
      let one : console_talk f (Heard b ∷ []) w ≡ Some g.0 = ap (λ o. and_then o (console_talk f [])) g.1 in
      now_plain t g.0 v p (now_listens f left falls all rises (Heard b ∷ []) w g.0 tt n one) (ap (λ x. x.begun) q.2 ∙ z) g.2 u
  now_plain (Quiet ∷ t) w v p n z e u =
      let g = and_then_some (line_step f Quiet w) (console_talk f t) v e in
      let q = waiting_is w.flight f w g.0 refl g.1 in
      let c = w.console in
      let one : console_talk f (Quiet ∷ []) w ≡ Some g.0 = ap (λ o. and_then o (console_talk f [])) g.1 in
      now_plain t g.0 v p (now_listens f left falls all rises (Quiet ∷ []) w g.0 tt n one) (ap (λ x. x.begun) q.2 ∙ begun_joins (tick c).kind f (tick c) (flies w q.0) ∙ z) g.2 u

  -- an LF and its settling
  now_woken : (s : List TalkItem) (w v : Line) → Rested w → OnlyListens s → Now left all w → console_talk f (Said 10 true ∷ s) w ≡ Some v → v.unseen ≡ None → Now left all v
  now_woken s w v r l n e u =
      let m = w.begun ++ 10 ∷ [] in
      let is : m ≡ 10 ∷ [] = ap (λ x. x ++ 10 ∷ []) r.begun in
      let c = w.console in
      let q = now_sends f left falls all rises m w n (λ same. subst (λ x. Unclear x w.console) (sym is) (lf_unclear c.state c.history c.store c.held c.idle r.rests)) (goes_unseen f s (says_byte f 10 true w) v e u) in
      now_listens f left falls all rises s (says_byte f 10 true w) v l q e

  now_wakes : (tries : ℕ) (t : List TalkItem) (awake : Bool) (w v : Line) → Rested w → Wakes tries t awake → Now left all w → console_talk f t w ≡ Some v → v.unseen ≡ None → Now left all v
  now_wakes zero t awake w v r (none, is) n e u = subst (Now left all) (same_Some w v (ap (λ x. console_talk f x w) (sym none) ∙ e)) n
  now_wakes (suc tries) t awake w v r (s, rest, split, still, inl (x, none, y)) n e u =
      let is : Said 10 true ∷ s ≡ t = rw (split, none) (sym (append-nil (Said 10 true ∷ s))) in
      now_woken s w v r (Still-listens answer_waits s still) n (ap (λ x. console_talk f x w) is ∙ e) u
  now_wakes (suc tries) t awake w v r (s, rest, split, still, inr (x, again)) n e u =
      let m = talks_part f (Said 10 true ∷ s) rest w v (ap (λ x. console_talk f x w) (sym split) ∙ e) in
      let a = now_woken s w m.0 r (Still-listens answer_waits s still) n m.1 (goes_unseen f rest m.0 v m.2 u) in
      now_wakes tries rest awake m.0 v (woken f ok s w m.0 r still m.1).0 again a m.2 u

  -- what is said of a whole message and the listening after it
  now_message : (m : List ℕ) (t : List TalkItem) (w v : Line) → Now left all w → Unclear m w.console → OnlyListens t → console_talk f t (sends_message f m w) ≡ Some v → v.unseen ≡ None → Now left all v × (v.begun ≡ [])
  now_message m t w v n c l e u =
      let q = now_sends f left falls all rises m w n (λ same. c) (goes_unseen f t (sends_message f m w) v e u) in (
        now_listens f left falls all rises t (sends_message f m w) v l q e,
        (listens_begun f t (sends_message f m w) v l e).0 ∙ hears_begun f (delivered (f.host (w.messages + 1)) m) (message_counted f m w),
      )

  now_heads : (frame : List ℕ) (talk : List TalkItem) (place : ℕ) (taken : List (List ℕ)) (end : End) (w u v : Line) → length frame ≡ 6 → Awaiting [] w u → Heads frame talk place taken end → Now left all u → console_talk f talk u ≡ Some v → v.unseen ≡ None → Now left all v
  now_heads frame talk place taken end w u v six k (t, rest, split, awaits, next) n e un =
      let m = talks_part f (message frame ++ t) rest u v (ap (λ x. console_talk f x u) (append_assoc (message frame) t rest ∙ sym split) ∙ e) in
      let e' : console_talk f t (sends_message f (u.begun ++ frame) u) ≡ Some m.0 = sym (frame_goes f frame t u six) ∙ m.1 in
      let is : u.begun ++ frame ≡ frame = ap (λ x. x ++ frame) k.begun in
      let c : Unclear (u.begun ++ frame) u.console = subst (λ x. Unclear x u.console) (sym is) (subst (Unclear frame) (sym k.console) (frame_unclear frame [] k.history k.store k.held k.idle (omega (arith, six)))) in
      let q = now_message (u.begun ++ frame) t u m.0 n c (awaits_listens 7 t awaits) e' (goes_unseen f rest m.0 v m.2 un) in
      now_plain rest m.0 v (plain_of rest next) q.0 q.1 m.2 un
    where
      plain_of : (rest : List TalkItem) → ((n : ℕ) × IsHeader (heard t) n place × Pages n 0 rest taken end) ⊎ ((trouble : Trouble) × IsNoHeader (heard t) trouble × (rest ≡ esc) × (taken ≡ []) × (end ≡ End.Failed trouble)) → IsPlain rest
      plain_of rest (inl b) = pages_plain b.0 0 rest taken end b.2
      plain_of rest (inr b) = subst IsPlain (sym b.2) (refl, refl, tt)

  now_asks : (frame : List ℕ) (talk : List TalkItem) (place : ℕ) (taken : List (List ℕ)) (end : End) (w v : Line) → length frame ≡ 6 → Rested w → Requests frame talk place taken end → Now left all w → console_talk f talk w ≡ Some v → v.unseen ≡ None → Now left all v
  now_asks frame talk place taken end w v six r (t, rest, split, awaits, next) n e un =
      let m = talks_part f (message dmpaft ++ t) rest w v (ap (λ x. console_talk f x w) (append_assoc (message dmpaft) t rest ∙ sym split) ∙ e) in
      let seen = goes_unseen f rest m.0 v m.2 un in
      let e' : console_talk f t (sends_message f (w.begun ++ dmpaft) w) ≡ Some m.0 = sym (call_goes f t w) ∙ m.1 in
      let is : w.begun ++ dmpaft ≡ dmpaft = ap (λ x. x ++ dmpaft) r.begun in
      let c : Unclear (w.begun ++ dmpaft) w.console = subst (λ x. Unclear x w.console) (sym is) (call_unclear w.console.state w.console.history w.console.store w.console.held w.console.idle r.rests) in
      let q = now_message (w.begun ++ dmpaft) t w m.0 n c (awaits_listens 1 t awaits) e' seen in
      elim next [
        | inl b ↦ elim (asks_law f ok t w m.0 r awaits m.1 seen) [
          | inl k ↦ now_heads frame rest place taken end w m.0 v six k b.1 q.0 m.2 un
          | inr k ↦ absurd (k.1 b.0)
        ]
        | inr b ↦ now_plain rest m.0 v (subst IsPlain (sym b.1) (refl, refl, tt)) q.0 q.1 m.2 un
      ]

  pub now_attempt : (frame : List ℕ) (talk : List TalkItem) (place : ℕ) (taken : List (List ℕ)) (end : End) (w v : Line) → length frame ≡ 6 → IsSound w → IsCalm w → Attempt frame talk place taken end → Now left all w → console_talk f talk w ≡ Some v → v.unseen ≡ None → Now left all v
  now_attempt frame talk place taken end w v six sound calm (inr (inl (flood, none, is))) n e un = absurd (no_flood f 6 talk w v calm flood e)
  now_attempt frame talk place taken end w v six sound calm (inr (inr (s, t, split, still, floods, none, is))) n e un =
      let m = talks_part f s t w v (ap (λ x. console_talk f x w) (sym split) ∙ e) in
      absurd (wake_no_flood f ok 3 t m.0 v (settled_line f ok s w m.0 sound calm still m.1).0 floods m.2)
  now_attempt frame talk place taken end w v six sound calm (inl (s, t, rest, awake, split, still, wakes, next)) n e un =
      let m = talks_part f s (t ++ rest) w v (ap (λ x. console_talk f x w) (sym split) ∙ e) in
      let m2 = talks_part f t rest m.0 v m.2 in
      let r : Rested m.0 = (settled_line f ok s w m.0 sound calm still m.1).0 in
      let n1 = now_listens f left falls all rises s w m.0 (Still-listens settled_waits s still) n m.1 in
      let n2 = now_wakes 3 t awake m.0 m2.0 r wakes n1 m2.1 (goes_unseen f rest m2.0 v m2.2 un) in
      let r2 = (wakes_law f ok 3 t awake m.0 m2.0 r wakes m2.1).0 in
      elim next [
        | inl a ↦ now_asks frame rest place taken end m2.0 v six r2 a.1 n2 m2.2 un
        | inr a ↦ now_plain rest m2.0 v (subst IsPlain (sym a.1) (refl, refl, tt)) n2 r2.begun m2.2 un
      ]
