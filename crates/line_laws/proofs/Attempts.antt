-- One attempt from a calm line.
use Rattle.std.proofs.Common.{◌≡◌, ◌⊎◌, ℕ, ◌+◌, ◌<◌, Bool, true, inl, inr, List, [], ◌∷◌, ◌++◌, length, Some, None, refl, sym, ◌∙◌, ap, subst, arith, append_assoc}
use Rattle.std.proofs.lemmas.Option.{same_Some}
use Rattle.vantage_frames.specs.Slots.{page_size}
use Rattle.dmpaft_driver.specs.Attempt.{Heads, Requests, Attempt, End, esc}
use Rattle.dmpaft_pump.specs.Header.{IsHeader}
use Rattle.dmpaft_pump.specs.Command.{dmpaft}
use Rattle.console_model.specs.Spelling.{plan_after}
use Rattle.console_model.specs.declared.frame.FrameKind.TheVariants.{ForDump}
use Rattle.console_model.specs.Console.ConsoleState.{Frame}
use Rattle.console_model.specs.Tick.{tick}
use Rattle.schedule_file.specs.Fates.{FatesByNumber}
use Rattle.station_sim.specs.Delivery.{delivered}
use Rattle.station_sim.specs.Line.{Line, flies, hears, message_counted, says_byte, due_all}
use Rattle.station_sim.specs.Sound.{IsSound, AreSound}
use Rattle.station_sim.proofs.SoundLines.{sound_talk}
use Rattle.station_sim.specs.Calm.{pending, FewWaits, AreMild, IsCalm, IsBrief, count_bytes}
use Rattle.serial_link.specs.declared.talk.TalkItem.{TalkItem}
use Rattle.station_sim.specs.Talk.{line_step, console_talk}
use Rattle.serial_link.specs.declared.talk.TalkItem.TheVariants.{Said, Heard, Quiet}
use Rattle.line_laws.specs.Unharmed.{Rested}
use Rattle.line_laws.specs.Host.{OnlyListens, GathersPages}
use Rattle.serial_link.specs.Talk.{message}
use Rattle.wake_retry.specs.Parts.{heard, Still, Wakes, Awaits, answer_waits, settled_waits, wake_tries}
use Rattle.station_sim.specs.Joining.{and_then_some, talks_part}
use Rattle.station_sim.proofs.OneByOne.{tick_begins}
use Rattle.line_laws.proofs.Flight.{flight_law}
use Rattle.line_laws.proofs.HushedConsole.{bytes_of, EndsInByte}
use Rattle.line_laws.proofs.Asked.{at_state}
use Rattle.line_laws.proofs.Delivery.{delivered_length}
use Rattle.line_laws.proofs.SettledConsole.{Still-listens}
use Rattle.line_laws.proofs.Plainly.{begun_joins, dumps_joins}
use Rattle.line_laws.proofs.FrameStage.{hearing_is, waiting_is}
use Rattle.line_laws.proofs.Floods.{no_flood}
use Rattle.line_laws.proofs.Messages.{gives_up}
use Rattle.line_laws.proofs.Places.{pending_at_most}
use Rattle.line_laws.proofs.Pages.{pages_dry, pages_law, goes_unseen, tame_calm}
use Rattle.line_laws.proofs.WakeLaws.{sound_history, wake_no_flood, own_plan, own_sent, near_itself, Awaiting, Strayed, wakes_law, asks_law, due_framed}
use Rattle.line_laws.proofs.HeaderLaws.{Begins, heads_law, short_frame, at_console}

-- while nothing is said no message and no dump begins
pub listens_begun : (f : FatesByNumber) (t : List TalkItem) (w v : Line) → OnlyListens t → console_talk f t w ≡ Some v → (v.begun ≡ w.begun) × (v.dumps ≡ w.dumps)
listens_begun f [] w v s e = let q = same_Some w v e in (ap (λ x. x.begun) (sym q), ap (λ x. x.dumps) (sym q))
listens_begun f (Said b ends ∷ t) w v s e = absurd s
listens_begun f (Heard b ∷ t) w v s e =
    let g = and_then_some (line_step f (Heard b) w) (console_talk f t) v e in
    let q = hearing_is w.flight b w g.0 refl g.1 in
    let k = listens_begun f t g.0 v s g.2 in
    (k.0 ∙ ap (λ x. x.begun) q.2, k.1 ∙ ap (λ x. x.dumps) q.2)
listens_begun f (Quiet ∷ t) w v s e =
    let g = and_then_some (line_step f Quiet w) (console_talk f t) v e in
    let q = waiting_is w.flight f w g.0 refl g.1 in
    let k = listens_begun f t g.0 v s g.2 in
    let c = w.console in (
      k.0 ∙ ap (λ x. x.begun) q.2 ∙ begun_joins (tick c).kind f (tick c) (flies w q.0),
      k.1 ∙ ap (λ x. x.dumps) q.2 ∙ dumps_joins (tick c).kind f (tick c) (flies w q.0) (tick_begins c.state _ _ _ _),
    )

-- the host gives up after it strayed
stray_ends : (f : FatesByNumber) → AreMild f → (w u v : Line) → Strayed w u → console_talk f esc u ≡ Some v → v.unseen ≡ None → IsCalm v × (v.dumps ≡ w.dumps)
stray_ends f mild w u v k e un =
    let is : says_byte f 27 true u ≡ v = same_Some _ v e in
    let q = gives_up k.history k.plan k.low k.high 5000 f mild u k.begun k.tame (ap (λ x. x.unseen) is ∙ un) in
    (subst IsCalm is (tame_calm k.history k.plan k.low (k.high + 1) (5000 + page_size) (says_byte f 27 true u) (omega arith) q.2 q.0), ap (λ x. x.dumps) (sym is) ∙ q.1 ∙ k.dumps)

rested_strayed : (w u : Line) → Rested u → u.dumps ≡ w.dumps → Strayed w u
rested_strayed w u r d = record {
  history = u.console.history;
  plan = own_plan u.console.state;
  low = own_sent u.console.state;
  high = own_sent u.console.state;
  tame = record { near = near_itself u.console r.rests (sound_history u r.sound); few = subst (FewWaits 2 2) (sym r.flight) tt; closed = subst EndsInByte (sym r.flight) tt; size = omega (arith, ap (λ l. length (bytes_of l)) r.flight) };
  begun = r.begun;
  dumps = d;
}

-- the host gives up while the console awaits a frame
await_ends : (f : FatesByNumber) → (w u v : Line) → Awaiting [] w u → console_talk f esc u ≡ Some v → IsCalm v × (v.dumps ≡ w.dumps)
await_ends f w u v k e =
    let is : says_byte f 27 true u ≡ v = same_Some _ v e in
    let m = u.begun ++ 27 ∷ [] in
    let got = delivered (f.host (u.messages + 1)) m in
    let rs = f.mids (u.messages + 1) in
    let q = short_frame k.history k.store k.held f got [] k.idle (message_counted f m u) (omega (arith, delivered_length (f.host (u.messages + 1)) m, ap (λ x. length (x ++ 27 ∷ [])) k.begun)) in
    let z : hears f got (message_counted f m u) ≡ at_console (message_counted f m u) (at_state k.history k.store k.held (Frame ForDump got) q.0) = ap (λ c. hears f got (at_console (message_counted f m u) c)) k.console ∙ q.2 in
    let y = due_framed rs got k.history k.store k.held q.0 in
    let c : (says_byte f 27 true u).console ≡ at_state y.0 k.store k.held (Frame ForDump got) q.0 = ap (λ x. due_all rs x.console) z ∙ y.1 in
    let fl : (says_byte f 27 true u).flight ≡ [] = ap (λ x. x.flight) z ∙ k.flight in (
      subst IsCalm is (record {
        begun = ap (λ x. x.begun) z;
        brief = subst (λ x. IsBrief x.state x.idle) (sym c) (omega (arith, q.1, k.soon));
        closed = subst EndsInByte (sym fl) tt;
        bytes = subst (λ l. count_bytes l + pending (says_byte f 27 true u).console.state < 65000) (sym fl) (omega (arith, pending_at_most (says_byte f 27 true u).console.state));
        waits = subst (FewWaits 2 2) (sym fl) tt;
      }),
      ap (λ x. x.dumps) (sym is) ∙ ap (λ x. x.dumps) z ∙ k.dumps,
    )

-- the host gives up after a header
begins_ends : (g : List (List ℕ)) (frame : List ℕ) (f : FatesByNumber) → AreMild f → (t : List TalkItem) (w u v : Line) → Begins g frame w t u → console_talk f esc u ≡ Some v → v.unseen ≡ None →
    IsCalm v × (v.dumps ≡ w.dumps ++ record { history = g; frame = frame; plan = plan_after g frame } ∷ [])
begins_ends g frame f mild t w u v k e un =
    let is : says_byte f 27 true u ≡ v = same_Some _ v e in
    let q = gives_up g (plan_after g frame) 0 0 5000 f mild u k.begun k.tame (ap (λ x. x.unseen) is ∙ un) in
    (subst IsCalm is (tame_calm g (plan_after g frame) 0 (0 + 1) (5000 + page_size) (says_byte f 27 true u) (omega arith) q.2 q.0), ap (λ x. x.dumps) (sym is) ∙ q.1 ∙ k.dumps)

-- The parts of an attempt from a calm line, for each law of one.
module _ (f : FatesByNumber) (ok : AreSound f) where
  -- behind the settling the console rests, and no dump began
  pub settled_line : (s : List TalkItem) (w v : Line) → IsSound w → IsCalm w → Still settled_waits s → console_talk f s w ≡ Some v → Rested v × (v.dumps ≡ w.dumps)
  settled_line s w v sound calm still e =
      let settled = flight_law f ok.mild s w v calm still e in
      let b = listens_begun f s w v (Still-listens settled_waits s still) e in
      (record { flight = settled.0; begun = b.0 ∙ calm.begun; rests = settled.1; sound = sound_talk f ok s w v e sound }, b.1)

  -- The line behind the settling and the wake, where no dump began, and from which the rest of the talk goes.
  pub record Woken (rest : List TalkItem) (w v : Line) : Type 0 where
    pub mid : Line
    pub rested : Rested mid
    pub dumps : mid.dumps ≡ w.dumps
    pub goes : console_talk f rest mid ≡ Some v

  pub wakes_up : (talk s t rest : List TalkItem) (awake : Bool) (w v : Line) → IsSound w → IsCalm w → talk ≡ s ++ (t ++ rest) → Still settled_waits s → Wakes wake_tries t awake → console_talk f talk w ≡ Some v → Woken rest w v
  wakes_up talk s t rest awake w v sound calm split still wakes e =
      let m = talks_part f s (t ++ rest) w v (ap (λ x. console_talk f x w) (sym split) ∙ e) in
      let m2 = talks_part f t rest m.0 v m.2 in
      let settled = settled_line s w m.0 sound calm still m.1 in
      let woken = wakes_law f ok wake_tries t awake m.0 m2.0 settled.0 wakes m2.1 in
      record { mid = m2.0; rested = woken.0; dumps = woken.1 ∙ settled.1; goes = m2.2 }

  -- the line behind DMPAFT and what answers it: the console awaits a frame, or no 0x06 was heard
  pub asks_part : (talk t rest : List TalkItem) (w v : Line) → Rested w → talk ≡ message dmpaft ++ (t ++ rest) → Awaits answer_waits 1 t → console_talk f talk w ≡ Some v → v.unseen ≡ None
      → (m : Line) × (console_talk f (message dmpaft ++ t) w ≡ Some m) × (console_talk f rest m ≡ Some v) × (Awaiting [] w m ⊎ (Strayed w m × ((heard t ≡ 6 ∷ []) → ⊥)))
  asks_part talk t rest w v r split awaits e un =
      let m = talks_part f (message dmpaft ++ t) rest w v (ap (λ x. console_talk f x w) (append_assoc (message dmpaft) t rest ∙ sym split) ∙ e) in
      (m.0, m.1, m.2, asks_law f ok t w m.0 r awaits m.1 (goes_unseen f rest m.0 v m.2 un))

  -- the line behind the stamp frame and what answers it: a dump begins, or no header was heard
  pub heads_part : (frame : List ℕ) → length frame ≡ 6 → (talk t rest : List TalkItem) (w u v : Line) → Awaiting [] w u → talk ≡ message frame ++ (t ++ rest) → Awaits answer_waits 7 t → console_talk f talk u ≡ Some v → v.unseen ≡ None
      → (m : Line) × (console_talk f (message frame ++ t) u ≡ Some m) × (console_talk f rest m ≡ Some v) × (((g : List (List ℕ)) × Begins g frame w t m) ⊎ (Strayed w m × ((n k : ℕ) → IsHeader (heard t) n k → ⊥)))
  heads_part frame six talk t rest w u v k split awaits e un =
      let m = talks_part f (message frame ++ t) rest u v (ap (λ x. console_talk f x u) (append_assoc (message frame) t rest ∙ sym split) ∙ e) in
      (m.0, m.1, m.2, heads_law f ok.mild frame t w u m.0 six k awaits m.1 (goes_unseen f rest m.0 v m.2 un))

module _ (f : FatesByNumber) (ok : AreSound f) (frame : List ℕ) (six : length frame ≡ 6) where
  heads_end : (talk : List TalkItem) (place : ℕ) (taken : List (List ℕ)) (end : End) (w u v : Line) → Awaiting [] w u → Heads frame talk place taken end → console_talk f talk u ≡ Some v → v.unseen ≡ None → IsCalm v × GathersPages frame w place taken end v
  heads_end talk place taken end w u v k (t, rest, split, awaits, next) e un =
      let m = heads_part f ok frame six talk t rest w u v k split awaits e un in
      elim m.3 [
        | inl a ↦ elim next [
          | inl b ↦ (let r = a.1.ready b.0 place b.1 in
              let q = pages_law a.0 (plan_after a.0 frame) f ok.mild b.0 0 rest taken end m.0 v (omega (arith, r.0)) b.2 r.2 m.2 un in
              (q.calm, inr (a.0, q.dumps ∙ a.1.dumps, q.pages, omega (arith, q.count), λ z. omega (arith, q.whole z), λ z. r.1, a.1.records, a.1.rises)))
          | inr b ↦ (let q = begins_ends a.0 frame f ok.mild t w m.0 v a.1 (ap (λ x. console_talk f x m.0) (sym b.2) ∙ m.2) un in
              (q.0, inr (a.0, q.1, rw b.3 tt, rw b.3 (omega arith), λ z. absurd (let y : End.Failed b.0 ≡ End.Whole = sym b.4 ∙ z in cc), λ z. absurd (omega (arith, z, ap length b.3)), a.1.records, a.1.rises)))
        ]
        | inr a ↦ elim next [
          | inl b ↦ absurd (a.1 b.0 place b.1)
          | inr b ↦ (let q = stray_ends f ok.mild w m.0 v a.0 (ap (λ x. console_talk f x m.0) (sym b.2) ∙ m.2) un in
              (q.0, inl (q.1, b.3, λ z. let y : End.Failed b.0 ≡ End.Whole = sym b.4 ∙ z in cc)))
        ]
      ]

  asks_end : (talk : List TalkItem) (place : ℕ) (taken : List (List ℕ)) (end : End) (w v : Line) → Rested w → Requests frame talk place taken end → console_talk f talk w ≡ Some v → v.unseen ≡ None → IsCalm v × GathersPages frame w place taken end v
  asks_end talk place taken end w v r (t, rest, split, awaits, next) e un =
      let m = asks_part f ok talk t rest w v r split awaits e un in
      elim m.3 [
        | inl a ↦ elim next [
          | inl b ↦ heads_end rest place taken end w m.0 v a b.1 m.2 un
          | inr b ↦ (let q = await_ends f w m.0 v a (ap (λ x. console_talk f x m.0) (sym b.1) ∙ m.2) in
              (q.0, inl (q.1, b.2, λ z. let y : End.Failed _ ≡ End.Whole = sym b.3 ∙ z in cc)))
        ]
        | inr a ↦ elim next [
          | inl b ↦ absurd (a.1 b.0)
          | inr b ↦ (let q = stray_ends f ok.mild w m.0 v a.0 (ap (λ x. console_talk f x m.0) (sym b.1) ∙ m.2) un in
              (q.0, inl (q.1, b.2, λ z. let y : End.Failed _ ≡ End.Whole = sym b.3 ∙ z in cc)))
        ]
      ]

  moved : (a w v : Line) (place : ℕ) (taken : List (List ℕ)) (end : End) → a.dumps ≡ w.dumps → GathersPages frame a place taken end v → GathersPages frame w place taken end v
  moved a w v place taken end d (inl q) = inl (q.0 ∙ d, q.1, q.2)
  moved a w v place taken end d (inr q) = inr (q.0, q.1 ∙ ap (λ x. x ++ record { history = q.0; frame = frame; plan = plan_after q.0 frame } ∷ []) d, q.2, q.3, q.4, q.5, q.6, q.7)

  pub attempt_law : (talk : List TalkItem) (place : ℕ) (taken : List (List ℕ)) (end : End) (w v : Line) → IsSound w → IsCalm w → Attempt frame talk place taken end → console_talk f talk w ≡ Some v → v.unseen ≡ None → IsCalm v × GathersPages frame w place taken end v
  attempt_law talk place taken end w v sound calm (inr (inl (flood, none, is))) e un = absurd (no_flood f 6 talk w v calm flood e)
  attempt_law talk place taken end w v sound calm (inr (inr (s, t, split, still, floods, none, is))) e un =
      let m = talks_part f s t w v (ap (λ x. console_talk f x w) (sym split) ∙ e) in
      absurd (wake_no_flood f ok 3 t m.0 v (settled_line f ok s w m.0 sound calm still m.1).0 floods m.2)
  attempt_law talk place taken end w v sound calm (inl (s, t, rest, awake, split, still, wakes, next)) e un =
      let k = wakes_up f ok talk s t rest awake w v sound calm split still wakes e in
      elim next [
        | inl a ↦ (let q = asks_end rest place taken end k.mid v k.rested a.1 k.goes un in (q.0, moved k.mid w v place taken end k.dumps q.1))
        | inr a ↦ (let q = stray_ends f ok.mild w k.mid v (rested_strayed w k.mid k.rested k.dumps) (ap (λ x. console_talk f x k.mid) (sym a.1) ∙ k.goes) un in
            (q.0, inl (q.1, a.2, λ z. let y : End.Failed _ ≡ End.Whole = sym a.3 ∙ z in cc)))
      ]

  -- nothing floods from the stamp frame on
  heads_dry : (talk : List TalkItem) (place : ℕ) (taken : List (List ℕ)) (w u v : Line) → Awaiting [] w u → Heads frame talk place taken End.Flooded → console_talk f talk u ≡ Some v → v.unseen ≡ None → ⊥
  heads_dry talk place taken w u v k (t, rest, split, awaits, next) e un =
      let m = heads_part f ok frame six talk t rest w u v k split awaits e un in
      elim m.3 [
        | inl a ↦ elim next [
          | inl b ↦ (let r = a.1.ready b.0 place b.1 in
              pages_dry a.0 (plan_after a.0 frame) f ok.mild b.0 0 rest taken m.0 v (omega (arith, r.0)) b.2 r.2 m.2 un)
          | inr b ↦ (let y : End.Flooded ≡ End.Failed b.0 = b.4 in cc)
        ]
        | inr a ↦ elim next [
          | inl b ↦ absurd (a.1 b.0 place b.1)
          | inr b ↦ (let y : End.Flooded ≡ End.Failed b.0 = b.4 in cc)
        ]
      ]

  -- nor from DMPAFT on
  asks_dry : (talk : List TalkItem) (place : ℕ) (taken : List (List ℕ)) (w v : Line) → Rested w → Requests frame talk place taken End.Flooded → console_talk f talk w ≡ Some v → v.unseen ≡ None → ⊥
  asks_dry talk place taken w v r (t, rest, split, awaits, next) e un =
      let m = asks_part f ok talk t rest w v r split awaits e un in
      elim m.3 [
        | inl a ↦ elim next [
          | inl b ↦ heads_dry rest place taken w m.0 v a b.1 m.2 un
          | inr b ↦ (let y : End.Flooded ≡ End.Failed _ = b.3 in cc)
        ]
        | inr a ↦ elim next [
          | inl b ↦ absurd (a.1 b.0)
          | inr b ↦ (let y : End.Flooded ≡ End.Failed _ = b.3 in cc)
        ]
      ]

  -- no attempt over a calm line floods, no delivery being unseen
  pub attempt_dry : (talk : List TalkItem) (place : ℕ) (taken : List (List ℕ)) (w v : Line) → IsSound w → IsCalm w → Attempt frame talk place taken End.Flooded → console_talk f talk w ≡ Some v → v.unseen ≡ None → ⊥
  attempt_dry talk place taken w v sound calm (inr (inl (flood, none, is))) e un = no_flood f 6 talk w v calm flood e
  attempt_dry talk place taken w v sound calm (inr (inr (s, t, split, still, floods, none, is))) e un =
      let m = talks_part f s t w v (ap (λ x. console_talk f x w) (sym split) ∙ e) in
      wake_no_flood f ok 3 t m.0 v (settled_line f ok s w m.0 sound calm still m.1).0 floods m.2
  attempt_dry talk place taken w v sound calm (inl (s, t, rest, awake, split, still, wakes, next)) e un =
      let k = wakes_up f ok talk s t rest awake w v sound calm split still wakes e in
      elim next [
        | inl a ↦ asks_dry rest place taken k.mid v k.rested a.1 k.goes un
        | inr a ↦ (let y : End.Flooded ≡ End.Failed _ = a.3 in cc)
      ]
