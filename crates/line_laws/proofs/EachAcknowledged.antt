-- Each page counts as acknowledged that was taken, and right after which 0x06 was said.
use Rattle.std.proofs.Common.{◌≡◌, ℕ, zero, suc, ◌+◌, ◌-◌, ◌≤◌, ◌%◌, if◌then◌else◌, true, ◌⊎◌, inl, inr, List, [], ◌∷◌, ◌++◌, length, Some, None, refl, sym, ◌∙◌, ap, subst, arith, append-nil, length-append}
use Rattle.std.specs.Prelude.{bytes_eq}
use Rattle.std.proofs.lemmas.Option.{same_Some}
use Rattle.console_ring.specs.declared.plan.Plan.{Plan}
use Rattle.crc_ccitt.specs.Check.{is_good}
use Rattle.console_model.specs.Console.{Console, Outcome, Store}
use Rattle.console_model.specs.Console.ConsoleState.{Dump}
use Rattle.console_model.specs.Hear.{hear}
use Rattle.console_model.specs.Spelling.{plan_after}
use Rattle.vantage_frames.specs.Ack.{ack}
use Rattle.vantage_frames.specs.Slots.{page_size}
use Rattle.serial_link.specs.Talk.{message}
use Rattle.serial_link.specs.declared.talk.TalkItem.{TalkItem}
use Rattle.serial_link.specs.declared.talk.TalkItem.TheVariants.{Said}
use Rattle.wake_retry.specs.Parts.{heard, IsFull, Awaits, answer_waits}
use Rattle.dmpaft_pump.specs.Command.{dmpaft}
use Rattle.dmpaft_pump.specs.Page.{is_page_for, next_said}
use Rattle.dmpaft_pump.specs.Pump.{most_askings}
use Rattle.dmpaft_driver.specs.Attempt.{TakesPage, Pages, Heads, Requests, Attempt, End}
use Rattle.dmpaft_driver.specs.OneAttempt.{Acknowledges}
use Rattle.schedule_file.specs.Fates.{FatesByNumber}
use Rattle.station_sim.specs.Calm.{AreMild, ConsoleRests, IsCalm}
use Rattle.station_sim.specs.Delivery.{delivered}
use Rattle.station_sim.specs.Joining.{and_then_some, talks_part}
use Rattle.station_sim.specs.Line.{Line, due_all, happens, hears, message_counted, says_byte}
use Rattle.station_sim.specs.Sound.{IsSound, AreSound}
use Rattle.station_sim.specs.Talk.{line_step, console_talk}
use Rattle.station_sim.proofs.SoundLines.{sound_talk}
use Rattle.line_laws.specs.Host.{Near, HasSequence, HostIsReady}
use Rattle.line_laws.specs.PagesAcknowledged.{pages_sent, acknowledged_by, pages_acknowledged}
use Rattle.line_laws.specs.Unharmed.{Rested}
use Rattle.line_laws.proofs.Asked.{at_state, Answer, hears_one}
use Rattle.line_laws.proofs.Asked.Answer.{a_page, a_wake, nothing}
use Rattle.line_laws.proofs.Attempts.{attempt_law, wakes_up, asks_part, heads_part}
use Rattle.line_laws.proofs.Clean.{steady_full, waits_of, waits_late}
use Rattle.line_laws.proofs.Delivery.{bytes_of_late, delivered_length}
use Rattle.line_laws.proofs.FrameStage.{quiets}
use Rattle.line_laws.proofs.HushedConsole.{bytes_of, happens-nothing, listens}
use Rattle.line_laws.proofs.NotTooEarly.{count_on}
use Rattle.line_laws.proofs.Pages.{awaits_listens, asked_again, goes_unseen, page_parts, takes_law}
use Rattle.line_laws.proofs.Places.{asking, said, flight_of, happens-page, happens-wake}
use Rattle.line_laws.proofs.RoomToHold.{HasRoom, awaiting_room, heard_holds, room_talk}
use Rattle.line_laws.proofs.Unharmed.{due_dump}
use Rattle.line_laws.proofs.WakeLaws.{Awaiting}

-- what counts behind a talk counts in both
later_counts : (f : FatesByNumber) (s t : List TalkItem) (w m : Line) → console_talk f s w ≡ Some m → pages_acknowledged f t m ≤ pages_acknowledged f (s ++ t) w
later_counts f [] t w m e = omega (arith, ap (pages_acknowledged f t) (same_Some w m e))
later_counts f (i ∷ s) t w m e =
    let g = and_then_some (line_step f i w) (console_talk f s) m e in
    omega (arith, count_on f i (s ++ t) w g.0 g.1, later_counts f s t g.0 m g.2)

-- 0x06 in a dump counts
said_counts : (f : FatesByNumber) (t : List TalkItem) (w : Line) (p : Plan) (n : ℕ) → w.begun ≡ [] → w.console.state ≡ Dump p n → n ≤ pages_acknowledged f (Said 6 true ∷ t) w
said_counts f t w p n begun state =
    let z : acknowledged_by (Said 6 true) w ≡ n = ap (λ (x : List ℕ). if bytes_eq (x ++ 6 ∷ []) ack then pages_sent w.console.state else 0) begun ∙ ap pages_sent state in
    omega (arith, z, count_on f (Said 6 true) t w (says_byte f 6 true w) refl)

module _ (h : List (List ℕ)) (p : Plan) (f : FatesByNumber) (mild : AreMild f) where
  -- the console stands behind page m of the dump, a byte just heard, before records fall due
  record Sent (m : ℕ) (hs : List (List ℕ)) (u : Line) : Type 0 where
    store : Store
    console : u.console ≡ at_state h store hs (Dump p (m + 1)) 0
    late : waits_of u.flight ≤ 2

  -- what is heard of a byte: too little for a page, or the console has just sent one
  came : (low high : ℕ) (got : List ℕ) (w : Line) → length got ≤ 1 → w.flight ≡ [] → Near h p low high w.console → ConsoleRests w.console.state →
      (length (bytes_of (hears f got w).flight) ≤ 2) ⊎ ((m : ℕ) × (hs : List (List ℕ)) × (length hs ≤ length w.console.held) × Sent m hs (hears f got w))
  came low high [] w one empty near rests = inl (omega (arith, ap (λ l. length (bytes_of l)) empty))
  came low high (x ∷ y ∷ got) w one empty near rests = absurd (omega arith)
  came low high (x ∷ []) w one empty near rests = go (hears_one h p low high w.console x near rests).answer
    where
      o : Outcome
      o = hear w.console x

      go : Answer h p low high (hear w.console x) → (length (bytes_of (happens f (hear w.console x) w).flight) ≤ 2) ⊎ ((m : ℕ) × (hs : List (List ℕ)) × (length hs ≤ length w.console.held) × Sent m hs (happens f (hear w.console x) w))
      go (nothing k) = inl (omega (arith, ap (λ v. length (bytes_of v.flight)) (happens-nothing f (hear w.console x) w k), ap (λ l. length (bytes_of l)) empty))
      go (a_wake k n) =
          inl (omega (
            arith,
            ap (λ v. length (bytes_of v.flight)) (happens-wake f (hear w.console x) w k),
            ap (λ l. length (bytes_of l)) (flight_of f (hear w.console x) w empty),
            ap length (bytes_of_late (f.late (w.replies + 1)).waits (f.late (w.replies + 1)).place (delivered (f.reply (w.replies + 1)) (hear w.console x).bytes)),
            delivered_length (f.reply (w.replies + 1)) (hear w.console x).bytes,
            n,
          ))
      go (a_page m k b long lo hi z r (d, hs, is)) = inr (
        m,
        hs,
        omega (arith, heard_holds w.console x, ap (λ (c : Console). length c.held) is),
        record {
          store = d;
          console = ap (λ v. v.console) (happens-page f (hear w.console x) w k) ∙ is;
          late = omega (
            arith,
            ap (λ v. waits_of v.flight) (happens-page f (hear w.console x) w k),
            ap waits_of (flight_of f (hear w.console x) w empty),
            waits_late (f.late (w.replies + 1)).waits (f.late (w.replies + 1)).place (delivered (f.reply (w.replies + 1)) (hear w.console x).bytes),
            mild (w.replies + 1),
          );
        },
      )

  -- page k was asked for and came: the console is in the dump, just behind it
  page_came : (k j b : ℕ) (t : List TalkItem) (w v : Line) → j ≤ most_askings - 1 → HostIsReady h p k j w → HasRoom f w → Awaits answer_waits page_size t → console_talk f (Said b true ∷ t) w ≡ Some v → v.unseen ≡ None
      → is_page_for k (heard t) ≡ true → v.console.state ≡ Dump p (k + 1)
  page_came k j b t w v few r room awaits e un page =
      let a = said h p k (k + j) f mild b w r.flight r.begun r.near r.rests in
      let l = listens h p k (k + j + 1) f t (says_byte f b true w) v (awaits_listens page_size t awaits) a.near e in
      go l.bytes (came k (k + j) got (message_counted f (w.begun ++ b ∷ []) w) one r.flight r.near r.rests)
    where
      good : (length (heard t) ≡ page_size) × (is_good (heard t) ≡ true) × HasSequence (k % 256) (heard t)
      good = page_parts k (heard t) page

      got : List ℕ
      got = delivered (f.host (w.messages + 1)) (w.begun ++ b ∷ [])

      one : length got ≤ 1
      one = omega (arith, delivered_length (f.host (w.messages + 1)) (w.begun ++ b ∷ []), ap (λ x. length (x ++ b ∷ [])) r.begun)

      ready : HostIsReady h p (k + 1) 0 v
      ready = ((asking h p k j f mild t (awaits_listens page_size t awaits) w v b r few e).page un good.0 good.1 good.2).1

      full : IsFull answer_waits 0 t
      full = elim awaits [ inl x ↦ x.0 | inr x ↦ absurd (omega (arith, good.0, x.1)) ]

      go : bytes_of (hears f got (message_counted f (w.begun ++ b ∷ []) w)).flight ≡ heard t ++ bytes_of v.flight
          → (length (bytes_of (hears f got (message_counted f (w.begun ++ b ∷ []) w)).flight) ≤ 2) ⊎ ((m : ℕ) × (hs : List (List ℕ)) × (length hs ≤ length w.console.held) × Sent m hs (hears f got (message_counted f (w.begun ++ b ∷ []) w)))
          → v.console.state ≡ Dump p (k + 1)
      go bytes (inl short) = absurd (omega (arith, short, good.0, ap length bytes, length-append (heard t) (bytes_of v.flight)))
      go bytes (inr (m, hs, less, sent)) =
          let rs = f.mids (w.messages + 1) in
          let held = due_dump rs p (m + 1) h sent.store 0 hs (omega (arith, less, room 1)) in
          let u = says_byte f b true w in
          let stayed = steady_full h sent.store held.0 (Dump p (m + 1)) tt f t 0 0 u v full (ap (due_all rs) sent.console ∙ held.2) (omega (arith, sent.late)) (omega (arith, ap length bytes, length-append (heard t) (bytes_of v.flight))) e in
          let near : Near h p (k + 1) (k + 1 + 0) (at_state h sent.store held.0 (Dump p (m + 1)) (0 + quiets t)) = subst (Near h p (k + 1) (k + 1 + 0)) stayed.console ready.near in
          ap (λ (c : Console). c.state) stayed.console ∙ ap (Dump p) (let z : m + 1 ≡ k + 1 = omega (arith, near.2, near.3) in z)

  takes_dump : (left k j b : ℕ) (talk : List TalkItem) (bytes : List ℕ) (w v : Line) → left + j ≡ most_askings → TakesPage left k b talk bytes → HostIsReady h p k j w → HasRoom f w → console_talk f talk w ≡ Some v → v.unseen ≡ None → v.console.state ≡ Dump p (k + 1)
  takes_dump zero k j b talk bytes w v n x r room e u = absurd x
  takes_dump (suc left) k j b talk bytes w v n (t, rest, split, awaits, inl (page, none, is)) r room e u =
      let z : Said b true ∷ t ≡ talk = rw (split, none) (sym (append-nil (Said b true ∷ t))) in
      page_came k j b t w v (omega arith) r room awaits (ap (λ x. console_talk f x w) z ∙ e) u page
  takes_dump (suc left) k j b talk bytes w v n (t, rest, split, awaits, inr (page, ahead, (s, more, split2, still, again))) r room e u =
      let m = talks_part f (Said b true ∷ t) rest w v (ap (λ x. console_talk f x w) (sym split) ∙ e) in
      let m2 = talks_part f s more m.0 v (ap (λ x. console_talk f x m.0) (sym split2) ∙ m.2) in
      let a = asking h p k j f mild t (awaits_listens page_size t awaits) w m.0 b r (omega arith) m.1 in
      let c = asked_again h p f mild k j s w m.0 m2.0 t a still m2.1 in
      takes_dump left k (j + 1) (next_said k (heard t)) more bytes m2.0 v (omega arith) again c.0 (room_talk f s m.0 m2.0 m2.1 (room_talk f (Said b true ∷ t) w m.0 m.1 room)) m2.2 u

  -- behind pages of which the last is not acknowledged yet the console is in the dump, just behind that page
  pub pages_dump : (left k : ℕ) (talk : List TalkItem) (taken : List (List ℕ)) (w v : Line) → left + k ≡ p.pages → Pages left k talk taken End.Refused → HostIsReady h p k 0 w → HasRoom f w → console_talk f talk w ≡ Some v → v.unseen ≡ None → v.console.state ≡ Dump p (k + length taken)
  pages_dump zero k talk taken w v n (split, none, is) r room e u = absurd cc
  pages_dump (suc left) k talk taken w v n (inl (t, rest, bytes, more, split, takes, is, inl again)) r room e u =
      let m = talks_part f t rest w v (ap (λ x. console_talk f x w) (sym split) ∙ e) in
      let a = takes_law h p f mild most_askings k 0 6 t bytes w m.0 refl takes r m.1 (goes_unseen f rest m.0 v m.2 u) in
      pages_dump left (k + 1) rest more m.0 v (omega arith) again a.1 (room_talk f t w m.0 m.1 room) m.2 u ∙ ap (Dump p) (let z : k + 1 + length more ≡ k + length taken = omega (arith, ap length is) in z)
  pages_dump (suc left) k talk taken w v n (inl (t, rest, bytes, more, split, takes, is, inr (none, no_more, refused))) r room e u =
      let z : t ≡ talk = rw (split, none) (sym (append-nil t)) in
      takes_dump most_askings k 0 6 t bytes w v refl takes r room (ap (λ x. console_talk f x w) z ∙ e) u ∙ ap (Dump p) (let z : k + 1 ≡ k + length taken = omega (arith, ap length is, ap length no_more) in z)
  pages_dump (suc left) k talk taken w v n (inr (inl (t, trouble, split, misses, none, failed))) r room e u = absurd cc
  pages_dump (suc left) k talk taken w v n (inr (inr (floods, none, is))) r room e u = absurd cc

module _ (f : FatesByNumber) (ok : AreSound f) (frame : List ℕ) (six : length frame ≡ 6) where
  abbrev InDumpBehind : List (List ℕ) → Line → Type 0
  InDumpBehind taken v = (p : Plan) × (v.console.state ≡ Dump p (length taken))

  heads_dump : (talk : List TalkItem) (place : ℕ) (taken : List (List ℕ)) (w u v : Line) → Awaiting [] w u → IsSound u → Heads frame talk place taken End.Refused → console_talk f talk u ≡ Some v → v.unseen ≡ None → InDumpBehind taken v
  heads_dump talk place taken w u v k sound (t, rest, split, awaits, next) e un =
      let m = heads_part f ok frame six talk t rest w u v k split awaits e un in
      elim next [
        | inr b ↦ (let y : End.Refused ≡ End.Failed b.0 = b.4 in absurd cc)
        | inl b ↦ elim m.3 [
          | inl a ↦ (let r = a.1.ready b.0 place b.1 in
              let p = plan_after a.0 frame in
              let room = room_talk f (message frame ++ t) u m.0 m.1 (awaiting_room f ok.few [] w u k sound) in
              (p, pages_dump a.0 p f ok.mild b.0 0 rest taken m.0 v (omega (arith, r.0)) b.2 r.2 room m.2 un ∙ ap (Dump p) (let z : 0 + length taken ≡ length taken = omega arith in z)))
          | inr a ↦ absurd (a.1 b.0 place b.1)
        ]
      ]

  asks_dump : (talk : List TalkItem) (place : ℕ) (taken : List (List ℕ)) (w v : Line) → Rested w → Requests frame talk place taken End.Refused → console_talk f talk w ≡ Some v → v.unseen ≡ None → InDumpBehind taken v
  asks_dump talk place taken w v r (t, rest, split, awaits, next) e un =
      let m = asks_part f ok talk t rest w v r split awaits e un in
      elim next [
        | inr b ↦ (let y : End.Refused ≡ End.Failed _ = b.3 in absurd cc)
        | inl b ↦ elim m.3 [
          | inl a ↦ heads_dump rest place taken w m.0 v a (sound_talk f ok (message dmpaft ++ t) w m.0 m.1 r.sound) b.1 m.2 un
          | inr a ↦ absurd (a.1 b.0)
        ]
      ]

  -- behind an attempt whose last page is not acknowledged yet
  attempt_dump : (talk : List TalkItem) (place : ℕ) (taken : List (List ℕ)) (w v : Line) → IsSound w → IsCalm w → Attempt frame talk place taken End.Refused → console_talk f talk w ≡ Some v → v.unseen ≡ None → InDumpBehind taken v
  attempt_dump talk place taken w v sound calm (inr (inl (flood, none, is))) e un = absurd cc
  attempt_dump talk place taken w v sound calm (inr (inr (s, t, split, still, floods, none, is))) e un = absurd cc
  attempt_dump talk place taken w v sound calm (inl (s, t, rest, awake, split, still, wakes, next)) e un =
      let k = wakes_up f ok talk s t rest awake w v sound calm split still wakes e in
      elim next [
        | inl a ↦ asks_dump rest place taken k.mid v k.rested a.1 k.goes un
        | inr a ↦ (let y : End.Refused ≡ End.Failed _ = a.3 in absurd cc)
      ]

  -- each page right after which 0x06 was said counts
  pub all_counted : (talk : List TalkItem) (place : ℕ) (pages : List (List ℕ)) (w v : Line) → IsSound w → IsCalm w → Acknowledges frame talk place pages → console_talk f talk w ≡ Some v → v.unseen ≡ None → length pages ≤ pages_acknowledged f talk w
  all_counted talk place pages w v sound calm (front, rest, split, attempt) e un =
      let m = talks_part f front (Said 6 true ∷ rest) w v (ap (λ x. console_talk f x w) (sym split) ∙ e) in
      let seen = goes_unseen f (Said 6 true ∷ rest) m.0 v m.2 un in
      let calm_there = (attempt_law f ok frame six front place pages End.Refused w m.0 sound calm attempt m.1 seen).0 in
      let dump = attempt_dump front place pages w m.0 sound calm attempt m.1 seen in
      omega (arith, said_counts f rest m.0 dump.0 (length pages) calm_there.begun dump.1, later_counts f front (Said 6 true ∷ rest) w m.0 m.1, ap (λ x. pages_acknowledged f x w) split)
