-- No page counts as acknowledged before the host took it.
use Rattle.std.proofs.Common.{◌≡◌, ◌≢◌, ℕ, zero, suc, ◌+◌, ◌-◌, ◌<◌, ◌≤◌, ◌%◌, if◌then◌else◌, Bool, true, false, ◌⊎◌, inl, inr, List, [], ◌∷◌, ◌++◌, length, Some, None, refl, sym, ◌∙◌, ap, subst, arith, append_assoc, append-nil, length-append}
use Rattle.std.specs.Prelude.{bytes_eq, max}
use Rattle.std.proofs.lemmas.Option.{same_Some}
use Rattle.std.proofs.lemmas.Slice.Eq.{bytes_eq-Decides}
use Rattle.console_ring.specs.declared.plan.Plan.{Plan}
use Rattle.console_ring.specs.Picture.{page_of}
use Rattle.console_model.specs.Console.{ConsoleState}
use Rattle.console_model.specs.Console.ConsoleState.{Asleep, Command, Overlong, Frame, Dump, Looping}
use Rattle.console_model.specs.Spelling.{plan_after}
use Rattle.crc_ccitt.specs.Check.{is_good}
use Rattle.vantage_frames.specs.Ack.{ack}
use Rattle.vantage_frames.specs.Slots.{page_size}
use Rattle.serial_link.specs.Talk.{message}
use Rattle.serial_link.specs.declared.talk.TalkItem.{TalkItem}
use Rattle.serial_link.specs.declared.talk.TalkItem.TheVariants.{Said, Heard, Quiet}
use Rattle.wake_retry.specs.Parts.{heard, Still, Awaits, Wakes, wake_tries, answer_waits, settled_waits}
use Rattle.dmpaft_pump.specs.Command.{dmpaft}
use Rattle.dmpaft_pump.specs.Page.{is_page_before, next_said}
use Rattle.dmpaft_pump.specs.Pump.{most_askings}
use Rattle.dmpaft_pump.specs.declared.outcome.Trouble.{Trouble}
use Rattle.dmpaft_driver.specs.Attempt.{TakesPage, Misses, Pages, Heads, Requests, Attempt, End, esc}
use Rattle.schedule_file.specs.Fates.{FatesByNumber}
use Rattle.station_sim.specs.Line.{Line, says_byte}
use Rattle.station_sim.specs.Talk.{line_step, console_talk}
use Rattle.station_sim.specs.Calm.{AreMild, IsCalm}
use Rattle.station_sim.specs.Sound.{IsSound, AreSound}
use Rattle.station_sim.specs.Joining.{and_then_some, talks_part}
use Rattle.line_laws.specs.Host.{OnlyListens, Near, NearAt, HostIsReady, HasSequence}
use Rattle.line_laws.specs.PagesAcknowledged.{pages_sent, acknowledged_by, counted_from, pages_acknowledged}
use Rattle.line_laws.specs.Unharmed.{Rested}
use Rattle.line_laws.proofs.Attempts.{attempt_dry, settled_line, asks_part, heads_part}
use Rattle.line_laws.proofs.Delivery.{page_sequence}
use Rattle.line_laws.proofs.HushedConsole.{bytes_of, listens}
use Rattle.line_laws.proofs.Pages.{awaits_listens, asked_again, goes_unseen, page_parts, settles, takes_law, pages_dry}
use Rattle.line_laws.proofs.Places.{InFlight, asking, said, no_length}
use Rattle.line_laws.proofs.SettledConsole.{Still-listens}
use Rattle.line_laws.proofs.WakeLaws.{Awaiting, wakes_law}

-- a count goes on behind an item
pub count_on : (f : FatesByNumber) (i : TalkItem) (t : List TalkItem) (w u : Line) → line_step f i w ≡ Some u → pages_acknowledged f (i ∷ t) w ≡ max (acknowledged_by i w) (pages_acknowledged f t u)
count_on f i t w u e = ap (λ o. max (acknowledged_by i w) (counted_from o (pages_acknowledged f t))) e

step_few : (n : ℕ) (f : FatesByNumber) (i : TalkItem) (t : List TalkItem) (w u : Line) → line_step f i w ≡ Some u → acknowledged_by i w ≤ n → pages_acknowledged f t u ≤ n → pages_acknowledged f (i ∷ t) w ≤ n
step_few n f i t w u e a b = omega (arith, a, b, count_on f i t w u e)

-- where no more than n count in either of two talks, no more do in both
join_few : (n : ℕ) (f : FatesByNumber) (s t : List TalkItem) (w m : Line) → console_talk f s w ≡ Some m → pages_acknowledged f s w ≤ n → pages_acknowledged f t m ≤ n → pages_acknowledged f (s ++ t) w ≤ n
join_few n f [] t w m e a b = subst (λ x. pages_acknowledged f t x ≤ n) (sym (same_Some w m e)) b
join_few n f (i ∷ s) t w m e a b =
    let g = and_then_some (line_step f i w) (console_talk f s) m e in
    let z = count_on f i s w g.0 g.1 in
    step_few n f i (s ++ t) w g.0 g.1 (omega (arith, a, z)) (join_few n f s t g.0 m g.2 (omega (arith, a, z)) b)

-- nothing is acknowledged while nothing is said
listen_few : (n : ℕ) (f : FatesByNumber) (t : List TalkItem) (w v : Line) → OnlyListens t → console_talk f t w ≡ Some v → pages_acknowledged f t w ≤ n
listen_few n f [] w v quiet e = omega arith
listen_few n f (Said b ends ∷ t) w v quiet e = absurd quiet
listen_few n f (Heard b ∷ t) w v quiet e =
    let g = and_then_some (line_step f (Heard b) w) (console_talk f t) v e in
    step_few n f (Heard b) t w g.0 g.1 (omega arith) (listen_few n f t g.0 v quiet g.2)
listen_few n f (Quiet ∷ t) w v quiet e =
    let g = and_then_some (line_step f Quiet w) (console_talk f t) v e in
    step_few n f Quiet t w g.0 g.1 (omega arith) (listen_few n f t g.0 v quiet g.2)

-- a message that is 0x06 has no other byte
own_message : (begun : List ℕ) (b : ℕ) → begun ++ b ∷ [] ≡ ack → (begun ≡ []) × (b ≡ 6)
own_message [] b e = (refl, cc)
own_message (x ∷ []) b e = absurd cc
own_message (x ∷ y ∷ begun) b e = absurd cc

near_sent : (h : List (List ℕ)) (p : Plan) (k : ℕ) (s : ConsoleState) (i : ℕ) (g : List (List ℕ)) → NearAt h p k k s i g → pages_sent s ≤ k
near_sent h p k Asleep i g n = omega arith
near_sent h p k (Command line) i g n = omega arith
near_sent h p k Overlong i g n = omega arith
near_sent h p k (Frame kind got) i g n = omega arith
near_sent h p k (Dump q sent) i g n = n.3
near_sent h p k (Looping l) i g n = omega arith

-- at the end of a message that has more bytes, or another, nothing is acknowledged
other_few : (n b : ℕ) (w : Line) → ((w.begun ≡ []) → b ≡ 6 → pages_sent w.console.state ≤ n) → acknowledged_by (Said b true) w ≤ n
other_few n b w few = go (bytes_eq (w.begun ++ b ∷ []) ack) refl
  where
    go : (t : Bool) → bytes_eq (w.begun ++ b ∷ []) ack ≡ t → (if t then pages_sent w.console.state else 0) ≤ n
    go true e = let own = own_message w.begun b ((bytes_eq-Decides (w.begun ++ b ∷ []) ack).0 e) in few own.0 own.1
    go false e = omega arith

before_same : (k j m : ℕ) → j ≤ most_askings - 1 → suc k ≤ m + 1 → m + 1 ≤ suc k + j + 1 → m % 256 ≡ k % 256 → m ≡ k
before_same k j m a b c e = omega arith

-- 0x1B acknowledges nothing
esc_few : (n : ℕ) (f : FatesByNumber) (w : Line) → pages_acknowledged f esc w ≤ n
esc_few n f w = step_few n f (Said 27 true) [] w (says_byte f 27 true w) refl (other_few n 27 w (λ none six. absurd cc)) (omega arith)

module _ (h : List (List ℕ)) (p : Plan) (f : FatesByNumber) (mild : AreMild f) where
  -- where 0x06 is said only if the console stands just at page k, no more than k pages are acknowledged
  ack_few : (k b : ℕ) (w : Line) → (b ≡ 6 → Near h p k k w.console) → acknowledged_by (Said b true) w ≤ k
  ack_few k b w at = other_few k b w (λ none six. near_sent h p k w.console.state w.console.idle w.console.history (at six))

  asked_few : (k b : ℕ) (t : List TalkItem) (w v : Line) → OnlyListens t → (b ≡ 6 → Near h p k k w.console) → console_talk f (Said b true ∷ t) w ≡ Some v → pages_acknowledged f (Said b true ∷ t) w ≤ k
  asked_few k b t w v quiet at e = step_few k f (Said b true) t w (says_byte f b true w) refl (ack_few k b w at) (listen_few k f t (says_byte f b true w) v quiet e)

  -- the page before is heard: the console stands just at page k
  before_near : (k j b : ℕ) (t : List TalkItem) (w v : Line) → j ≤ most_askings - 1 → OnlyListens t → HostIsReady h p k j w → console_talk f (Said b true ∷ t) w ≡ Some v → v.unseen ≡ None → is_page_before k (heard t) ≡ true → Near h p k k v.console
  before_near zero j b t w v few quiet r e un page = absurd cc
  before_near (suc k) j b t w v few quiet r e un page =
      let a = said h p (suc k) (suc k + j) f mild b w r.flight r.begun r.near r.rests in
      go (says_byte f b true w) a.near a.answer e
    where
      g : (length (heard t) ≡ page_size) × (is_good (heard t) ≡ true) × HasSequence (k % 256) (heard t)
      g = page_parts k (heard t) page

      go : (u : Line) → Near h p (suc k) (suc k + j + 1) u.console → InFlight h p (suc k) (suc k + j) u → console_talk f t u ≡ Some v → Near h p (suc k) (suc k) v.console
      go u near (inl n) e =
          let l = listens h p (suc k) (suc k + j + 1) f t u v quiet near e in
          absurd (omega (arith, n, g.0, ap length l.bytes, length-append (heard t) (bytes_of v.flight)))
      go u near (inr (m, lo, hi, z, r, n, good)) e =
          let q = listens h p (m + 1) (m + 1) f t u v quiet z e in
          let none : bytes_of v.flight ≡ [] = no_length (bytes_of v.flight) (omega (arith, n, g.0, ap length q.bytes, length-append (heard t) (bytes_of v.flight))) in
          let same : bytes_of u.flight ≡ heard t = q.bytes ∙ ap (λ x. heard t ++ x) none ∙ append-nil (heard t) in
          let is_page : heard t ≡ page_of h p m = sym same ∙ good (sym q.unseen ∙ un) (ap length same ∙ g.0) (ap is_good same ∙ g.1) in
          let is : m ≡ k = before_same k j m few lo hi (page_sequence h p m (k % 256) (subst (HasSequence (k % 256)) is_page g.2)) in
          let at : m + 1 ≡ suc k = omega (arith, is) in
          subst (λ x. Near h p x x v.console) at q.near

  -- after a settling it still stands so
  next_near : (k j b : ℕ) (t s : List TalkItem) (w m u : Line) → j ≤ most_askings - 1 → Awaits answer_waits page_size t → HostIsReady h p k j w → console_talk f (Said b true ∷ t) w ≡ Some m → m.unseen ≡ None → Still settled_waits s → console_talk f s m ≡ Some u
      → next_said k (heard t) ≡ 6 → Near h p k k u.console
  next_near k j b t s w m u few awaits r e un still e2 six = go (is_page_before k (heard t)) refl six
    where
      go : (c : Bool) → is_page_before k (heard t) ≡ c → ◌≡◌ {A = ℕ} (if c then 6 else 21) 6 → Near h p k k u.console
      go true page x =
          let a = asking h p k j f mild t (awaits_listens page_size t awaits) w m b r few e in
          (settles h p k k 6 f s m u (omega arith) still (before_near k j b t w m few (awaits_listens page_size t awaits) r e un page) a.calm.waits e2).near
      go false page x = absurd cc

  takes_few : (left k j b : ℕ) (talk : List TalkItem) (bytes : List ℕ) (w v : Line) → left + j ≡ most_askings → TakesPage left k b talk bytes → HostIsReady h p k j w → (b ≡ 6 → Near h p k k w.console)
      → console_talk f talk w ≡ Some v → v.unseen ≡ None → pages_acknowledged f talk w ≤ k
  takes_few zero k j b talk bytes w v n x r at e u = absurd x
  takes_few (suc left) k j b talk bytes w v n (t, rest, split, awaits, inl (page, none, is)) r at e u =
      let z : Said b true ∷ t ≡ talk = rw (split, none) (sym (append-nil (Said b true ∷ t))) in
      subst (λ y. pages_acknowledged f y w ≤ k) z (asked_few k b t w v (awaits_listens page_size t awaits) at (ap (λ x. console_talk f x w) z ∙ e))
  takes_few (suc left) k j b talk bytes w v n (t, rest, split, awaits, inr (page, ahead, (s, more, split2, still, again))) r at e u =
      let m = talks_part f (Said b true ∷ t) rest w v (ap (λ x. console_talk f x w) (sym split) ∙ e) in
      let m2 = talks_part f s more m.0 v (ap (λ x. console_talk f x m.0) (sym split2) ∙ m.2) in
      let quiet = awaits_listens page_size t awaits in
      let a = asking h p k j f mild t quiet w m.0 b r (omega arith) m.1 in
      let c = asked_again h p f mild k j s w m.0 m2.0 t a still m2.1 in
      let un = goes_unseen f s m.0 m2.0 m2.1 (goes_unseen f more m2.0 v m2.2 u) in
      let near = next_near k j b t s w m.0 m2.0 (omega arith) awaits r m.1 un still m2.1 in
      let few = takes_few left k (j + 1) (next_said k (heard t)) more bytes m2.0 v (omega arith) again c.0 near m2.2 u in
      subst (λ y. pages_acknowledged f y w ≤ k) (sym split) (join_few k f (Said b true ∷ t) rest w m.0 m.1 (asked_few k b t w m.0 quiet at m.1)
      (subst (λ y. pages_acknowledged f y m.0 ≤ k) (sym split2) (join_few k f s more m.0 m2.0 m2.1 (listen_few k f s m.0 m2.0 (Still-listens settled_waits s still) m2.1) few)))

  -- a page is missed, and the host gives up
  missed_few : (k b : ℕ) (talk t rest : List TalkItem) (w v : Line) → talk ≡ Said b true ∷ t ++ rest → rest ≡ [] → Awaits answer_waits page_size t → (b ≡ 6 → Near h p k k w.console) → console_talk f talk w ≡ Some v → pages_acknowledged f talk w ≤ k
  missed_few k b talk t rest w v split none awaits at e =
      let z : Said b true ∷ t ≡ talk = rw (split, none) (sym (append-nil (Said b true ∷ t))) in
      subst (λ y. pages_acknowledged f y w ≤ k) z (asked_few k b t w v (awaits_listens page_size t awaits) at (ap (λ x. console_talk f x w) z ∙ e))

  misses_few : (left k j b : ℕ) (talk : List TalkItem) (trouble : Trouble) (w v : Line) → left + j ≡ most_askings → Misses left k b talk trouble → HostIsReady h p k j w → (b ≡ 6 → Near h p k k w.console)
      → console_talk f talk w ≡ Some v → v.unseen ≡ None → pages_acknowledged f talk w ≤ k
  misses_few zero k j b talk trouble w v n x r at e u = absurd x
  misses_few (suc left) k j b talk trouble w v n (t, rest, split, awaits, page, inl (ahead, none, is)) r at e u = missed_few k b talk t rest w v split none awaits at e
  misses_few (suc left) k j b talk trouble w v n (t, rest, split, awaits, page, inr (inl (ahead, last, none, is))) r at e u = missed_few k b talk t rest w v split none awaits at e
  misses_few (suc left) k j b talk trouble w v n (t, rest, split, awaits, page, inr (inr (ahead, (s, more, split2, still, again)))) r at e u =
      let m = talks_part f (Said b true ∷ t) rest w v (ap (λ x. console_talk f x w) (sym split) ∙ e) in
      let m2 = talks_part f s more m.0 v (ap (λ x. console_talk f x m.0) (sym split2) ∙ m.2) in
      let quiet = awaits_listens page_size t awaits in
      let a = asking h p k j f mild t quiet w m.0 b r (omega arith) m.1 in
      let c = asked_again h p f mild k j s w m.0 m2.0 t a still m2.1 in
      let un = goes_unseen f s m.0 m2.0 m2.1 (goes_unseen f more m2.0 v m2.2 u) in
      let near = next_near k j b t s w m.0 m2.0 (omega arith) awaits r m.1 un still m2.1 in
      let few = misses_few left k (j + 1) (next_said k (heard t)) more trouble m2.0 v (omega arith) again c.0 near m2.2 u in
      subst (λ y. pages_acknowledged f y w ≤ k) (sym split) (join_few k f (Said b true ∷ t) rest w m.0 m.1 (asked_few k b t w m.0 quiet at m.1)
      (subst (λ y. pages_acknowledged f y m.0 ≤ k) (sym split2) (join_few k f s more m.0 m2.0 m2.1 (listen_few k f s m.0 m2.0 (Still-listens settled_waits s still) m2.1) few)))

  ready_near : (k b : ℕ) (w : Line) → HostIsReady h p k 0 w → b ≡ 6 → Near h p k k w.console
  ready_near k b w r is = let z : k + 0 ≡ k = omega arith in subst (λ x. Near h p k x w.console) z r.near

  -- from page k on: no more pages are acknowledged than were taken and not refused
  pages_few : (left k : ℕ) (talk : List TalkItem) (taken : List (List ℕ)) (end : End) (w v : Line) (n : ℕ) → left + k ≡ p.pages → Pages left k talk taken end → HostIsReady h p k 0 w → console_talk f talk w ≡ Some v → v.unseen ≡ None
      → (end ≢ End.Refused → k + length taken ≤ n) → (end ≡ End.Refused → k + length taken ≤ n + 1) → pages_acknowledged f talk w ≤ n
  pages_few zero zero talk taken end w v n l (split, none, is) r e u kept cut = subst (λ y. pages_acknowledged f y w ≤ n) (sym split) (omega arith)
  pages_few zero (suc k) talk taken end w v n l (split, none, is) r e u kept cut =
      let a = kept (λ no. let y : End.Whole ≡ End.Refused = sym is ∙ no in cc) in
      subst (λ y. pages_acknowledged f y w ≤ n) (sym split)
      (step_few n f (Said 6 true) [] w (says_byte f 6 true w) refl (omega (arith, a, ack_few (suc k) 6 w (ready_near (suc k) 6 w r))) (omega arith))
  pages_few (suc left) k talk taken end w v n l (inl (t, rest, bytes, more, split, takes, is, inl again)) r e u kept cut =
      let m = talks_part f t rest w v (ap (λ x. console_talk f x w) (sym split) ∙ e) in
      let un = goes_unseen f rest m.0 v m.2 u in
      let a = takes_law h p f mild most_askings k 0 6 t bytes w m.0 refl takes r m.1 un in
      let c : k + length taken ≡ k + 1 + length more = omega (arith, ap length is) in
      let some : k ≤ n = at_most (λ z. omega (arith, kept z, c)) (λ z. omega (arith, cut z, c)) in
      let first = takes_few most_askings k 0 6 t bytes w m.0 refl takes r (ready_near k 6 w r) m.1 un in
      subst (λ y. pages_acknowledged f y w ≤ n) (sym split) (join_few n f t rest w m.0 m.1 (omega (arith, some, first))
      (pages_few left (k + 1) rest more end m.0 v n (omega arith) again a.1 m.2 u (λ z. omega (arith, kept z, c)) (λ z. omega (arith, cut z, c))))
    where
      refused_or : (end : End) → (end ≡ End.Refused) ⊎ (end ≢ End.Refused)
      refused_or End.Whole = inr (λ no. cc)
      refused_or (End.Failed trouble) = inr (λ no. cc)
      refused_or End.Refused = inl refl
      refused_or End.Flooded = inr (λ no. cc)

      at_most : (end ≢ End.Refused → k ≤ n) → (end ≡ End.Refused → k ≤ n) → k ≤ n
      at_most a b = elim (refused_or end) [ inl is ↦ b is | inr other ↦ a other ]
  pages_few (suc left) k talk taken end w v n l (inl (t, rest, bytes, more, split, takes, is, inr (none, no_more, refused))) r e u kept cut =
      let z : t ≡ talk = rw (split, none) (sym (append-nil t)) in
      let first = takes_few most_askings k 0 6 t bytes w v refl takes r (ready_near k 6 w r) (ap (λ x. console_talk f x w) z ∙ e) u in
      let c : length taken ≡ 1 + length more = omega (arith, ap length is) in
      subst (λ y. pages_acknowledged f y w ≤ n) z (omega (arith, cut refused, c, first))
  pages_few (suc left) k talk taken end w v n l (inr (inr (floods, none, is))) r e u kept cut =
      absurd (pages_dry h p f mild (suc left) k talk [] w v l (inr (inr (floods, refl, refl))) r e u)
  pages_few (suc left) k talk taken end w v n l (inr (inl (t, trouble, split, misses, none, failed))) r e u kept cut =
      let m = talks_part f t esc w v (ap (λ x. console_talk f x w) (sym split) ∙ e) in
      let a = kept (λ no. let y : End.Failed trouble ≡ End.Refused = sym failed ∙ no in cc) in
      let first = misses_few most_askings k 0 6 t trouble w m.0 refl misses r (ready_near k 6 w r) m.1 (goes_unseen f esc m.0 v m.2 u) in
      subst (λ y. pages_acknowledged f y w ≤ n) (sym split) (join_few n f t esc w m.0 m.1 (omega (arith, a, first)) (esc_few n f m.0))

-- a longer message acknowledges nothing
mid_few : (n : ℕ) (f : FatesByNumber) (ws : List ℕ) (w v : Line) → 0 < length w.begun → console_talk f (message ws) w ≡ Some v → pages_acknowledged f (message ws) w ≤ n
mid_few n f [] w v s e = omega arith
mid_few n f (b ∷ []) w v s e = step_few n f (Said b true) [] w (says_byte f b true w) refl (other_few n b w (λ none six. absurd (omega (arith, s, ap length none)))) (omega arith)
mid_few n f (b ∷ c ∷ bs) w v s e =
    step_few n f (Said b false) (message (c ∷ bs)) w (says_byte f b false w) refl (omega arith) (mid_few n f (c ∷ bs) (says_byte f b false w) v (omega (arith, length-append w.begun (b ∷ []))) e)

long_few : (n : ℕ) (f : FatesByNumber) (ws : List ℕ) (w v : Line) → 2 ≤ length ws → console_talk f (message ws) w ≡ Some v → pages_acknowledged f (message ws) w ≤ n
long_few n f [] w v s e = absurd (omega arith)
long_few n f (b ∷ []) w v s e = absurd (omega arith)
long_few n f (b ∷ c ∷ bs) w v s e =
    step_few n f (Said b false) (message (c ∷ bs)) w (says_byte f b false w) refl (omega arith) (mid_few n f (c ∷ bs) (says_byte f b false w) v (omega (arith, length-append w.begun (b ∷ []))) e)

-- a longer message, and what is heard behind it
heard_few : (n size : ℕ) (f : FatesByNumber) (ws : List ℕ) (t : List TalkItem) (w v : Line) → 2 ≤ length ws → Awaits answer_waits size t → console_talk f (message ws ++ t) w ≡ Some v → pages_acknowledged f (message ws ++ t) w ≤ n
heard_few n size f ws t w v long awaits e =
    let m = talks_part f (message ws) t w v e in
    join_few n f (message ws) t w m.0 m.1 (long_few n f ws w m.0 long m.1) (listen_few n f t m.0 v (awaits_listens size t awaits) m.2)

wakes_few : (n : ℕ) (f : FatesByNumber) (left : ℕ) (t : List TalkItem) (awake : Bool) (w v : Line) → Wakes left t awake → console_talk f t w ≡ Some v → pages_acknowledged f t w ≤ n
wakes_few n f zero t awake w v (none, un) e = subst (λ y. pages_acknowledged f y w ≤ n) (sym none) (omega arith)
wakes_few n f (suc left) t awake w v (s, rest, split, still, next) e =
    let m = talks_part f (Said 10 true ∷ s) rest w v (ap (λ x. console_talk f x w) (sym split) ∙ e) in
    let first = step_few n f (Said 10 true) s w (says_byte f 10 true w) refl (other_few n 10 w (λ none six. absurd cc)) (listen_few n f s (says_byte f 10 true w) m.0 (Still-listens answer_waits s still) m.1) in
    subst (λ y. pages_acknowledged f y w ≤ n) (sym split) (join_few n f (Said 10 true ∷ s) rest w m.0 m.1 first (elim next [
      | inl a ↦ subst (λ y. pages_acknowledged f y m.0 ≤ n) (sym a.1) (omega arith)
      | inr a ↦ wakes_few n f left rest awake m.0 v a.1 m.2
    ]))

long_dmpaft : 2 ≤ length dmpaft
unfolding dmpaft
long_dmpaft = omega arith

module _ (f : FatesByNumber) (ok : AreSound f) (frame : List ℕ) (six : length frame ≡ 6) where
  heads_few : (talk : List TalkItem) (place : ℕ) (taken : List (List ℕ)) (end : End) (w u v : Line) (n : ℕ) → Awaiting [] w u → Heads frame talk place taken end → console_talk f talk u ≡ Some v → v.unseen ≡ None
      → (end ≢ End.Refused → length taken ≤ n) → (end ≡ End.Refused → length taken ≤ n + 1) → pages_acknowledged f talk u ≤ n
  heads_few talk place taken end w u v n k (t, rest, split, awaits, next) e un kept cut =
      let q = append_assoc (message frame) t rest ∙ sym split in
      let m = heads_part f ok frame six talk t rest w u v k split awaits e un in
      subst (λ y. pages_acknowledged f y u ≤ n) q (join_few n f (message frame ++ t) rest u m.0 m.1 (heard_few n 7 f frame t u m.0 (omega (arith, six)) awaits m.1) (elim next [
        | inr b ↦ subst (λ y. pages_acknowledged f y m.0 ≤ n) (sym b.2) (esc_few n f m.0)
        | inl b ↦ elim m.3 [
          | inl a ↦ (let r = a.1.ready b.0 place b.1 in
              pages_few a.0 (plan_after a.0 frame) f ok.mild b.0 0 rest taken end m.0 v n (omega (arith, r.0)) b.2 r.2 m.2 un (λ z. omega (arith, kept z)) (λ z. omega (arith, cut z)))
          | inr a ↦ absurd (a.1 b.0 place b.1)
        ]
      ]))

  asks_few : (talk : List TalkItem) (place : ℕ) (taken : List (List ℕ)) (end : End) (w v : Line) (n : ℕ) → Rested w → Requests frame talk place taken end → console_talk f talk w ≡ Some v → v.unseen ≡ None
      → (end ≢ End.Refused → length taken ≤ n) → (end ≡ End.Refused → length taken ≤ n + 1) → pages_acknowledged f talk w ≤ n
  asks_few talk place taken end w v n r (t, rest, split, awaits, next) e un kept cut =
      let q = append_assoc (message dmpaft) t rest ∙ sym split in
      let m = asks_part f ok talk t rest w v r split awaits e un in
      subst (λ y. pages_acknowledged f y w ≤ n) q (join_few n f (message dmpaft ++ t) rest w m.0 m.1 (heard_few n 1 f dmpaft t w m.0 long_dmpaft awaits m.1) (elim next [
        | inr b ↦ subst (λ y. pages_acknowledged f y m.0 ≤ n) (sym b.1) (esc_few n f m.0)
        | inl b ↦ elim m.3 [
          | inl a ↦ heads_few rest place taken end w m.0 v n a b.1 m.2 un kept cut
          | inr a ↦ absurd (a.1 b.0)
        ]
      ]))

  -- in one attempt over a calm line no more pages are acknowledged than were taken and not refused
  pub attempt_few : (talk : List TalkItem) (place : ℕ) (taken : List (List ℕ)) (end : End) (w v : Line) (n : ℕ) → IsSound w → IsCalm w → Attempt frame talk place taken end → console_talk f talk w ≡ Some v → v.unseen ≡ None
      → (end ≢ End.Refused → length taken ≤ n) → (end ≡ End.Refused → length taken ≤ n + 1) → pages_acknowledged f talk w ≤ n
  attempt_few talk place taken end w v n sound calm (inr (inl (flood, none, is))) e un kept cut = absurd (attempt_dry f ok frame six talk place [] w v sound calm (inr (inl (flood, refl, refl))) e un)
  attempt_few talk place taken end w v n sound calm (inr (inr (s, t, split, still, floods, none, is))) e un kept cut = absurd (attempt_dry f ok frame six talk place [] w v sound calm (inr (inr (s, t, split, still, floods, refl, refl))) e un)
  attempt_few talk place taken end w v n sound calm (inl (s, t, rest, awake, split, still, wakes, next)) e un kept cut =
      let m = talks_part f s (t ++ rest) w v (ap (λ x. console_talk f x w) (sym split) ∙ e) in
      let m2 = talks_part f t rest m.0 v m.2 in
      let woken = wakes_law f ok 3 t awake m.0 m2.0 (settled_line f ok s w m.0 sound calm still m.1).0 wakes m2.1 in
      let last : pages_acknowledged f rest m2.0 ≤ n = elim next [
        | inl a ↦ asks_few rest place taken end m2.0 v n woken.0 a.1 m2.2 un kept cut
        | inr a ↦ subst (λ y. pages_acknowledged f y m2.0 ≤ n) (sym a.1) (esc_few n f m2.0)
      ] in
      subst (λ y. pages_acknowledged f y w ≤ n) (sym split) (join_few n f s (t ++ rest) w m.0 m.1 (listen_few n f s w m.0 (Still-listens settled_waits s still) m.1)
      (join_few n f t rest m.0 m2.0 m2.1 (wakes_few n f wake_tries t awake m.0 m2.0 wakes m2.1) last))
