-- The pages of one attempt.
use Rattle.std.proofs.Common.{◌≡◌, ℕ, zero, suc, ◌+◌, ◌<◌, ◌≤◌, ◌==◌, ◌%◌, Bool, true, false, ◌&&◌, inl, inr, List, [], ◌∷◌, ◌++◌, length, Some, None, refl, sym, ◌∙◌, ap, subst, arith, append_assoc, append-nil, ◌-◌}
use Rattle.std.proofs.lemmas.Option.{same_Some}
use Rattle.console_ring.specs.declared.plan.Plan.{Plan}
use Rattle.console_model.specs.Console.{Console}
use Rattle.console_ring.specs.Picture.{page_of}
use Rattle.crc_ccitt.specs.Check.{is_good}
use Rattle.vantage_frames.specs.Slots.{page_size}
use Rattle.console_model.specs.Tick.{tick}
use Rattle.schedule_file.specs.Fates.{FatesByNumber}
use Rattle.station_sim.specs.Delivery.{delivered}
use Rattle.station_sim.specs.Line.{Line, message_counted, says_byte, flies}
use Rattle.serial_link.specs.declared.talk.TalkItem.{TalkItem}
use Rattle.station_sim.specs.Talk.{line_step, console_talk}
use Rattle.station_sim.specs.Calm.{FewWaits, ConsoleRests, AreMild, IsCalm}
use Rattle.wake_retry.specs.Parts.{Still, heard, IsFull, IsShort, Awaits, settled_waits, answer_waits}
use Rattle.serial_link.specs.declared.talk.TalkItem.TheVariants.{Said, Heard, Quiet}
use Rattle.line_laws.specs.Host.{OnlyListens, Near, HostIsReady, HasSequence, ArePages}
use Rattle.dmpaft_pump.specs.declared.outcome.Trouble.{Trouble}
use Rattle.dmpaft_driver.specs.Attempt.{last_said, AskFloods, TakesPage, Misses, Pages, End, esc}
use Rattle.dmpaft_pump.specs.Page.{is_page_for, has_sequence, next_said}
use Rattle.dmpaft_pump.specs.Pump.{most_askings}
use Rattle.station_sim.specs.Joining.{and_then_some, talks_part}
use Rattle.line_laws.proofs.HushedConsole.{bytes_of, listens}
use Rattle.line_laws.proofs.Places.{InFlight, AskedFor, asking, said, After, count_is, near_brief, pending_at_most}
use Rattle.line_laws.proofs.SettledConsole.{near_settles, Still-listens}
use Rattle.line_laws.proofs.Plainly.{Tame, hears_unseen, happens_unseen, earlier_none}
use Rattle.line_laws.proofs.Floods.{no_flood}
use Rattle.line_laws.proofs.Messages.{gives_up}
use Rattle.line_laws.proofs.FrameStage.{hearing_is, waiting_is}

-- what was unseen stays so
pub goes_unseen : (f : FatesByNumber) (t : List TalkItem) (w v : Line) → console_talk f t w ≡ Some v → v.unseen ≡ None → w.unseen ≡ None
goes_unseen f [] w v e u = ap (λ x. x.unseen) (same_Some w v e) ∙ u
goes_unseen f (Said b false ∷ t) w v e u = goes_unseen f t (says_byte f b false w) v e u
goes_unseen f (Said b true ∷ t) w v e u =
    let m = w.begun ++ b ∷ [] in
    earlier_none w.unseen _ (hears_unseen f (delivered (f.host (w.messages + 1)) m) (message_counted f m w) (goes_unseen f t (says_byte f b true w) v e u))
goes_unseen f (Heard b ∷ t) w v e u =
    let g = and_then_some (line_step f (Heard b) w) (console_talk f t) v e in
    let q = hearing_is w.flight b w g.0 refl g.1 in
    ap (λ x. x.unseen) (sym q.2) ∙ goes_unseen f t g.0 v g.2 u
goes_unseen f (Quiet ∷ t) w v e u =
    let g = and_then_some (line_step f Quiet w) (console_talk f t) v e in
    let q = waiting_is w.flight f w g.0 refl g.1 in
    happens_unseen (tick w.console).kind f (tick w.console) (flies w q.0) (ap (λ x. x.unseen) (sym q.2) ∙ goes_unseen f t g.0 v g.2 u)

full_listens : (r : ℕ) (t : List TalkItem) → IsFull answer_waits r t → OnlyListens t
full_listens r [] s = tt
full_listens r (Said b ends ∷ t) s = s
full_listens r (Heard b ∷ []) s = tt
full_listens r (Heard b ∷ i ∷ t) s = full_listens 0 (i ∷ t) s
full_listens r (Quiet ∷ t) s = full_listens (r + 1) t s.1

short_listens : (r : ℕ) (t : List TalkItem) → IsShort answer_waits r t → OnlyListens t
short_listens r [] s = tt
short_listens r (Said b ends ∷ t) s = s
short_listens r (Heard b ∷ t) s = short_listens 0 t s.1
short_listens r (Quiet ∷ t) s = short_listens (r + 1) t s.1

pub awaits_listens : (n : ℕ) (t : List TalkItem) → Awaits answer_waits n t → OnlyListens t
awaits_listens n t (inl a) = full_listens 0 t a.0
awaits_listens n t (inr a) = short_listens 0 t a.0

-- the one test of a check is the other
pub page_parts : (k : ℕ) (bytes : List ℕ) → is_page_for k bytes ≡ true → (length bytes ≡ page_size) × (is_good bytes ≡ true) × HasSequence (k % 256) bytes
page_parts k bytes e = go (length bytes == page_size) (is_good bytes) (has_sequence (k % 256) bytes) refl refl refl e
  where
    sequence : (n : ℕ) (bs : List ℕ) → has_sequence n bs ≡ true → HasSequence n bs
    sequence n [] e = absurd cc
    sequence n (b ∷ bs) e = grind arith

    go : (a b c : Bool) → (length bytes == page_size) ≡ a → is_good bytes ≡ b → has_sequence (k % 256) bytes ≡ c → (a && b && c) ≡ true → (length bytes ≡ page_size) × (is_good bytes ≡ true) × HasSequence (k % 256) bytes
    go true true true x y z e = (grind arith, y, sequence (k % 256) bytes z)
    go true true false x y z e = absurd cc
    go true false c x y z e = absurd cc
    go false b c x y z e = absurd cc

-- a settling near a dump
pub record Settled (h : List (List ℕ)) (p : Plan) (low high : ℕ) (w v : Line) : Type 0 where
  pub flight : v.flight ≡ []
  pub rests : ConsoleRests v.console.state
  pub near : Near h p low high v.console
  pub begun : v.begun ≡ w.begun
  pub dumps : v.dumps ≡ w.dumps

pub settles : (h : List (List ℕ)) (p : Plan) (low high q : ℕ) (f : FatesByNumber) (s : List TalkItem) (w v : Line) → 3 ≤ q → Still q s → Near h p low high w.console → FewWaits 2 2 w.flight → console_talk f s w ≡ Some v → Settled h p low high w v
settles h p low high q f s w v a still n few e =
    let z = near_settles h p low high q f s w v a still n few e in
    let l = listens h p low high f s w v (Still-listens q s still) n e in
    record { flight = z.0; rests = z.1; near = l.near; begun = l.begun; dumps = l.dumps }

pub tame_calm : (h : List (List ℕ)) (p : Plan) (low high n : ℕ) (w : Line) → n < 64999 → w.begun ≡ [] → Tame h p low high n w → IsCalm w
tame_calm h p low high n w a b t = record {
  begun = b;
  brief = near_brief h p low high w.console.state w.console.idle w.console.history t.near;
  closed = t.closed;
  bytes = omega (arith, pending_at_most w.console.state, count_is w.flight, t.size);
  waits = t.few;
}

near_moved : (h : List (List ℕ)) (p : Plan) (low a b : ℕ) → a ≡ b → (c : Console) → Near h p low a c → Near h p low b c
near_moved h p low a b e c n = subst (λ x. Near h p low x c) e n

module _ (h : List (List ℕ)) (p : Plan) (f : FatesByNumber) (mild : AreMild f) where
  pub asked_again : (k j : ℕ) (s : List TalkItem) (w u v : Line) (t : List TalkItem) → AskedFor h p k j w t u → Still settled_waits s → console_talk f s u ≡ Some v → HostIsReady h p k (j + 1) v × (v.dumps ≡ w.dumps)
  asked_again k j s w u v t a still e =
      let z = settles h p k (k + j + 1) 6 f s u v (omega arith) still a.near a.calm.waits e in
      (record { flight = z.flight; begun = z.begun ∙ a.begun; near = near_moved h p k (k + j + 1) (k + (j + 1)) (omega arith) v.console z.near; rests = z.rests }, z.dumps ∙ a.dumps)

  pub takes_law : (left k j b : ℕ) (talk : List TalkItem) (bytes : List ℕ) (w v : Line) → left + j ≡ most_askings → TakesPage left k b talk bytes → HostIsReady h p k j w → console_talk f talk w ≡ Some v → v.unseen ≡ None →
      (bytes ≡ page_of h p k) × HostIsReady h p (k + 1) 0 v × (v.dumps ≡ w.dumps)
  takes_law zero k j b talk bytes w v n x r e u = absurd x
  takes_law (suc left) k j b talk bytes w v n (t, rest, split, awaits, inl (page, none, is)) r e u =
      let e' : console_talk f (Said b true ∷ t) w ≡ Some v = ap (λ x. console_talk f x w) (let z : Said b true ∷ t ≡ talk = rw (split, none) (sym (append-nil (Said b true ∷ t))) in z) ∙ e in
      let a = asking h p k j f mild t (awaits_listens page_size t awaits) w v b r (omega arith) e' in
      let g = page_parts k (heard t) page in
      let y = a.page u g.0 g.1 g.2 in
      (is ∙ y.0, y.1, a.dumps)
  takes_law (suc left) k j b talk bytes w v n (t, rest, split, awaits, inr (page, ahead, (s, more, split2, still, again))) r e u =
      let m = talks_part f (Said b true ∷ t) rest w v (ap (λ x. console_talk f x w) (sym split) ∙ e) in
      let m2 = talks_part f s more m.0 v (ap (λ x. console_talk f x m.0) (sym split2) ∙ m.2) in
      let a = asking h p k j f mild t (awaits_listens page_size t awaits) w m.0 b r (omega arith) m.1 in
      let c = asked_again k j s w m.0 m2.0 t a still m2.1 in
      let q = takes_law left k (j + 1) (next_said k (heard t)) more bytes m2.0 v (omega arith) again c.0 m2.2 u in
      (q.0, q.1, q.2 ∙ c.1)

  pub after_calm : (low high : ℕ) (w v : Line) → w.begun ≡ [] → After h p low high w v → IsCalm v
  after_calm low high w v b a = record {
    begun = a.begun ∙ b;
    brief = near_brief h p low (high + 1) v.console.state v.console.idle v.console.history a.near;
    closed = a.closed;
    bytes = omega (arith, pending_at_most v.console.state, count_is v.flight, in_flight a.answer);
    waits = a.few;
  }
    where
      in_flight : InFlight h p low high v → length (bytes_of v.flight) ≤ page_size
      in_flight (inl n) = omega arith
      in_flight (inr (m, lo, hi, z, r, n, g)) = n

  -- the last asking for a page, and the host gives up
  missed_law : (k j b : ℕ) (talk t rest : List TalkItem) (w v : Line) → j ≤ most_askings - 1 → talk ≡ Said b true ∷ t ++ rest → Awaits answer_waits page_size t → rest ≡ [] → HostIsReady h p k j w → console_talk f (talk ++ esc) w ≡ Some v → v.unseen ≡ None → IsCalm v × (v.dumps ≡ w.dumps)
  missed_law k j b talk t rest w v n split awaits none r e u =
      let m = talks_part f (Said b true ∷ t) esc w v (ap (λ x. console_talk f (x ++ esc) w) (let z : Said b true ∷ t ≡ talk = rw (split, none) (sym (append-nil (Said b true ∷ t))) in z) ∙ e) in
      let a = asking h p k j f mild t (awaits_listens page_size t awaits) w m.0 b r n m.1 in
      let is : says_byte f 27 true m.0 ≡ v = same_Some _ v m.2 in
      let q = gives_up h p k (k + j + 1) page_size f mild m.0 a.begun (record { near = a.near; few = a.calm.waits; closed = a.closed; size = a.size }) (ap (λ x. x.unseen) is ∙ u) in
      (subst IsCalm is (tame_calm h p k (k + j + 1 + 1) (page_size + page_size) (says_byte f 27 true m.0) (omega arith) q.2 q.0), ap (λ x. x.dumps) (sym is) ∙ q.1 ∙ a.dumps)

  -- the pages are missed, and the host gives up
  pub misses_law : (left k j b : ℕ) (talk : List TalkItem) (trouble : Trouble) (w v : Line) → left + j ≡ most_askings → Misses left k b talk trouble → HostIsReady h p k j w → console_talk f (talk ++ esc) w ≡ Some v → v.unseen ≡ None → IsCalm v × (v.dumps ≡ w.dumps)
  misses_law zero k j b talk trouble w v n x r e u = absurd x
  misses_law (suc left) k j b talk trouble w v n (t, rest, split, awaits, page, inl (ahead, none, is)) r e u = missed_law k j b talk t rest w v (omega arith) split awaits none r e u
  misses_law (suc left) k j b talk trouble w v n (t, rest, split, awaits, page, inr (inl (ahead, last, none, is))) r e u = missed_law k j b talk t rest w v (omega arith) split awaits none r e u
  misses_law (suc left) k j b talk trouble w v n (t, rest, split, awaits, page, inr (inr (ahead, (s, more, split2, still, again)))) r e u =
      let m = talks_part f (Said b true ∷ t) (rest ++ esc) w v (ap (λ x. console_talk f x w) (let z : (Said b true ∷ t) ++ (rest ++ esc) ≡ talk ++ esc = rw split (sym (append_assoc (Said b true ∷ t) rest esc)) in z) ∙ e) in
      let m2 = talks_part f s (more ++ esc) m.0 v (ap (λ x. console_talk f x m.0) (let z : s ++ (more ++ esc) ≡ rest ++ esc = rw split2 (sym (append_assoc s more esc)) in z) ∙ m.2) in
      let a = asking h p k j f mild t (awaits_listens page_size t awaits) w m.0 b r (omega arith) m.1 in
      let c = asked_again k j s w m.0 m2.0 t a still m2.1 in
      let q = misses_law left k (j + 1) (next_said k (heard t)) more trouble m2.0 v (omega arith) again c.0 m2.2 u in
      (q.0, q.1 ∙ c.1)

  ask_no_flood : (left k j b : ℕ) (talk : List TalkItem) (w v : Line) → left + j ≡ most_askings → AskFloods left k b talk → HostIsReady h p k j w → console_talk f talk w ≡ Some v → ⊥
  ask_no_flood zero k j b talk w v n x r e = x
  ask_no_flood (suc left) k j b talk w v n (t, rest, split, awaits, page, ahead, inl flood) r e =
      let m = talks_part f (Said b true ∷ t) rest w v (ap (λ x. console_talk f x w) (sym split) ∙ e) in
      let a = asking h p k j f mild t (awaits_listens page_size t awaits) w m.0 b r (omega arith) m.1 in
      no_flood f 6 rest m.0 v a.calm flood.1 m.2
  ask_no_flood (suc left) k j b talk w v n (t, rest, split, awaits, page, ahead, inr (s, more, split2, still, again)) r e =
      let m = talks_part f (Said b true ∷ t) rest w v (ap (λ x. console_talk f x w) (sym split) ∙ e) in
      let m2 = talks_part f s more m.0 v (ap (λ x. console_talk f x m.0) (sym split2) ∙ m.2) in
      let a = asking h p k j f mild t (awaits_listens page_size t awaits) w m.0 b r (omega arith) m.1 in
      let c = asked_again k j s w m.0 m2.0 t a still m2.1 in
      ask_no_flood left k (j + 1) (next_said k (heard t)) more m2.0 v (omega arith) again c.0 m2.2

  pub record Dumped (k : ℕ) (w : Line) (taken : List (List ℕ)) (end : End) (v : Line) : Type 0 where
    pub calm : IsCalm v
    pub dumps : v.dumps ≡ w.dumps
    pub pages : ArePages h p k taken
    pub count : length taken + k ≤ p.pages
    pub whole : end ≡ End.Whole → length taken + k ≡ p.pages

  ready_calm : (k j : ℕ) (w : Line) → HostIsReady h p k j w → IsCalm w
  ready_calm k j w r = record {
    begun = r.begun;
    brief = near_brief h p k (k + j) w.console.state w.console.idle w.console.history r.near;
    closed = rw r.flight tt;
    bytes = rw r.flight (omega (arith, pending_at_most w.console.state));
    waits = rw r.flight tt;
  }

  last_ack : (k : ℕ) (w v : Line) → HostIsReady h p k 0 w → console_talk f (last_said k) w ≡ Some v → IsCalm v × (v.dumps ≡ w.dumps)
  last_ack zero w v r e = let is : w ≡ v = same_Some w v e in (subst IsCalm is (ready_calm 0 0 w r), ap (λ x. x.dumps) (sym is))
  last_ack (suc k) w v r e =
      let is : says_byte f 6 true w ≡ v = same_Some _ v e in
      let a = said h p (suc k) (suc k + 0) f mild 6 w r.flight r.begun r.near r.rests in
      (subst IsCalm is (after_calm (suc k) (suc k + 0) (message_counted f (w.begun ++ 6 ∷ []) w) (says_byte f 6 true w) refl a), ap (λ x. x.dumps) (sym is) ∙ a.dumps)

  pub pages_law : (left k : ℕ) (talk : List TalkItem) (taken : List (List ℕ)) (end : End) (w v : Line) → left + k ≡ p.pages → Pages left k talk taken end → HostIsReady h p k 0 w → console_talk f talk w ≡ Some v → v.unseen ≡ None → Dumped k w taken end v
  pages_law zero k talk taken end w v n (split, none, is) r e u =
      let q = last_ack k w v r (ap (λ x. console_talk f x w) (sym split) ∙ e) in
      record { calm = q.0; dumps = q.1; pages = rw none tt; count = rw none (omega arith); whole = λ z. rw none (omega arith) }
  pages_law (suc left) k talk taken end w v n (inl (t, rest, bytes, more, split, takes, is, inl again)) r e u =
      let m = talks_part f t rest w v (ap (λ x. console_talk f x w) (sym split) ∙ e) in
      let a = takes_law most_askings k 0 6 t bytes w m.0 refl takes r m.1 (goes_unseen f rest m.0 v m.2 u) in
      let q = pages_law left (k + 1) rest more end m.0 v (omega arith) again a.1 m.2 u in
      record { calm = q.calm; dumps = q.dumps ∙ a.2; pages = rw is (a.0, q.pages); count = rw is (omega (arith, q.count)); whole = λ z. rw is (omega (arith, q.whole z)) }
  pages_law (suc left) k talk taken end w v n (inl (t, rest, bytes, more, split, takes, is, inr (none, no_more, refused))) r e u =
      let e' : console_talk f t w ≡ Some v = ap (λ x. console_talk f x w) (let z : t ≡ talk = rw (split, none) (sym (append-nil t)) in z) ∙ e in
      let a = takes_law most_askings k 0 6 t bytes w v refl takes r e' u in
      record { calm = ready_calm (k + 1) 0 v a.1; dumps = a.2; pages = rw (is, no_more) (a.0, tt); count = rw (is, no_more) (omega arith); whole = λ z. absurd cc }
  pages_law (suc left) k talk taken end w v n (inr (inr (floods, none, is))) r e u = absurd (ask_no_flood most_askings k 0 6 talk w v refl floods r e)
  pages_law (suc left) k talk taken end w v n (inr (inl (t, trouble, split, misses, none, failed))) r e u =
      let q = misses_law most_askings k 0 6 t trouble w v refl misses r (ap (λ x. console_talk f x w) (sym split) ∙ e) u in
      record { calm = q.0; dumps = q.1; pages = rw none tt; count = rw none (omega arith); whole = λ z. absurd cc }

  -- no settling between two askings floods
  pub pages_dry : (left k : ℕ) (talk : List TalkItem) (taken : List (List ℕ)) (w v : Line) → left + k ≡ p.pages → Pages left k talk taken End.Flooded → HostIsReady h p k 0 w → console_talk f talk w ≡ Some v → v.unseen ≡ None → ⊥
  pages_dry zero k talk taken w v n (split, none, is) r e u = absurd cc
  pages_dry (suc left) k talk taken w v n (inl (t, rest, bytes, more, split, takes, is, inl again)) r e u =
      let m = talks_part f t rest w v (ap (λ x. console_talk f x w) (sym split) ∙ e) in
      let a = takes_law most_askings k 0 6 t bytes w m.0 refl takes r m.1 (goes_unseen f rest m.0 v m.2 u) in
      pages_dry left (k + 1) rest more m.0 v (omega arith) again a.1 m.2 u
  pages_dry (suc left) k talk taken w v n (inl (t, rest, bytes, more, split, takes, is, inr (none, no_more, refused))) r e u = absurd cc
  pages_dry (suc left) k talk taken w v n (inr (inr (floods, none, is))) r e u = ask_no_flood most_askings k 0 6 talk w v refl floods r e
  pages_dry (suc left) k talk taken w v n (inr (inl (t, trouble, split, misses, none, failed))) r e u = absurd cc
