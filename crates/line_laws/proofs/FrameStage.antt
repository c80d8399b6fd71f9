-- A console in Frame, while nothing is said.
use Rattle.std.proofs.Common.{◌≡◌, ℕ, ◌+◌, ◌-◌, ◌<◌, ◌≤◌, ◌==◌, if◌then◌else◌, Bool, true, false, ◌⊎◌, inl, inr, List, [], ◌∷◌, ◌++◌, length, Some, None, refl, sym, ◌∙◌, ap, subst, arith, append-nil, length-append}
use Rattle.std.proofs.lemmas.Option.{same_Some}
use Rattle.console_model.specs.Console.{Store, Console, Outcome}
use Rattle.console_ring.specs.declared.plan.Plan.{Plan}
use Rattle.console_model.specs.declared.frame.FrameKind.TheVariants.{ForDump}
use Rattle.console_model.specs.Console.ConsoleState.{Command, Frame}
use Rattle.console_model.specs.declared.reply.ReplyKind.TheVariants.{Nothing, Code}
use Rattle.console_model.specs.Tick.{tick, ticked_in}
use Rattle.console_model.specs.Line.{says_reply}
use Rattle.station_sim.specs.declared.part.Part.{Part}
use Rattle.schedule_file.specs.Fates.{FatesByNumber}
use Rattle.station_sim.specs.Delivery.{delivered, late}
use Rattle.station_sim.specs.declared.part.Part.TheVariants.{Byte, Wait}
use Rattle.station_sim.specs.Line.{Line, flies, happens, reply_joins}
use Rattle.serial_link.specs.declared.talk.TalkItem.{TalkItem}
use Rattle.station_sim.specs.Talk.{line_step, console_talk, hearing, waiting}
use Rattle.station_sim.specs.Calm.{FewWaits, AreMild}
use Rattle.serial_link.specs.declared.talk.TalkItem.TheVariants.{Said, Heard, Quiet}
use Rattle.wake_retry.specs.Parts.{heard, IsFull, IsShort, answer_waits}
use Rattle.station_sim.proofs.CalmLines.{closed_late, few_late}
use Rattle.line_laws.specs.Host.{OnlyListens}
use Rattle.station_sim.specs.Joining.{and_then_some}
use Rattle.line_laws.proofs.HushedConsole.{bytes_of, EndsInByte, closed_tail, few_less, listens}
use Rattle.line_laws.proofs.Asked.{at_state}
use Rattle.line_laws.proofs.Delivery.{delivered_length, bytes_of_late}
use Rattle.line_laws.proofs.Plainly.{Tame, few_joined, closed_join, bytes_join}

abbrev pub quiets : List TalkItem → ℕ
quiets [] = 0
quiets (Said b ends ∷ t) = quiets t
quiets (Heard b ∷ t) = quiets t
quiets (Quiet ∷ t) = quiets t + 1

short_from : (r : ℕ) (t : List TalkItem) → IsShort answer_waits r t → 3 ≤ r + quiets t
short_from r [] s = omega arith
short_from r (Said b ends ∷ t) s = absurd s
short_from r (Heard b ∷ t) s = omega (arith, short_from 0 t s.1)
short_from r (Quiet ∷ t) s = omega (arith, short_from (r + 1) t s.1)

pub short_quiets : (t : List TalkItem) → IsShort answer_waits 0 t → 3 ≤ quiets t
short_quiets t s = omega (arith, short_from 0 t s)

full_hears : (r : ℕ) (t : List TalkItem) → IsFull answer_waits r t → 1 ≤ length (heard t)
full_hears r [] s = absurd s
full_hears r (Said b ends ∷ t) s = absurd s
full_hears r (Heard b ∷ []) s = omega arith
full_hears r (Heard b ∷ i ∷ t) s = omega arith
full_hears r (Quiet ∷ t) s = full_hears (r + 1) t s.1

full_from : (r : ℕ) (t : List TalkItem) → r ≤ 2 → IsFull answer_waits r t → length (heard t) ≡ 1 → r + quiets t ≤ 2
full_from r [] a s l = absurd s
full_from r (Said b ends ∷ t) a s l = absurd s
full_from r (Heard b ∷ []) a s l = omega arith
full_from r (Heard b ∷ i ∷ t) a s l = absurd (omega (arith, full_hears 0 (i ∷ t) s))
full_from r (Quiet ∷ t) a s l = omega (arith, full_from (r + 1) t (omega (arith, s.0)) s.1 l)

pub full_quiets : (t : List TalkItem) → IsFull answer_waits 0 t → length (heard t) ≡ 1 → quiets t ≤ 2
full_quiets t s l = omega (arith, full_from 0 t (omega arith) s l)

-- what a byte that is heard, and a wait, make of the line
pub hearing_is : (l : List Part) (b : ℕ) (w u : Line) → w.flight ≡ l → hearing l b w ≡ Some u → (m : List Part) × (w.flight ≡ Byte b ∷ m) × (u ≡ flies w m)
hearing_is [] b w u e g = absurd cc
hearing_is (Wait ∷ l) b w u e g = absurd cc
hearing_is (Byte x ∷ l) b w u e g = go (x == b) refl g
  where
    go : (t : Bool) → (x == b) ≡ t → (if t then Some (flies w l) else None) ≡ Some u → (m : List Part) × (w.flight ≡ Byte b ∷ m) × (u ≡ flies w m)
    go true q h = (l, (let z : x ≡ b = grind arith in e ∙ ap (λ y. Byte y ∷ l) z), sym (same_Some (flies w l) u h))
    go false q h = absurd cc

pub waiting_is : (l : List Part) (f : FatesByNumber) (w u : Line) → w.flight ≡ l → waiting l f w ≡ Some u → (m : List Part) × ((w.flight ≡ m) ⊎ (w.flight ≡ Wait ∷ m)) × (u ≡ happens f (tick w.console) (flies w m))
waiting_is [] f w u e g = ([], inl e, sym (same_Some _ u g) ∙ ap (λ l. happens f (tick w.console) (flies w l)) e)
waiting_is (Wait ∷ l) f w u e g = (l, inr e, sym (same_Some _ u g))
waiting_is (Byte x ∷ l) f w u e g = absurd cc

pub waiting_in : (l : List Part) (f : FatesByNumber) (w u : Line) → w.flight ≡ l → waiting l f w ≡ Some u → (m : List Part) × ((w.flight ≡ []) ⊎ (w.flight ≡ Wait ∷ m)) × (u ≡ happens f (tick w.console) (flies w m))
waiting_in [] f w u e g = ([], inl e, sym (same_Some _ u g) ∙ ap (λ l. happens f (tick w.console) (flies w l)) e)
waiting_in (Wait ∷ l) f w u e g = (l, inr e, sym (same_Some _ u g))
waiting_in (Byte x ∷ l) f w u e g = absurd cc

-- what listening leaves of a console in Frame: the same after few waits, or else no frame
pub record StillFramed (got : List ℕ) (g : List (List ℕ)) (d : Store) (hs : List (List ℕ)) (i : ℕ) (w : Line) (t : List TalkItem) (v : Line) : Type 0 where
  pub console : v.console ≡ at_state g d hs (Frame ForDump got) (i + quiets t)
  pub soon : i + quiets t < 3
  pub bytes : bytes_of w.flight ≡ heard t ++ bytes_of v.flight
  pub few : FewWaits 2 2 v.flight
  pub closed : EndsInByte v.flight
  pub unseen : v.unseen ≡ w.unseen
  pub begun : v.begun ≡ w.begun
  pub dumps : v.dumps ≡ w.dumps

pub record Unframed (h : List (List ℕ)) (p : Plan) (low high n i : ℕ) (w : Line) (t : List TalkItem) (v : Line) : Type 0 where
  pub tame : Tame h p low high (n + 1) v
  pub late : 3 ≤ i + quiets t
  pub heard : length (heard t) ≤ n + 1
  pub begun : v.begun ≡ w.begun
  pub dumps : v.dumps ≡ w.dumps

module _ (h : List (List ℕ)) (p : Plan) (low high : ℕ) (got : List ℕ) (g : List (List ℕ)) (d : Store) (hs : List (List ℕ)) (f : FatesByNumber) (mild : AreMild f) where
  Framed : ℕ → Line → List TalkItem → Line → ℕ → Type 0
  Framed i w t v n = StillFramed got g d hs i w t v ⊎ Unframed h p low high n i w t v

  -- a tick of a console in Frame
  Ticked : ℕ → Outcome → Type 0
  Ticked i o = ((i + 1 < 3) × (o ≡ record { kind = Nothing; bytes = []; completes = false; begins = []; next = at_state g d hs (Frame ForDump got) (i + 1) }))
      ⊎ ((2 < i + 1) × (o ≡ says_reply Code (33 ∷ []) (at_state g d hs (Command []) (i + 1))))

  ticked_frame : (i : ℕ) (three much fifth : Bool) → i < 3 → (i + 1 == 3) ≡ three → Ticked i (ticked_in (Frame ForDump got) three much fifth (at_state g d hs (Frame ForDump got) (i + 1)))
  unfolding Ticked
  ticked_frame i true much fifth a e = inr (grind arith, refl)
  ticked_frame i false much fifth a e = inl (grind arith, refl)

  tick_frame : (i : ℕ) (c : Console) → i < 3 → c ≡ at_state g d hs (Frame ForDump got) i → Ticked i (tick c)
  tick_frame i c a e = subst (λ x. Ticked i (tick x)) (sym e) (ticked_frame i _ _ _ a refl)

  -- one wait, taken from the flight already
  Waited : ℕ → ℕ → Line → Line → Type 0
  Waited n i b u = ((i + 1 < 3) × (u ≡ record b { console = at_state g d hs (Frame ForDump got) (i + 1) })) ⊎ ((2 < i + 1) × Tame h p low high (n + 1) u × (u.begun ≡ b.begun) × (u.dumps ≡ b.dumps))

  code_joins : (n i : ℕ) (b : Line) → FewWaits 2 2 b.flight → EndsInByte b.flight → length (bytes_of b.flight) ≤ n →
      Tame h p low high (n + 1) (reply_joins f (says_reply Code (33 ∷ []) (at_state g d hs (Command []) (i + 1))) b)
  code_joins n i b few closed size =
      let l = late (f.late (b.replies + 1)).waits (f.late (b.replies + 1)).place (delivered (f.reply (b.replies + 1)) (33 ∷ [])) in
      record {
        near = tt;
        few = few_joined b.flight l closed few (few_late (f.late (b.replies + 1)).waits (f.late (b.replies + 1)).place (delivered (f.reply (b.replies + 1)) (33 ∷ [])) (mild (b.replies + 1)));
        closed = closed_join b.flight l closed (closed_late (f.late (b.replies + 1)).waits (f.late (b.replies + 1)).place (delivered (f.reply (b.replies + 1)) (33 ∷ [])));
        size = omega (
          arith,
          ap length (bytes_join b.flight l),
          length-append (bytes_of b.flight) (bytes_of l),
          ap length (bytes_of_late (f.late (b.replies + 1)).waits (f.late (b.replies + 1)).place (delivered (f.reply (b.replies + 1)) (33 ∷ []))),
          delivered_length (f.reply (b.replies + 1)) (33 ∷ []),
        );
      }

  waited_frame : (n i : ℕ) (b : Line) (o : Outcome) → Ticked i o → FewWaits 2 2 b.flight → EndsInByte b.flight → length (bytes_of b.flight) ≤ n → Waited n i b (happens f o b)
  unfolding Ticked Waited
  waited_frame n i b o (inl (a, e)) few closed size = inl (a, ap (λ x. happens f x b) e)
  waited_frame n i b o (inr (a, e)) few closed size = inr (
    a,
    subst (λ x. Tame h p low high (n + 1) (happens f x b)) (sym e) (code_joins n i b few closed size),
    ap (λ x. (happens f x b).begun) e,
    ap (λ x. (happens f x b).dumps) e ∙ append-nil b.dumps,
  )

  -- what is known of the line
  pub record Known (n i : ℕ) (w : Line) : Type 0 where
    pub console : w.console ≡ at_state g d hs (Frame ForDump got) i
    pub soon : i < 3
    pub few : FewWaits 2 2 w.flight
    pub closed : EndsInByte w.flight
    pub size : length (bytes_of w.flight) ≤ n

  frame_heard : (b : ℕ) (t : List TalkItem) (n i : ℕ) (w v : Line) (m : List Part) → w.flight ≡ Byte b ∷ m → StillFramed got g d hs i (flies w m) t v ⊎ Unframed h p low high (n - 1) i (flies w m) t v → 1 ≤ n →
      StillFramed got g d hs i w (Heard b ∷ t) v ⊎ Unframed h p low high n i w (Heard b ∷ t) v
  frame_heard b t n i w v m e (inl q) a = inl (record { console = q.console; soon = q.soon; bytes = ap bytes_of e ∙ ap (λ x. b ∷ x) q.bytes; few = q.few; closed = q.closed; unseen = q.unseen; begun = q.begun; dumps = q.dumps })
  frame_heard b t n i w v m e (inr q) a = inr (record { tame = record { near = q.tame.near; few = q.tame.few; closed = q.tame.closed; size = omega (arith, q.tame.size) }; late = q.late; heard = omega (arith, q.heard); begun = q.begun; dumps = q.dumps })

  frame_waited : (t : List TalkItem) (n i : ℕ) (w v : Line) (m : List Part) (c : Console) → bytes_of w.flight ≡ bytes_of m → StillFramed got g d hs (i + 1) (record (flies w m) { console = c }) t v ⊎ Unframed h p low high n (i + 1) (record (flies w m) { console = c }) t v →
      StillFramed got g d hs i w (Quiet ∷ t) v ⊎ Unframed h p low high n i w (Quiet ∷ t) v
  frame_waited t n i w v m c e (inl q) = inl (record {
    console = q.console ∙ ap (at_state g d hs (Frame ForDump got)) (let z : i + 1 + quiets t ≡ i + (quiets t + 1) = omega arith in z);
    soon = omega (arith, q.soon);
    bytes = e ∙ q.bytes;
    few = q.few;
    closed = q.closed;
    unseen = q.unseen;
    begun = q.begun;
    dumps = q.dumps;
  })
  frame_waited t n i w v m c e (inr q) = inr (record { tame = q.tame; late = omega (arith, q.late); heard = q.heard; begun = q.begun; dumps = q.dumps })

  frame_left : (t : List TalkItem) (n i : ℕ) (w u v : Line) → OnlyListens t → 2 < i + 1 → Tame h p low high (n + 1) u → u.begun ≡ w.begun → u.dumps ≡ w.dumps → console_talk f t u ≡ Some v → Unframed h p low high n i w (Quiet ∷ t) v
  frame_left t n i w u v s a k b m e =
      let l = listens h p low high f t u v s k.near e in
      let z = ap length l.bytes in
      record {
        tame = record { near = l.near; few = l.few k.few; closed = l.closed k.closed; size = omega (arith, k.size, ap length l.bytes, length-append (heard t) (bytes_of v.flight)) };
        late = omega arith;
        heard = omega (arith, k.size, ap length l.bytes, length-append (heard t) (bytes_of v.flight));
        begun = l.begun ∙ b;
        dumps = l.dumps ∙ m;
      }

  frame_after : (t : List TalkItem) (n i : ℕ) (w u v : Line) (m : List Part) → OnlyListens t → bytes_of w.flight ≡ bytes_of m → Waited n i (flies w m) u →
      ((i + 1 < 3) → u ≡ record (flies w m) { console = at_state g d hs (Frame ForDump got) (i + 1) } → StillFramed got g d hs (i + 1) (record (flies w m) { console = at_state g d hs (Frame ForDump got) (i + 1) }) t v ⊎ Unframed h p low high n (i + 1) (record (flies w m) { console = at_state g d hs (Frame ForDump got) (i + 1) }) t v) →
      console_talk f t u ≡ Some v → StillFramed got g d hs i w (Quiet ∷ t) v ⊎ Unframed h p low high n i w (Quiet ∷ t) v
  unfolding Waited
  frame_after t n i w u v m s e (inl (a, q)) ih x = frame_waited t n i w v m (at_state g d hs (Frame ForDump got) (i + 1)) e (ih a q)
  frame_after t n i w u v m s e (inr (a, k, b, z)) ih x = inr (frame_left t n i w u v s a k b z x)

  pub frame_listens : (t : List TalkItem) (n i : ℕ) (w v : Line) → OnlyListens t → Known n i w → console_talk f t w ≡ Some v → StillFramed got g d hs i w t v ⊎ Unframed h p low high n i w t v
  frame_listens [] n i w v s k e = inl (subst (λ x. StillFramed got g d hs i w [] x) (same_Some w v e) (record {
    console = k.console ∙ ap (at_state g d hs (Frame ForDump got)) (let z : i ≡ i + 0 = omega arith in z);
    soon = omega (arith, k.soon);
    bytes = refl;
    few = k.few;
    closed = k.closed;
    unseen = refl;
    begun = refl;
    dumps = refl;
  }))
  frame_listens (Said b ends ∷ t) n i w v s k e = absurd s
  frame_listens (Heard b ∷ t) n i w v s k e =
      let g' = and_then_some (line_step f (Heard b) w) (console_talk f t) v e in
      let q = hearing_is w.flight b w g'.0 refl g'.1 in
      frame_heard b t n i w v q.0 q.1 (frame_listens t (n - 1) i (flies w q.0) v s
      (record {
        console = k.console;
        soon = k.soon;
        few = let z : FewWaits 2 2 (Byte b ∷ q.0) = subst (FewWaits 2 2) q.1 k.few in z;
        closed = closed_tail (Byte b) q.0 (subst EndsInByte q.1 k.closed);
        size = omega (arith, k.size, ap (λ x. length (bytes_of x)) q.1);
      }) (ap (console_talk f t) (sym q.2) ∙ g'.2)) (omega (arith, k.size, ap (λ x. length (bytes_of x)) q.1))
  frame_listens (Quiet ∷ t) n i w v s k e =
      let g' = and_then_some (line_step f Quiet w) (console_talk f t) v e in
      let q = waiting_is w.flight f w g'.0 refl g'.1 in
      let few : FewWaits 2 2 q.0 = elim q.1 [ inl z ↦ subst (FewWaits 2 2) z k.few | inr z ↦ few_less 2 1 q.0 (omega arith) (let y : FewWaits 2 2 (Wait ∷ q.0) = subst (FewWaits 2 2) z k.few in y.1) ] in
      let closed : EndsInByte q.0 = elim q.1 [ inl z ↦ subst EndsInByte z k.closed | inr z ↦ closed_tail Wait q.0 (subst EndsInByte z k.closed) ] in
      let bytes : bytes_of w.flight ≡ bytes_of q.0 = elim q.1 [ inl z ↦ ap bytes_of z | inr z ↦ ap bytes_of z ] in
      let size : length (bytes_of q.0) ≤ n = omega (arith, k.size, ap length bytes) in
      let o : Waited n i (flies w q.0) g'.0 = subst (Waited n i (flies w q.0)) (sym q.2) (waited_frame n i (flies w q.0) (tick w.console) (tick_frame i w.console k.soon k.console) few closed size) in
      frame_after t n i w g'.0 v q.0 s bytes o
      (λ a z. frame_listens t n (i + 1) (record (flies w q.0) { console = at_state g d hs (Frame ForDump got) (i + 1) }) v s
      (record { console = refl; soon = a; few = few; closed = closed; size = size }) (ap (console_talk f t) (sym z) ∙ g'.2)) g'.2
