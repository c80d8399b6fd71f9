-- Listening to a console that rests, where nothing is harmed.
use Rattle.std.proofs.Common.{◌≡◌, ℕ, zero, suc, ◌+◌, ◌-◌, ◌<◌, ◌≤◌, ◌==◌, if◌then◌else◌, Bool, true, false, ◌⊎◌, inl, inr, List, [], ◌∷◌, ◌++◌, length, Some, refl, sym, ◌∙◌, ap, subst, arith, append-nil}
use Rattle.std.proofs.lemmas.Option.{same_Some}
use Rattle.console_model.specs.Console.{Store, ConsoleState, Outcome}
use Rattle.console_model.specs.declared.reply.ReplyKind.{ReplyKind}
use Rattle.console_model.specs.Console.ConsoleState.{Asleep, Command, Overlong, Frame, Dump, Looping}
use Rattle.console_model.specs.declared.reply.ReplyKind.TheVariants.{Nothing, Code, Test, Wake, Ack, AckFrame, Page, Packet}
use Rattle.console_model.specs.Hear.{hear}
use Rattle.console_model.specs.Tick.{tick, ticked_in, idle_after}
use Rattle.console_model.specs.Line.{silent}
use Rattle.station_sim.specs.declared.part.Part.{Part}
use Rattle.schedule_file.specs.Fates.{FatesByNumber}
use Rattle.station_sim.specs.Delivery.{delivered, late, waits, all_bytes}
use Rattle.station_sim.specs.declared.part.Part.TheVariants.{Byte, Wait}
use Rattle.station_sim.specs.Line.{Line, flies, happens, joins, reply_joins, hears, message_counted, sends_message, says_byte, is_harmed}
use Rattle.serial_link.specs.declared.talk.TalkItem.{TalkItem}
use Rattle.station_sim.specs.Talk.{line_step, console_talk, waiting}
use Rattle.station_sim.specs.Calm.{FewWaits}
use Rattle.wake_retry.specs.Parts.{StillFrom, heard, IsFull, IsShort, Awaits, answer_waits}
use Rattle.serial_link.specs.declared.talk.TalkItem.TheVariants.{Said, Heard, Quiet}
use Rattle.station_sim.specs.Joining.{and_then_some}
use Rattle.line_laws.proofs.HushedConsole.{bytes_of}
use Rattle.line_laws.proofs.Asked.{at_state}
use Rattle.line_laws.proofs.FrameStage.{hearing_is, waiting_is, waiting_in, quiets}
use Rattle.line_laws.proofs.Messages.{unharmed}

-- A. the number of harmed deliveries only rises
joins_harmed : (k : ReplyKind) (f : FatesByNumber) (o : Outcome) (w : Line) → w.harmed ≤ (joins k f o w).harmed
joins_harmed Nothing f o w = omega arith
joins_harmed Code f o w = omega arith
joins_harmed Wake f o w = omega arith
joins_harmed Test f o w = omega arith
joins_harmed Ack f o w = omega arith
joins_harmed AckFrame f o w = omega arith
joins_harmed Page f o w = omega arith
joins_harmed Packet f o w = omega arith

pub hears_harmed : (f : FatesByNumber) (got : List ℕ) (w : Line) → w.harmed ≤ (hears f got w).harmed
hears_harmed f [] w = omega arith
hears_harmed f (x ∷ got) w = omega (arith, joins_harmed (hear w.console x).kind f (hear w.console x) w, hears_harmed f got (happens f (hear w.console x) w))

pub sends_harmed : (f : FatesByNumber) (m : List ℕ) (w : Line) → w.harmed ≤ (sends_message f m w).harmed
sends_harmed f m w = omega (arith, hears_harmed f (delivered (f.host (w.messages + 1)) m) (message_counted f m w))

pub goes_harmed : (f : FatesByNumber) (t : List TalkItem) (w v : Line) → console_talk f t w ≡ Some v → w.harmed ≤ v.harmed
goes_harmed f [] w v e = omega (arith, ap (λ x. x.harmed) (same_Some w v e))
goes_harmed f (Said b false ∷ t) w v e = goes_harmed f t (says_byte f b false w) v e
goes_harmed f (Said b true ∷ t) w v e = omega (arith, sends_harmed f (w.begun ++ b ∷ []) w, goes_harmed f t (says_byte f b true w) v e)
goes_harmed f (Heard b ∷ t) w v e =
    let g = and_then_some (line_step f (Heard b) w) (console_talk f t) v e in
    let q = hearing_is w.flight b w g.0 refl g.1 in
    omega (arith, ap (λ x. x.harmed) q.2, goes_harmed f t g.0 v g.2)
goes_harmed f (Quiet ∷ t) w v e =
    let g = and_then_some (line_step f Quiet w) (console_talk f t) v e in
    let q = waiting_is w.flight f w g.0 refl g.1 in
    omega (arith, ap (λ x. x.harmed) q.2, joins_harmed (tick w.console).kind f (tick w.console) (flies w q.0), goes_harmed f t g.0 v g.2)

-- a message that is not harmed is delivered as sent
pub sent_whole : (f : FatesByNumber) (m : List ℕ) (w : Line) → (sends_message f m w).harmed ≡ w.harmed →
    (delivered (f.host (w.messages + 1)) m ≡ m) × ((hears f (delivered (f.host (w.messages + 1)) m) (message_counted f m w)).harmed ≡ (message_counted f m w).harmed) × ((message_counted f m w).harmed ≡ w.harmed)
sent_whole f m w e = go (is_harmed m (delivered (f.host (w.messages + 1)) m)) refl
  where
    up : (message_counted f m w).harmed ≤ (sends_message f m w).harmed
    up = hears_harmed f (delivered (f.host (w.messages + 1)) m) (message_counted f m w)

    go : (t : Bool) → is_harmed m (delivered (f.host (w.messages + 1)) m) ≡ t →
        (delivered (f.host (w.messages + 1)) m ≡ m) × ((hears f (delivered (f.host (w.messages + 1)) m) (message_counted f m w)).harmed ≡ (message_counted f m w).harmed) × ((message_counted f m w).harmed ≡ w.harmed)
    go true q = let z : (message_counted f m w).harmed ≡ w.harmed + 1 = ap (λ x. w.harmed + (if x then 1 else 0)) q in absurd (omega (arith, up, z, e))
    go false q = let z : (message_counted f m w).harmed ≡ w.harmed + 0 = ap (λ x. w.harmed + (if x then 1 else 0)) q in
        (unharmed m _ q, omega (arith, z, e), omega (arith, z))

-- and so is a reply
pub reply_whole : (f : FatesByNumber) (o : Outcome) (w : Line) → (reply_joins f o w).harmed ≡ w.harmed → delivered (f.reply (w.replies + 1)) o.bytes ≡ o.bytes
reply_whole f o w e = go (is_harmed o.bytes (delivered (f.reply (w.replies + 1)) o.bytes)) refl
  where
    go : (t : Bool) → is_harmed o.bytes (delivered (f.reply (w.replies + 1)) o.bytes) ≡ t → delivered (f.reply (w.replies + 1)) o.bytes ≡ o.bytes
    go true q = let z : (reply_joins f o w).harmed ≡ w.harmed + 1 = ap (λ x. w.harmed + (if x then 1 else 0)) q in absurd (omega (arith, z, e))
    go false q = unharmed o.bytes _ q

-- B. a console that is awake and rests stays as it is, while it has not been idle for 32 waits
abbrev pub Waits : ConsoleState → Type 0
Waits Asleep = ⊥
Waits (Command line) = line ≡ []
Waits Overlong = ⊥
Waits (Frame kind got) = ⊥
Waits (Dump p sent) = Unit {0}
Waits (Looping n) = ⊥

steady_by : (s : ConsoleState) (three much fifth : Bool) (g : List (List ℕ)) (d : Store) (hs : List (List ℕ)) (i : ℕ) → Waits s → i + 1 < 32 → (i + 1 == 32) ≡ much → ticked_in s three much fifth (at_state g d hs s (idle_after s i)) ≡ silent (at_state g d hs s (i + 1))
steady_by Asleep three much fifth g d hs i r n e = absurd r
steady_by (Command []) three true fifth g d hs i r n e = absurd (grind arith)
steady_by (Command []) three false fifth g d hs i r n e = refl
steady_by (Command (b ∷ line)) three much fifth g d hs i r n e = absurd cc
steady_by Overlong three much fifth g d hs i r n e = absurd r
steady_by (Frame kind got) three much fifth g d hs i r n e = absurd r
steady_by (Dump p sent) three true fifth g d hs i r n e = absurd (grind arith)
steady_by (Dump p sent) three false fifth g d hs i r n e = refl
steady_by (Looping k) three much fifth g d hs i r n e = absurd r

pub steady : (g : List (List ℕ)) (d : Store) (hs : List (List ℕ)) (s : ConsoleState) (i : ℕ) → Waits s → i + 1 < 32 → tick (at_state g d hs s i) ≡ silent (at_state g d hs s (i + 1))
steady g d hs s i r n = steady_by s _ _ _ g d hs i r n refl

-- the waits among the parts
abbrev pub waits_of : List Part → ℕ
waits_of [] = 0
waits_of (Byte b ∷ l) = waits_of l
waits_of (Wait ∷ l) = waits_of l + 1

waits_all : (bs : List ℕ) → waits_of (all_bytes bs) ≡ 0
waits_all [] = refl
waits_all (b ∷ bs) = waits_all bs

waits_waits : (k : ℕ) (l : List Part) → waits_of (waits k l) ≡ k + waits_of l
waits_waits zero l = omega arith
waits_waits (suc k) l = omega (arith, waits_waits k l)

pub waits_late : (k p : ℕ) (bs : List ℕ) → waits_of (late k p bs) ≤ k
waits_late k p [] = omega arith
waits_late k zero (b ∷ bs) = omega (arith, waits_waits k (Byte b ∷ all_bytes bs), waits_all bs)
waits_late k (suc p) (b ∷ bs) = waits_late k p bs

-- a wait, of a console that stays
pub steady_quiet : (g : List (List ℕ)) (d : Store) (hs : List (List ℕ)) (s : ConsoleState) (i : ℕ) (l : List Part) (f : FatesByNumber) (w u : Line) → Waits s → w.console ≡ at_state g d hs s i → i + 1 < 32 → w.flight ≡ l → waiting l f w ≡ Some u →
    (m : List Part) × (((w.flight ≡ []) × (m ≡ [])) ⊎ (w.flight ≡ Wait ∷ m)) × (u ≡ record (flies w m) { console = at_state g d hs s (i + 1) })
steady_quiet g d hs s i [] f w u r c n e q =
    let k : tick w.console ≡ silent (at_state g d hs s (i + 1)) = ap tick c ∙ steady g d hs s i r n in
    ([], inl (e, refl), sym (same_Some _ u q) ∙ ap (λ o. happens f o w) k ∙ ap (λ l. record (flies w l) { console = at_state g d hs s (i + 1) }) e)
steady_quiet g d hs s i (Wait ∷ l) f w u r c n e q =
    let k : tick w.console ≡ silent (at_state g d hs s (i + 1)) = ap tick c ∙ steady g d hs s i r n in
    (l, inr e, sym (same_Some _ u q) ∙ ap (λ o. happens f o (flies w l)) k)
steady_quiet g d hs s i (Byte x ∷ l) f w u r c n e q = absurd cc

full_hears : (r : ℕ) (t : List TalkItem) → IsFull answer_waits r t → 1 ≤ length (heard t)
full_hears r [] s = absurd s
full_hears r (Said b ends ∷ t) s = absurd s
full_hears r (Heard b ∷ []) s = omega arith
full_hears r (Heard b ∷ i ∷ t) s = omega arith
full_hears r (Quiet ∷ t) s = full_hears (r + 1) t s.1

-- what a console that stays leaves
pub record Stayed (g : List (List ℕ)) (d : Store) (hs : List (List ℕ)) (s : ConsoleState) (i n : ℕ) (w : Line) (t : List TalkItem) (v : Line) : Type 0 where
  pub console : v.console ≡ at_state g d hs s (i + quiets t)
  pub quiet : quiets t ≤ n
  pub bytes : bytes_of w.flight ≡ heard t ++ bytes_of v.flight
  pub begun : v.begun ≡ w.begun
  pub dumps : v.dumps ≡ w.dumps

module _ (g : List (List ℕ)) (d : Store) (hs : List (List ℕ)) (s : ConsoleState) (rests : Waits s) (f : FatesByNumber) where
  stayed_heard : (b i n : ℕ) (t : List TalkItem) (w v : Line) (m : List Part) → w.flight ≡ Byte b ∷ m → Stayed g d hs s i n (flies w m) t v → Stayed g d hs s i n w (Heard b ∷ t) v
  stayed_heard b i n t w v m e k = record { console = k.console; quiet = k.quiet; bytes = ap bytes_of e ∙ ap (λ x. b ∷ x) k.bytes; begun = k.begun; dumps = k.dumps }

  stayed_quiet : (i n : ℕ) (t : List TalkItem) (w v : Line) (m : List Part) → bytes_of w.flight ≡ bytes_of m → Stayed g d hs s (i + 1) n (record (flies w m) { console = at_state g d hs s (i + 1) }) t v → Stayed g d hs s i (n + 1) w (Quiet ∷ t) v
  stayed_quiet i n t w v m e k = record {
    console = k.console ∙ ap (at_state g d hs s) (let z : i + 1 + quiets t ≡ i + (quiets t + 1) = omega arith in z);
    quiet = omega (arith, k.quiet);
    bytes = e ∙ k.bytes;
    begun = k.begun;
    dumps = k.dumps;
  }

  stayed_less : (i n m : ℕ) (t : List TalkItem) (w v : Line) → n ≤ m → Stayed g d hs s i n w t v → Stayed g d hs s i m w t v
  stayed_less i n m t w v a k = record { console = k.console; quiet = omega (arith, k.quiet); bytes = k.bytes; begun = k.begun; dumps = k.dumps }

  here : (i n : ℕ) (w v : Line) → w.console ≡ at_state g d hs s i → w ≡ v → Stayed g d hs s i n w [] v
  here i n w v c e = subst (λ x. Stayed g d hs s i n w [] x) e (record { console = c ∙ ap (at_state g d hs s) (let z : i ≡ i + 0 = omega arith in z); quiet = omega arith; bytes = refl; begun = refl; dumps = refl })

  -- as many bytes as are in flight at least
  pub steady_full : (t : List TalkItem) (r i : ℕ) (w v : Line) → IsFull answer_waits r t → w.console ≡ at_state g d hs s i → i + waits_of w.flight < 31 → length (heard t) ≤ length (bytes_of w.flight) → console_talk f t w ≡ Some v → Stayed g d hs s i (waits_of w.flight) w t v
  steady_full [] r i w v a c n b e = absurd a
  steady_full (Said x ends ∷ t) r i w v a c n b e = absurd a
  steady_full (Heard x ∷ []) r i w v a c n b e =
      let q = and_then_some (line_step f (Heard x) w) (console_talk f []) v e in
      let h = hearing_is w.flight x w q.0 refl q.1 in
      stayed_heard x i (waits_of w.flight) [] w v h.0 h.1 (here i (waits_of w.flight) (flies w h.0) v c (sym h.2 ∙ same_Some q.0 v q.2))
  steady_full (Heard x ∷ y ∷ t) r i w v a c n b e =
      let q = and_then_some (line_step f (Heard x) w) (console_talk f (y ∷ t)) v e in
      let h = hearing_is w.flight x w q.0 refl q.1 in
      let z = ap (λ l. waits_of l) h.1 in
      stayed_heard x i (waits_of w.flight) (y ∷ t) w v h.0 h.1 (stayed_less i (waits_of h.0) (waits_of w.flight) (y ∷ t) (flies w h.0) v (omega (arith, z))
      (steady_full (y ∷ t) 0 i (flies w h.0) v a c (omega (arith, z)) (omega (arith, ap (λ l. length (bytes_of l)) h.1)) (ap (console_talk f (y ∷ t)) (sym h.2) ∙ q.2)))
  steady_full (Quiet ∷ t) r i w v a c n b e =
      let q = and_then_some (line_step f Quiet w) (console_talk f t) v e in
      let h = steady_quiet g d hs s i w.flight f w q.0 rests c (omega arith) refl q.1 in
      elim h.1 [
        | inl z ↦ absurd (omega (arith, full_hears (r + 1) t a.1, b, ap (λ l. length (bytes_of l)) z.0))
        | inr z ↦ (let y = ap (λ l. waits_of l) z in
            let x : length (bytes_of w.flight) ≡ length (bytes_of h.0) = ap (λ l. length (bytes_of l)) z in
            stayed_less i (waits_of h.0 + 1) (waits_of w.flight) (Quiet ∷ t) w v (omega (arith, y)) (stayed_quiet i (waits_of h.0) t w v h.0 (ap bytes_of z)
            (steady_full t (r + 1) (i + 1) (record (flies w h.0) { console = at_state g d hs s (i + 1) }) v a.1 refl (omega (arith, y, n)) (omega (arith, b, x)) (ap (console_talk f t) (sym h.2) ∙ q.2))))
      ]

  -- a settling of an empty flight
  pub steady_empty : (q : ℕ) (t : List TalkItem) (r n i : ℕ) (w v : Line) → StillFrom q r n t → w.console ≡ at_state g d hs s i → w.flight ≡ [] → i + q < 31 + r → console_talk f t w ≡ Some v → (Stayed g d hs s i (q - r) w t v) × (quiets t + r ≡ q)
  steady_empty q [] r n i w v a c l b e = (here i (q - r) w v c (same_Some w v e), omega (arith, a.0))
  steady_empty q (Said x ends ∷ t) r n i w v a c l b e = absurd a
  steady_empty q (Heard x ∷ t) r n i w v a c l b e =
      let k = and_then_some (line_step f (Heard x) w) (console_talk f t) v e in
      let h = hearing_is w.flight x w k.0 refl k.1 in
      absurd (let z : Byte x ∷ h.0 ≡ [] = sym h.1 ∙ l in cc)
  steady_empty q (Quiet ∷ t) r n i w v a c l b e =
      let k = and_then_some (line_step f Quiet w) (console_talk f t) v e in
      let h = steady_quiet g d hs s i w.flight f w k.0 rests c (omega (arith, a.0)) refl k.1 in
      elim h.1 [
        | inl z ↦ (let y = steady_empty q t (r + 1) n (i + 1) (record (flies w h.0) { console = at_state g d hs s (i + 1) }) v a.1 refl z.1 (omega arith) (ap (console_talk f t) (sym h.2) ∙ k.2) in
            (stayed_less i (q - (r + 1) + 1) (q - r) (Quiet ∷ t) w v (omega (arith, a.0)) (stayed_quiet i (q - (r + 1)) t w v h.0 (ap bytes_of (z.0 ∙ sym z.1)) y.0), omega (arith, y.1)))
        | inr z ↦ absurd (let y : Wait ∷ h.0 ≡ [] = sym z ∙ l in cc)
      ]

  -- a settling
  pub steady_still : (q : ℕ) (t : List TalkItem) (r n i : ℕ) (w v : Line) → StillFrom q r n t → w.console ≡ at_state g d hs s i → i + waits_of w.flight + q < 31 → console_talk f t w ≡ Some v → Stayed g d hs s i (waits_of w.flight + q) w t v
  steady_still q [] r n i w v a c b e = here i (waits_of w.flight + q) w v c (same_Some w v e)
  steady_still q (Said x ends ∷ t) r n i w v a c b e = absurd a
  steady_still q (Heard x ∷ t) r n i w v a c b e =
      let k = and_then_some (line_step f (Heard x) w) (console_talk f t) v e in
      let h = hearing_is w.flight x w k.0 refl k.1 in
      let z = ap (λ l. waits_of l) h.1 in
      stayed_heard x i (waits_of w.flight + q) t w v h.0 h.1 (stayed_less i (waits_of h.0 + q) (waits_of w.flight + q) t (flies w h.0) v (omega (arith, z))
      (steady_still q t 0 (n + 1) i (flies w h.0) v a.1 c (omega (arith, z, b)) (ap (console_talk f t) (sym h.2) ∙ k.2)))
  steady_still q (Quiet ∷ t) r n i w v a c b e =
      let k = and_then_some (line_step f Quiet w) (console_talk f t) v e in
      let h = steady_quiet g d hs s i w.flight f w k.0 rests c (omega (arith, a.0)) refl k.1 in
      elim h.1 [
        | inl z ↦ (let y = steady_empty q t (r + 1) n (i + 1) (record (flies w h.0) { console = at_state g d hs s (i + 1) }) v a.1 refl z.1 (omega (arith, b)) (ap (console_talk f t) (sym h.2) ∙ k.2) in
            stayed_less i (q - (r + 1) + 1) (waits_of w.flight + q) (Quiet ∷ t) w v (omega (arith, a.0)) (stayed_quiet i (q - (r + 1)) t w v h.0 (ap bytes_of (z.0 ∙ sym z.1)) y.0))
        | inr z ↦ (let y = ap (λ l. waits_of l) z in
            stayed_less i (waits_of h.0 + q + 1) (waits_of w.flight + q) (Quiet ∷ t) w v (omega (arith, y)) (stayed_quiet i (waits_of h.0 + q) t w v h.0 (ap bytes_of z)
            (steady_still q t (r + 1) n (i + 1) (record (flies w h.0) { console = at_state g d hs s (i + 1) }) v a.1 refl (omega (arith, y, b)) (ap (console_talk f t) (sym h.2) ∙ k.2))))
      ]

-- n bytes more come, each after two waits at most, the first after k
abbrev pub Ample : ℕ → ℕ → List Part → Type 0
Ample zero k l = Unit {0}
Ample (suc n) k [] = ⊥
Ample (suc n) k (Byte b ∷ l) = Ample n 2 l
Ample (suc n) k (Wait ∷ l) = (0 < k) × Ample (suc n) (k - 1) l

ample_join : (n k : ℕ) (l c : List Part) → Ample n k l → Ample n k (l ++ c)
ample_join zero k l c a = tt
ample_join (suc n) k [] c a = absurd a
ample_join (suc n) k (Byte b ∷ l) c a = ample_join n 2 l c a
ample_join (suc n) k (Wait ∷ l) c a = (a.0, ample_join (suc n) (k - 1) l c a.1)

few_ample : (n k : ℕ) (l : List Part) → FewWaits 2 k l → n ≤ length (bytes_of l) → Ample n k l
few_ample zero k l f a = tt
few_ample (suc n) k [] f a = absurd (omega arith)
few_ample (suc n) k (Byte b ∷ l) f a = few_ample n 2 l f (omega arith)
few_ample (suc n) k (Wait ∷ l) f a = (f.0, few_ample (suc n) (k - 1) l f.1 a)

flight_joins : (k : ReplyKind) (f : FatesByNumber) (o : Outcome) (w : Line) → (c : List Part) × ((joins k f o w).flight ≡ w.flight ++ c)
flight_joins Nothing f o w = ([], sym (append-nil w.flight))
flight_joins Code f o w = (_, refl)
flight_joins Wake f o w = (_, refl)
flight_joins Test f o w = (_, refl)
flight_joins Ack f o w = (_, refl)
flight_joins AckFrame f o w = (_, refl)
flight_joins Page f o w = (_, refl)
flight_joins Packet f o w = (_, refl)

-- with n bytes to come no answer is shorter
pub short_none : (f : FatesByNumber) (t : List TalkItem) (n k r : ℕ) (w v : Line) → IsShort answer_waits r t → length (heard t) < n → Ample n k w.flight → k + r ≤ 2 → console_talk f t w ≡ Some v → ⊥
short_none f [] n k r w v a l m b e = omega arith
short_none f (Said x ends ∷ t) n k r w v a l m b e = a
short_none f (Heard x ∷ t) zero k r w v a l m b e = omega arith
short_none f (Heard x ∷ t) (suc n) k r w v a l m b e =
    let q = and_then_some (line_step f (Heard x) w) (console_talk f t) v e in
    let h = hearing_is w.flight x w q.0 refl q.1 in
    short_none f t n 2 0 q.0 v a.1 (omega arith) (subst (λ y. Ample n 2 y.flight) (sym h.2) (let z : Ample (suc n) k (Byte x ∷ h.0) = subst (Ample (suc n) k) h.1 m in z)) (omega arith) q.2
short_none f (Quiet ∷ t) zero k r w v a l m b e = omega arith
short_none f (Quiet ∷ t) (suc n) k r w v a l m b e =
    let q = and_then_some (line_step f Quiet w) (console_talk f t) v e in
    let h = waiting_in w.flight f w q.0 refl q.1 in
    let o = tick w.console in
    elim h.1 [
      | inl z ↦ (let y : Ample (suc n) k [] = subst (Ample (suc n) k) z m in y)
      | inr z ↦ (let y : Ample (suc n) k (Wait ∷ h.0) = subst (Ample (suc n) k) z m in
          let c = flight_joins o.kind f o (flies w h.0) in
          let x : q.0.flight ≡ h.0 ++ c.0 = ap (λ u. u.flight) h.2 ∙ c.1 in
          short_none f t (suc n) (k - 1) (r + 1) q.0 v a.1 l (subst (Ample (suc n) (k - 1)) (sym x) (ample_join (suc n) (k - 1) h.0 c.0 y.1)) (omega (arith, y.0)) q.2)
    ]

-- what is awaited comes whole
pub awaits_full : (f : FatesByNumber) (t : List TalkItem) (n : ℕ) (w v : Line) → Awaits answer_waits n t → FewWaits 2 2 w.flight → n ≤ length (bytes_of w.flight) → console_talk f t w ≡ Some v → IsFull answer_waits 0 t × (length (heard t) ≡ n)
awaits_full f t n w v (inl a) few m e = a
awaits_full f t n w v (inr a) few m e = absurd (short_none f t n 2 0 w v a.0 a.1 (few_ample n 2 w.flight few m) (omega arith) e)
