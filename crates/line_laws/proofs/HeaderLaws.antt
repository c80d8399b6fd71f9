-- The stamp frame, and the header after it.
use Rattle.std.proofs.Common.{◌≡◌, ℕ, ◌+◌, ◌<◌, ◌≤◌, ◌==◌, if◌then◌else◌, Bool, true, false, ◌&&◌, ◌||◌, not, ◌⊎◌, inl, inr, List, [], ◌∷◌, ◌++◌, length, drop, Option, Some, None, refl, sym, ◌∙◌, ap, subst, arith, append_assoc, append-nil, length-append}
use Rattle.std.specs.Prelude.{nat_lt, bytes_eq}
use Rattle.std.proofs.lemmas.Bool.{cases_lt}
use Rattle.std.proofs.lemmas.Slice.Eq.{bytes_eq-Decides}
use Rattle.console_model.specs.Console.{Store, Console, Outcome}
use Rattle.console_ring.specs.declared.plan.Plan.{Plan}
use Rattle.console_model.specs.declared.reply.ReplyKind.{ReplyKind}
use Rattle.crc_ccitt.specs.Check.{is_good}
use Rattle.console_model.specs.Spelling.{plan_after, plan_header}
use Rattle.console_model.specs.declared.frame.FrameKind.TheVariants.{ForDump}
use Rattle.console_model.specs.Console.ConsoleState.{Command, Frame, Dump}
use Rattle.console_model.specs.declared.reply.ReplyKind.TheVariants.{Nothing, Code, Test, Wake, Ack, AckFrame, Page, Packet}
use Rattle.console_model.specs.Hear.{hear}
use Rattle.console_model.specs.Line.{says_reply, silent, to}
use Rattle.console_model.specs.Frame.{at_frame}
use Rattle.schedule_file.specs.Fates.{FatesByNumber}
use Rattle.station_sim.specs.Delivery.{delivered, late}
use Rattle.station_sim.specs.declared.unseen.Unseen.{Unseen}
use Rattle.station_sim.specs.Line.{Line, happens, reply_joins, hears, completes, is_harmed, passes, earlier, joins, message_counted, sends_message, waited, due_all, begins_with_ack, from_console}
use Rattle.serial_link.specs.declared.talk.TalkItem.{TalkItem}
use Rattle.station_sim.specs.Talk.{console_talk}
use Rattle.station_sim.specs.Calm.{FewWaits, ConsoleRests, AreMild}
use Rattle.wake_retry.specs.Parts.{heard, Awaits, answer_waits}
use Rattle.station_sim.proofs.CalmLines.{closed_late, few_late}
use Rattle.line_laws.specs.Host.{OnlyListens, Near, HostIsReady}
use Rattle.serial_link.specs.Talk.{message}
use Rattle.dmpaft_pump.specs.Header.{IsHeader}
use Rattle.console_ring.specs.Picture.{no_plan}
use Rattle.station_sim.specs.Sound.{AreRecords}
use Rattle.console_model.specs.Valid.{EachFollows}
use Rattle.line_laws.proofs.Headers.{plan_small, header_length, header_pages, header_parts}
use Rattle.line_laws.proofs.HushedConsole.{bytes_of, EndsInByte, closed_empty, listens}
use Rattle.line_laws.proofs.Asked.{at_state, near_due_all, rests_due_all}
use Rattle.line_laws.proofs.Places.{no_length}
use Rattle.line_laws.proofs.Delivery.{delivered_length, bytes_of_late}
use Rattle.line_laws.proofs.Plainly.{Tame}
use Rattle.line_laws.proofs.Messages.{message_goes, seen_host, harm_cases}
use Rattle.line_laws.proofs.FrameStage.{StillFramed, Unframed, frame_listens, short_quiets}
use Rattle.line_laws.proofs.Pages.{goes_unseen, awaits_listens}
use Rattle.line_laws.proofs.WakeLaws.{Awaiting, Strayed, strayed_on, unframed_strayed, due_framed}

pub frame_goes : (f : FatesByNumber) (frame : List ℕ) (t : List TalkItem) (w : Line) → length frame ≡ 6 → console_talk f (message frame ++ t) w ≡ console_talk f t (sends_message f (w.begun ++ frame) w)
frame_goes f [] t w e = absurd (omega arith)
frame_goes f (b ∷ bs) t w e = message_goes f b bs t w

-- a line with another console
abbrev pub at_console : Line → Console → Line
at_console w c = record { console = c; begun = w.begun; flight = w.flight; messages = w.messages; replies = w.replies; dumps = w.dumps; harmed = w.harmed; unseen = w.unseen }

-- the console before an event does not matter
joins_console : (k : ReplyKind) (f : FatesByNumber) (o : Outcome) (w : Line) (c : Console) → joins k f o (at_console w c) ≡ joins k f o w
joins_console Nothing f o w c = refl
joins_console Code f o w c = refl
joins_console Wake f o w c = refl
joins_console Test f o w c = refl
joins_console Ack f o w c = refl
joins_console AckFrame f o w c = refl
joins_console Page f o w c = refl
joins_console Packet f o w c = refl

-- what a good frame makes of the console
abbrev pub heading : List ℕ → Console → Outcome
heading frame c = let p = plan_after c.history frame in
    record {
      kind = AckFrame;
      bytes = 6 ∷ plan_header p;
      completes = true;
      begins = record { history = c.history; frame = frame; plan = p } ∷ [];
      next = to c (if p.pages == 0 then Command [] else Dump p 0);
    }

pub good_frame : (frame : List ℕ) (c : Console) → is_good frame ≡ true → at_frame ForDump frame c ≡ heading frame c
good_frame frame c e = ap (λ t. if t then heading frame c else says_reply Code (24 ∷ []) (to c (Command []))) e

bad_frame : (frame : List ℕ) (c : Console) → is_good frame ≡ false → at_frame ForDump frame c ≡ says_reply Code (24 ∷ []) (to c (Command []))
bad_frame frame c e = ap (λ t. if t then heading frame c else says_reply Code (24 ∷ []) (to c (Command []))) e

module _ (g : List (List ℕ)) (d : Store) (hs : List (List ℕ)) (f : FatesByNumber) where
  -- fewer bytes than a frame has
  pub short_frame : (got acc : List ℕ) (i : ℕ) (w : Line) → length acc + length got ≤ 5 →
      (j : ℕ) × (j ≤ i) × (hears f got (at_console w (at_state g d hs (Frame ForDump acc) i)) ≡ at_console w (at_state g d hs (Frame ForDump (acc ++ got)) j))
  short_frame [] acc i w n = (i, omega arith, ap (λ x. at_console w (at_state g d hs (Frame ForDump x) i)) (sym (append-nil acc)))
  short_frame (x ∷ got) acc i w n =
      let c = at_state g d hs (Frame ForDump acc) i in
      let e : nat_lt (length acc + 1) 6 ≡ true = grind arith in
      let step : happens f (hear c x) (at_console w c) ≡ at_console w (at_state g d hs (Frame ForDump (acc ++ x ∷ [])) 0)
      = ap (λ t. happens f (if t then silent (to c (Frame ForDump (acc ++ x ∷ []))) else at_frame ForDump (acc ++ x ∷ []) c) (at_console w c)) e in
      let q = short_frame got (acc ++ x ∷ []) 0 w (omega (arith, length-append acc (x ∷ []))) in
      (q.0, omega (arith, q.1), ap (hears f got) step ∙ q.2 ∙ ap (λ y. at_console w (at_state g d hs (Frame ForDump y) q.0)) (append_assoc acc (x ∷ []) got))

  -- a whole frame
  pub whole_frame : (got : List ℕ) (i : ℕ) (w : Line) → length got ≡ 6 →
      (hears f got (at_console w (at_state g d hs (Frame ForDump []) i)) ≡ happens f (at_frame ForDump got (at_state g d hs (Frame ForDump []) 0)) w)
      × (completes got (at_state g d hs (Frame ForDump []) i) ≡ ((at_frame ForDump got (at_state g d hs (Frame ForDump []) 0)).completes || false))
  whole_frame [] i w e = absurd (omega arith)
  whole_frame (a ∷ []) i w e = absurd (omega arith)
  whole_frame (a ∷ b ∷ []) i w e = absurd (omega arith)
  whole_frame (a ∷ b ∷ c ∷ []) i w e = absurd (omega arith)
  whole_frame (a ∷ b ∷ c ∷ x ∷ []) i w e = absurd (omega arith)
  whole_frame (a ∷ b ∷ c ∷ x ∷ y ∷ []) i w e = absurd (omega arith)
  whole_frame (a ∷ b ∷ c ∷ x ∷ y ∷ z ∷ []) i w e =
      let o = at_frame ForDump (a ∷ b ∷ c ∷ x ∷ y ∷ z ∷ []) (at_state g d hs (Frame ForDump []) 0) in
      (joins_console o.kind f o w (at_state g d hs (Frame ForDump (a ∷ b ∷ c ∷ x ∷ y ∷ [])) 0), refl)
  whole_frame (a ∷ b ∷ c ∷ x ∷ y ∷ z ∷ o ∷ got) i w e = absurd (omega arith)

-- what a good frame leaves at first
record Headed (g : List (List ℕ)) (frame : List ℕ) (w v : Line) : Type 0 where
  n : ℕ
  fate : FatesByNumber
  near : Near g (plan_after g frame) 0 0 v.console
  rests : ConsoleRests v.console.state
  few : FewWaits 2 2 v.flight
  closed : EndsInByte v.flight
  bytes : bytes_of v.flight ≡ delivered (fate.reply n) (6 ∷ plan_header (plan_after g frame))
  unseen : (x : Option Unseen) × (y : Unseen) × (v.unseen ≡ earlier x (if is_harmed (6 ∷ plan_header (plan_after g frame)) (bytes_of v.flight) && passes AckFrame (6 ∷ plan_header (plan_after g frame)) (bytes_of v.flight) then Some y else None))
  begun : v.begun ≡ []
  dumps : v.dumps ≡ w.dumps ++ record { history = g; frame = frame; plan = plan_after g frame } ∷ []

-- a frame that did not come whole, or not good
abbrev Unheaded : Line → Line → Type 0
Unheaded w v = ((got : List ℕ) × (g : List (List ℕ)) × (d : Store) × (hs : List (List ℕ)) × (i : ℕ) × (i < 3) × (v.console ≡ at_state g d hs (Frame ForDump got) i) × (v.flight ≡ []) × (v.begun ≡ []) × (v.dumps ≡ w.dumps))
    ⊎ (Strayed w v × (length (bytes_of v.flight) ≤ 1))

pub near_start : (g : List (List ℕ)) (p : Plan) (d : Store) (hs : List (List ℕ)) (t : Bool) → AreRecords g → Near g p 0 0 (at_state g d hs (if t then Command [] else Dump p 0) 0)
near_start g p d hs true ok = tt
near_start g p d hs false ok = (refl, refl, omega arith, omega arith, ok)

pub rests_start : (p : Plan) (t : Bool) → ConsoleRests (if t then Command [] else Dump p 0)
rests_start p true = refl
rests_start p false = tt

module _ (f : FatesByNumber) (mild : AreMild f) (m : List ℕ) (w : Line) (g : List (List ℕ)) (d : Store) (hs : List (List ℕ)) (i : ℕ) (soon : i < 3) (at : w.console ≡ at_state g d hs (Frame ForDump []) i) (empty : w.flight ≡ []) (begun : w.begun ≡ []) (six : length m ≡ 6) (records : AreRecords g) where
  abbrev got : List ℕ
  got = delivered (f.host (w.messages + 1)) m

  counted_is : message_counted f m w ≡ at_console (message_counted f m w) (at_state g d hs (Frame ForDump []) i)
  counted_is = ap (at_console (message_counted f m w)) at

  heard_short : length got ≤ 5 → Unheaded w (sends_message f m w)
  heard_short n =
      let q = short_frame g d hs f (delivered (f.host (w.messages + 1)) m) [] i (message_counted f m w) (omega (arith, n)) in
      let z : hears f (delivered (f.host (w.messages + 1)) m) (message_counted f m w) ≡ at_console (message_counted f m w) (at_state g d hs (Frame ForDump (delivered (f.host (w.messages + 1)) m)) q.0) = ap (hears f (delivered (f.host (w.messages + 1)) m)) counted_is ∙ q.2 in
      let k = due_framed (f.mids (w.messages + 1)) (delivered (f.host (w.messages + 1)) m) g d hs q.0 in
      inl (
        delivered (f.host (w.messages + 1)) m,
        k.0,
        d,
        hs,
        q.0,
        omega (arith, q.1),
        ap (λ x. due_all (f.mids (w.messages + 1)) x.console) z ∙ k.1,
        ap (λ x. x.flight) z ∙ empty,
        ap (λ x. x.begun) z,
        ap (λ x. x.dumps) z,
      )

  c0 : Console
  c0 = at_state g d hs (Frame ForDump []) 0

  whole_is : length got ≡ 6 → hears f got (message_counted f m w) ≡ happens f (at_frame ForDump got (at_state g d hs (Frame ForDump []) 0)) (message_counted f m w)
  whole_is n = ap (hears f got) counted_is ∙ (whole_frame g d hs f got i (message_counted f m w) n).0

  headed_by : Headed g m w (waited (f.mids (w.messages + 1)) (reply_joins f (heading m (at_state g d hs (Frame ForDump []) 0)) (message_counted f m w)))
  headed_by =
      let p = plan_after g m in
      let n = w.replies + 1 in
      let bs = 6 ∷ plan_header p in
      let l = late (f.late n).waits (f.late n).place (delivered (f.reply n) bs) in
      let fl : w.flight ++ l ≡ l = ap (λ x. x ++ l) empty in
      let by : bytes_of (w.flight ++ l) ≡ delivered (f.reply n) bs = ap bytes_of fl ∙ bytes_of_late (f.late n).waits (f.late n).place (delivered (f.reply n) bs) in
      record {
        n = n;
        fate = f;
        near = near_due_all g p 0 0 (f.mids (w.messages + 1)) (at_state g d hs (if p.pages == 0 then Command [] else Dump p 0) 0) (near_start g p d hs (p.pages == 0) records);
        rests = rests_due_all (f.mids (w.messages + 1)) (at_state g d hs (if p.pages == 0 then Command [] else Dump p 0) 0) (rests_start p (p.pages == 0));
        few = subst (FewWaits 2 2) (sym fl) (few_late (f.late n).waits (f.late n).place (delivered (f.reply n) bs) (mild n));
        closed = subst EndsInByte (sym fl) (closed_late (f.late n).waits (f.late n).place (delivered (f.reply n) bs));
        bytes = by;
        unseen = ((message_counted f m w).unseen, from_console n, ap (λ y. earlier (message_counted f m w).unseen (if is_harmed bs y && passes AckFrame bs y then Some (from_console n) else None)) (sym by));
        begun = refl;
        dumps = refl;
      }

  heard_good : length got ≡ 6 → is_good got ≡ true → got ≡ m → Headed g m w (sends_message f m w)
  heard_good n e is =
      let z : hears f got (message_counted f m w) ≡ reply_joins f (heading m (at_state g d hs (Frame ForDump []) 0)) (message_counted f m w)
      = whole_is n ∙ ap (λ o. happens f o (message_counted f m w)) (good_frame got (at_state g d hs (Frame ForDump []) 0) e) ∙ ap (λ x. reply_joins f (heading x (at_state g d hs (Frame ForDump []) 0)) (message_counted f m w)) is in
      subst (λ x. Headed g m w (waited (f.mids (w.messages + 1)) x)) (sym z) headed_by

  bad_by : Strayed w (waited (f.mids (w.messages + 1)) (reply_joins f (says_reply Code (24 ∷ []) (at_state g d hs (Command []) 0)) (message_counted f m w))) × (length (bytes_of (w.flight ++ late (f.late (w.replies + 1)).waits (f.late (w.replies + 1)).place (delivered (f.reply (w.replies + 1)) (24 ∷ [])))) ≤ 1)
  bad_by =
      let n = w.replies + 1 in
      let l = late (f.late n).waits (f.late n).place (delivered (f.reply n) (24 ∷ [])) in
      let fl : w.flight ++ l ≡ l = ap (λ x. x ++ l) empty in
      let by : bytes_of (w.flight ++ l) ≡ delivered (f.reply n) (24 ∷ []) = ap bytes_of fl ∙ bytes_of_late (f.late n).waits (f.late n).place (delivered (f.reply n) (24 ∷ [])) in
      let size : length (bytes_of (w.flight ++ l)) ≤ 1 = omega (arith, ap length by, delivered_length (f.reply n) (24 ∷ [])) in (
        record {
          history = [];
          plan = no_plan;
          low = 0;
          high = 0;
          tame = record {
            near = near_due_all [] no_plan 0 0 (f.mids (w.messages + 1)) (at_state g d hs (Command []) 0) tt;
            few = subst (FewWaits 2 2) (sym fl) (few_late (f.late n).waits (f.late n).place (delivered (f.reply n) (24 ∷ [])) (mild n));
            closed = subst EndsInByte (sym fl) (closed_late (f.late n).waits (f.late n).place (delivered (f.reply n) (24 ∷ [])));
            size = omega (arith, size);
          };
          begun = refl;
          dumps = append-nil w.dumps;
        },
        size,
      )

  heard_bad : length got ≡ 6 → is_good got ≡ false → Unheaded w (sends_message f m w)
  heard_bad n e =
      let z : hears f got (message_counted f m w) ≡ reply_joins f (says_reply Code (24 ∷ []) (at_state g d hs (Command []) 0)) (message_counted f m w)
      = whole_is n ∙ ap (λ o. happens f o (message_counted f m w)) (bad_frame got (at_state g d hs (Frame ForDump []) 0) e) in
      subst (λ x. Unheaded w (waited (f.mids (w.messages + 1)) x)) (sym z) (inr bad_by)

  good_completes : length got ≡ 6 → is_good got ≡ true → completes got w.console ≡ true
  good_completes n e = ap (completes got) at ∙ (whole_frame g d hs f got i w n).1 ∙ ap (λ o. o.completes || false) (good_frame got (at_state g d hs (Frame ForDump []) 0) e)

  heads_first : (sends_message f m w).unseen ≡ None → Headed g m w (sends_message f m w) ⊎ Unheaded w (sends_message f m w)
  heads_first u = go (is_good got) refl (cases_lt (length got) 6)
    where
      go : (t : Bool) → is_good got ≡ t → ((length got < 6) ⊎ (6 ≤ length got)) → Headed g m w (sends_message f m w) ⊎ Unheaded w (sends_message f m w)
      go t e (inl a) = inr (heard_short (omega arith))
      go false e (inr a) = inr (heard_bad (omega (arith, delivered_length (f.host (w.messages + 1)) m)) e)
      go true e (inr a) =
          let n : length got ≡ 6 = omega (arith, delivered_length (f.host (w.messages + 1)) m) in
          inl (heard_good n e (elim (harm_cases m got) [
            | inl h ↦ (let x : true ≡ false = sym (good_completes n e) ∙ (seen_host f m w u h).0 in absurd cc)
            | inr q ↦ q
          ]))

-- a header that is whole, and not unseen, is what was sent
header_is : (h got : List ℕ) (x : Option Unseen) (y : Unseen) → earlier x (if is_harmed (6 ∷ h) got && passes AckFrame (6 ∷ h) got then Some y else None) ≡ None →
    length got ≡ length (6 ∷ h) → begins_with_ack got ≡ true → is_good (drop 1 got) ≡ true → got ≡ 6 ∷ h
header_is h got (Some x) y u l b g = absurd cc
header_is h got None y u l b g = sym ((bytes_eq-Decides (6 ∷ h) got).0 (go (bytes_eq (6 ∷ h) got) (passes AckFrame (6 ∷ h) got) refl passing u))
  where
    passing : passes AckFrame (6 ∷ h) got ≡ true
    passing = grind (arith, l, b, g)

    go : (t s : Bool) → bytes_eq (6 ∷ h) got ≡ t → s ≡ true → (if not t && s then Some y else None) ≡ None → bytes_eq (6 ∷ h) got ≡ true
    go true s q r m = q
    go false true q r m = absurd cc
    go false false q r m = absurd cc

-- the line after the header's answer, a dump begun
pub record Begins (g : List (List ℕ)) (frame : List ℕ) (w : Line) (t : List TalkItem) (v : Line) : Type 0 where
  pub tame : Tame g (plan_after g frame) 0 0 5000 v
  pub begun : v.begun ≡ []
  pub dumps : v.dumps ≡ w.dumps ++ record { history = g; frame = frame; plan = plan_after g frame } ∷ []
  pub records : AreRecords g
  pub rises : EachFollows [] g
  pub ready : (n k : ℕ) → IsHeader (heard t) n k → (n ≡ (plan_after g frame).pages) × (k ≡ (plan_after g frame).place) × HostIsReady g (plan_after g frame) 0 0 v

headed_on : (g : List (List ℕ)) → AreRecords g → EachFollows [] g → (frame : List ℕ) (f : FatesByNumber) (t : List TalkItem) (w u v : Line) → OnlyListens t → Headed g frame w u → console_talk f t u ≡ Some v → v.unseen ≡ None → Begins g frame w t v
headed_on g records rises frame f t w u v s k e un =
    let p = plan_after g frame in
    let l = listens g p 0 0 f t u v s k.near e in
    let size : length (bytes_of u.flight) ≤ 7 = omega (arith, ap length k.bytes, delivered_length (k.fate.reply k.n) (6 ∷ plan_header p), header_length p) in
    record {
      tame = record { near = l.near; few = l.few k.few; closed = l.closed k.closed; size = omega (arith, size, ap length l.bytes, length-append (heard t) (bytes_of v.flight)) };
      begun = l.begun ∙ k.begun;
      dumps = l.dumps ∙ k.dumps;
      records = records;
      rises = rises;
      ready = λ n j h.
          let q = header_parts (heard t) n j h in
          let none : bytes_of v.flight ≡ [] = no_length (bytes_of v.flight) (omega (arith, size, q.0, ap length l.bytes, length-append (heard t) (bytes_of v.flight))) in
          let same : bytes_of u.flight ≡ heard t = l.bytes ∙ ap (λ x. heard t ++ x) none ∙ append-nil (heard t) in
          let is : bytes_of u.flight ≡ 6 ∷ plan_header p = header_is (plan_header p) (bytes_of u.flight) k.unseen.0 k.unseen.1 (sym k.unseen.2 ∙ sym l.unseen ∙ un)
          (omega (arith, ap length same, q.0, header_length p)) (ap begins_with_ack same ∙ q.1) (ap (λ x. is_good (drop 1 x)) same ∙ q.2) in (
            (header_pages p (heard t) n j (plan_small g frame) (sym same ∙ is) h).0,
            (header_pages p (heard t) n j (plan_small g frame) (sym same ∙ is) h).1,
            record { flight = closed_empty v.flight (l.closed k.closed) none; begun = l.begun ∙ k.begun; near = l.near; rests = l.rests k.rests },
          );
    }

unheaded_on : (f : FatesByNumber) → AreMild f → (t : List TalkItem) (w u v : Line) → Awaits answer_waits 7 t → Unheaded w u → console_talk f t u ≡ Some v → Strayed w v × ((n k : ℕ) → IsHeader (heard t) n k → ⊥)
unheaded_on f mild t w u v awaits (inl (got, g, d, hs, i, soon, console, flight, begun, dumps)) e =
    let k = frame_listens [] no_plan 0 0 got g d hs f mild t 0 i u v (awaits_listens 7 t awaits) (record { console = console; soon = soon; few = rw flight tt; closed = rw flight tt; size = rw flight (omega arith) }) e in
    go k awaits
  where
    go : StillFramed got g d hs i u t v ⊎ Unframed [] no_plan 0 0 0 i u t v → Awaits answer_waits 7 t → Strayed w v × ((n k : ℕ) → IsHeader (heard t) n k → ⊥)
    go (inl q) (inl a) = absurd (omega (arith, a.1, ap length (sym (ap bytes_of flight) ∙ q.bytes), length-append (heard t) (bytes_of v.flight)))
    go (inl q) (inr a) = absurd (omega (arith, q.soon, short_quiets t a.0))
    go (inr q) a = (unframed_strayed w u v t 0 i (omega arith) begun dumps q, λ n j h. omega (arith, q.heard, (header_parts (heard t) n j h).0))
unheaded_on f mild t w u v awaits (inr (k, size)) e =
    let s = awaits_listens 7 t awaits in
    let l = listens k.history k.plan k.low k.high f t u v s k.tame.near e in
    (strayed_on f t w u v s k e, λ n j h. omega (arith, size, (header_parts (heard t) n j h).0, ap length l.bytes, length-append (heard t) (bytes_of v.flight)))

-- the stamp frame and the answer to it
pub heads_law : (f : FatesByNumber) → AreMild f → (frame : List ℕ) (t : List TalkItem) (w u v : Line) → length frame ≡ 6 → Awaiting [] w u → Awaits answer_waits 7 t → console_talk f (message frame ++ t) u ≡ Some v → v.unseen ≡ None →
    ((g : List (List ℕ)) × Begins g frame w t v) ⊎ (Strayed w v × ((n k : ℕ) → IsHeader (heard t) n k → ⊥))
heads_law f mild frame t w u v six k awaits e un =
    let m = u.begun ++ frame in
    let is : m ≡ frame = ap (λ x. x ++ frame) k.begun in
    let e' : console_talk f t (sends_message f m u) ≡ Some v = sym (frame_goes f frame t u six) ∙ e in
    let first = heads_first f mild m u k.history k.store k.held k.idle k.soon k.console k.flight k.begun (ap length is ∙ six) k.records (goes_unseen f t (sends_message f m u) v e' un) in
    elim first [
      | inl a ↦ (let b : Begins k.history frame u t v = headed_on k.history k.records k.rises frame f t u (sends_message f m u) v (awaits_listens 7 t awaits) (subst (λ x. Headed k.history x u (sends_message f m u)) is a) e' un in
          inl (k.history, record { tame = b.tame; begun = b.begun; dumps = b.dumps ∙ ap (λ x. x ++ record { history = k.history; frame = frame; plan = plan_after k.history frame } ∷ []) k.dumps; records = b.records; rises = b.rises; ready = b.ready }))
      | inr a ↦ (let b = unheaded_on f mild t u (sends_message f m u) v awaits a e' in
          inr (record { history = b.0.history; plan = b.0.plan; low = b.0.low; high = b.0.high; tame = b.0.tame; begun = b.0.begun; dumps = b.0.dumps ∙ k.dumps }, b.1))
    ]
