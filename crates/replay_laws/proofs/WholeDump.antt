-- A whole attempt over an archive of whatever records, of which all that is newer than a stamp is taken.
use Rattle.std.proofs.Common.{◌≡◌, ℕ, zero, suc, ◌+◌, ◌-◌, ◌%◌, ◌<◌, ◌≤◌, ◌==◌, ◌&&◌, if◌then◌else◌, Bool, true, false, inl, inr, List, [], ◌∷◌, ◌++◌, length, map, Option, Some, None, refl, sym, ◌∙◌, ap, subst, arith, append-nil}
use Rattle.std.specs.Prelude.{nat_lt}
use Rattle.std.proofs.lemmas.Bool.Decides.{nat_tests}
use Rattle.std.proofs.lemmas.Slice.Eq.{bytes_eq-Decides}
use Rattle.serial_link.specs.Talk.{message}
use Rattle.serial_link.specs.declared.talk.TalkItem.{TalkItem}
use Rattle.serial_link.specs.declared.talk.TalkItem.TheVariants.{Said, Heard, Quiet}
use Rattle.station_base.specs.CivilMinute.{CivilMinute}
use Rattle.vantage_frames.specs.LineReading.{command_of, plain_command_of}
use Rattle.vantage_frames.specs.StampFrame.{stamp_frame_of}
use Rattle.loop_packet.specs.declared.packet.LoopPacket.{LoopPacket}
use Rattle.console_ring.specs.declared.plan.Plan.{Plan}
use Rattle.console_ring.specs.Picture.{page_of}
use Rattle.console_model.specs.declared.frame.FrameKind.TheVariants.{ForDump}
use Rattle.console_model.specs.declared.reply.ReplyKind.TheVariants.{Page}
use Rattle.console_model.specs.Console.{Store, Console, Outcome, Begun, fresh_console}
use Rattle.console_model.specs.Console.ConsoleState.{Command, Frame, Dump}
use Rattle.console_model.specs.Hear.{dump_ended}
use Rattle.console_model.specs.Line.{says_reply, silent, to}
use Rattle.console_model.specs.Reading.{read_order}
use Rattle.console_model.specs.Spelling.{plan_after, plan_header}
use Rattle.wake_retry.specs.Parts.{heard, IsFull, Awaits, answer_waits}
use Rattle.dmpaft_driver.specs.Attempt.{TakesPage, Pages, Attempt, End}
use Rattle.dmpaft_pump.specs.Command.{dmpaft}
use Rattle.dmpaft_pump.specs.Batch.{batches, records_in}
use Rattle.dmpaft_pump.specs.Header.{IsHeader}
use Rattle.dmpaft_pump.specs.Page.{is_page_for, has_sequence}
use Rattle.dmpaft_driver.proofs.AttemptBounds.{frame_long}
use Rattle.crc_ccitt.specs.Check.{is_good}
use Rattle.console_ring.specs.History.{ring_size}
use Rattle.dmpaft_pump.specs.Pump.{most_askings}
use Rattle.schedule_file.specs.Fates.{FatesByNumber}
use Rattle.station_sim.specs.Delivery.{delivered, all_bytes, late}
use Rattle.station_sim.specs.Line.{Line, flies, happens, reply_joins, unanswered, hears, message_counted, sends_message, says_byte, is_harmed, earlier}
use Rattle.schedule_file.specs.Lists.{no_fates}
use Rattle.station_sim.specs.Sound.{AreRecords}
use Rattle.station_sim.specs.Talk.{console_talk, ConsoleTalk, hearing, and_then, fresh_line}
use Rattle.station_sim.specs.declared.unseen.Unseen.{Unseen}
use Rattle.line_laws.specs.Gathers.{newer_held, begun_after, AttemptGives}
use Rattle.replay_laws.specs.Minutes.{minute_records, filled_line}
use Rattle.replay_laws.specs.WholeAttempt.{WholeAttempt}
use Rattle.line_laws.proofs.Asked.{at_state}
use Rattle.line_laws.proofs.Batches.{attempt_gives}
use Rattle.line_laws.proofs.WholeAttempts.{page_for, page_has}
use Rattle.line_laws.proofs.Delivery.{page_length}
use Rattle.replay_laws.proofs.Example.{six, wake, sound_fates}
use Rattle.line_laws.proofs.HeaderLaws.{heading, good_frame, whole_frame, frame_goes}
use Rattle.line_laws.proofs.Headers.{frame_good, header_length, header_made, page_is_good, plan_small}
use Rattle.replay_laws.proofs.Minutes.{filled_console, filled_calm, filled_sound, are_records, minutes_kept}
use Rattle.line_laws.proofs.Unharmed.{next_page}

same_byte : (b : ℕ) → (b == b) ≡ true
same_byte b = grind (arith, nat_tests)

unharmed_self : (bs : List ℕ) → is_harmed bs bs ≡ false
unharmed_self bs = let z = (bytes_eq-Decides bs bs).1 refl in rw z refl

harm_if : (t : Bool) (n : ℕ) → t ≡ false → n + (if t then 1 else 0) ≡ n
harm_if true n e = cc
harm_if false n e = omega arith

seen_if : (t b : Bool) (u : Option Unseen) (x : Unseen) → t ≡ false → u ≡ None → earlier u (if t && b then Some x else None) ≡ None
seen_if true b u x e n = cc
seen_if false b u x e n = ap (λ y. earlier y None) n

late_none : (bs : List ℕ) → late 0 0 bs ≡ all_bytes bs
late_none [] = refl
late_none (b ∷ bs) = refl

-- these bytes, heard one after another
abbrev hearing_of : List ℕ → List TalkItem
hearing_of bs = map (λ b. Heard b) bs

heard_of : (bs : List ℕ) → heard (hearing_of bs) ≡ bs
heard_of [] = refl
heard_of (b ∷ bs) = ap (λ xs. b ∷ xs) (heard_of bs)

full_of : (b : ℕ) (bs : List ℕ) → IsFull answer_waits 0 (hearing_of (b ∷ bs))
full_of b [] = tt
full_of b (c ∷ bs) = full_of c bs

awaits_of : (n : ℕ) (bs : List ℕ) → length bs ≡ suc n → Awaits answer_waits (suc n) (hearing_of bs)
awaits_of n [] e = absurd (omega (arith, e))
awaits_of n (b ∷ bs) e = inl (full_of b bs, ap length (heard_of (b ∷ bs)) ∙ e)

-- bytes in flight without waits can be heard
hears_all : (f : FatesByNumber) (bs : List ℕ) (rest : List TalkItem) (w : Line) → w.flight ≡ all_bytes bs → console_talk f (hearing_of bs ++ rest) w ≡ console_talk f rest (flies w [])
hears_all f [] rest w e = ap (λ l. console_talk f rest (flies w l)) e
hears_all f (b ∷ bs) rest w e =
    ap (λ l. and_then (hearing l b w) (console_talk f (hearing_of bs ++ rest))) e
    ∙ ap (λ t. and_then (if t then Some (flies w (all_bytes bs)) else None) (console_talk f (hearing_of bs ++ rest))) (same_byte b)
    ∙ hears_all f bs rest (flies w (all_bytes bs)) refl

-- the console awaits a stamp frame
awaiting : List (List ℕ) → Store → Line
awaiting h d = record {
  console = at_state h d [] (Frame ForDump []) 0;
  begun = [];
  flight = [];
  messages = 2;
  replies = 2;
  dumps = [];
  harmed = 0;
  unseen = None;
}

comes_to : (h : List (List ℕ)) (d : Store) (rest : List TalkItem) →
    console_talk no_fates (six ++ (wake ++ (message dmpaft ++ (Heard 6 ∷ [] ++ rest)))) (fresh_line (at_state h d [] (Command []) 0)) ≡ console_talk no_fates rest (awaiting h d)
unfolding awaiting six wake dmpaft read_order command_of plain_command_of delivered
comes_to h d rest = refl

-- a reply that comes as it was sent, to a line on which nothing is in flight
record Answered (o : Outcome) (w v : Line) : Type 0 where
  console : v.console ≡ o.next
  flight : v.flight ≡ all_bytes o.bytes
  begun : v.begun ≡ []
  dumps : v.dumps ≡ w.dumps ++ o.begins
  harmed : v.harmed ≡ w.harmed
  unseen : v.unseen ≡ None

answered_by : (o : Outcome) (m : List ℕ) (w v : Line) → v ≡ reply_joins no_fates o (message_counted no_fates m w) → w.flight ≡ [] → w.unseen ≡ None → Answered o w v
unfolding delivered
answered_by o m w v is none seen = record {
  console = ap (λ x. x.console) is;
  flight = ap (λ x. x.flight) is ∙ ap (λ l. l ++ late 0 0 o.bytes) none ∙ late_none o.bytes;
  begun = ap (λ x. x.begun) is;
  dumps = ap (λ x. x.dumps) is;
  harmed = ap (λ x. x.harmed) is ∙ harm_if (is_harmed o.bytes o.bytes) (w.harmed + (if is_harmed m m then 1 else 0)) (unharmed_self o.bytes) ∙ harm_if (is_harmed m m) w.harmed (unharmed_self m);
  unseen = ap (λ x. x.unseen) is ∙ seen_if (is_harmed o.bytes o.bytes) _ _ _ (unharmed_self o.bytes) (seen_if (is_harmed m m) _ w.unseen _ (unharmed_self m) seen);
}

-- the header is the answer to the frame
header_sent : (h : List (List ℕ)) (d : Store) (after : Option CivilMinute) →
    Answered (heading (stamp_frame_of after) (at_state h d [] (Frame ForDump []) 0)) (awaiting h d) (sends_message no_fates (stamp_frame_of after) (awaiting h d))
unfolding delivered awaiting
header_sent h d after =
    let frame = stamp_frame_of after in
    let c = message_counted no_fates frame (awaiting h d) in
    let o = heading frame (at_state h d [] (Frame ForDump []) 0) in
    answered_by o frame (awaiting h d) (sends_message no_fates frame (awaiting h d))
    ((whole_frame h d [] no_fates frame 0 c (frame_long after)).0 ∙ ap (λ o. happens no_fates o c) (good_frame frame (at_state h d [] (Frame ForDump []) 0) (frame_good after))) refl refl

module _ (h : List (List ℕ)) (records : AreRecords h) (d : Store) (p : Plan) where
  -- the console is in the dump, k pages sent
  record Paging (k : ℕ) (w : Line) : Type 0 where
    console : w.console ≡ at_state h d [] (Dump p k) 0
    flight : w.flight ≡ []
    begun : w.begun ≡ []
    harmed : w.harmed ≡ 0
    unseen : w.unseen ≡ None

  page_sent : (k : ℕ) (w : Line) → k < p.pages → Paging k w → Answered (says_reply Page (page_of h p k) (at_state h d [] (Dump p (k + 1)) 0)) w (says_byte no_fates 6 true w)
  unfolding delivered
  page_sent k w less a =
      let m = w.begun ++ 6 ∷ [] in
      let is : m ≡ 6 ∷ [] = ap (λ x. x ++ 6 ∷ []) a.begun in
      let c = message_counted no_fates m w in
      answered_by (says_reply Page (page_of h p k) (at_state h d [] (Dump p (k + 1)) 0)) m w (says_byte no_fates 6 true w)
      (ap (λ y. hears no_fates y c) is ∙ ap (λ z. hears no_fates (6 ∷ []) (record c { console = z })) a.console ∙ next_page no_fates c h d 0 [] p k (grind (arith, nat_tests, less))) a.flight a.unseen

  paged : (k : ℕ) (w : Line) → k < p.pages → Paging k w → Paging (k + 1) (flies (says_byte no_fates 6 true w) [])
  paged k w less a =
      let q = page_sent k w less a in
      record { console = q.console; flight = refl; begun = q.begun; harmed = q.harmed ∙ a.harmed; unseen = q.unseen }

  -- the last 0x06 ends the dump
  record Ended (w v : Line) : Type 0 where
    dumps : v.dumps ≡ w.dumps
    harmed : v.harmed ≡ 0
    unseen : v.unseen ≡ None

  last_sent : (k : ℕ) (w : Line) → k ≡ p.pages → Paging k w → Ended w (says_byte no_fates 6 true w)
  unfolding delivered
  last_sent k w all a =
      let m = w.begun ++ 6 ∷ [] in
      let is : m ≡ 6 ∷ [] = ap (λ x. x ++ 6 ∷ []) a.begun in
      let c = message_counted no_fates m w in
      let s = at_state h d [] (Dump p k) 0 in
      let more : nat_lt k p.pages ≡ false = grind (arith, nat_tests, all) in
      let o : Outcome = silent (to (dump_ended s) (Command [])) in
      let y : hears no_fates m c ≡ unanswered o c = ap (λ y. hears no_fates y c) is ∙ ap (λ z. hears no_fates (6 ∷ []) (record c { console = z })) a.console
      ∙ ap (λ t. happens no_fates (if t then says_reply Page (page_of h p k) (at_state h d [] (Dump p (k + 1)) 0) else silent (to (dump_ended s) (Command []))) (record c { console = s })) more in
      record {
        dumps = ap (λ x. x.dumps) y;
        harmed = ap (λ x. x.harmed) y ∙ harm_if (is_harmed m m) w.harmed (unharmed_self m) ∙ a.harmed;
        unseen = ap (λ x. x.unseen) y ∙ seen_if (is_harmed m m) _ w.unseen _ (unharmed_self m) a.unseen;
      }

  -- all pages from k on
  record AllPaged (left k : ℕ) (w : Line) : Type 0 where
    talk : List TalkItem
    taken : List (List ℕ)
    line : Line
    pages : Pages left k talk taken End.Whole
    goes : console_talk no_fates talk w ≡ Some line
    ended : Ended w line

  page_good : (k : ℕ) (bytes : List ℕ) → bytes ≡ page_of h p k → is_page_for k bytes ≡ true
  page_good k bytes e =
      page_for k bytes (ap length e ∙ page_length h p k records) (ap is_good e ∙ page_is_good h p k) (ap (has_sequence (k % 256)) e ∙ page_has h p k)

  all_paged : (left k : ℕ) (w : Line) → left + k ≡ p.pages → 0 < p.pages → Paging k w → AllPaged left k w
  all_paged zero zero w sum some a = absurd (omega (arith, sum, some))
  all_paged zero (suc k) w sum some a = record {
    talk = Said 6 true ∷ [];
    taken = [];
    line = says_byte no_fates 6 true w;
    pages = (refl, refl, refl);
    goes = refl;
    ended = last_sent (suc k) w (omega (arith, sum)) a;
  }
  all_paged (suc left) k w sum some a =
      let bytes = page_of h p k in
      let less : k < p.pages = omega (arith, sum) in
      let x = says_byte no_fates 6 true w in
      let sent = page_sent k w less a in
      let t = Said 6 true ∷ hearing_of bytes in
      let next = all_paged left (k + 1) (flies x []) (omega (arith, sum)) some (paged k w less a) in
      let same : heard (hearing_of bytes) ≡ bytes = heard_of bytes in
      let takes : TakesPage most_askings k 6 (Said 6 true ∷ hearing_of (page_of h p k)) (page_of h p k) = (
        hearing_of bytes,
        [],
        ap (λ xs. Said 6 true ∷ xs) (sym (append-nil (hearing_of bytes))),
        awaits_of 266 bytes (page_length h p k records),
        inl (page_good k (heard (hearing_of bytes)) same, refl, sym same),
      ) in
      record {
        talk = (Said 6 true ∷ hearing_of (page_of h p k)) ++ next.talk;
        taken = page_of h p k ∷ next.taken;
        line = next.line;
        pages = inl (t, next.talk, bytes, next.taken, refl, takes, refl, inl next.pages);
        goes = hears_all no_fates bytes next.talk x sent.flight ∙ next.goes;
        ended = record { dumps = next.ended.dumps ∙ sent.dumps ∙ append-nil w.dumps; harmed = next.ended.harmed; unseen = next.ended.unseen };
      }

-- an attempt of these parts
attempt_of : (frame hd : List ℕ) (pages : List TalkItem) (n place : ℕ) (taken : List (List ℕ)) → length hd ≡ 7 → IsHeader hd n place → Pages n 0 pages taken End.Whole →
    Attempt frame (six ++ (wake ++ (message dmpaft ++ (Heard 6 ∷ [] ++ (message frame ++ (hearing_of hd ++ pages)))))) place taken End.Whole
unfolding six wake
attempt_of frame hd pages n place taken long header paged = inl (
  six,
  wake,
  message dmpaft ++ (Heard 6 ∷ [] ++ (message frame ++ (hearing_of hd ++ pages))),
  true,
  refl,
  (omega arith, (omega arith, (omega arith, (omega arith, (omega arith, (omega arith, (refl, omega arith))))))),
  (Heard 10 ∷ Heard 13 ∷ Quiet ∷ Quiet ∷ Quiet ∷ [], [], refl, (omega arith, (omega arith, (omega arith, (omega arith, (omega arith, (refl, omega arith)))))), inl (refl, refl, refl)),
  inl (
    refl,
    (
      Heard 6 ∷ [],
      message frame ++ (hearing_of hd ++ pages),
      refl,
      inl (tt, refl),
      inl (
        refl,
        (hearing_of hd, pages, refl, awaits_of 6 hd long, inl (n, subst (λ (xs : List ℕ). IsHeader xs n place) (sym (heard_of hd)) header, paged)),
      ),
    ),
  ),
)

-- from the line after the header on
record HasPages (h : List (List ℕ)) (p : Plan) (w : Line) : Type 0 where
  talk : List TalkItem
  taken : List (List ℕ)
  line : Line
  pages : Pages p.pages 0 talk taken End.Whole
  goes : console_talk no_fates talk w ≡ Some line
  dumps : line.dumps ≡ w.dumps
  harmed : line.harmed ≡ 0
  unseen : line.unseen ≡ None

has_pages : (h : List (List ℕ)) → AreRecords h → (d : Store) (p : Plan) (n : ℕ) (w : Line) → n ≡ p.pages → w.console ≡ at_state h d [] (if n == 0 then Command [] else Dump p 0) 0 → w.flight ≡ [] → w.begun ≡ [] → w.harmed ≡ 0 → w.unseen ≡ None → HasPages h p w
has_pages h records d p zero w is console flight begun harmed unseen = record {
  talk = [];
  taken = [];
  line = w;
  pages = subst (λ (n : ℕ). Pages n 0 [] [] End.Whole) is (refl, refl, refl);
  goes = refl;
  dumps = refl;
  harmed = harmed;
  unseen = unseen;
}
has_pages h records d p (suc n) w is console flight begun harmed unseen =
    let some : (suc n == 0) ≡ false = grind (arith, nat_tests) in
    let q = all_paged h records d p (suc n) 0 w (omega (arith, is)) (omega (arith, is)) (record { console = console ∙ ap (λ t. at_state h d [] (if t then Command [] else Dump p 0) 0) some; flight = flight; begun = begun; harmed = harmed; unseen = unseen }) in
    record {
      talk = q.talk;
      taken = q.taken;
      line = q.line;
      pages = subst (λ (k : ℕ). Pages k 0 q.talk q.taken End.Whole) is q.pages;
      goes = q.goes;
      dumps = q.ended.dumps;
      harmed = q.ended.harmed;
      unseen = q.ended.unseen;
    }

-- a whole attempt, and the dump that began in it
record Dumped (after : Option CivilMinute) (h : List (List ℕ)) (w : Line) : Type 0 where
  whole : WholeAttempt after w
  dumps : whole.line.dumps ≡ begun_after after h ∷ []

whole_over : (h : List (List ℕ)) → AreRecords h → (d : Store) (after : Option CivilMinute) → Dumped after h (fresh_line (at_state h d [] (Command []) 0))
unfolding awaiting
whole_over h records d after =
    let frame = stamp_frame_of after in
    let p = plan_after h frame in
    let hd = 6 ∷ plan_header p in
    let x = sends_message no_fates frame (awaiting h d) in
    let sent = header_sent h d after in
    let q = has_pages h records d p p.pages (flies x []) refl sent.console refl sent.begun sent.harmed sent.unseen in
    let whole : WholeAttempt after (fresh_line (at_state h d [] (Command []) 0)) = record {
      talk = six ++ (wake ++ (message dmpaft ++ (Heard 6 ∷ [] ++ (message (stamp_frame_of after) ++ (hearing_of (6 ∷ plan_header (plan_after h (stamp_frame_of after))) ++ q.talk)))));
      place = p.place;
      taken = q.taken;
      line = q.line;
      attempt = attempt_of frame hd q.talk p.pages p.place q.taken (omega (arith, header_length p)) (header_made p (plan_small h frame)) q.pages;
      goes = comes_to h d (message frame ++ (hearing_of hd ++ q.talk)) ∙ frame_goes no_fates frame (hearing_of hd ++ q.talk) (awaiting h d) (frame_long after) ∙ hears_all no_fates hd q.talk x sent.flight ∙ q.goes;
      harmed = q.harmed;
      unseen = q.unseen;
    } in
    record { whole = whole; dumps = q.dumps ∙ sent.dumps }

-- so it is for each console that is awake
same_console : (c : Console) → c.state ≡ Command [] → c.held ≡ [] → c.idle ≡ 0 → at_state c.history c.store [] (Command []) 0 ≡ c
same_console c state held idle =
    sym (ap (λ hs. at_state c.history c.store hs c.state c.idle) held ∙ ap (λ s. at_state c.history c.store [] s c.idle) state ∙ ap (λ i. at_state c.history c.store [] (Command []) i) idle)

pub whole_attempt : (c : Console) → c.state ≡ Command [] → c.held ≡ [] → c.idle ≡ 0 → AreRecords c.history → (after : Option CivilMinute) → WholeAttempt after (fresh_line c)
whole_attempt c state held idle records after =
    subst (λ (k : Console). WholeAttempt after (fresh_line k)) (same_console c state held idle) (whole_over c.history records c.store after).whole

first_history : List Begun → List (List ℕ)
first_history [] = []
first_history (b ∷ bs) = b.history

-- over the records of more minutes than an archive holds the last of them are taken
pub overflow_taken : (count : ℕ) → ring_size < count → count ≤ 40320 → (eeprom : List ℕ) (packet : LoopPacket) → (a : WholeAttempt None (filled_line count eeprom packet))
    × (records_in (batches None a.place a.taken) ≡ minute_records (count - ring_size) ring_size)
unfolding first_history
overflow_taken count many small eeprom packet =
    let h = minute_records 0 count in
    let w = filled_line count eeprom packet in
    let z = whole_over h (are_records count 0 (omega (arith, small))) (fresh_console eeprom packet).store None in
    let a = z.whole in
    let goes : ConsoleTalk no_fates a.talk (filled_line count eeprom packet) a.line = ap (λ c. console_talk no_fates a.talk (fresh_line c)) (filled_console count eeprom packet small) ∙ a.goes in
    let gives : AttemptGives None w (batches None a.place a.taken) End.Whole a.line =
    (attempt_gives no_fates sound_fates None tt a.talk a.place a.taken End.Whole w a.line (filled_sound count eeprom packet small) (filled_calm count eeprom packet small) a.attempt goes a.unseen).1 in
    let all : records_in (batches None a.place a.taken) ≡ newer_held None h = elim gives [
      | inl x ↦ absurd (x.2 refl)
      | inr x ↦ (let same : x.0 ≡ h = ap first_history (sym x.1 ∙ z.dumps) in x.3 refl ∙ ap (newer_held None) same)
    ] in
    let whole : WholeAttempt None (filled_line count eeprom packet) = record { talk = a.talk; place = a.place; taken = a.taken; line = a.line; attempt = a.attempt; goes = goes; harmed = a.harmed; unseen = a.unseen } in
    (whole, all ∙ minutes_kept count many)
