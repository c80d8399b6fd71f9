-- An attempt in which nothing is harmed is whole, unless the keeper refuses.
use Rattle.std.proofs.Common.{◌≡◌, ℕ, zero, suc, ◌+◌, ◌-◌, ◌<◌, ◌≤◌, ◌==◌, ◌%◌, if◌then◌else◌, Bool, true, false, ◌&&◌, ◌⊎◌, inl, inr, List, [], ◌∷◌, ◌++◌, length, Some, refl, sym, ◌∙◌, ap, subst, arith, append_assoc, append-nil}
use Rattle.std.specs.Prelude.{nat_lt}
use Rattle.std.proofs.lemmas.Option.{same_Some}
use Rattle.console_model.specs.Console.{Store, ConsoleState, Console, most_held}
use Rattle.console_ring.specs.declared.plan.Plan.{Plan}
use Rattle.dmpaft_driver.specs.Attempt.{AskFloods, TakesPage, Misses, Pages, Heads, Requests, Attempt, End, esc}
use Rattle.dmpaft_pump.specs.Command.{dmpaft}
use Rattle.crc_ccitt.specs.Check.{is_good}
use Rattle.console_model.specs.Spelling.{plan_after, plan_header}
use Rattle.console_ring.specs.Picture.{page_of}
use Rattle.console_model.specs.declared.frame.FrameKind.TheVariants.{ForDump}
use Rattle.console_model.specs.Console.ConsoleState.{Asleep, Command, Overlong, Frame, Dump, Looping}
use Rattle.console_model.specs.Tick.{tick, ticked_in, idle_after}
use Rattle.schedule_file.specs.Fates.{FatesByNumber}
use Rattle.station_sim.specs.Delivery.{delivered}
use Rattle.station_sim.specs.Line.{Line, flies, happens, reply_joins, hears, message_counted, sends_message, due_all}
use Rattle.serial_link.specs.declared.talk.TalkItem.{TalkItem}
use Rattle.station_sim.specs.Talk.{line_step, console_talk}
use Rattle.station_sim.specs.Calm.{FewWaits, IsCalm, mids_count}
use Rattle.serial_link.specs.declared.talk.TalkItem.TheVariants.{Said, Heard, Quiet}
use Rattle.wake_retry.specs.Parts.{heard, Awaits, answer_waits, settled_waits}
use Rattle.line_laws.specs.Host.{OnlyListens, Near}
use Rattle.console_model.specs.Valid.{IsTidy}
use Rattle.serial_link.specs.Talk.{message}
use Rattle.vantage_frames.specs.Header.{CanBegin, CannotBegin}
use Rattle.vantage_frames.specs.Slots.{page_size}
use Rattle.dmpaft_pump.specs.Header.{IsHeader, IsNoHeader}
use Rattle.dmpaft_pump.specs.declared.outcome.Trouble.{Trouble}
use Rattle.dmpaft_pump.specs.declared.outcome.Trouble.TheVariants.{Asleep as Slept, NoAck, ShortHeader, NoHeaderAck, HeaderCheck, HeaderNumbers, PageLost, PageAhead}
use Rattle.station_sim.specs.Sound.{AreRecords, IsSound, AreSound}
use Rattle.station_sim.proofs.SoundLines.{records_front, sound_talk, console_joins}
use Rattle.console_model.specs.Laws.{records_of}
use Rattle.line_laws.proofs.Headers.{IsSmall, plan_small, header_length, header_pages, header_made, page_is_good}
use Rattle.dmpaft_pump.specs.Page.{is_page_for, has_sequence}
use Rattle.dmpaft_pump.specs.Pump.{most_askings}
use Rattle.station_sim.specs.Joining.{and_then_some, talks_part}
use Rattle.line_laws.proofs.Flight.{flight_law}
use Rattle.line_laws.proofs.HushedConsole.{listens, bytes_of, EndsInByte, closed_empty}
use Rattle.line_laws.proofs.Asked.{at_state, near_due_all}
use Rattle.line_laws.proofs.Delivery.{page_length}
use Rattle.line_laws.proofs.SettledConsole.{Still-listens}
use Rattle.line_laws.proofs.FrameStage.{hearing_is, waiting_is, quiets}
use Rattle.line_laws.proofs.Floods.{no_flood}
use Rattle.line_laws.proofs.WakeLaws.{wake_no_flood}
use Rattle.line_laws.proofs.Pages.{awaits_listens}
use Rattle.line_laws.proofs.HeaderLaws.{heading, good_frame, whole_frame, frame_goes, near_start}
use Rattle.line_laws.proofs.Clean.{sends_harmed, goes_harmed, sent_whole, steady_full, waits_of, awaits_full}
use Rattle.line_laws.proofs.Attempts.{listens_begun, settled_line}
use Rattle.line_laws.specs.Unharmed.{Awake, Waiting, InDump}
use Rattle.line_laws.proofs.Unharmed.{wake_law, call_law, Held, due_dump, listens_messages, replies_whole, whole_of, page_law}

pub page_for : (k : ℕ) (bytes : List ℕ) → length bytes ≡ page_size → is_good bytes ≡ true → has_sequence (k % 256) bytes ≡ true → is_page_for k bytes ≡ true
page_for k bytes l g s = go (length bytes == page_size) (is_good bytes) (has_sequence (k % 256) bytes) (grind (arith, l)) g s
  where
    go : (a b c : Bool) → a ≡ true → b ≡ true → c ≡ true → (a && b && c) ≡ true
    go true true true x y z = refl
    go false b c x y z = absurd cc
    go true false c x y z = absurd cc
    go true true false x y z = absurd cc

pub page_has : (h : List (List ℕ)) (p : Plan) (k : ℕ) → has_sequence (k % 256) (page_of h p k) ≡ true
unfolding page_of
page_has h p k = grind arith

no_header : (bytes : List ℕ) (n k : ℕ) (trouble : Trouble) → IsHeader bytes n k → IsNoHeader bytes trouble → ⊥
no_header bytes n k (ShortHeader count) h x = omega (arith, h.whole, x.0, x.1)
no_header bytes n k (NoHeaderAck first) h x = x.2 (sym x.1 ∙ h.acked)
no_header bytes n k HeaderCheck h x = x.2 h.numbers.good
no_header bytes n k (HeaderNumbers pages place) h x = go h.possible x.3
  where
    same : n ≡ pages
    same = sym h.numbers.pages ∙ x.2.pages

    at : k ≡ place
    at = sym h.numbers.place ∙ x.2.place

    go : CanBegin n k → CannotBegin pages place → ⊥
    go c (inl more) = omega (arith, c.0, more, same)
    go (few, inl none) (inr (some, far)) = some (sym same ∙ none)
    go (few, inr near) (inr (some, far)) = omega (arith, near, far, at)
no_header bytes n k Slept h x = x
no_header bytes n k (NoAck first) h x = x
no_header bytes n k (PageLost page) h x = x
no_header bytes n k (PageAhead page sequence) h x = x

tidy_if : (t : Bool) (a b : Console) → IsTidy a.state a.held → IsTidy b.state b.held → (let c = (if t then a else b) in IsTidy c.state c.held)
tidy_if true a b x y = x
tidy_if false a b x y = y

tidy_tick : (s : ConsoleState) (three much fifth : Bool) (g : List (List ℕ)) (d : Store) (hs : List (List ℕ)) (i : ℕ) → IsTidy s hs → (let c = (ticked_in s three much fifth (at_state g d hs s i)).next in IsTidy c.state c.held)
tidy_tick Asleep three much fifth g d hs i t = t
tidy_tick (Command []) three true fifth g d hs i t = t
tidy_tick (Command []) three false fifth g d hs i t = t
tidy_tick (Command (b ∷ line)) true much fifth g d hs i t = t
tidy_tick (Command (b ∷ line)) false much fifth g d hs i t = t
tidy_tick Overlong true much fifth g d hs i t = t
tidy_tick Overlong false much fifth g d hs i t = t
tidy_tick (Frame kind got) true much fifth g d hs i t = t
tidy_tick (Frame kind got) false much fifth g d hs i t = t
tidy_tick (Dump p sent) three true fifth g d hs i t = refl
tidy_tick (Dump p sent) three false fifth g d hs i t = tt
tidy_tick (Looping n) three much true g d hs i t = tidy_if (nat_lt 1 n) (at_state g d hs (Looping (n - 1)) i) (at_state g d hs (Command []) 0) t t
tidy_tick (Looping n) three much false g d hs i t = t

listens_tidy : (f : FatesByNumber) (t : List TalkItem) (w v : Line) → OnlyListens t → IsTidy w.console.state w.console.held → console_talk f t w ≡ Some v → IsTidy v.console.state v.console.held
listens_tidy f [] w v s k e = subst (λ x. IsTidy x.console.state x.console.held) (same_Some w v e) k
listens_tidy f (Said b ends ∷ t) w v s k e = absurd s
listens_tidy f (Heard b ∷ t) w v s k e =
    let g = and_then_some (line_step f (Heard b) w) (console_talk f t) v e in
    let q = hearing_is w.flight b w g.0 refl g.1 in
    listens_tidy f t g.0 v s (subst (λ x. IsTidy x.console.state x.console.held) (sym q.2) k) g.2
listens_tidy f (Quiet ∷ t) w v s k e =
    let g = and_then_some (line_step f Quiet w) (console_talk f t) v e in
    let q = waiting_is w.flight f w g.0 refl g.1 in
    let c = w.console in
    let y : g.0.console ≡ (tick c).next = ap (λ x. x.console) q.2 ∙ console_joins (tick c).kind f (tick c) (flies w q.0) in
    listens_tidy f t g.0 v s (subst (λ x. IsTidy x.state x.held) (sym y) (tidy_tick c.state _ _ _ c.history c.store c.held (idle_after c.state c.idle) k)) g.2

module _ (frame : List ℕ) (good : is_good frame ≡ true) (f : FatesByNumber) (ok : AreSound f) where
  is_page : (g : List (List ℕ)) (p : Plan) (k : ℕ) (bytes : List ℕ) → AreRecords g → bytes ≡ page_of g p k → is_page_for k bytes ≡ true
  is_page g p k bytes records e = page_for k bytes (ap length e ∙ page_length g p k records) (ap is_good e ∙ page_is_good g p k) (ap (has_sequence (k % 256)) e ∙ page_has g p k)

  -- each page comes at its first asking
  takes_clean : (g : List (List ℕ)) (p : Plan) (left k : ℕ) (talk : List TalkItem) (bytes : List ℕ) (w v : Line) → k < p.pages → TakesPage left k 6 talk bytes → InDump f g p k w → console_talk f talk w ≡ Some v → v.harmed ≡ w.harmed → InDump f g p (k + 1) v
  takes_clean g p zero k talk bytes w v n x a e h = absurd x
  takes_clean g p (suc left) k talk bytes w v n (t, rest, split, awaits, inl (page, none, is)) a e h =
      let q : Said 6 true ∷ t ≡ talk = rw (split, none) (sym (append-nil (Said 6 true ∷ t))) in
      (page_law f ok.mild g p k t w v n a awaits (ap (λ x. console_talk f x w) q ∙ e) h).1
  takes_clean g p (suc left) k talk bytes w v n (t, rest, split, awaits, inr (page, ahead, again)) a e h =
      let m = talks_part f (Said 6 true ∷ t) rest w v (ap (λ x. console_talk f x w) (sym split) ∙ e) in
      let q = page_law f ok.mild g p k t w m.0 n a awaits m.1 (omega (arith, h, goes_harmed f (Said 6 true ∷ t) w m.0 m.1, goes_harmed f rest m.0 v m.2)) in
      absurd (let z : true ≡ false = sym (is_page g p k (heard t) a.records q.0) ∙ page in cc)

  misses_clean : (g : List (List ℕ)) (p : Plan) (left k : ℕ) (talk : List TalkItem) (trouble : Trouble) (w v : Line) → k < p.pages → Misses left k 6 talk trouble → InDump f g p k w → console_talk f (talk ++ esc) w ≡ Some v → v.harmed ≡ w.harmed → ⊥
  misses_clean g p zero k talk trouble w v n x a e h = x
  misses_clean g p (suc left) k talk trouble w v n (t, rest, split, awaits, page, more) a e h =
      let m = talks_part f (Said 6 true ∷ t) (rest ++ esc) w v (ap (λ x. console_talk f x w) (let z : (Said 6 true ∷ t) ++ (rest ++ esc) ≡ talk ++ esc = rw split (sym (append_assoc (Said 6 true ∷ t) rest esc)) in z) ∙ e) in
      let q = page_law f ok.mild g p k t w m.0 n a awaits m.1 (omega (arith, h, goes_harmed f (Said 6 true ∷ t) w m.0 m.1, goes_harmed f (rest ++ esc) m.0 v m.2)) in
      let z : true ≡ false = sym (is_page g p k (heard t) a.records q.0) ∙ page in cc

  flood_clean : (g : List (List ℕ)) (p : Plan) (left k : ℕ) (talk : List TalkItem) (w v : Line) → k < p.pages → AskFloods left k 6 talk → InDump f g p k w → console_talk f talk w ≡ Some v → v.harmed ≡ w.harmed → ⊥
  flood_clean g p zero k talk w v n x a e h = x
  flood_clean g p (suc left) k talk w v n (t, rest, split, awaits, page, ahead, more) a e h =
      let m = talks_part f (Said 6 true ∷ t) rest w v (ap (λ x. console_talk f x w) (sym split) ∙ e) in
      let q = page_law f ok.mild g p k t w m.0 n a awaits m.1 (omega (arith, h, goes_harmed f (Said 6 true ∷ t) w m.0 m.1, goes_harmed f rest m.0 v m.2)) in
      let z : true ≡ false = sym (is_page g p k (heard t) a.records q.0) ∙ page in cc

  pages_clean : (g : List (List ℕ)) (p : Plan) (left k : ℕ) (talk : List TalkItem) (taken : List (List ℕ)) (end : End) (w v : Line) → left + k ≡ p.pages → Pages left k talk taken end → ((0 < left) → InDump f g p k w) → console_talk f talk w ≡ Some v → v.harmed ≡ w.harmed →
      (end ≡ End.Whole) ⊎ (end ≡ End.Refused)
  pages_clean g p zero k talk taken end w v n (split, none, is) a e h = inl is
  pages_clean g p (suc left) k talk taken end w v n (inl (t, rest, bytes, more, split, takes, is, inl again)) a e h =
      let m = talks_part f t rest w v (ap (λ x. console_talk f x w) (sym split) ∙ e) in
      let h1 = goes_harmed f t w m.0 m.1 in
      let h2 = goes_harmed f rest m.0 v m.2 in
      pages_clean g p left (k + 1) rest more end m.0 v (omega arith) again (λ z. takes_clean g p most_askings k t bytes w m.0 (omega arith) takes (a (omega arith)) m.1 (omega (arith, h, h1, h2))) m.2 (omega (arith, h, h1, h2))
  pages_clean g p (suc left) k talk taken end w v n (inl (t, rest, bytes, more, split, takes, is, inr (none, no_more, refused))) a e h = inr refused
  pages_clean g p (suc left) k talk taken end w v n (inr (inr (floods, none, is))) a e h = absurd (flood_clean g p most_askings k talk w v (omega arith) floods (a (omega arith)) e h)
  pages_clean g p (suc left) k talk taken end w v n (inr (inl (t, trouble, split, misses, none, failed))) a e h =
      absurd (misses_clean g p most_askings k t trouble w v (omega arith) misses (a (omega arith)) (ap (λ x. console_talk f x w) (sym split) ∙ e) h)

  -- the header comes, and the console is in the dump of its plan
  start_dump : (g : List (List ℕ)) (d : Store) (p : Plan) (t : Bool) (rs : List (List ℕ)) (c : Console) → c ≡ due_all rs (at_state g d [] (if t then Command [] else Dump p 0) 0) → length rs ≤ most_held → t ≡ false → Held p 0 g d 0 (0 + length rs) c
  start_dump g d p true rs c e l z = absurd cc
  start_dump g d p false rs c e l z = subst (Held p 0 g d 0 (0 + length rs)) (sym e) (due_dump rs p 0 g d 0 [] (omega arith))

  pub header_law : (t : List TalkItem) (w u v : Line) → length frame ≡ 6 → (a : Waiting w u) → AreRecords a.history → Awaits answer_waits 7 t → console_talk f (message frame ++ t) u ≡ Some v → v.harmed ≡ u.harmed →
      (heard t ≡ 6 ∷ plan_header (plan_after a.history frame)) × ((0 < (plan_after a.history frame).pages) → InDump f a.history (plan_after a.history frame) 0 v)
  header_law t w u v six a records awaits e h =
      let g = a.history in
      let p = plan_after a.history frame in
      let m = u.begun ++ frame in
      let is : m ≡ frame = ap (λ x. x ++ frame) a.begun in
      let x = sends_message f m u in
      let e' : console_talk f t x ≡ Some v = sym (frame_goes f frame t u six) ∙ e in
      let z = sent_whole f m u (omega (arith, h, sends_harmed f m u, goes_harmed f t x v e')) in
      let got = delivered (f.host (u.messages + 1)) m in
      let rs = f.mids (u.messages + 1) in
      let o = heading frame (at_state a.history a.store [] (Frame ForDump []) 0) in
      let y : hears f got (message_counted f m u) ≡ reply_joins f o (message_counted f m u) = ap (λ y. hears f y (message_counted f m u)) (z.0 ∙ is) ∙ ap (λ c. hears f frame (record (message_counted f m u) { console = c })) a.console
      ∙ (whole_frame a.history a.store [] f frame a.idle (message_counted f m u) six).0 ∙ ap (λ o. happens f o (message_counted f m u)) (good_frame frame (at_state a.history a.store [] (Frame ForDump []) 0) good) in
      let q = replies_whole f ok.mild o (message_counted f m u) a.flight (ap (λ x. x.harmed) (sym y) ∙ z.1) in
      let fl : (reply_joins f o (message_counted f m u)).flight ≡ x.flight = ap (λ x. x.flight) (sym y) in
      let few' : FewWaits 2 2 x.flight = subst (FewWaits 2 2) fl q.few in
      let bytes : bytes_of x.flight ≡ 6 ∷ plan_header p = ap bytes_of (sym fl) ∙ q.bytes in
      let size : length (bytes_of x.flight) ≡ 7 = omega (arith, ap length bytes, header_length p) in
      let full = awaits_full f t 7 x v awaits few' (omega (arith, size)) e' in
      let console : x.console ≡ due_all rs (at_state g a.store [] (if p.pages == 0 then Command [] else Dump p 0) 0) = ap (λ x. due_all rs x.console) y in
      let near : Near g p 0 0 x.console = subst (Near g p 0 0) (sym console) (near_due_all g p 0 0 rs (at_state g a.store [] (if p.pages == 0 then Command [] else Dump p 0) 0) (near_start g p a.store [] (p.pages == 0) records)) in
      let l = listens g p 0 0 f t x v (awaits_listens 7 t awaits) near e' in
      let b = whole_of (6 ∷ plan_header p) (heard t) (bytes_of v.flight) (sym bytes ∙ l.bytes) (omega (arith, full.1, header_length p)) in
      let n : v.messages ≡ u.messages + 1 = listens_messages f t x v (awaits_listens 7 t awaits) e' ∙ ap (λ x. x.messages) y in (
        b.0,
        λ some.
            let c = start_dump g a.store p (p.pages == 0) rs x.console console (omega (arith, ok.few u.messages 1)) (grind (arith, some)) in
            let s = steady_full g a.store c.0 (Dump p 0) tt f t 0 0 x v full.0 c.2 (omega (arith, subst (λ l. waits_of l ≤ 2) fl q.waits)) (omega (arith, size, full.1)) e' in
            record {
              store = a.store;
              held = c.0;
              idle = 0 + quiets t;
              console = s.console;
              room = λ m. subst (λ k. length c.0 + mids_count f k m ≤ most_held) (sym n) (omega (arith, c.1, ok.few u.messages (suc m)));
              flight = closed_empty v.flight (l.closed (subst EndsInByte fl q.closed)) b.1;
              begun = l.begun ∙ ap (λ x. x.begun) y;
              records = records;
            },
      )

  is_header : (t : List TalkItem) (p : Plan) → IsSmall p → heard t ≡ 6 ∷ plan_header p → IsHeader (heard t) p.pages p.place
  is_header t p small e = subst (λ b. IsHeader b p.pages p.place) (sym e) (header_made p small)

  heads_clean : (talk : List TalkItem) (place : ℕ) (taken : List (List ℕ)) (end : End) (w u v : Line) → length frame ≡ 6 → IsSound u → Waiting w u → Heads frame talk place taken end → console_talk f talk u ≡ Some v → v.harmed ≡ u.harmed → (end ≡ End.Whole) ⊎ (end ≡ End.Refused)
  heads_clean talk place taken end w u v six sound a (t, rest, split, awaits, next) e h =
      let m = talks_part f (message frame ++ t) rest u v (ap (λ x. console_talk f x u) (append_assoc (message frame) t rest ∙ sym split) ∙ e) in
      let h1 = goes_harmed f (message frame ++ t) u m.0 m.1 in
      let h2 = goes_harmed f rest m.0 v m.2 in
      let p = plan_after a.history frame in
      let records : AreRecords a.history = records_front a.history [] (subst (λ (c : Console). AreRecords (records_of c)) a.console sound.records) in
      let small = plan_small a.history frame in
      let q = header_law t w u m.0 six a records awaits m.1 (omega (arith, h, h1, h2)) in
      elim next [
        | inl b ↦ (let n : b.0 ≡ p.pages = (header_pages p (heard t) b.0 place small q.0 b.1).0 in
            pages_clean a.history p b.0 0 rest taken end m.0 v (omega (arith, n)) b.2 (λ z. q.1 (omega (arith, n))) m.2 (omega (arith, h, h1, h2)))
        | inr b ↦ absurd (no_header (heard t) p.pages p.place b.0 (is_header t p small q.0) b.1)
      ]

  asks_clean : (n : ℕ) (talk : List TalkItem) (place : ℕ) (taken : List (List ℕ)) (end : End) (w u v : Line) → length frame ≡ 6 → IsSound u → Awake n w u → Requests frame talk place taken end → console_talk f talk u ≡ Some v → v.harmed ≡ u.harmed → (end ≡ End.Whole) ⊎ (end ≡ End.Refused)
  asks_clean n talk place taken end w u v six sound a (t, rest, split, awaits, next) e h =
      let c = message dmpaft in
      let m = talks_part f (c ++ t) rest u v (ap (λ x. console_talk f x u) (append_assoc c t rest ∙ sym split) ∙ e) in
      let h1 = goes_harmed f (c ++ t) u m.0 m.1 in
      let h2 = goes_harmed f rest m.0 v m.2 in
      let q = call_law f ok.mild n t w u m.0 a awaits m.1 (omega (arith, h, h1, h2)) in
      elim next [
        | inl b ↦ heads_clean rest place taken end w m.0 v six (sound_talk f ok (c ++ t) u m.0 m.1 sound) q.0 b.1 m.2 (omega (arith, h, h1, h2))
        | inr b ↦ absurd (b.0 q.1)
      ]

  pub clean_law : (talk : List TalkItem) (place : ℕ) (taken : List (List ℕ)) (end : End) (w v : Line) → length frame ≡ 6 → IsSound w → IsCalm w → Attempt frame talk place taken end → console_talk f talk w ≡ Some v → v.harmed ≡ w.harmed →
      (end ≡ End.Whole) ⊎ (end ≡ End.Refused)
  clean_law talk place taken end w v six sound calm (inr (inl (flood, none, is))) e h = absurd (no_flood f 6 talk w v calm flood e)
  clean_law talk place taken end w v six sound calm (inr (inr (s, t, split, still, floods, none, is))) e h =
      let m = talks_part f s t w v (ap (λ x. console_talk f x w) (sym split) ∙ e) in
      absurd (wake_no_flood f ok 3 t m.0 v (settled_line f ok s w m.0 sound calm still m.1).0 floods m.2)
  clean_law talk place taken end w v six sound calm (inl (s, t, rest, awake, split, still, wakes, next)) e h =
      let m = talks_part f s (t ++ rest) w v (ap (λ x. console_talk f x w) (sym split) ∙ e) in
      let m2 = talks_part f t rest m.0 v m.2 in
      let h1 = goes_harmed f s w m.0 m.1 in
      let h2 = goes_harmed f t m.0 m2.0 m2.1 in
      let h3 = goes_harmed f rest m2.0 v m2.2 in
      let settled = flight_law f ok.mild s w m.0 calm still m.1 in
      let b = listens_begun f s w m.0 (Still-listens settled_waits s still) m.1 in
      let y = listens_tidy f s w m.0 (Still-listens settled_waits s still) sound.valid.tidy m.1 in
      let q = wake_law f ok.mild t awake m.0 m2.0 settled.0 (b.0 ∙ calm.begun) settled.1 y wakes m2.1 (omega (arith, h, h1, h2, h3)) in
      elim next [
        | inl a ↦ asks_clean 5 rest place taken end m.0 m2.0 v six (sound_talk f ok t m.0 m2.0 m2.1 (sound_talk f ok s w m.0 m.1 sound)) q.1 a.1 m2.2 (omega (arith, h, h1, h2, h3))
        | inr a ↦ absurd (let z : true ≡ false = sym q.2 ∙ a.0 in cc)
      ]
