-- Where a console stands while pages are asked for.
use Rattle.std.proofs.Common.{◌≡◌, ℕ, ◌+◌, ◌≤◌, ◌%◌, true, ◌⊎◌, inl, inr, List, [], ◌∷◌, ◌++◌, length, Some, None, refl, sym, ◌∙◌, ap, subst, arith, append-nil, length-append, ◌-◌}
use Rattle.console_ring.specs.declared.plan.Plan.{Plan}
use Rattle.console_model.specs.Console.{ConsoleState, Console, Outcome}
use Rattle.console_ring.specs.Picture.{page_of}
use Rattle.crc_ccitt.specs.Check.{is_good}
use Rattle.vantage_frames.specs.Slots.{page_size}
use Rattle.console_model.specs.Console.ConsoleState.{Asleep, Command, Overlong, Frame, Dump, Looping}
use Rattle.console_model.specs.declared.reply.ReplyKind.TheVariants.{Wake, Page}
use Rattle.console_model.specs.Hear.{hear}
use Rattle.station_sim.specs.declared.part.Part.{Part}
use Rattle.schedule_file.specs.Fates.{FatesByNumber}
use Rattle.station_sim.specs.Delivery.{delivered, late}
use Rattle.station_sim.specs.declared.part.Part.TheVariants.{Byte, Wait}
use Rattle.station_sim.specs.Line.{Line, happens, joins, reply_joins, hears, message_counted, waited, says_byte, from_console}
use Rattle.station_sim.specs.Calm.{pending, FewWaits, ConsoleRests, AreMild, IsCalm, IsBrief, count_bytes}
use Rattle.serial_link.specs.declared.talk.TalkItem.{TalkItem}
use Rattle.station_sim.specs.Talk.{console_talk}
use Rattle.serial_link.specs.declared.talk.TalkItem.TheVariants.{Said}
use Rattle.wake_retry.specs.Parts.{heard}
use Rattle.dmpaft_pump.specs.Pump.{most_askings}
use Rattle.station_sim.proofs.CalmLines.{closed_late, few_late}
use Rattle.line_laws.specs.Host.{OnlyListens, Near, NearAt, HostIsReady, HasSequence}
use Rattle.line_laws.proofs.HushedConsole.{bytes_of, EndsInByte, closed_empty, happens-nothing, listens}
use Rattle.line_laws.proofs.Asked.{wider, Answer, Hearing, hears_one, near_due_all, rests_due_all}
use Rattle.line_laws.proofs.Asked.Answer.{a_page, a_wake, nothing}
use Rattle.line_laws.proofs.Delivery.{delivered_length, bytes_of_late, unharmed_page, page_sequence, near_same}

-- what is in flight after a byte was said: few bytes, or page m, unless unseen
abbrev pub InFlight : List (List ℕ) → Plan → ℕ → ℕ → Line → Type 0
InFlight h p low high v = (length (bytes_of v.flight) ≤ 2) ⊎
    ((m : ℕ) × (low ≤ m + 1) × (m + 1 ≤ high + 1) × Near h p (m + 1) (m + 1) v.console × ConsoleRests v.console.state × (length (bytes_of v.flight) ≤ page_size)
    × (v.unseen ≡ None → length (bytes_of v.flight) ≡ page_size → is_good (bytes_of v.flight) ≡ true → bytes_of v.flight ≡ page_of h p m))

pub record After (h : List (List ℕ)) (p : Plan) (low high : ℕ) (w v : Line) : Type 0 where
  pub near : Near h p low (high + 1) v.console
  pub begun : v.begun ≡ w.begun
  pub dumps : v.dumps ≡ w.dumps
  pub few : FewWaits 2 2 v.flight
  pub closed : EndsInByte v.flight
  pub answer : InFlight h p low high v

pub happens-page : (f : FatesByNumber) (o : Outcome) (w : Line) → o.kind ≡ Page → happens f o w ≡ reply_joins f o w
happens-page f o w e = ap (λ k. joins k f o w) e

pub happens-wake : (f : FatesByNumber) (o : Outcome) (w : Line) → o.kind ≡ Wake → happens f o w ≡ reply_joins f o w
happens-wake f o w e = ap (λ k. joins k f o w) e

-- a reply to an empty flight
pub flight_of : (f : FatesByNumber) (o : Outcome) (w : Line) → w.flight ≡ [] → (reply_joins f o w).flight ≡ late (f.late (w.replies + 1)).waits (f.late (w.replies + 1)).place (delivered (f.reply (w.replies + 1)) o.bytes)
flight_of f o w e = ap (λ l. l ++ late (f.late (w.replies + 1)).waits (f.late (w.replies + 1)).place (delivered (f.reply (w.replies + 1)) o.bytes)) e

module _ (h : List (List ℕ)) (p : Plan) (low high : ℕ) (f : FatesByNumber) (mild : AreMild f) where
  replied_after : (o : Outcome) (w : Line) → w.flight ≡ [] → Hearing h p low high o → InFlight h p low high (reply_joins f o w) → After h p low high w (reply_joins f o w)
  replied_after o w e q a = record {
    near = q.near;
    begun = refl;
    dumps = rw (q.begins, append-nil) refl;
    few = rw (flight_of f o w e) (few_late (f.late (w.replies + 1)).waits (f.late (w.replies + 1)).place (delivered (f.reply (w.replies + 1)) o.bytes) (mild (w.replies + 1)));
    closed = rw (flight_of f o w e) (closed_late (f.late (w.replies + 1)).waits (f.late (w.replies + 1)).place (delivered (f.reply (w.replies + 1)) o.bytes));
    answer = a;
  }

  bytes_replied : (o : Outcome) (w : Line) → w.flight ≡ [] → bytes_of (reply_joins f o w).flight ≡ delivered (f.reply (w.replies + 1)) o.bytes
  bytes_replied o w e = ap bytes_of (flight_of f o w e) ∙ bytes_of_late (f.late (w.replies + 1)).waits (f.late (w.replies + 1)).place (delivered (f.reply (w.replies + 1)) o.bytes)

  answered : (o : Outcome) (w : Line) → w.flight ≡ [] → Hearing h p low high o → Answer h p low high o → After h p low high w (happens f o w)
  answered o w e q (nothing k) = rw (happens-nothing f o w k) (record {
    near = q.near;
    begun = refl;
    dumps = refl;
    few = rw e tt;
    closed = rw e tt;
    answer = inl (rw e (omega arith));
  })
  answered o w e q (a_wake k n) = rw (happens-wake f o w k) (replied_after o w e q
      (inl (rw (bytes_replied o w e) (omega (arith, delivered_length (f.reply (w.replies + 1)) o.bytes)))))
  answered o w e q (a_page m k b long lo hi z r at) = rw (happens-page f o w k) (replied_after o w e q
      (inr (
        m,
        lo,
        hi,
        z,
        r,
        rw (bytes_replied o w e) (omega (arith, delivered_length (f.reply (w.replies + 1)) o.bytes, long)),
        (λ u l g. bytes_replied o w e ∙ unharmed_page w.unseen (from_console (w.replies + 1)) o.kind o.bytes _ k long
            (ap length (sym (bytes_replied o w e)) ∙ l) (ap is_good (sym (bytes_replied o w e)) ∙ g) u ∙ b),
      )))

  -- at most one byte is heard
  after_hears : (got : List ℕ) (w : Line) → length got ≤ 1 → w.flight ≡ [] → Near h p low high w.console → ConsoleRests w.console.state → After h p low high w (hears f got w)
  after_hears [] w n e near r = record { near = wider h p low high w.console near; begun = refl; dumps = refl; few = rw e tt; closed = rw e tt; answer = inl (rw e (omega arith)) }
  after_hears (x ∷ []) w n e near r = let q = hears_one h p low high w.console x near r in answered (hear w.console x) w e q q.answer
  after_hears (x ∷ y ∷ got) w n e near r = absurd (omega arith)

  answer_mids : (rs : List (List ℕ)) (v : Line) → InFlight h p low high v → InFlight h p low high (waited rs v)
  answer_mids rs v (inl n) = inl n
  answer_mids rs v (inr (m, lo, hi, z, r, n, g)) = inr (m, lo, hi, near_due_all h p (m + 1) (m + 1) rs v.console z, rests_due_all rs v.console r, n, g)

  after_mids : (rs : List (List ℕ)) (u v : Line) → After h p low high u v → After h p low high u (waited rs v)
  after_mids rs u v a = record {
    near = near_due_all h p low (high + 1) rs v.console a.near;
    begun = a.begun;
    dumps = a.dumps;
    few = a.few;
    closed = a.closed;
    answer = answer_mids rs v a.answer;
  }

  pub said : (b : ℕ) (w : Line) → w.flight ≡ [] → w.begun ≡ [] → Near h p low high w.console → ConsoleRests w.console.state → After h p low high (message_counted f (w.begun ++ b ∷ []) w) (says_byte f b true w)
  said b w e g n r = after_mids (f.mids (w.messages + 1)) (message_counted f (w.begun ++ b ∷ []) w) _
      (after_hears (delivered (f.host (w.messages + 1)) (w.begun ++ b ∷ [])) (message_counted f (w.begun ++ b ∷ []) w)
      (omega (arith, delivered_length (f.host (w.messages + 1)) (w.begun ++ b ∷ []), ap (λ x. length (x ++ b ∷ [])) g)) e n r)

pub pending_at_most : (s : ConsoleState) → pending s ≤ 1
pending_at_most Asleep = omega arith
pending_at_most (Command line) = omega arith
pending_at_most Overlong = omega arith
pending_at_most (Frame kind got) = omega arith
pending_at_most (Dump p sent) = omega arith
pending_at_most (Looping n) = omega arith

pub count_is : (l : List Part) → count_bytes l ≡ length (bytes_of l)
count_is [] = refl
count_is (Byte b ∷ l) = omega (arith, count_is l)
count_is (Wait ∷ l) = count_is l

pub near_brief : (h : List (List ℕ)) (p : Plan) (low high : ℕ) (s : ConsoleState) (i : ℕ) (g : List (List ℕ)) → NearAt h p low high s i g → IsBrief s i
near_brief h p low high Asleep i g n = n
near_brief h p low high (Command []) i g n = n
near_brief h p low high (Command (b ∷ l)) i g n = n
near_brief h p low high Overlong i g n = n
near_brief h p low high (Frame k l) i g n = absurd n
near_brief h p low high (Dump q s) i g n = tt
near_brief h p low high (Looping k) i g n = n

pub no_length : (bs : List ℕ) → length bs ≡ 0 → bs ≡ []
no_length [] e = refl
no_length (b ∷ bs) e = absurd (omega arith)

-- What an asking for page k leaves, j made before it, where t is what was heard.
pub record AskedFor (h : List (List ℕ)) (p : Plan) (k j : ℕ) (w : Line) (t : List TalkItem) (v : Line) : Type 0 where
  pub calm : IsCalm v
  pub near : Near h p k (k + j + 1) v.console
  pub begun : v.begun ≡ []
  pub dumps : v.dumps ≡ w.dumps
  pub closed : EndsInByte v.flight
  pub size : length (bytes_of v.flight) ≤ page_size
  -- a good page of the sequence of k is page k
  pub page : v.unseen ≡ None → length (heard t) ≡ page_size → is_good (heard t) ≡ true → HasSequence (k % 256) (heard t) → (heard t ≡ page_of h p k) × HostIsReady h p (k + 1) 0 v

near_same_place : (h : List (List ℕ)) (p : Plan) (m k : ℕ) → m + 1 ≡ k → (c : Console) → Near h p (m + 1) (m + 1) c → Near h p k (k + 0) c
near_same_place h p m k e c n = let z : k + 0 ≡ m + 1 = omega arith in let y : k ≡ m + 1 = sym e in rw (z, y) n

module _ (h : List (List ℕ)) (p : Plan) (k j : ℕ) (f : FatesByNumber) (mild : AreMild f) (t : List TalkItem) (quiet : OnlyListens t) where
  bytes_at_most : (u : Line) → InFlight h p k (k + j) u → length (bytes_of u.flight) ≤ page_size
  bytes_at_most u (inl n) = omega arith
  bytes_at_most u (inr (m, lo, hi, z, r, n, g)) = n

  took : (u v : Line) → j ≤ most_askings - 1 → InFlight h p k (k + j) u → EndsInByte u.flight → u.begun ≡ [] → console_talk f t u ≡ Some v → v.unseen ≡ None → bytes_of u.flight ≡ heard t ++ bytes_of v.flight →
      length (heard t) ≡ page_size → is_good (heard t) ≡ true → HasSequence (k % 256) (heard t) → (heard t ≡ page_of h p k) × HostIsReady h p (k + 1) 0 v
  took u v few (inl n) c b e un by l good s = absurd (omega (arith, ap length by, length-append (heard t) (bytes_of v.flight)))
  took u v few (inr (m, lo, hi, z, r, n, g)) c b e un by l good s =
      let none : bytes_of v.flight ≡ [] = no_length (bytes_of v.flight) (omega (arith, ap length by, length-append (heard t) (bytes_of v.flight))) in
      let same : bytes_of u.flight ≡ heard t = by ∙ ap (λ x. heard t ++ x) none ∙ append-nil (heard t) in
      let q = listens h p (m + 1) (m + 1) f t u v quiet z e in
      let page : heard t ≡ page_of h p m = sym same ∙ g (sym q.unseen ∙ un) (ap length same ∙ l) (ap is_good same ∙ good) in
      let is : m ≡ k = near_same k j m few lo hi (page_sequence h p m (k % 256) (subst (HasSequence (k % 256)) page s)) in (
        page ∙ ap (page_of h p) is,
        record {
          flight = closed_empty v.flight (q.closed c) none;
          begun = q.begun ∙ b;
          near = near_same_place h p m (k + 1) (omega arith) v.console q.near;
          rests = q.rests r;
        },
      )

  pub asking : (w v : Line) (b : ℕ) → HostIsReady h p k j w → j ≤ most_askings - 1 → console_talk f (Said b true ∷ t) w ≡ Some v → AskedFor h p k j w t v
  asking w v b ready few e =
      let a = said h p k (k + j) f mild b w ready.flight ready.begun ready.near ready.rests in
      let l = listens h p k (k + j + 1) f t (says_byte f b true w) v quiet a.near e in
      record {
        calm = record {
          begun = l.begun ∙ a.begun;
          brief = near_brief h p k (k + j + 1) v.console.state v.console.idle v.console.history l.near;
          closed = l.closed a.closed;
          bytes = omega (arith, pending_at_most v.console.state, count_is v.flight, bytes_at_most (says_byte f b true w) a.answer, ap length l.bytes, length-append (heard t) (bytes_of v.flight));
          waits = l.few a.few;
        };
        near = l.near;
        begun = l.begun ∙ a.begun;
        dumps = l.dumps ∙ a.dumps;
        closed = l.closed a.closed;
        size = omega (arith, bytes_at_most (says_byte f b true w) a.answer, ap length l.bytes, length-append (heard t) (bytes_of v.flight));
        page = λ un. took (says_byte f b true w) v few a.answer a.closed a.begun e un l.bytes;
      }
