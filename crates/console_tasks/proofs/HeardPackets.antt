-- Packets as they come.
use Rattle.std.proofs.Common.{◌≡◌, ℕ, suc, ◌+◌, ◌-◌, ◌<◌, nat_lt, Bool, true, false, List, [], ◌∷◌, ◌++◌, length, map, refl}
use Rattle.std.proofs.Common.{sym, ◌∙◌, ap, subst, inl, inr, arith, Ok, Err}
use Rattle.std.specs.Prelude.{MatchResult}
use Rattle.std.specs.Bool.{Decides}
use Rattle.std.specs.declared.result.Result.{Result}
use Rattle.std.proofs.lemmas.Bool.{and_from, and_left, and_right, lt-ltb, le-ltb}
use Rattle.std.proofs.lemmas.Bool.Decides.{Decides-eqb}
use Rattle.std.proofs.lemmas.Slice.Eq.{bytes_eq-Decides}
use Rattle.crc_ccitt.proofs.Good.{good_when, not_good}
use Rattle.loop_packet.specs.declared.packet.LoopPacket.{LoopPacket}
use Rattle.loop_packet.specs.declared.fault.LoopFault.{LoopFault}
use Rattle.loop_packet.specs.declared.fault.LoopFault.TheVariants.{BadMark, BadType, BadEnd, BadCheck}
use Rattle.loop_packet.specs.Reading.{TellsPacket, packet_bytes}
use Rattle.serial_link.specs.declared.talk.TalkItem.{TalkItem}
use Rattle.wake_retry.specs.Parts.{heard, IsFull, IsShort, FallsShort, IsCutOff}
use Rattle.console_tasks.specs.declared.end.TaskEnd.{TaskEnd}
use Rattle.console_tasks.specs.declared.end.TaskEnd.TheVariants as task_end
use Rattle.console_tasks.specs.Exchange.{Exchange, end_by, shows}
use Rattle.console_tasks.specs.Packet.{is_packet, judge_packet}
use Rattle.console_tasks.specs.TaskTalk.{Exchanges, IsCutTalk}
use Rattle.console_tasks.specs.Tasks.{packet, packets}
use Rattle.console_tasks.specs.Parts.{EndsTask, HearsPacket}
use Rattle.console_tasks.proofs.Troubles.{IsTrouble, TellsTrouble}
use Rattle.console_tasks.proofs.Onward.{On, answer_on, answer_ends, answer_fails, short_ends}
use Rattle.console_tasks.proofs.WrittenAndRead.{take_this, take_that}

no_of : {P : Type 0} (b : Bool) → Decides b P → (P → ⊥) → b ≡ false
no_of true d n = absurd (n (d.0 refl))
no_of false d n = refl

-- what reading a packet tells of the test
packet_true : (bytes : List ℕ) (read : LoopPacket) → TellsPacket bytes (Ok read) → is_packet bytes ≡ true
packet_true bytes read k =
    and_from _ _ (and_from _ _ (and_from _ _ ((bytes_eq-Decides _ _).1 k.0) ((Decides-eqb _ _).1 k.1))
    ((bytes_eq-Decides _ _).1 k.2)) (good_when bytes k.3)

packet_false : (bytes : List ℕ) (fault : LoopFault) → TellsPacket bytes (Err fault) → is_packet bytes ≡ false
packet_false bytes BadMark k = and_left _ _ (and_left _ _ (and_left _ _ (no_of _ (bytes_eq-Decides _ _) k)))
packet_false bytes (BadType kind) k =
    and_left _ _ (and_left _ _ (and_right _ _ (no_of _ (Decides-eqb _ _) (λ e. k.2 (sym k.1 ∙ e)))))
packet_false bytes BadEnd k = and_left _ _ (and_right _ _ (no_of _ (bytes_eq-Decides _ _) k.2))
packet_false bytes BadCheck k = and_right _ _ (not_good bytes k.3)

pub packet_good : (bytes : List ℕ) (read : LoopPacket) → TellsPacket bytes (Ok read) → judge_packet bytes ≡ task_end.Done
packet_good bytes read k = take_this (is_packet bytes) task_end.Done task_end.BadCheck (packet_true bytes read k)

pub packet_bad : (bytes : List ℕ) (fault : LoopFault) → TellsPacket bytes (Err fault) → judge_packet bytes ≡ task_end.BadCheck
packet_bad bytes fault k = take_that (is_packet bytes) task_end.Done task_end.BadCheck (packet_false bytes fault k)

-- what the reading of 99 bytes answers
abbrev pub IsRead : List ℕ → Result LoopPacket TaskEnd → Type 0
IsRead bytes r = MatchResult r (λ read. (bytes ≡ packet_bytes read) × (judge_packet bytes ≡ task_end.Done))
    (λ end. (end ≡ task_end.BadCheck) × (judge_packet bytes ≡ end))

pub read_trouble : (bytes : List ℕ) (r : Result LoopPacket TaskEnd) → IsRead bytes r → TellsTrouble r
read_trouble bytes (Ok read) j = tt
read_trouble bytes (Err end) j = subst IsTrouble (sym j.0) tt

whole_by : (s : Bool) (answer : List ℕ) (whole : TaskEnd) → s ≡ false → end_by false s answer whole ≡ whole
whole_by s answer whole e = rw e refl

shows_whole : (bytes : List ℕ) → length bytes ≡ 99 → shows packet bytes ≡ judge_packet bytes
shows_whole bytes l = let e = le-ltb (length bytes) 99 (omega arith) in whole_by (nat_lt (length bytes) 99) bytes
    (judge_packet bytes) e

short_by : (s : Bool) (answer : List ℕ) (whole : TaskEnd) → s ≡ true
    → end_by false s answer whole ≡ task_end.Short (length answer)
short_by s answer whole e = rw e refl

-- a packet's bytes came
pub packet_hears : (bytes : List ℕ) (r : Result LoopPacket TaskEnd) (t : List TalkItem) → length bytes ≡ 99
    → IsFull 10 0 t → heard t ≡ bytes → IsRead bytes r → HearsPacket r t
packet_hears bytes (Ok read) t l f h j = (
  inl (f, ap (λ (x : List ℕ). length x) h ∙ l),
  h ∙ j.0,
  subst (λ (x : List ℕ). shows packet x ≡ task_end.Done) j.0
      (shows_whole bytes l ∙ j.1),
)
packet_hears bytes (Err end) t l f h j = λ more.
    answer_fails packet more t t end refl (inl (f, ap (λ (x : List ℕ). length x) h ∙ l))
    (ap (shows packet) h ∙ shows_whole bytes l ∙ j.1) (read_trouble bytes (Err end) j)

-- fewer came
pub packet_short : (n : ℕ) (t : List TalkItem) → IsShort 10 0 t → n < 99 → length (heard t) ≡ n
    → EndsTask packet (task_end.Short n) t
packet_short n t s below l = λ more.
    let few : length (heard t) < 99 = omega arith in
    let shown : shows packet (heard t) ≡ task_end.Short n = short_by (nat_lt (length (heard t)) 99) (heard t)
    (judge_packet (heard t)) (lt-ltb (length (heard t)) 99 few) ∙ ap (λ x. task_end.Short x) l in
    ([], answer_ends packet more t t (task_end.Short n) refl (inr (s, few)) shown tt)

-- the wait was cut off
pub packet_cut : (more : List Exchange) (t : List TalkItem) → IsCutOff (FallsShort 10 99) t
    → IsCutTalk (Exchanges (packet ∷ more)) t
packet_cut more t k =
    let all = t ++ k.rest in
    record { rest = k.rest; some = k.some; whole = ([], shows packet (heard all), short_ends packet more all all refl k.whole) }

-- a packet that came goes on
pub packet_on : (more : List Exchange) (read : LoopPacket) (t : List TalkItem) → HearsPacket (Ok read) t
    → On (Exchanges (packet ∷ more)) (Exchanges more) (packet_bytes read ∷ []) t
packet_on more read t k = answer_on packet more t t (packet_bytes read) refl k.0 k.1 k.2

-- one more is left
pub packets_left : (count i : ℕ) → i < count → packets (count - i) ≡ packet ∷ packets (count - (i + 1))
packets_left count i below = let e : count - i ≡ suc (count - (i + 1)) = omega arith in ap packets e

pub map_one : (reads : List LoopPacket) (read : LoopPacket) → map packet_bytes reads ++ packet_bytes read ∷
    [] ≡ map packet_bytes (reads ++ read ∷ [])
map_one [] read = refl
map_one (x ∷ reads) read = ap (λ (y : List (List ℕ)). packet_bytes x ∷ y) (map_one reads read)
