-- Where messages of the host come whole or not at all, and replies whole or cut, no delivery is unseen.
use Rattle.std.proofs.Common.{◌≡◌, ℕ, zero, suc, ◌+◌, ◌≤◌, ◌==◌, ◌&&◌, ◌||◌, not, Bool, true, false, if◌then◌else◌, ◌⊎◌, inl, inr, List, [], ◌∷◌, ◌++◌, length, take, drop, length-take, Option, Some, None, refl, sym, ◌∙◌, ap, arith}
use Rattle.std.specs.Prelude.{nat_lt}
use Rattle.std.proofs.lemmas.Bool.{and_parts}
use Rattle.std.proofs.lemmas.Bool.Decides.{nat_tests}
use Rattle.std.proofs.lemmas.List.{take_all}
use Rattle.std.proofs.lemmas.Option.{same_Some}
use Rattle.std.proofs.lemmas.Slice.Eq.{bytes_eq-Decides}
use Rattle.settings_file.specs.StationSettings.{StationSettings}
use Rattle.serial_link.specs.declared.talk.TalkItem.{TalkItem}
use Rattle.serial_link.specs.declared.talk.TalkItem.TheVariants.{Said, Heard, Quiet}
use Rattle.crc_ccitt.specs.Check.{is_good}
use Rattle.console_model.specs.Console.{Console, Outcome}
use Rattle.console_model.specs.Hear.{hear}
use Rattle.console_model.specs.Tick.{tick}
use Rattle.console_model.specs.declared.reply.ReplyKind.{ReplyKind}
use Rattle.console_model.specs.declared.reply.ReplyKind.TheVariants.{Nothing, Code, Test, Wake, Ack, AckFrame, Page, Packet}
use Rattle.schedule_file.specs.declared.fate.Fate.{Fate}
use Rattle.schedule_file.specs.declared.fate.Fate.TheVariants.{Lost, Cut, Dropped, Flipped}
use Rattle.station_sim.specs.declared.unseen.Unseen.{Unseen}
use Rattle.schedule_file.specs.Fates.{FatesByNumber}
use Rattle.station_sim.specs.Delivery.{delivered}
use Rattle.station_sim.specs.Joining.{and_then_some}
use Rattle.station_sim.specs.Line.{Line, begins_with_ack, completes, message_counted, earlier, flies, from_console, from_host, happens, hears, is_harmed, joins, pages, passes, reply_joins, says_byte}
use Rattle.station_sim.specs.Talk.{console_talk, started, line_step}
use Rattle.station_session.specs.Attempts.{all_said}
use Rattle.replay_laws.specs.Replay.{IsUnseenRound, Item, Stage}
use Rattle.schedule_file.specs.declared.schedule.step.Stop.{Stop}
use Rattle.line_laws.proofs.FrameStage.{hearing_is, waiting_is}
use Rattle.made_run.proofs.Replies.{Fair, IsFair, fair_hear, fair_tick}

-- a message comes whole, or not at all
abbrev pub IsWholeOrLost : Option Fate → Type 0
IsWholeOrLost None = Unit {0}
IsWholeOrLost (Some Lost) = Unit {0}
IsWholeOrLost (Some (Cut n)) = ⊥
IsWholeOrLost (Some (Dropped p n)) = ⊥
IsWholeOrLost (Some (Flipped p ms)) = ⊥

-- a reply comes whole, or only the first of it
abbrev pub IsWholeOrCut : Option Fate → Type 0
IsWholeOrCut None = Unit {0}
IsWholeOrCut (Some Lost) = ⊥
IsWholeOrCut (Some (Cut n)) = Unit {0}
IsWholeOrCut (Some (Dropped p n)) = ⊥
IsWholeOrCut (Some (Flipped p ms)) = ⊥

-- What befalls in a round spares what is said, or is seen.
pub record IsPlain (f : FatesByNumber) : Type 0 where
  pub host : (n : ℕ) → IsWholeOrLost (f.host n)
  pub reply : (n : ℕ) → IsWholeOrCut (f.reply n)

unharmed : (bs : List ℕ) → is_harmed bs bs ≡ false
unharmed bs = ap not ((bytes_eq-Decides bs bs).1 refl)

never : (t : Bool) → (t && false) ≡ false
never true = refl
never false = refl

ack_cut : (n : ℕ) (bs : List ℕ) → begins_with_ack bs ≡ false → begins_with_ack (take n bs) ≡ false
ack_cut zero bs meek = refl
ack_cut (suc n) [] meek = refl
ack_cut (suc n) (b ∷ bs) meek = meek

-- what is cut and as long as before is not harmed
cut_whole : (n : ℕ) (bs : List ℕ) → (length (take n bs) == length bs) ≡ true → is_harmed bs (take n bs) ≡ false
cut_whole n bs same =
    let long : length bs ≤ n = grind (arith, nat_tests, same, length-take n bs) in
    ap (is_harmed bs) (take_all n bs long) ∙ unharmed bs

by_length : (n : ℕ) (bs : List ℕ) (t : Bool) → (t ≡ true → (length (take n bs) == length bs) ≡ true) → (is_harmed bs (take n bs) && t) ≡ false
by_length n bs true same = ap (λ (h : Bool). h && true) (cut_whole n bs (same refl))
by_length n bs false same = never (is_harmed bs (take n bs))

cut_seen : (k : ReplyKind) (n : ℕ) (bs : List ℕ) → Fair k bs → (is_harmed bs (take n bs) && passes k bs (take n bs)) ≡ false
cut_seen Nothing n bs fair = never (is_harmed bs (take n bs))
cut_seen Code n bs fair = ap (λ (t : Bool). is_harmed bs (take n bs) && t) (ack_cut n bs fair) ∙ never (is_harmed bs (take n bs))
cut_seen Wake n bs fair = ap (λ (t : Bool). is_harmed bs (take n bs) && t) (ack_cut n bs fair) ∙ never (is_harmed bs (take n bs))
cut_seen Test n bs fair = ap (λ (t : Bool). is_harmed bs (take n bs) && t) (ack_cut n bs fair) ∙ never (is_harmed bs (take n bs))
cut_seen Ack n bs fair = never (is_harmed bs (take n bs))
cut_seen AckFrame n bs fair = by_length n bs (passes AckFrame bs (take n bs)) (λ passed. (and_parts (length (take n bs) == length bs) (begins_with_ack (take n bs)) (and_parts (length (take n bs) == length bs && begins_with_ack (take n bs)) (is_good (drop 1 (take n bs))) passed).0).0)
cut_seen Page n bs fair = by_length n bs (passes Page bs (take n bs)) (λ passed. (and_parts (length (take n bs) == length bs) (is_good (take n bs)) passed).0)
cut_seen Packet n bs fair = by_length n bs (passes Packet bs (take n bs)) (λ passed. (and_parts (length (take n bs) == length bs) (is_good (take n bs)) passed).0)

-- no reply is harmed and passes for whole
reply_seen : (k : ReplyKind) (fate : Option Fate) (bs : List ℕ) → IsWholeOrCut fate → Fair k bs → (is_harmed bs (delivered fate bs) && passes k bs (delivered fate bs)) ≡ false
unfolding delivered
reply_seen k None bs plain fair = ap (λ (h : Bool). h && passes k bs bs) (unharmed bs)
reply_seen k (Some Lost) bs plain fair = absurd plain
reply_seen k (Some (Cut n)) bs plain fair = cut_seen k n bs fair
reply_seen k (Some (Dropped p n)) bs plain fair = absurd plain
reply_seen k (Some (Flipped p ms)) bs plain fair = absurd plain

-- nor is a message of the host
host_seen : (fate : Option Fate) (m : List ℕ) (c : Console) → IsWholeOrLost fate → (is_harmed m (delivered fate m) && (completes (delivered fate m) c || (nat_lt 1 (length m) && pages (delivered fate m) c))) ≡ false
unfolding delivered
host_seen None m c plain = ap (λ (h : Bool). h && (completes m c || (nat_lt 1 (length m) && pages m c))) (unharmed m)
host_seen (Some Lost) m c plain = ap (λ (t : Bool). is_harmed m [] && t) (never (nat_lt 1 (length m))) ∙ never (is_harmed m [])
host_seen (Some (Cut n)) m c plain = absurd plain
host_seen (Some (Dropped p n)) m c plain = absurd plain
host_seen (Some (Flipped p ms)) m c plain = absurd plain

still_none : (u : Option Unseen) (t : Bool) (x : Unseen) → u ≡ None → t ≡ false → earlier u (if t then Some x else None) ≡ None
still_none u t x none is = ap (λ (v : Option Unseen). earlier v (if t then Some x else None)) none ∙ ap (λ (s : Bool). if s then Some x else None) is

module _ (f : FatesByNumber) (plain : IsPlain f) where
  replied_seen : (o : Outcome) (w : Line) → IsFair o → w.unseen ≡ None → (reply_joins f o w).unseen ≡ None
  replied_seen o w fair none =
      still_none w.unseen _ (from_console (w.replies + 1)) none (reply_seen o.kind (f.reply (w.replies + 1)) o.bytes (plain.reply (w.replies + 1)) fair)

  joins_seen : (k : ReplyKind) (o : Outcome) (w : Line) → IsFair o → w.unseen ≡ None → (joins k f o w).unseen ≡ None
  joins_seen Nothing o w fair none = none
  joins_seen Code o w fair none = replied_seen o w fair none
  joins_seen Wake o w fair none = replied_seen o w fair none
  joins_seen Test o w fair none = replied_seen o w fair none
  joins_seen Ack o w fair none = replied_seen o w fair none
  joins_seen AckFrame o w fair none = replied_seen o w fair none
  joins_seen Page o w fair none = replied_seen o w fair none
  joins_seen Packet o w fair none = replied_seen o w fair none

  hears_seen : (bs : List ℕ) (w : Line) → w.unseen ≡ None → (hears f bs w).unseen ≡ None
  hears_seen [] w none = none
  hears_seen (b ∷ bs) w none =
      let o = hear w.console b in
      hears_seen bs (happens f o w) (joins_seen o.kind o w (fair_hear w.console b) none)

  says_seen : (b : ℕ) (w : Line) → w.unseen ≡ None → (says_byte f b true w).unseen ≡ None
  says_seen b w none =
      let m = w.begun ++ b ∷ [] in
      let n = w.messages + 1 in
      hears_seen (delivered (f.host n) m) (message_counted f m w) (still_none w.unseen _ (from_host n) none (host_seen (f.host n) m w.console (plain.host n)))

  -- no talk has an unseen delivery
  goes_seen : (t : List TalkItem) (w v : Line) → console_talk f t w ≡ Some v → w.unseen ≡ None → v.unseen ≡ None
  goes_seen [] w v e none = ap (λ (x : Line). x.unseen) (sym (same_Some w v e)) ∙ none
  goes_seen (Said b false ∷ t) w v e none = goes_seen t (says_byte f b false w) v e none
  goes_seen (Said b true ∷ t) w v e none = goes_seen t (says_byte f b true w) v e (says_seen b w none)
  goes_seen (Heard b ∷ t) w v e none =
      let g = and_then_some (line_step f (Heard b) w) (console_talk f t) v e in
      let q = hearing_is w.flight b w g.0 refl g.1 in
      goes_seen t g.0 v g.2 (ap (λ (x : Line). x.unseen) q.2 ∙ none)
  goes_seen (Quiet ∷ t) w v e none =
      let g = and_then_some (line_step f Quiet w) (console_talk f t) v e in
      let q = waiting_is w.flight f w g.0 refl g.1 in
      let o = tick w.console in
      goes_seen t g.0 v g.2 (ap (λ (x : Line). x.unseen) q.2 ∙ joins_seen o.kind o (flies w q.0) (fair_tick w.console) none)

  -- no round is broken by an unseen delivery
  pub none_broken : (settings : StationSettings) (stop : Option Stop) (s : Stage) (i : Item) → IsUnseenRound settings f stop s i → ⊥
  none_broken settings stop s i h =
      let none : h.line.unseen ≡ None = goes_seen (all_said h.tried) (started s.line) h.line h.talks refl in
      let e : Some h.which ≡ None = sym h.unseen ∙ none in
      cc
