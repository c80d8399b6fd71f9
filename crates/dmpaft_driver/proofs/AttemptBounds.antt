-- How many bytes an attempt hears and says.
use Rattle.std.proofs.Common.{◌≡◌, ℕ, zero, suc, ◌+◌, ◌-◌, ◌*◌, ◌≤◌, ◌⊎◌, true, false, inl, inr, List, [], ◌∷◌, ◌++◌, length, refl, sym, subst, arith, Option}
use Rattle.station_base.specs.CivilMinute.{CivilMinute}
use Rattle.serial_link.specs.Talk.{message}
use Rattle.serial_link.specs.declared.talk.TalkItem.{TalkItem}
use Rattle.serial_link.specs.declared.talk.TalkItem.TheVariants.{Said}
use Rattle.vantage_frames.specs.StampFrame.{stamp_frame_of}
use Rattle.vantage_frames.specs.Words.{frame_of_words}
use Rattle.vantage_frames.specs.Header.{most_pages}
use Rattle.vantage_frames.specs.Slots.{page_size}
use Rattle.wake_retry.specs.Parts.{heard, wake_tries, flood_size, answer_waits, settled_waits}
use Rattle.wake_retry.specs.Bounds.{IsBounded}
use Rattle.wake_retry.proofs.TalkBounds.{bounded_joins, bounded_within, bounded_front, message_bounded, said_first, bounds_settling, bounds_answer, bounds_wake}
use Rattle.dmpaft_pump.specs.declared.outcome.DumpEnd.{DumpEnd}
use Rattle.dmpaft_pump.specs.declared.outcome.DumpEnd.TheVariants as dump_end
use Rattle.dmpaft_pump.specs.declared.outcome.Trouble.{Trouble}
use Rattle.dmpaft_pump.specs.declared.outcome.Trouble.TheVariants.{Asleep, NoAck}
use Rattle.dmpaft_pump.specs.Header.{IsHeader, IsNoHeader, first_of}
use Rattle.dmpaft_driver.specs.Attempt.{Attempt, TakesPage, Misses, AskFloods, Pages, Heads, Requests, End, esc, last_said}
use Rattle.dmpaft_pump.specs.Command.{dmpaft}
use Rattle.dmpaft_driver.specs.Bounds.{AttemptsAreBounded, most_heard, most_said}
use Rattle.dmpaft_driver.specs.Outcome.{Ended, IsCutAfter}
use Rattle.dmpaft_pump.specs.Page.{next_said}
use Rattle.dmpaft_pump.specs.Pump.{most_askings}

-- what an asking and the settling behind it hear at most
abbrev asked_and_settled : ℕ
asked_and_settled = page_size + flood_size

-- what the askings for a page hear at most, and what those for all pages do, with the byte that ends the attempt said
abbrev asked_heard : ℕ
asked_heard = asked_and_settled * most_askings - flood_size

abbrev pages_heard : ℕ
pages_heard = asked_heard * most_pages

abbrev pages_said : ℕ
pages_said = most_askings * most_pages + 1

-- with the stamp frame and its answer
abbrev headed_heard : ℕ
headed_heard = 7 + pages_heard

abbrev headed_said : ℕ
headed_said = 6 + pages_said

-- with DMPAFT and its answer
abbrev called_heard : ℕ
called_heard = 1 + headed_heard

abbrev called_said : ℕ
called_said = 7 + headed_said

-- so many askings for a page, with a settling between two: as much is heard as by so many askings and settlings, less a settling
abbrev AreAskings : ℕ → List TalkItem → Type 0
AreAskings left talk = IsBounded (asked_and_settled * left - flood_size) left talk

-- the last asking
last_asking : (left b : ℕ) (talk t rest : List TalkItem) → talk ≡ Said b true ∷ t ++ rest → IsBounded page_size 0 t → rest ≡ [] → AreAskings (suc left) talk
last_asking left b talk t rest is answer none =
    subst (λ (x : List TalkItem). AreAskings (suc left) x) (sym is)
    (bounded_within page_size 1 (asked_and_settled * suc left - flood_size) (suc left) (Said b true ∷ t ++ rest) (omega arith) (omega arith)
    (subst (λ (x : List TalkItem). IsBounded page_size 1 (Said b true ∷ t ++ x)) (sym none)
    (said_first page_size 0 b (t ++ []) (bounded_joins page_size 0 0 0 t [] answer (record { hears = omega arith; says = omega arith })))))

-- an asking, a settling, and other askings
next_asking : (left b : ℕ) (talk t rest s more : List TalkItem) → talk ≡ Said b true ∷ t ++ rest → IsBounded page_size 0 t → rest ≡ s ++ more → IsBounded flood_size 0 s → 1 ≤ left → AreAskings left more → AreAskings (suc left) talk
next_asking left b talk t rest s more is answer split settled some others =
    subst (λ (x : List TalkItem). AreAskings (suc left) x) (sym is)
    (subst (λ (x : List TalkItem). AreAskings (suc left) (Said b true ∷ t ++ x)) (sym split)
    (bounded_within (page_size + (flood_size + (asked_and_settled * left - flood_size))) (0 + (0 + left) + 1) (asked_and_settled * suc left - flood_size) (suc left) (Said b true ∷ t ++ (s ++ more)) (omega (arith, some)) (omega arith)
    (said_first (page_size + (flood_size + (asked_and_settled * left - flood_size))) (0 + (0 + left)) b (t ++ (s ++ more))
    (bounded_joins page_size 0 (flood_size + (asked_and_settled * left - flood_size)) (0 + left) t (s ++ more) answer
    (bounded_joins flood_size 0 (asked_and_settled * left - flood_size) left s more settled others)))))

takes : (left k b : ℕ) (talk : List TalkItem) (bytes : List ℕ) → TakesPage left k b talk bytes → (1 ≤ left) × AreAskings left talk
takes zero k b talk bytes x = absurd x
takes (suc left) k b talk bytes (t, rest, is, w, inl (page, none, same)) = (omega arith, last_asking left b talk t rest is (bounds_answer answer_waits page_size t w) none)
takes (suc left) k b talk bytes (t, rest, is, w, inr (other, near, (s, more, split, still, x))) =
    let y = takes left k (next_said k (heard t)) more bytes x in
    (omega arith, next_asking left b talk t rest s more is (bounds_answer answer_waits page_size t w) split ((bounds_settling settled_waits).still s still) y.0 y.1)

misses : (left k b : ℕ) (talk : List TalkItem) (trouble : Trouble) → Misses left k b talk trouble → (1 ≤ left) × AreAskings left talk
misses zero k b talk trouble x = absurd x
misses (suc left) k b talk trouble (t, rest, is, w, other, inl (ahead, none, e)) = (omega arith, last_asking left b talk t rest is (bounds_answer answer_waits page_size t w) none)
misses (suc left) k b talk trouble (t, rest, is, w, other, inr (inl (near, last, none, e))) = (omega arith, last_asking left b talk t rest is (bounds_answer answer_waits page_size t w) none)
misses (suc left) k b talk trouble (t, rest, is, w, other, inr (inr (near, (s, more, split, still, x)))) =
    let y = misses left k (next_said k (heard t)) more trouble x in
    (omega arith, next_asking left b talk t rest s more is (bounds_answer answer_waits page_size t w) split ((bounds_settling settled_waits).still s still) y.0 y.1)

-- a settling that floods, after an asking that is not the last
flooded_asking : (left b : ℕ) (talk t rest : List TalkItem) → talk ≡ Said b true ∷ t ++ rest → IsBounded page_size 0 t → IsBounded flood_size 0 rest → 1 ≤ left → AreAskings (suc left) talk
flooded_asking left b talk t rest is answer flood some =
    subst (λ (x : List TalkItem). AreAskings (suc left) x) (sym is)
    (bounded_within (page_size + flood_size) (0 + 0 + 1) (asked_and_settled * suc left - flood_size) (suc left) (Said b true ∷ t ++ rest) (omega (arith, some)) (omega arith)
    (said_first (page_size + flood_size) (0 + 0) b (t ++ rest) (bounded_joins page_size 0 flood_size 0 t rest answer flood)))

some_left : (left : ℕ) → (left ≡ 0 → ⊥) → 1 ≤ left
some_left zero ne = absurd (ne refl)
some_left (suc left) ne = omega arith

ask_floods : (left k b : ℕ) (talk : List TalkItem) → AskFloods left k b talk → (1 ≤ left) × AreAskings left talk
ask_floods zero k b talk x = absurd x
ask_floods (suc left) k b talk (t, rest, is, w, other, near, inl (some, flood)) =
    (omega arith, flooded_asking left b talk t rest is (bounds_answer answer_waits page_size t w) ((bounds_settling settled_waits).floods rest flood) (some_left left some))
ask_floods (suc left) k b talk (t, rest, is, w, other, near, inr (s, more, split, still, x)) =
    let y = ask_floods left k (next_said k (heard t)) more x in
    (omega arith, next_asking left b talk t rest s more is (bounds_answer answer_waits page_size t w) split ((bounds_settling settled_waits).still s still) y.0 y.1)

-- two parts, with the bounds of both
parts : (h k i j : ℕ) (talk s t : List TalkItem) → talk ≡ s ++ t → IsBounded h k s → IsBounded i j t → IsBounded (h + i) (k + j) talk
parts h k i j talk s t is one two = subst (λ (x : List TalkItem). IsBounded (h + i) (k + j) x) (sym is) (bounded_joins h k i j s t one two)

esc_bounded : (talk : List TalkItem) → talk ≡ esc → IsBounded 0 1 talk
esc_bounded talk is = subst (λ (x : List TalkItem). IsBounded 0 1 x) (sym is) (record { hears = omega arith; says = omega arith })

last_bounded : (k : ℕ) → IsBounded 0 1 (last_said k)
last_bounded zero = record { hears = omega arith; says = omega arith }
last_bounded (suc k) = record { hears = omega arith; says = omega arith }

none_bounded : (talk : List TalkItem) → talk ≡ [] → IsBounded 0 0 talk
none_bounded talk is = subst (λ (x : List TalkItem). IsBounded 0 0 x) (sym is) (record { hears = omega arith; says = omega arith })

-- so many pages, each asked for as often as may be, and the byte that ends the attempt
abbrev ArePages : ℕ → List TalkItem → Type 0
ArePages left talk = IsBounded (asked_heard * left) (most_askings * left + 1) talk

pages : (left k : ℕ) (talk : List TalkItem) (taken : List (List ℕ)) (end : End) → Pages left k talk taken end → ArePages left talk
pages zero k talk taken end (is, none, e) =
    bounded_within 0 1 (asked_heard * 0) (most_askings * 0 + 1) talk (omega arith) (omega arith) (subst (λ (x : List TalkItem). IsBounded 0 1 x) (sym is) (last_bounded k))
pages (suc left) k talk taken end (inl (t, rest, bytes, more, is, x, f, inl y)) =
    bounded_within (asked_heard + asked_heard * left) (most_askings + (most_askings * left + 1)) (asked_heard * suc left) (most_askings * suc left + 1) talk (omega arith) (omega arith)
    (parts asked_heard most_askings (asked_heard * left) (most_askings * left + 1) talk t rest is (takes most_askings k 6 t bytes x).1 (pages left (k + 1) rest more end y))
pages (suc left) k talk taken end (inl (t, rest, bytes, more, is, x, f, inr (none, g, e))) =
    bounded_within (asked_heard + 0) (most_askings + 0) (asked_heard * suc left) (most_askings * suc left + 1) talk (omega arith) (omega arith)
    (parts asked_heard most_askings 0 0 talk t rest is (takes most_askings k 6 t bytes x).1 (none_bounded rest none))
pages (suc left) k talk taken end (inr (inl (t, trouble, is, x, f, e))) =
    bounded_within (asked_heard + 0) (most_askings + 1) (asked_heard * suc left) (most_askings * suc left + 1) talk (omega arith) (omega arith)
    (parts asked_heard most_askings 0 1 talk t esc is (misses most_askings k 6 t trouble x).1 (esc_bounded esc refl))
pages (suc left) k talk taken end (inr (inr (x, f, e))) =
    bounded_within asked_heard most_askings (asked_heard * suc left) (most_askings * suc left + 1) talk (omega arith) (omega arith) (ask_floods most_askings k 6 talk x).1

module _ (frame : List ℕ) (place : ℕ) (taken : List (List ℕ)) (end : End) where
  heads : (talk : List TalkItem) → length frame ≡ 6 → Heads frame talk place taken end → IsBounded headed_heard headed_said talk
  heads talk six (t, rest, is, w, x) =
      bounded_within (0 + (7 + pages_heard)) (length frame + (0 + pages_said)) headed_heard headed_said talk (omega arith) (omega (arith, six))
      (parts 0 (length frame) (7 + pages_heard) (0 + pages_said) talk (message frame) (t ++ rest) is (message_bounded frame)
      (bounded_joins 7 0 pages_heard pages_said t rest (bounds_answer answer_waits 7 t w) (behind x)))
    where
      behind : ((n : ℕ) × IsHeader (heard t) n place × Pages n 0 rest taken end) ⊎ ((trouble : Trouble) × IsNoHeader (heard t) trouble × (rest ≡ esc) × (taken ≡ []) × (end ≡ End.Failed trouble)) → IsBounded pages_heard pages_said rest
      behind (inl (n, h, y)) = bounded_within (asked_heard * n) (most_askings * n + 1) pages_heard pages_said rest (omega (arith, h.possible.0)) (omega (arith, h.possible.0)) (pages n 0 rest taken end y)
      behind (inr (trouble, h, e, f, g)) = bounded_within 0 1 pages_heard pages_said rest (omega arith) (omega arith) (esc_bounded rest e)

  called : IsBounded 0 7 (message dmpaft)
  unfolding dmpaft
  called = message_bounded dmpaft

  requests : (talk : List TalkItem) → length frame ≡ 6 → Requests frame talk place taken end → IsBounded called_heard called_said talk
  requests talk six (t, rest, is, w, x) =
      bounded_within (0 + (1 + headed_heard)) (7 + (0 + headed_said)) called_heard called_said talk (omega arith) (omega arith)
      (parts 0 7 (1 + headed_heard) (0 + headed_said) talk (message dmpaft) (t ++ rest) is called
      (bounded_joins 1 0 headed_heard headed_said t rest (bounds_answer answer_waits 1 t w) (behind x)))
    where
      behind : ((heard t ≡ 6 ∷ []) × Heads frame rest place taken end) ⊎ ((heard t ≡ 6 ∷ [] → ⊥) × (rest ≡ esc) × (taken ≡ []) × (end ≡ End.Failed (NoAck (first_of (heard t))))) → IsBounded headed_heard headed_said rest
      behind (inl (h, y)) = heads rest six y
      behind (inr (h, e, f, g)) = bounded_within 0 1 headed_heard headed_said rest (omega arith) (omega arith) (esc_bounded rest e)

  attempt : (talk : List TalkItem) → length frame ≡ 6 → Attempt frame talk place taken end → IsBounded most_heard most_said talk
  attempt talk six (inl (s, t, rest, awake, is, still, wakes, x)) =
      bounded_within (flood_size + (flood_size * wake_tries + called_heard)) (0 + (wake_tries + called_said)) most_heard most_said talk (omega arith) (omega arith)
      (parts flood_size 0 (flood_size * wake_tries + called_heard) (wake_tries + called_said) talk s (t ++ rest) is ((bounds_settling settled_waits).still s still)
      (bounded_joins (flood_size * wake_tries) wake_tries called_heard called_said t rest ((bounds_wake wake_tries).ends t awake wakes) (behind x)))
    where
      behind : ((awake ≡ true) × Requests frame rest place taken end) ⊎ ((awake ≡ false) × (rest ≡ esc) × (taken ≡ []) × (end ≡ End.Failed Asleep)) → IsBounded called_heard called_said rest
      behind (inl (h, y)) = requests rest six y
      behind (inr (h, e, f, g)) = bounded_within 0 1 called_heard called_said rest (omega arith) (omega arith) (esc_bounded rest e)
  attempt talk six (inr (inl (flood, f, e))) =
      bounded_within flood_size 0 most_heard most_said talk (omega arith) (omega arith) ((bounds_settling settled_waits).floods talk flood)
  attempt talk six (inr (inr (s, t, is, still, floods, f, e))) =
      bounded_within (flood_size + flood_size * wake_tries) (0 + wake_tries) most_heard most_said talk (omega arith) (omega arith)
      (parts flood_size 0 (flood_size * wake_tries) wake_tries talk s t is ((bounds_settling settled_waits).still s still) ((bounds_wake wake_tries).floods t floods))

-- a stamp frame has six bytes
pub frame_long : (after : Option CivilMinute) → length (stamp_frame_of after) ≡ 6
unfolding frame_of_words
frame_long after = refl

module _ (after : Option CivilMinute) (place : ℕ) (talk : List TalkItem) (taken : List (List ℕ)) where
  whole : (end : End) → Attempt (stamp_frame_of after) talk place taken end → IsBounded most_heard most_said talk
  whole end x = attempt (stamp_frame_of after) place taken end talk (frame_long after) x

  cut : IsCutAfter (λ t pages e. Attempt (stamp_frame_of after) t place pages e) talk taken → IsBounded most_heard most_said talk
  cut x = bounded_front most_heard most_said talk x.rest (attempt (stamp_frame_of after) place taken x.end (talk ++ x.rest) (frame_long after) x.whole)

  ended : (end : DumpEnd) → Ended (λ t pages e. Attempt (stamp_frame_of after) t place pages e) end talk taken → IsBounded most_heard most_said talk
  ended dump_end.Whole x = whole End.Whole x
  ended (dump_end.Failed trouble) x = whole (End.Failed trouble) x
  ended dump_end.Full x = whole End.Refused x
  ended dump_end.Stale x = whole End.Refused x
  ended dump_end.DiskFault x = whole End.Refused x
  ended dump_end.Flood x = whole End.Flooded x
  ended dump_end.LinkFault x = cut x
  ended dump_end.OutOfMemory x = cut x

pub attempts_are_bounded : AttemptsAreBounded
attempts_are_bounded after talk place taken end x = ended after place talk taken end x.ends
