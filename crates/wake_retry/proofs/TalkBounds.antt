-- How many bytes the parts of a talk hear and say.
use Rattle.std.proofs.Common.{◌≡◌, ℕ, zero, suc, ◌+◌, ◌*◌, ◌<◌, ◌≤◌, Bool, true, List, [], ◌∷◌, ◌++◌, length, refl, subst, sym, inl, inr, arith}
use Rattle.serial_link.specs.declared.talk.TalkItem.{TalkItem}
use Rattle.serial_link.specs.declared.talk.TalkItem.TheVariants.{Said, Heard, Quiet}
use Rattle.serial_link.specs.Talk.{message}
use Rattle.wake_retry.specs.Parts.{heard, StillFrom, IsFull, IsShort, Wakes, WakeFloods}
use Rattle.wake_retry.specs.Bounds.{said, IsBounded, BoundsSettling, BoundsWake, BoundsAnswer}
use Rattle.wake_retry.proofs.Endings.{heard_both}
use Rattle.wake_retry.specs.Parts.{answer_waits, flood_size}

said_both : (s t : List TalkItem) → length (said (s ++ t)) ≡ length (said s) + length (said t)
said_both [] t = omega arith
said_both (Said b ends ∷ s) t = omega (arith, said_both s t)
said_both (Heard b ∷ s) t = said_both s t
said_both (Quiet ∷ s) t = said_both s t

-- one part behind another
pub bounded_joins : (h k i j : ℕ) (s t : List TalkItem) → IsBounded h k s → IsBounded i j t → IsBounded (h + i) (k + j) (s ++ t)
bounded_joins h k i j s t one two = record {
  hears = omega (arith, heard_both s t, one.hears, two.hears);
  says = omega (arith, said_both s t, one.says, two.says);
}

-- greater bounds
pub bounded_within : (h k i j : ℕ) (t : List TalkItem) → h ≤ i → k ≤ j → IsBounded h k t → IsBounded i j t
bounded_within h k i j t more longer b = record { hears = omega (arith, more, b.hears); says = omega (arith, longer, b.says) }

-- of a talk that is bounded each front is
pub bounded_front : (h k : ℕ) (s t : List TalkItem) → IsBounded h k (s ++ t) → IsBounded h k s
bounded_front h k s t b = record { hears = omega (arith, heard_both s t, b.hears); says = omega (arith, said_both s t, b.says) }

message_said : (bytes : List ℕ) → length (said (message bytes)) ≡ length bytes
message_said [] = refl
message_said (b ∷ []) = refl
message_said (b ∷ c ∷ bs) = omega (arith, message_said (c ∷ bs))

message_heard : (bytes : List ℕ) → length (heard (message bytes)) ≡ 0
message_heard [] = refl
message_heard (b ∷ []) = refl
message_heard (b ∷ c ∷ bs) = message_heard (c ∷ bs)

-- a message
pub message_bounded : (bytes : List ℕ) → IsBounded 0 (length bytes) (message bytes)
message_bounded bytes = record { hears = omega (arith, message_heard bytes); says = omega (arith, message_said bytes) }

-- one byte said before a part
pub said_first : (h k b : ℕ) (t : List TalkItem) → IsBounded h k t → IsBounded h (k + 1) (Said b true ∷ t)
said_first h k b t x = record { hears = x.hears; says = omega (arith, x.says) }

still_from : (q r n : ℕ) (t : List TalkItem) → StillFrom q r n t → (n + length (heard t) < flood_size) × (length (said t) ≡ 0)
still_from q r n [] k = (omega (arith, k.1), refl)
still_from q r n (Said b ends ∷ t) k = absurd k
still_from q r n (Heard b ∷ t) k = let z = still_from q 0 (n + 1) t k.1 in (omega (arith, z.0), z.1)
still_from q r n (Quiet ∷ t) k = still_from q (r + 1) n t k.1

full_silent : (q r : ℕ) (t : List TalkItem) → IsFull q r t → length (said t) ≡ 0
full_silent q r [] k = absurd k
full_silent q r (Said b ends ∷ t) k = absurd k
full_silent q r (Heard b ∷ []) k = refl
full_silent q r (Heard b ∷ i ∷ t) k = full_silent q 0 (i ∷ t) k
full_silent q r (Quiet ∷ t) k = full_silent q (r + 1) t k.1

short_silent : (q r : ℕ) (t : List TalkItem) → IsShort q r t → length (said t) ≡ 0
short_silent q r [] k = refl
short_silent q r (Said b ends ∷ t) k = absurd k
short_silent q r (Heard b ∷ t) k = short_silent q 0 t k.1
short_silent q r (Quiet ∷ t) k = short_silent q (r + 1) t k.1

pub bounds_settling : (quiets : ℕ) → BoundsSettling quiets
bounds_settling quiets = record {
  still = λ t k. let z = still_from quiets 0 0 t k in record { hears = omega (arith, z.0); says = omega (arith, z.1) };
  floods = λ t k. record { hears = omega (arith, k.1); says = omega (arith, full_silent quiets 0 t k.0) };
}

pub bounds_answer : (quiets n : ℕ) → BoundsAnswer quiets n
bounds_answer quiets n t (inl (full, size)) = record { hears = omega (arith, size); says = omega (arith, full_silent quiets 0 t full) }
bounds_answer quiets n t (inr (short, few)) = record { hears = omega (arith, few); says = omega (arith, short_silent quiets 0 t short) }

-- a try of a wake before others
try_first : (left : ℕ) (talk s rest : List TalkItem) → talk ≡ Said 10 true ∷ s ++ rest → IsBounded flood_size 0 s → IsBounded (flood_size * left) left rest → IsBounded (flood_size * suc left) (suc left) talk
try_first left talk s rest is settled others =
    let both = said_first (flood_size + flood_size * left) (0 + left) 10 (s ++ rest) (bounded_joins flood_size 0 (flood_size * left) left s rest settled others) in
    subst (λ (x : List TalkItem). IsBounded (flood_size * suc left) (suc left) x) (sym is)
    (bounded_within (flood_size + flood_size * left) (0 + left + 1) (flood_size * suc left) (suc left) (Said 10 true ∷ s ++ rest) (omega arith) (omega arith) both)

none_left : (left : ℕ) (rest : List TalkItem) → rest ≡ [] → IsBounded (flood_size * left) left rest
none_left left rest none = subst (λ (x : List TalkItem). IsBounded (flood_size * left) left x) (sym none) (record { hears = omega arith; says = omega arith })

wakes : (tries : ℕ) (t : List TalkItem) (awake : Bool) → Wakes tries t awake → IsBounded (flood_size * tries) tries t
wakes zero t awake k = none_left zero t k.0
wakes (suc left) t awake (s, rest, is, still, inl (answered, none, e)) = try_first left t s rest is ((bounds_settling answer_waits).still s still) (none_left left rest none)
wakes (suc left) t awake (s, rest, is, still, inr (other, more)) = try_first left t s rest is ((bounds_settling answer_waits).still s still) (wakes left rest awake more)

wake_floods : (tries : ℕ) (t : List TalkItem) → WakeFloods tries t → IsBounded (flood_size * tries) tries t
wake_floods zero t k = absurd k
wake_floods (suc left) t (s, rest, is, inl (flood, none)) = try_first left t s rest is ((bounds_settling answer_waits).floods s flood) (none_left left rest none)
wake_floods (suc left) t (s, rest, is, inr (still, other, more)) = try_first left t s rest is ((bounds_settling answer_waits).still s still) (wake_floods left rest more)

pub bounds_wake : (tries : ℕ) → BoundsWake tries
bounds_wake tries = record { ends = wakes tries; floods = wake_floods tries }
