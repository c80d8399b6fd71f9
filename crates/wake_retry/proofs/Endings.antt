-- What was said and heard tells where a part of it ends, and how.
use Rattle.std.proofs.Common.{◌≡◌, ℕ, zero, suc, ◌+◌, ◌<◌, ◌⊎◌, Bool, true, false, List, [], ◌∷◌, ◌++◌, length, refl, sym, ◌∙◌, ap, subst, inl, inr, arith, append_assoc, append-nil, length-append}
use Rattle.std.proofs.lemmas.List.{append_cancel_left}
use Rattle.serial_link.specs.declared.talk.TalkItem.{TalkItem}
use Rattle.serial_link.specs.declared.talk.TalkItem.TheVariants.{Said, Heard, Quiet}
use Rattle.wake_retry.specs.Parts.{heard, IsFull, IsShort, FallsShort, Awaits, StillFrom, Still, Flooding, Wakes, WakeFloods, ends_awake, IsCutOff}
use Rattle.wake_retry.specs.OneEnd.{HasOneFront, NeverBoth, AnswerComes, EndsAnswer, EndsSettling, EndsWake}
use Rattle.wake_retry.specs.Parts.{answer_waits, flood_size}

-- of two fronts of one talk one is a front of the other
pub either_front : (s t a b : List TalkItem) → s ++ a ≡ t ++ b → ((u : List TalkItem) × (t ≡ s ++ u)) ⊎ ((u : List TalkItem) × (s ≡ t ++ u))
either_front [] t a b e = inl (t, refl)
either_front (i ∷ s) [] a b e = inr (i ∷ s, refl)
either_front (i ∷ s) (j ∷ t) a b e =
    let f : i ≡ j = cc in
    let g : s ++ a ≡ t ++ b = cc in
    elim (either_front s t a b g) [
      | inl h ↦ inl (h.0, (let k = h.1 in cc))
      | inr h ↦ inr (h.0, (let k = h.1 in cc))
    ]

-- where nothing of either kind goes on as the other, both are the same
pub same_front : {P Q : List TalkItem → Type 0} → ((s u : List TalkItem) → P s → Q (s ++ u) → u ≡ []) → ((s u : List TalkItem) → Q s → P (s ++ u) → u ≡ [])
    → (s t a b : List TalkItem) → P s → Q t → s ++ a ≡ t ++ b → (s ≡ t) × (a ≡ b)
same_front {P} {Q} one other s t a b p q e =
    let same : s ≡ t = elim (either_front s t a b e) [
      | inl h ↦ (let k = one s h.0 p (subst Q h.1 q) in sym (h.1 ∙ ap (λ (x : List TalkItem). s ++ x) k ∙ append-nil s))
      | inr h ↦ (let k = other t h.0 q (subst P h.1 p) in h.1 ∙ ap (λ (x : List TalkItem). t ++ x) k ∙ append-nil t)
    ] in
    (same, append_cancel_left s a b (e ∙ ap (λ (x : List TalkItem). x ++ b) (sym same)))

pub heard-append : (s t : List TalkItem) → heard (s ++ t) ≡ heard s ++ heard t
heard-append [] t = refl
heard-append (Said b ends ∷ s) t = heard-append s t
heard-append (Heard b ∷ s) t = ap (λ (x : List ℕ). b ∷ x) (heard-append s t)
heard-append (Quiet ∷ s) t = heard-append s t

-- the bytes of both are counted
pub heard_both : (s t : List TalkItem) → length (heard (s ++ t)) ≡ length (heard s) + length (heard t)
heard_both s t = ap length (heard-append s t) ∙ length-append (heard s) (heard t)

-- a byte was heard
full_some : (q r : ℕ) (t : List TalkItem) → IsFull q r t → 0 < length (heard t)
full_some q r [] k = absurd k
full_some q r (Said b ends ∷ t) k = absurd k
full_some q r (Heard b ∷ []) k = omega arith
full_some q r (Heard b ∷ i ∷ t) k = omega arith
full_some q r (Quiet ∷ t) k = full_some q (r + 1) t k.1

-- one that goes on hears a byte more
full_on : (q r : ℕ) (s u : List TalkItem) → IsFull q r s → IsFull q r (s ++ u) → (u ≡ []) ⊎ (0 < length (heard u))
full_on q r [] u k m = absurd k
full_on q r (Said b ends ∷ s) u k m = absurd k
full_on q r (Heard b ∷ []) [] k m = inl refl
full_on q r (Heard b ∷ []) (i ∷ u) k m = inr (full_some q 0 (i ∷ u) m)
full_on q r (Heard b ∷ i ∷ s) u k m = full_on q 0 (i ∷ s) u k m
full_on q r (Quiet ∷ s) u k m = full_on q (r + 1) s u k.1 m.1

-- the first q quiet waits in a row are the last
short_on : (q r : ℕ) (s u : List TalkItem) → IsShort q r s → IsShort q r (s ++ u) → u ≡ []
short_on q r [] [] k m = refl
short_on q r [] (Said b ends ∷ u) k m = absurd m
short_on q r [] (Heard b ∷ u) k m = absurd (omega (arith, k, m.0))
short_on q r [] (Quiet ∷ u) k m = absurd (omega (arith, k, m.0))
short_on q r (Said b ends ∷ s) u k m = absurd k
short_on q r (Heard b ∷ s) u k m = short_on q 0 s u k.1 m.1
short_on q r (Quiet ∷ s) u k m = short_on q (r + 1) s u k.1 m.1

-- a full answer has no q quiet waits in a row
short_not_full : (q r : ℕ) (s u : List TalkItem) → r < q → IsShort q r s → IsFull q r (s ++ u) → ⊥
short_not_full q r [] u below k m = omega (arith, below, k)
short_not_full q r (Said b ends ∷ s) u below k m = k
short_not_full q r (Heard b ∷ []) u below k m = omega (arith, below, k.1)
short_not_full q r (Heard b ∷ i ∷ s) u below k m = short_not_full q 0 (i ∷ s) u (omega arith) k.1 m
short_not_full q r (Quiet ∷ s) u below k m = short_not_full q (r + 1) s u m.0 k.1 m.1

comes_on : (q n : ℕ) (s u : List TalkItem) → AnswerComes q n s → AnswerComes q n (s ++ u) → u ≡ []
comes_on q n s u k m = elim (full_on q 0 s u k.0 m.0) [ inl e ↦ e | inr some ↦ absurd (omega (arith, heard_both s u, k.1, m.1, some)) ]

comes_not_short : (q n : ℕ) (s u : List TalkItem) → AnswerComes q n s → FallsShort q n (s ++ u) → ⊥
comes_not_short q n s u k m = omega (arith, heard_both s u, k.1, m.1)

-- an answer that ended does not go on
pub awaits_on : (q n : ℕ) (s u : List TalkItem) → 0 < q → Awaits q n s → Awaits q n (s ++ u) → u ≡ []
awaits_on q n s u some (inl k) (inl m) = comes_on q n s u k m
awaits_on q n s u some (inl k) (inr m) = absurd (comes_not_short q n s u k m)
awaits_on q n s u some (inr k) (inl m) = absurd (short_not_full q 0 s u some k.0 m.0)
awaits_on q n s u some (inr k) (inr m) = short_on q 0 s u k.0 m.0

-- of one talk one answer was awaited
pub one_answer : (q n : ℕ) → 0 < q → HasOneFront (Awaits q n)
one_answer q n some = same_front {P = Awaits q n} {Q = Awaits q n} (λ s u k m. awaits_on q n s u some k m) (λ s u k m. awaits_on q n s u some k m)

-- it did not both come and fall short
pub comes_or_short : (q n : ℕ) → 0 < q → NeverBoth (AnswerComes q n) (FallsShort q n)
comes_or_short q n some s t a b k m e = elim (either_front s t a b e) [
  | inl h ↦ comes_not_short q n s h.0 k (subst (FallsShort q n) h.1 m)
  | inr h ↦ short_not_full q 0 t h.0 some m.0 (subst (IsFull q 0) h.1 k.0)
]

-- what was cut off has not ended
pub cut_answer : (q n : ℕ) → 0 < q → (t : List TalkItem) → IsCutOff (FallsShort q n) t → ¬ Awaits q n t
cut_answer q n some t k m = k.some (awaits_on q n t k.rest some m (inr k.whole))

still_short : (q r n : ℕ) (t : List TalkItem) → StillFrom q r n t → IsShort q r t × (n + length (heard t) < flood_size)
still_short q r n [] k = (k.0, omega (arith, k.1))
still_short q r n (Said b ends ∷ t) k = absurd k
still_short q r n (Heard b ∷ t) k = let m = still_short q 0 (n + 1) t k.1 in ((k.0, m.0), omega (arith, m.1))
still_short q r n (Quiet ∷ t) k = let m = still_short q (r + 1) n t k.1 in ((k.0, m.0), m.1)

-- a settling that is still falls short of 65,536 bytes
pub still_falls_short : (q : ℕ) (t : List TalkItem) → Still q t → FallsShort q flood_size t
still_falls_short q t k = let m = still_short q 0 0 t k in (m.0, omega (arith, m.1))

-- a talk has one settling at most in front
pub one_still : (q : ℕ) → 0 < q → HasOneFront (Still q)
one_still q some s t a b k m e = one_answer q flood_size some s t a b (inr (still_falls_short q s k)) (inr (still_falls_short q t m)) e

pub one_flood : (q : ℕ) → 0 < q → HasOneFront (Flooding q)
one_flood q some s t a b k m e = one_answer q flood_size some s t a b (inl k) (inl m) e

pub still_or_flood : (q : ℕ) → 0 < q → NeverBoth (Still q) (Flooding q)
still_or_flood q some s t a b k m e = comes_or_short q flood_size some t s b a m (still_falls_short q s k) (sym e)

cut_settling : (q : ℕ) → 0 < q → (t : List TalkItem) → IsCutOff (Still q) t → (¬ Still q t) × (¬ Flooding q t)
cut_settling q some t k =
    let cut = cut_answer q flood_size some t (record { rest = k.rest; some = k.some; whole = still_falls_short q (t ++ k.rest) k.whole }) in
    (λ m. cut (inr (still_falls_short q t m)), λ m. cut (inl m))

pub ends_answer : (q n : ℕ) → 0 < q → EndsAnswer q n
ends_answer q n some = record { once = one_answer q n some; never_both = comes_or_short q n some; cut = cut_answer q n some }

pub ends_settling : (q : ℕ) → 0 < q → EndsSettling q
ends_settling q some = record {
  still_once = one_still q some;
  floods_once = one_flood q some;
  never_both = still_or_flood q some;
  cut = cut_settling q some;
}

-- what stands behind the first settling of two talks that are one
pub behind_first : (said : TalkItem) (x y s t r1 r2 a b : List TalkItem) → x ≡ said ∷ s ++ r1 → y ≡ said ∷ t ++ r2 → x ++ a ≡ y ++ b → s ++ (r1 ++ a) ≡ t ++ (r2 ++ b)
behind_first said x y s t r1 r2 a b f g e =
    let h : said ∷ ((s ++ r1) ++ a) ≡ said ∷ ((t ++ r2) ++ b) = ap (λ (z : List TalkItem). z ++ a) (sym f) ∙ e ∙ ap (λ (z : List TalkItem). z ++ b) g in
    let k : (s ++ r1) ++ a ≡ (t ++ r2) ++ b = cc in
    sym (append_assoc s r1 a) ∙ k ∙ append_assoc t r2 b

not_both : (b : Bool) → b ≡ true → b ≡ false → ⊥
not_both b e f = cc

-- two talks that begin with a line feed and its settling and go on so
pub whole_again : (said : TalkItem) (x y s t r1 r2 : List TalkItem) → x ≡ said ∷ s ++ r1 → y ≡ said ∷ t ++ r2 → s ≡ t → r1 ≡ r2 → x ≡ y
whole_again said x y s t r1 r2 f g e h = cc

same_awake : (s t : List TalkItem) (v : Bool) → s ≡ t → ends_awake (heard s) ≡ v → ends_awake (heard t) ≡ v
same_awake s t v e k = subst (λ (x : List TalkItem). ends_awake (heard x) ≡ v) e k

-- a talk has one wake at most in front
pub one_wake : (left : ℕ) (x y a b : List TalkItem) (v w : Bool) → Wakes left x v → Wakes left y w → x ++ a ≡ y ++ b → (x ≡ y) × (a ≡ b) × (v ≡ w)
one_wake zero x y a b v w k m e =
    let same : x ≡ y = k.0 ∙ sym m.0 in
    (same, append_cancel_left x a b (e ∙ ap (λ (z : List TalkItem). z ++ b) (sym same)), k.1 ∙ sym m.1)
one_wake (suc left) x y a b v w (s, r1, f, still, how) (t, r2, g, still2, how2) e =
    let first = one_still answer_waits (omega arith) s t (r1 ++ a) (r2 ++ b) still still2 (behind_first (Said 10 true) x y s t r1 r2 a b f g e) in
    elim how [
      | inl k ↦ elim how2 [
        | inl m ↦
            let none : r1 ≡ r2 = k.1 ∙ sym m.1 in
            (whole_again (Said 10 true) x y s t r1 r2 f g first.0 none, append_cancel_left r1 a b (first.1 ∙ ap (λ (z : List TalkItem). z ++ b) (sym none)), k.2 ∙ sym m.2)
        | inr m ↦ absurd (not_both _ (same_awake s t true first.0 k.0) m.0)
      ]
      | inr k ↦ elim how2 [
        | inl m ↦ absurd (not_both _ m.0 (same_awake s t false first.0 k.0))
        | inr m ↦
            let more = one_wake left r1 r2 a b v w k.1 m.1 first.1 in
            (whole_again (Said 10 true) x y s t r1 r2 f g first.0 more.0, more.1, more.2)
      ]
    ]

-- a talk that wakes does not flood
pub flood_or_wake : (left : ℕ) (x y a b : List TalkItem) (w : Bool) → WakeFloods left x → Wakes left y w → x ++ a ≡ y ++ b → ⊥
flood_or_wake zero x y a b w k m e = k
flood_or_wake (suc left) x y a b w (s, r1, f, how) (t, r2, g, still2, how2) e =
    let d = behind_first (Said 10 true) x y s t r1 r2 a b f g e in
    elim how [
      | inl k ↦ still_or_flood answer_waits (omega arith) t s (r2 ++ b) (r1 ++ a) still2 k.0 (sym d)
      | inr k ↦
          let first = one_still answer_waits (omega arith) s t (r1 ++ a) (r2 ++ b) k.0 still2 d in
          elim how2 [
            | inl m ↦ not_both _ m.0 (same_awake s t false first.0 k.1)
            | inr m ↦ flood_or_wake left r1 r2 a b w k.2 m.1 first.1
          ]
    ]

-- a talk floods at one place
pub one_wake_flood : (left : ℕ) (x y a b : List TalkItem) → WakeFloods left x → WakeFloods left y → x ++ a ≡ y ++ b → (x ≡ y) × (a ≡ b)
one_wake_flood zero x y a b k m e = absurd k
one_wake_flood (suc left) x y a b (s, r1, f, how) (t, r2, g, how2) e =
    let d = behind_first (Said 10 true) x y s t r1 r2 a b f g e in
    elim how [
      | inl k ↦ elim how2 [
        | inl m ↦
            let first = one_flood answer_waits (omega arith) s t (r1 ++ a) (r2 ++ b) k.0 m.0 d in
            let none : r1 ≡ r2 = k.1 ∙ sym m.1 in
            (whole_again (Said 10 true) x y s t r1 r2 f g first.0 none, append_cancel_left r1 a b (first.1 ∙ ap (λ (z : List TalkItem). z ++ b) (sym none)))
        | inr m ↦ absurd (still_or_flood answer_waits (omega arith) t s (r2 ++ b) (r1 ++ a) m.0 k.0 (sym d))
      ]
      | inr k ↦ elim how2 [
        | inl m ↦ absurd (still_or_flood answer_waits (omega arith) s t (r1 ++ a) (r2 ++ b) k.0 m.0 d)
        | inr m ↦
            let first = one_still answer_waits (omega arith) s t (r1 ++ a) (r2 ++ b) k.0 m.0 d in
            let more = one_wake_flood left r1 r2 a b k.2 m.2 first.1 in
            (whole_again (Said 10 true) x y s t r1 r2 f g first.0 more.0, more.1)
      ]
    ]

pub ends_wake : (left : ℕ) → EndsWake left
ends_wake left = record {
  once = λ awake s t a b k m e. (let o = one_wake left s t a b awake awake k m e in (o.0, o.1));
  same = λ s t a b v w k m e. (one_wake left s t a b v w k m e).2;
  floods_once = one_wake_flood left;
  never_both = λ awake s t a b k m e. flood_or_wake left s t a b awake k m e;
}
