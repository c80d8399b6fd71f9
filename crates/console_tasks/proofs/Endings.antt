-- What was said and heard tells where a task ends, and how.
use Rattle.std.proofs.Common.{◌≡◌, ℕ, ◌<◌, Bool, true, false, List, [], ◌∷◌, ◌++◌, refl, sym, ◌∙◌, ap, inl, inr, arith}
use Rattle.std.proofs.Common.{append_assoc, append-nil}
use Rattle.std.proofs.lemmas.List.{append_cancel_left}
use Rattle.serial_link.specs.declared.talk.TalkItem.{TalkItem}
use Rattle.serial_link.specs.Talk.{message}
use Rattle.wake_retry.specs.Parts.{heard, Still, Wakes, wake_tries, settled_waits}
use Rattle.wake_retry.proofs.Endings.{one_still, one_flood, one_answer, one_wake, one_wake_flood, still_or_flood, flood_or_wake}
use Rattle.console_tasks.specs.declared.end.TaskEnd.{TaskEnd}
use Rattle.console_tasks.specs.Exchange.{Exchange, quiets_for, shows}
use Rattle.console_tasks.specs.TaskTalk.{Exchanges, Floods, TaskTalk}
use Rattle.console_tasks.specs.OneEnd.{EndsOnce}

-- two fronts of one talk are the same, with one list of answers and one end
abbrev pub AreSame : List TalkItem → List TalkItem → List (List ℕ) → List (List ℕ) → TaskEnd → TaskEnd → Type 0
AreSame s t a b e f = (s ≡ t) × (a ≡ b) × (e ≡ f)

waits : (begins : Bool) → 0 < quiets_for begins
waits true = omega arith
waits false = omega arith

-- what stands behind a front of two talks that are one
behind : (m s t p q x y : List TalkItem) → s ≡ m ++ p → t ≡ m ++ q → s ++ x ≡ t ++ y → p ++ x ≡ q ++ y
behind m s t p q x y d g e =
    append_cancel_left m (p ++ x) (q ++ y)
    (sym (append_assoc m p x) ∙ ap (λ (z : List TalkItem). z ++ x) (sym d) ∙ e ∙ ap (λ (z : List TalkItem). z ++ y) g
    ∙ append_assoc m q y)

-- the exchanges of a task end once
exchanges_once : (xs : List Exchange) (s t x y : List TalkItem) (a b : List (List ℕ)) (e f : TaskEnd)
    → Exchanges xs s a e → Exchanges xs t b f → s ++ x ≡ t ++ y → AreSame s t a b e f
exchanges_once [] s t x y a b e f k m same = (k.0 ∙ sym m.0, k.1 ∙ sym m.1, k.2 ∙ sym m.2)
exchanges_once (z ∷ more) s t x y a b e f (u, r, d, w, how) (v, q, g, w2, how2) same =
    let both : (u ++ r) ++ x ≡ (v ++ q) ++ y = behind (message z.said) s t (u ++ r) (v ++ q) x y d g same in
    let one = one_answer (quiets_for z.begins) z.size (waits z.begins) u v (r ++ x) (q ++ y) w w2
    (sym (append_assoc u r x) ∙ both ∙ append_assoc v q y) in
    let shown : shows z (heard u) ≡ shows z (heard v) = ap (λ (l : List TalkItem). shows z (heard l)) one.0 in
    elim how [
      | inl k ↦ elim how2 [
        | inl m ↦
            let rest = exchanges_once more r q x y k.1 m.1 e f k.3 m.3 one.1 in (
              d ∙ ap (λ (l : List TalkItem). message z.said ++ (l ++ r)) one.0
                  ∙ ap (λ (l : List TalkItem). message z.said ++ (v ++ l)) rest.0 ∙ sym g,
              k.2 ∙ ap (λ (l : List TalkItem). heard l ∷ k.1) one.0 ∙ ap (λ (l : List (List ℕ)). heard v ∷ l) rest.1 ∙ sym m.2,
              rest.2,
            )
        | inr m ↦ absurd (m.0 (sym shown ∙ k.0))
      ]
      | inr k ↦ elim how2 [
        | inl m ↦ absurd (k.0 (shown ∙ m.0))
        | inr m ↦ (
          d ∙ ap (λ (l : List TalkItem). message z.said ++ (l ++ r)) one.0
              ∙ ap (λ (l : List TalkItem). message z.said ++ (v ++ l)) (k.1 ∙ sym m.1) ∙ sym g,
          k.2 ∙ sym m.2,
          k.3 ∙ shown ∙ sym m.3,
        )
      ]
    ]

-- a task that floods does so at one place
floods_once : (s t x y : List TalkItem) → Floods s → Floods t → s ++ x ≡ t ++ y → s ≡ t
floods_once s t x y (inl k) (inl m) same = (one_flood settled_waits (omega arith) s t x y k m same).0
floods_once s t x y (inl k) (inr (u, v, g, still, w)) same =
    absurd (still_or_flood settled_waits (omega arith) u s (v ++ y) x still k
    (sym (append_assoc u v y) ∙ ap (λ (l : List TalkItem). l ++ y) (sym g) ∙ sym same))
floods_once s t x y (inr (u, v, g, still, w)) (inl m) same =
    absurd (still_or_flood settled_waits (omega arith) u t (v ++ x) y still m
    (sym (append_assoc u v x) ∙ ap (λ (l : List TalkItem). l ++ x) (sym g) ∙ same))
floods_once s t x y (inr (u, v, g, still, w)) (inr (p, q, h, still2, w2)) same =
    let both : u ++ (v ++ x) ≡ p ++ (q ++ y) = sym (append_assoc u v x) ∙ ap (λ (l : List TalkItem). l ++ x) (sym g)
    ∙ same ∙ ap (λ (l : List TalkItem). l ++ y) h ∙ append_assoc p q y in
    let first = one_still settled_waits (omega arith) u p (v ++ x) (q ++ y) still still2 both in
    let second = one_wake_flood 3 v q x y w w2 first.1 in
    g ∙ ap (λ (l : List TalkItem). l ++ v) first.0 ∙ ap (λ (l : List TalkItem). p ++ l) second.0 ∙ sym h

-- a task that floods does not wake the console
floods_or_wakes : (s x u v rest y : List TalkItem) (awake : Bool) → Floods s → Still settled_waits u → Wakes wake_tries v awake
    → s ++ x ≡ u ++ (v ++ (rest ++ y)) → ⊥
floods_or_wakes s x u v rest y awake (inl k) still wakes same =
    still_or_flood settled_waits (omega arith) u s (v ++ (rest ++ y)) x still k (sym same)
floods_or_wakes s x u v rest y awake (inr (p, q, h, still2, w)) still wakes same =
    let both : p ++ (q ++ x) ≡ u ++ (v ++ (rest ++ y)) = sym (append_assoc p q x)
    ∙ ap (λ (l : List TalkItem). l ++ x) (sym h) ∙ same in
    let first = one_still settled_waits (omega arith) p u (q ++ x) (v ++ (rest ++ y)) still2 still both in
    flood_or_wake 3 q v x (rest ++ y) awake w wakes first.1

-- three parts of a talk, and what stands behind them
apart : (s u v r x : List TalkItem) → s ≡ u ++ (v ++ r) → s ++ x ≡ u ++ (v ++ (r ++ x))
apart s u v r x e =
    ap (λ (l : List TalkItem). l ++ x) e ∙ append_assoc u (v ++ r) x ∙ ap (λ (l : List TalkItem). u ++ l) (append_assoc v r x)

not_both : (b : Bool) → b ≡ true → b ≡ false → ⊥
not_both b e f = cc

-- of one talk one front at most is a task's
pub task_once : (xs : List Exchange) (s t x y : List TalkItem) (a b : List (List ℕ)) (e f : TaskEnd)
    → TaskTalk xs s a e → TaskTalk xs t b f → s ++ x ≡ t ++ y → AreSame s t a b e f
task_once xs s t x y a b e f (inr k) (inr m) same = (floods_once s t x y k.0 m.0 same, k.1 ∙ sym m.1, k.2 ∙ sym m.2)
task_once xs s t x y a b e f (inr k) (inl (u, v, r, awake, g, still, wakes, how)) same =
    absurd (floods_or_wakes s x u v r y awake k.0 still wakes (same ∙ apart t u v r y g))
task_once xs s t x y a b e f (inl (u, v, r, awake, g, still, wakes, how)) (inr m) same =
    absurd (floods_or_wakes t y u v r x awake m.0 still wakes (sym same ∙ apart s u v r x g))
task_once xs s t x y a b e f (inl (u, v, r, awake, g, still, wakes, how)) (inl (p, q, l, woke, h, still2, wakes2, how2)) same =
    let both : u ++ (v ++ (r ++ x)) ≡ p ++ (q ++ (l ++ y)) = sym (apart s u v r x g) ∙ same ∙ apart t p q l y h in
    let first = one_still settled_waits (omega arith) u p (v ++ (r ++ x)) (q ++ (l ++ y)) still still2 both in
    let second = one_wake 3 v q (r ++ x) (l ++ y) awake woke wakes wakes2 first.1 in
    let whole = λ (k : List TalkItem) (m : List TalkItem) (z : k ≡ m). ap (λ (n : List TalkItem). p ++ (q ++ n)) z in
    let until : s ≡ p ++ (q ++ r) = g ∙ ap (λ (n : List TalkItem). n ++ (v ++ r)) first.0
    ∙ ap (λ (n : List TalkItem). p ++ (n ++ r)) second.0 in
    elim how [
      | inl k ↦ elim how2 [
        | inl m ↦ (let rest = exchanges_once xs r l x y a b e f k.1 m.1 second.1 in
            (until ∙ whole r l rest.0 ∙ sym h, rest.1, rest.2))
        | inr m ↦ absurd (not_both woke (sym second.2 ∙ k.0) m.0)
      ]
      | inr k ↦ elim how2 [
        | inl m ↦ absurd (not_both woke m.0 (sym second.2 ∙ k.0))
        | inr m ↦ (until ∙ whole r l (k.1 ∙ sym m.1) ∙ sym h, k.2 ∙ sym m.2, k.3 ∙ sym m.3)
      ]
    ]

-- nothing is behind it
nothing_more : (t rest : List TalkItem) → t ≡ t ++ rest → rest ≡ []
nothing_more t rest e = append_cancel_left t rest [] (sym e ∙ sym (append-nil t))

pub ends_once : (xs : List Exchange) → EndsOnce (TaskTalk xs)
ends_once xs = record {
  once = λ t a b e f k m. (let o = task_once xs t t [] [] a b e f k m refl in (o.1, o.2));
  front = λ s t x y a b e f k m same. (task_once xs s t x y a b e f k m same).0;
  cut = λ t a e k m.
      let (answers, end, talk) = k.whole in
      k.some (nothing_more t k.rest (task_once xs t (t ++ k.rest) k.rest [] a answers e end m talk (sym (append-nil (t ++ k.rest)))).0);
}
