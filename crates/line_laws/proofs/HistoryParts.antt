-- Each history of climbing stamps splits so.
use Rattle.std.proofs.Common.{◌≡◌, ℕ, zero, suc, ◌+◌, ◌-◌, ◌<◌, ◌≤◌, Bool, true, false, List, [], ◌∷◌, ◌++◌, length, drop, take, refl, sym, ◌∙◌, ap, subst, arith, append_assoc, length-append, length-take}
use Rattle.std.specs.Prelude.{nat_lt}
use Rattle.console_ring.specs.History.{ring_size}
use Rattle.line_laws.proofs.Levels.{level_of, Ascend}
use Rattle.line_laws.proofs.GatheredRecords.{UpTo, Follows}

Split : ℕ → List (List ℕ) → Type 0
Split a l = (k : List (List ℕ)) × (new : List (List ℕ)) × (l ≡ k ++ new) × UpTo a k × Ascend a new

split : (a b : ℕ) (l : List (List ℕ)) → Ascend b l → Split a l
unfolding Split
split a b [] r = ([], [], refl, tt, tt)
split a b (x ∷ l) r = go (nat_lt a (level_of x)) refl (split a (level_of x) l r.1)
  where
    go : (t : Bool) → nat_lt a (level_of x) ≡ t → Split a l → Split a (x ∷ l)
    go true e q = ([], x ∷ l, refl, tt, (grind (arith, e), r.1))
    go false e q = (x ∷ q.0, q.1, ap (λ y. x ∷ y) q.2, (grind (arith, e), q.3), q.4)

rises_below : (b : ℕ) (old new : List (List ℕ)) (y : List ℕ) → Ascend b (old ++ y ∷ new) → b < (level_of y)
rises_below b [] new y r = r.0
rises_below b (x ∷ old) new y r = omega (arith, r.0, rises_below (level_of x) old new y r.1)

rises_up : (b : ℕ) (old new : List (List ℕ)) (y : List ℕ) → Ascend b (old ++ y ∷ new) → UpTo (level_of y) old
rises_up b [] new y r = tt
rises_up b (x ∷ old) new y r = (omega (arith, rises_below (level_of x) old new y r.1), rises_up (level_of x) old new y r.1)

rises_drop : (b c : ℕ) (l : List (List ℕ)) → Ascend b l → (d : ℕ) × Ascend d (drop c l)
rises_drop b zero l r = (b, r)
rises_drop b (suc c) [] r = (b, tt)
rises_drop b (suc c) (x ∷ l) r = rises_drop (level_of x) c l r.1

drop_take : (c : ℕ) (l k : List (List ℕ)) → c ≤ length l → drop c (take c l ++ k) ≡ k
drop_take zero l k h = refl
drop_take (suc c) [] k h = absurd (omega arith)
drop_take (suc c) (x ∷ l) k h = drop_take c l k (omega arith)

join_take : (c : ℕ) (l : List (List ℕ)) → take c l ++ drop c l ≡ l
join_take zero l = refl
join_take (suc c) [] = refl
join_take (suc c) (x ∷ l) = ap (λ y. x ∷ y) (join_take c l)

-- the parts that `Shows` speaks of are there for each history
pub parts : (b a : ℕ) (h : List (List ℕ)) → Ascend b h →
    (old : List (List ℕ)) × (new : List (List ℕ)) × (h ≡ old ++ new) × ((0 < length new) → Follows a old new) × UpTo a (drop (length h - ring_size) old) × Ascend a new × (length h ≤ length old + ring_size)
unfolding Split
parts b a h r =
    let c = length h - ring_size in
    let d = rises_drop b c h r in
    let q = split a d.0 (drop c h) d.1 in
    let old = take c h ++ q.0 in
    let e : h ≡ old ++ q.1 = sym (join_take c h) ∙ ap (λ y. take c h ++ y) q.2 ∙ sym (append_assoc (take c h) q.0 q.1) in
    (old, q.1, e, follows old q.1 e, subst (UpTo a) (sym (drop_take c h q.0 (omega arith))) q.3, q.4, omega (arith, length-append (take c h) q.0, length-take c h))
  where
    follows : (old new : List (List ℕ)) → h ≡ old ++ new → (0 < length new) → Follows a old new
    follows old [] e n = absurd (omega arith)
    follows old (y ∷ new) e n = rises_up b old new y (subst (Ascend b) e r)
