-- The records that the pages of a plan show are the newer ones, in order.
use Rattle.std.proofs.Common.{◌≡◌, ℕ, zero, suc, ◌+◌, ◌-◌, ◌*◌, ◌/◌, ◌%◌, ◌<◌, ◌≤◌, Bool, true, false, if◌then◌else◌, List, [], ◌∷◌, ◌++◌, length, drop, take, Option, Some, None, refl, sym, ◌∙◌, ap, subst, arith, append_assoc, append-nil, length-append}
use Rattle.std.specs.Prelude.{nat_lt, slice_get}
use Rattle.std.specs.Prelude.{filter}
use Rattle.console_ring.specs.declared.plan.Plan.{Plan}
use Rattle.console_ring.specs.History.{retained, ring_size, ring_pages}
use Rattle.console_ring.specs.Picture.{last_number_in, ring_slot, plan_from}
use Rattle.line_laws.proofs.Levels.{level_of, Ascend}

-- what a plan shows at a place of a page, and on so many places from one on
abbrev pub seen_at : List (List ℕ) → Plan → ℕ → ℕ → Option (List ℕ)
seen_at h p k j = ring_slot h (5 * ((p.first_page + k) % ring_pages) + j)

abbrev pub seen_from : List (List ℕ) → Plan → ℕ → ℕ → ℕ → List (Option (List ℕ))
seen_from h p k j zero = []
seen_from h p k j (suc left) = seen_at h p k j ∷ seen_from h p k (j + 1) left

-- on so many pages from k on
abbrev pub pages_from : List (List ℕ) → Plan → ℕ → ℕ → List (Option (List ℕ))
pages_from h p k zero = []
pages_from h p k (suc left) = seen_from h p k 0 5 ++ pages_from h p (k + 1) left

-- on n pages, without what stands below the place in the first
abbrev pub listed : List (List ℕ) → Plan → ℕ → List (Option (List ℕ))
listed h p n = drop p.place (pages_from h p 0 n)

-- those that rise over a
abbrev pub climbing : ℕ → List (Option (List ℕ)) → List (List ℕ)
climbing a [] = []
climbing a (None ∷ rs) = climbing a rs
climbing a (Some r ∷ rs) = if nat_lt a (level_of r) then r ∷ climbing (level_of r) rs else climbing a rs

abbrev pub above : ℕ → List (List ℕ) → List (List ℕ)
above a h = filter (λ r. nat_lt a (level_of r)) h

-- all stamps up to a
abbrev pub UpTo : ℕ → List (List ℕ) → Type 0
UpTo a [] = Unit {0}
UpTo a (r ∷ rs) = (level_of r ≤ a) × UpTo a rs

-- what came before is below the first that follows, or up to a where nothing follows
abbrev pub Follows : ℕ → List (List ℕ) → List (List ℕ) → Type 0
Follows a old [] = UpTo a old
Follows a old (x ∷ new) = UpTo (level_of x) old

-- the slots of the records that have numbers i and on, so many
abbrev pub run : List (List ℕ) → ℕ → ℕ → List (Option (List ℕ))
run h i zero = []
run h i (suc m) = ring_slot h (i % ring_size) ∷ run h (i + 1) m

run_more : (h : List (List ℕ)) (i m n : ℕ) → run h i (m + n) ≡ run h i m ++ run h (i + m) n
run_more h i zero n = let a : 0 + n ≡ n = omega arith in let b : i + 0 ≡ i = omega arith in rw (a, b)
run_more h i (suc m) n =
    let a : suc m + n ≡ suc (m + n) = omega arith in
    let b : i + suc m ≡ i + 1 + m = omega arith in
    ap (run h i) a ∙ ap (λ l. ring_slot h (i % ring_size) ∷ l) (run_more h (i + 1) m n) ∙ ap (λ x. run h i (suc m) ++ run h x n) (sym b)

run_drop : (h : List (List ℕ)) (m i n : ℕ) → drop m (run h i n) ≡ run h (i + m) (n - m)
run_drop h zero i n = let a : i + 0 ≡ i = omega arith in let b : n - 0 ≡ n = omega arith in rw (a, b)
run_drop h (suc m) i zero = let b : 0 - suc m ≡ 0 = omega arith in rw b
run_drop h (suc m) i (suc n) = run_drop h m (i + 1) n ∙ (let a : i + 1 + m ≡ i + suc m = omega arith in let b : suc n - suc m ≡ n - m = omega arith in rw (a, b))

slot_number : (f k j : ℕ) → j < 5 → 5 * ((f % ring_size / 5 + k) % ring_pages) + j ≡ (f - f % ring_size % 5 + 5 * k + j) % ring_size
slot_number f k j a = omega arith

module _ (h : List (List ℕ)) (f n : ℕ) where
  slots_run : (left k j : ℕ) → j + left ≤ 5 → seen_from h (plan_from f n) k j left ≡ run h (f - f % ring_size % 5 + 5 * k + j) left
  slots_run zero k j a = refl
  slots_run (suc left) k j a =
      let e = slot_number f k j (omega arith) in
      let b : f - f % ring_size % 5 + 5 * k + (j + 1) ≡ f - f % ring_size % 5 + 5 * k + j + 1 = omega arith in
      ap (λ s. ring_slot h s ∷ seen_from h (plan_from f n) k (j + 1) left) e ∙ ap (λ l. ring_slot h ((f - f % ring_size % 5 + 5 * k + j) % ring_size) ∷ l) (slots_run left k (j + 1) (omega arith) ∙ ap (λ x. run h x left) b)

  pages_run : (left k : ℕ) → pages_from h (plan_from f n) k left ≡ run h (f - f % ring_size % 5 + 5 * k) (5 * left)
  pages_run zero k = refl
  pages_run (suc left) k =
      let a : f - f % ring_size % 5 + 5 * k + 0 ≡ f - f % ring_size % 5 + 5 * k = omega arith in
      let b : f - f % ring_size % 5 + 5 * (k + 1) ≡ f - f % ring_size % 5 + 5 * k + 5 = omega arith in
      let c : 5 + 5 * left ≡ 5 * suc left = omega arith in
      ap (λ l. l ++ pages_from h (plan_from f n) (k + 1) left) (slots_run 5 k 0 (omega arith) ∙ ap (λ x. run h x 5) a)
      ∙ ap (λ l. run h (f - f % ring_size % 5 + 5 * k) 5 ++ l) (pages_run left (k + 1) ∙ ap (λ x. run h x (5 * left)) b)
      ∙ sym (run_more h (f - f % ring_size % 5 + 5 * k) 5 (5 * left)) ∙ ap (run h (f - f % ring_size % 5 + 5 * k)) c

  listed_run : (m : ℕ) → listed h (plan_from f n) m ≡ run h f (5 * m - f % ring_size % 5)
  listed_run m =
      let a : f - f % ring_size % 5 + 5 * 0 + f % ring_size % 5 ≡ f = omega arith in
      ap (drop (f % ring_size % 5)) (pages_run m 0) ∙ run_drop h (f % ring_size % 5) (f - f % ring_size % 5 + 5 * 0) (5 * m) ∙ ap (λ x. run h x (5 * m - f % ring_size % 5)) a

up_more : (a b : ℕ) (l : List (List ℕ)) (x : List ℕ) → a ≤ b → (level_of x) ≤ b → UpTo a l → UpTo b (l ++ x ∷ [])
up_more a b [] x h k u = (k, tt)
up_more a b (r ∷ l) x h k u = (omega (arith, u.0), up_more a b l x h k u.1)

get_at : (pre suf : List (List ℕ)) (x : List ℕ) → slice_get (pre ++ x ∷ suf) (length pre) ≡ Some x
get_at [] suf x = refl
get_at (r ∷ pre) suf x = get_at pre suf x

get_up : (a : ℕ) (l : List (List ℕ)) (i : ℕ) (r : List ℕ) → UpTo a l → slice_get l i ≡ Some r → (level_of r) ≤ a
get_up a [] i r u e = absurd cc
get_up a (x ∷ l) zero r u e = let z : x ≡ r = grind arith in subst (λ y. (level_of y) ≤ a) z u.0
get_up a (x ∷ l) (suc i) r u e = get_up a l i r u.1 e

past_one : (a : ℕ) (h : List (List ℕ)) (i : ℕ) (l : List (Option (List ℕ))) → UpTo a h → (t : Bool) (o : Option (List ℕ)) → slice_get h (last_number_in (length h) (i % ring_size)) ≡ o → climbing a l ≡ [] → climbing a ((if t then o else None) ∷ l) ≡ []
past_one a h i l u false o e more = more
past_one a h i l u true None e more = more
past_one a h i l u true (Some r) e more = let z : nat_lt a (level_of r) ≡ false = grind (arith, get_up a h (last_number_in (length h) (i % ring_size)) r u e) in rw z more

-- what is past the newest rises no more
past : (a : ℕ) (h : List (List ℕ)) (m i : ℕ) → UpTo a h → climbing a (run h i m) ≡ []
past a h zero i u = refl
past a h (suc m) i u = past_one a h i (run h (i + 1) m) u (nat_lt (i % ring_size) (length h)) (slice_get h (last_number_in (length h) (i % ring_size))) refl (past a h m (i + 1) u)

last_is : (n i : ℕ) → i < n → n ≤ i + ring_size → last_number_in n (i % ring_size) ≡ i
last_is n i a b = omega arith

slot_is : (pre suf : List (List ℕ)) (x : List ℕ) (h : List (List ℕ)) → h ≡ pre ++ x ∷ suf → length h ≤ length pre + ring_size → ring_slot h (length pre % ring_size) ≡ Some x
slot_is pre suf x h e n =
    let l : length h ≡ length pre + suc (length suf) = ap length e ∙ length-append pre (x ∷ suf) in
    let t : nat_lt (length pre % ring_size) (length h) ≡ true = grind (arith, l) in
    ap (λ b. if b then slice_get h (last_number_in (length h) (length pre % ring_size)) else None) t
    ∙ ap (slice_get h) (last_is (length h) (length pre) (omega (arith, l)) n)
    ∙ ap (λ y. slice_get y (length pre)) e ∙ get_at pre suf x

follows_more : (pre suf : List (List ℕ)) (x : List ℕ) → UpTo (level_of x) pre → Ascend (level_of x) suf → Follows (level_of x) (pre ++ x ∷ []) suf
follows_more pre [] x u r = up_more (level_of x) (level_of x) pre x (omega arith) (omega arith) u
follows_more pre (y ∷ suf) x u r = up_more (level_of x) (level_of y) pre x (omega (arith, r.0)) (omega (arith, r.0)) u

pub gathers : (m : ℕ) (pre suf : List (List ℕ)) (a : ℕ) (h : List (List ℕ)) → h ≡ pre ++ suf → Follows a pre suf → Ascend a suf → length h ≤ length pre + ring_size → climbing a (run h (length pre) m) ≡ take m suf
gathers zero pre suf a h e u r n = refl
gathers (suc m) pre [] a h e u r n = past a h (suc m) (length pre) (subst (UpTo a) (sym (e ∙ append-nil pre)) u)
gathers (suc m) pre (x ∷ suf) a h e u r n =
    let s = slot_is pre suf x h e n in
    let t : nat_lt a (level_of x) ≡ true = grind (arith, r.0) in
    let l : length (pre ++ x ∷ []) ≡ length pre + 1 = length-append pre (x ∷ []) in
    let k = gathers m (pre ++ x ∷ []) suf (level_of x) h (e ∙ sym (append_assoc pre (x ∷ []) suf)) (follows_more pre suf x u r.1) r.1 (omega (arith, n, l)) in
    ap (λ o. climbing a (o ∷ run h (length pre + 1) m)) s
    ∙ ap (λ b. if b then x ∷ climbing (level_of x) (run h (length pre + 1) m) else climbing a (run h (length pre + 1) m)) t
    ∙ ap (λ y. x ∷ y) (ap (λ i. climbing (level_of x) (run h i m)) (sym l) ∙ k)

filter_none : (a : ℕ) (l : List (List ℕ)) → UpTo a l → above a l ≡ []
filter_none a [] u = refl
filter_none a (x ∷ l) u = let t : nat_lt a (level_of x) ≡ false = grind (arith, u.0) in ap (λ b. if b then x ∷ above a l else above a l) t ∙ filter_none a l u.1

filter_all : (a b : ℕ) (l : List (List ℕ)) → a ≤ b → Ascend b l → above a l ≡ l
filter_all a b [] h r = refl
filter_all a b (x ∷ l) h r = let t : nat_lt a (level_of x) ≡ true = grind (arith, r.0) in ap (λ c. if c then x ∷ above a l else above a l) t ∙ ap (λ y. x ∷ y) (filter_all a (level_of x) l (omega (arith, r.0)) r.1)

newer_join : (a : ℕ) (k l : List (List ℕ)) → above a (k ++ l) ≡ above a k ++ above a l
newer_join a [] l = refl
newer_join a (x ∷ k) l = go (nat_lt a (level_of x)) (newer_join a k l)
  where
    go : (b : Bool) → above a (k ++ l) ≡ above a k ++ above a l → (if b then x ∷ above a (k ++ l) else above a (k ++ l)) ≡ (if b then x ∷ above a k else above a k) ++ above a l
    go true e = ap (λ y. x ∷ y) e
    go false e = e

up_drop : (a n : ℕ) (l : List (List ℕ)) → UpTo a l → UpTo a (drop n l)
up_drop a zero l u = u
up_drop a (suc n) [] u = tt
up_drop a (suc n) (x ∷ l) u = up_drop a n l u.1

drop_join : (n : ℕ) (k l : List (List ℕ)) → n ≤ length k → drop n (k ++ l) ≡ drop n k ++ l
drop_join zero k l h = refl
drop_join (suc n) [] l h = absurd (omega arith)
drop_join (suc n) (x ∷ k) l h = drop_join n k l (omega arith)

-- the above of those held are the ones past the front
pub newer_is : (pre suf : List (List ℕ)) (a : ℕ) (h : List (List ℕ)) → h ≡ pre ++ suf → UpTo a (drop (length h - ring_size) pre) → Ascend a suf → length h ≤ length pre + ring_size → above a (retained h) ≡ suf
newer_is pre suf a h e u r n =
    let c = length h - ring_size in
    ap (above a) (ap (drop c) e ∙ drop_join c pre suf (omega (arith, n))) ∙ newer_join a (drop c pre) suf
    ∙ ap (λ y. y ++ above a suf) (filter_none a (drop c pre) u) ∙ filter_all a a suf (omega arith) r

pub take_all : (m : ℕ) (l : List (List ℕ)) → length l ≤ m → take m l ≡ l
take_all zero [] h = refl
take_all zero (x ∷ l) h = absurd (omega arith)
take_all (suc m) [] h = refl
take_all (suc m) (x ∷ l) h = ap (λ y. x ∷ y) (take_all m l (omega arith))

-- what m pages of the plan give is the beginning of the above ones, and all pages give all
pub picture_law : (pre suf : List (List ℕ)) (a m : ℕ) (h : List (List ℕ)) → h ≡ pre ++ suf → Follows a pre suf → UpTo a (drop (length h - ring_size) pre) → Ascend a suf → length h ≤ length pre + ring_size →
    climbing a (listed h (plan_from (length pre) (length h)) m) ≡ take (5 * m - length pre % ring_size % 5) (above a (retained h))
picture_law pre suf a m h e w u r n =
    ap (climbing a) (listed_run h (length pre) (length h) m) ∙ gathers (5 * m - length pre % ring_size % 5) pre suf a h e w r n
    ∙ ap (take (5 * m - length pre % ring_size % 5)) (sym (newer_is pre suf a h e u r n))

pub whole_picture : (pre suf : List (List ℕ)) (a : ℕ) (h : List (List ℕ)) → h ≡ pre ++ suf → 0 < length suf → Follows a pre suf → UpTo a (drop (length h - ring_size) pre) → Ascend a suf → length h ≤ length pre + ring_size →
    climbing a (listed h (plan_from (length pre) (length h)) (plan_from (length pre) (length h)).pages) ≡ above a (retained h)
whole_picture pre suf a h e s w u r n =
    let p = plan_from (length pre) (length h) in
    let l : length h ≡ length pre + length suf = ap length e ∙ length-append pre suf in
    picture_law pre suf a p.pages h e w u r n ∙ take_all (5 * p.pages - length pre % ring_size % 5) (above a (retained h)) (omega (arith, l, ap length (newer_is pre suf a h e u r n)))
