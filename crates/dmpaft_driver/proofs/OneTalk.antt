-- What was said and heard tells which pages an attempt took, and how it ended.
use Rattle.std.proofs.Common.{◌≡◌, ◌≢◌, ℕ, zero, suc, ◌+◌, Bool, true, false, List, [], ◌∷◌, ◌++◌, refl, sym, ◌∙◌, ap, subst, inl, inr, arith, add-one, append_assoc, append-nil}
use Rattle.std.proofs.lemmas.List.{append_cancel_left}
use Rattle.serial_link.specs.Talk.{message}
use Rattle.serial_link.specs.declared.talk.TalkItem.{TalkItem}
use Rattle.serial_link.specs.declared.talk.TalkItem.TheVariants.{Said}
use Rattle.wake_retry.specs.Parts.{heard, answer_waits, settled_waits}
use Rattle.wake_retry.proofs.Endings.{one_answer, one_still, one_wake, still_or_flood, flood_or_wake}
use Rattle.dmpaft_pump.specs.declared.outcome.Trouble.{Trouble}
use Rattle.dmpaft_pump.specs.declared.outcome.Trouble.TheVariants.{Asleep, NoAck}
use Rattle.dmpaft_pump.specs.Header.{IsHeader, IsNoHeader, first_of}
use Rattle.dmpaft_driver.specs.Attempt.{Pages, Heads, Requests, Attempt, End, esc, last_said}
use Rattle.dmpaft_pump.specs.Command.{dmpaft}
use Rattle.dmpaft_pump.specs.Pump.{most_askings}
use Rattle.dmpaft_driver.proofs.NoHeader.{no_header}
use Rattle.dmpaft_driver.proofs.Troubles.{one_header, one_trouble}
use Rattle.dmpaft_driver.proofs.Askings.{Came, begins_saying, one_askings}

-- One attempt is the front of another, with these items behind it: its pages are the first of the other's, at the same
-- place; they are all of them where nothing is behind it, and where they are and the other was refused, nothing is.
pub record Extends (place place' : ℕ) (taken taken' : List (List ℕ)) (end end' : End) (behind : List TalkItem) : Type 0 where
  pub more : List (List ℕ)
  pub first : taken' ≡ taken ++ more
  pub places : taken ≢ [] → place ≡ place'
  pub whole : behind ≡ [] → (more ≡ []) × (end ≡ end')
  pub refused : end' ≡ End.Refused → more ≡ [] → behind ≡ []

last_next : (k : ℕ) → last_said (k + 1) ≡ Said 6 true ∷ []
last_next k = ap last_said (add-one k)

-- behind a page something is said
pub pages_say : (left k : ℕ) (talk : List TalkItem) (taken : List (List ℕ)) (end : End) → Pages left (k + 1) talk taken end → (rest : List TalkItem) × (talk ≡ Said 6 true ∷ rest)
pages_say zero k talk taken end x = ([], x.0 ∙ last_next k)
pages_say (suc left) k talk taken end (inl (t, rest, bytes, more, e, takes, is, how)) =
    let b = begins_saying most_askings (k + 1) 6 t (Came.Page bytes) takes in
    (b.0 ++ rest, e ∙ ap (λ (x : List TalkItem). x ++ rest) b.1)
pages_say (suc left) k talk taken end (inr (inl (t, trouble, e, misses, is, how))) =
    let b = begins_saying most_askings (k + 1) 6 t (Came.Missed trouble) misses in
    (b.0 ++ esc, e ∙ ap (λ (x : List TalkItem). x ++ esc) b.1)
pages_say (suc left) k talk taken end (inr (inr (floods, is, how))) = begins_saying most_askings (k + 1) 6 talk Came.Floods floods

pages_some : (left k : ℕ) (talk : List TalkItem) (taken : List (List ℕ)) (end : End) → talk ≡ [] → Pages left (k + 1) talk taken end → ⊥
pages_some left k talk taken end none x = let s = pages_say left k talk taken end x in let e : [] ≡ Said 6 true ∷ s.0 = sym none ∙ s.1 in cc

-- a refused end took a page
pub refused_some : (left k : ℕ) (talk : List TalkItem) (taken : List (List ℕ)) → Pages left k talk taken End.Refused → taken ≢ []
refused_some zero k talk taken x none = let e : End.Refused ≡ End.Whole = x.2 in cc
refused_some (suc left) k talk taken (inl (t, rest, bytes, more, e, takes, is, how)) none = let f : [] ≡ bytes ∷ more = sym none ∙ is in cc
refused_some (suc left) k talk taken (inr (inl (t, trouble, e, misses, is, how))) none = cc
refused_some (suc left) k talk taken (inr (inr (floods, is, how))) none = cc

first_nil : (a b : List TalkItem) → a ++ b ≡ [] → a ≡ []
first_nil [] b e = refl
first_nil (i ∷ a) b e = cc

same_page : (p q : List ℕ) → Came.Page p ≡ Came.Page q → p ≡ q
same_page p q e = cc

same_trouble : (p q : Trouble) → Came.Missed p ≡ Came.Missed q → p ≡ q
same_trouble p q e = cc

page_not_missed : (p : List ℕ) (q : Trouble) → Came.Page p ≡ Came.Missed q → ⊥
page_not_missed p q e = cc

page_not_flood : (p : List ℕ) → Came.Page p ≡ Came.Floods → ⊥
page_not_flood p e = cc

missed_not_flood : (p : Trouble) → Came.Missed p ≡ Came.Floods → ⊥
missed_not_flood p e = cc

pub failed_not_refused : (trouble : Trouble) → End.Failed trouble ≡ End.Refused → ⊥
failed_not_refused trouble e = cc

pub flooded_not_refused : End.Flooded ≡ End.Refused → ⊥
flooded_not_refused e = cc

-- two talks that go on as one
behind_two : (x y t1 r1 t2 r2 a : List TalkItem) → x ≡ t1 ++ r1 → y ≡ t2 ++ r2 → x ++ a ≡ y → t1 ++ (r1 ++ a) ≡ t2 ++ r2
behind_two x y t1 r1 t2 r2 a e f g = sym (append_assoc t1 r1 a) ∙ ap (λ (z : List TalkItem). z ++ a) (sym e) ∙ g ∙ f

-- no page on either side, and the same end
no_pages : (p q : ℕ) (A B : List (List ℕ)) (e f : End) (a : List TalkItem) → A ≡ [] → B ≡ [] → e ≡ f → (f ≡ End.Refused → ⊥) → Extends p q A B e f a
no_pages p q A B e f a none also same other = record {
  more = [];
  first = also ∙ sym (append-nil A ∙ none);
  places = λ some. absurd (some none);
  whole = λ nothing. (refl, same);
  refused = λ is no. absurd (other is);
}

-- one page more in front of both
page_more : (p : ℕ) (A B m1 m2 : List (List ℕ)) (by1 by2 : List ℕ) (e f : End) (a : List TalkItem) → A ≡ by1 ∷ m1 → B ≡ by2 ∷ m2 → by1 ≡ by2 → Extends p p m1 m2 e f a → Extends p p A B e f a
page_more p A B m1 m2 by1 by2 e f a is are same g = record {
  more = g.more;
  first = are ∙ ap (λ (x : List ℕ). x ∷ m2) (sym same) ∙ ap (λ (x : List (List ℕ)). by1 ∷ x) g.first ∙ ap (λ (x : List (List ℕ)). x ++ g.more) (sym is);
  places = λ some. refl;
  whole = g.whole;
  refused = g.refused;
}

pub pages_go : (left k p : ℕ) (x y a : List TalkItem) (A B : List (List ℕ)) (e f : End) → Pages left k x A e → Pages left k y B f → x ++ a ≡ y → Extends p p A B e f a
pages_go zero k p x y a A B e f g h i = record {
  more = [];
  first = h.1 ∙ sym (append-nil A ∙ g.1);
  places = λ some. refl;
  whole = λ none. (refl, g.2 ∙ sym h.2);
  refused = λ is none. (let c : End.Whole ≡ End.Refused = sym h.2 ∙ is in cc);
}
pages_go (suc left) k p x y a A B e f (inl (t1, r1, by1, m1, e1, takes1, is1, how1)) (inl (t2, r2, by2, m2, e2, takes2, is2, how2)) i =
    let o = one_askings most_askings k 6 t1 t2 (r1 ++ a) r2 (Came.Page by1) (Came.Page by2) takes1 takes2 (behind_two x y t1 r1 t2 r2 a e1 e2 i) in
    let same = same_page by1 by2 o.0 in
    elim how1 [
      | inl g ↦ elim how2 [
        | inl h ↦ page_more p A B m1 m2 by1 by2 e f a is1 is2 same (pages_go left (k + 1) p r1 r2 a m1 m2 e f g h o.2)
        | inr h ↦ absurd (pages_some left k r1 m1 e (first_nil r1 a (o.2 ∙ h.0)) g)
      ]
      | inr g ↦ elim how2 [
        | inl h ↦
            let behind : a ≡ r2 = ap (λ (z : List TalkItem). z ++ a) (sym g.0) ∙ o.2 in
            page_more p A B m1 m2 by1 by2 e f a is1 is2 same (record {
              more = m2;
              first = ap (λ (z : List (List ℕ)). z ++ m2) (sym g.1);
              places = λ some. refl;
              whole = λ none. absurd (pages_some left k r2 m2 f (sym behind ∙ none) h);
              refused = λ is none. absurd (refused_some left (k + 1) r2 m2 (subst (λ (z : End). Pages left (k + 1) r2 m2 z) is h) none);
            })
        | inr h ↦
            let behind : a ≡ [] = ap (λ (z : List TalkItem). z ++ a) (sym g.0) ∙ o.2 ∙ h.0 in
            page_more p A B m1 m2 by1 by2 e f a is1 is2 same (record {
              more = [];
              first = h.1 ∙ sym (append-nil m1 ∙ g.1);
              places = λ some. refl;
              whole = λ none. (refl, g.2 ∙ sym h.2);
              refused = λ is none. behind;
            })
      ]
    ]
pages_go (suc left) k p x y a A B e f (inl (t1, r1, by1, m1, e1, takes1, is1, how1)) (inr (inl (t2, u2, e2, misses2, is2, end2))) i =
    absurd (page_not_missed by1 u2 (one_askings most_askings k 6 t1 t2 (r1 ++ a) esc (Came.Page by1) (Came.Missed u2) takes1 misses2 (behind_two x y t1 r1 t2 esc a e1 e2 i)).0)
pages_go (suc left) k p x y a A B e f (inl (t1, r1, by1, m1, e1, takes1, is1, how1)) (inr (inr (floods2, is2, end2))) i =
    absurd (page_not_flood by1 (one_askings most_askings k 6 t1 y (r1 ++ a) [] (Came.Page by1) Came.Floods takes1 floods2 (behind_two x y t1 r1 y [] a e1 (sym (append-nil y)) i)).0)
pages_go (suc left) k p x y a A B e f (inr (inl (t1, u1, e1, misses1, is1, end1))) (inl (t2, r2, by2, m2, e2, takes2, is2, how2)) i =
    absurd (page_not_missed by2 u1 (sym (one_askings most_askings k 6 t1 t2 (esc ++ a) r2 (Came.Missed u1) (Came.Page by2) misses1 takes2 (behind_two x y t1 esc t2 r2 a e1 e2 i)).0))
pages_go (suc left) k p x y a A B e f (inr (inl (t1, u1, e1, misses1, is1, end1))) (inr (inl (t2, u2, e2, misses2, is2, end2))) i =
    let o = one_askings most_askings k 6 t1 t2 (esc ++ a) esc (Came.Missed u1) (Came.Missed u2) misses1 misses2 (behind_two x y t1 esc t2 esc a e1 e2 i) in
    no_pages p p A B e f a is1 is2 (end1 ∙ ap (λ z. End.Failed z) (same_trouble u1 u2 o.0) ∙ sym end2) (λ is. failed_not_refused u2 (sym end2 ∙ is))
pages_go (suc left) k p x y a A B e f (inr (inl (t1, u1, e1, misses1, is1, end1))) (inr (inr (floods2, is2, end2))) i =
    absurd (missed_not_flood u1 (one_askings most_askings k 6 t1 y (esc ++ a) [] (Came.Missed u1) Came.Floods misses1 floods2 (behind_two x y t1 esc y [] a e1 (sym (append-nil y)) i)).0)
pages_go (suc left) k p x y a A B e f (inr (inr (floods1, is1, end1))) (inl (t2, r2, by2, m2, e2, takes2, is2, how2)) i =
    absurd (page_not_flood by2 (sym (one_askings most_askings k 6 x t2 a r2 Came.Floods (Came.Page by2) floods1 takes2 (i ∙ e2)).0))
pages_go (suc left) k p x y a A B e f (inr (inr (floods1, is1, end1))) (inr (inl (t2, u2, e2, misses2, is2, end2))) i =
    absurd (missed_not_flood u2 (sym (one_askings most_askings k 6 x t2 a esc Came.Floods (Came.Missed u2) floods1 misses2 (i ∙ e2)).0))
pages_go (suc left) k p x y a A B e f (inr (inr (floods1, is1, end1))) (inr (inr (floods2, is2, end2))) i =
    no_pages p p A B e f a is1 is2 (end1 ∙ sym end2) (λ is. flooded_not_refused (sym end2 ∙ is))

-- what is behind a message of both
behind_message : (said : List ℕ) (x y t1 r1 t2 r2 a : List TalkItem) → x ≡ message said ++ (t1 ++ r1) → y ≡ message said ++ (t2 ++ r2) → x ++ a ≡ y → t1 ++ (r1 ++ a) ≡ t2 ++ r2
behind_message said x y t1 r1 t2 r2 a e f g =
    sym (append_assoc t1 r1 a) ∙ append_cancel_left (message said) ((t1 ++ r1) ++ a) (t2 ++ r2)
    (sym (append_assoc (message said) (t1 ++ r1) a) ∙ ap (λ (z : List TalkItem). z ++ a) (sym e) ∙ g ∙ f)

-- the same place by another name
at_place : (p q : ℕ) (A B : List (List ℕ)) (e f : End) (a : List TalkItem) → p ≡ q → Extends p p A B e f a → Extends p q A B e f a
at_place p q A B e f a is g = subst (λ n. Extends p n A B e f a) is g

heads_by : (frame : List ℕ) (x y a : List TalkItem) (p q : ℕ) (A B : List (List ℕ)) (e f : End) → Heads frame x p A e → Heads frame y q B f → x ++ a ≡ y → Extends p q A B e f a
heads_by frame x y a p q A B e f (t1, r1, e1, w1, how1) (t2, r2, e2, w2, how2) i =
    let first = one_answer answer_waits 7 (omega arith) t1 t2 (r1 ++ a) r2 w1 w2 (behind_message frame x y t1 r1 t2 r2 a e1 e2 i) in
    elim how1 [
      | inl g ↦ elim how2 [
        | inl h ↦
            let same = one_header (heard t2) g.0 p h.0 q (subst (λ (z : List TalkItem). IsHeader (heard z) g.0 p) first.0 g.1) h.1 in
            at_place p q A B e f a same.1 (pages_go g.0 0 p r1 r2 a A B e f g.2 (subst (λ n. Pages n 0 r2 B f) (sym same.0) h.2) first.1)
        | inr h ↦ absurd (no_header (heard t2) h.0 g.0 p h.1 (subst (λ (z : List TalkItem). IsHeader (heard z) g.0 p) first.0 g.1))
      ]
      | inr g ↦ elim how2 [
        | inl h ↦ absurd (no_header (heard t2) g.0 h.0 q (subst (λ (z : List TalkItem). IsNoHeader (heard z) g.0) first.0 g.1) h.1)
        | inr h ↦
            let same = one_trouble (heard t2) g.0 h.0 (subst (λ (z : List TalkItem). IsNoHeader (heard z) g.0) first.0 g.1) h.1 in
            no_pages p q A B e f a g.3 h.3 (g.4 ∙ ap (λ z. End.Failed z) same ∙ sym h.4) (λ is. failed_not_refused h.0 (sym h.4 ∙ is))
      ]
    ]

requests_go : (frame : List ℕ) (x y a : List TalkItem) (p q : ℕ) (A B : List (List ℕ)) (e f : End) → Requests frame x p A e → Requests frame y q B f → x ++ a ≡ y → Extends p q A B e f a
requests_go frame x y a p q A B e f (t1, r1, e1, w1, how1) (t2, r2, e2, w2, how2) i =
    let first = one_answer answer_waits 1 (omega arith) t1 t2 (r1 ++ a) r2 w1 w2 (behind_message dmpaft x y t1 r1 t2 r2 a e1 e2 i) in
    elim how1 [
      | inl g ↦ elim how2 [
        | inl h ↦ heads_by frame r1 r2 a p q A B e f g.1 h.1 first.1
        | inr h ↦ absurd (h.0 (ap heard (sym first.0) ∙ g.0))
      ]
      | inr g ↦ elim how2 [
        | inl h ↦ absurd (g.0 (ap heard first.0 ∙ h.0))
        | inr h ↦ no_pages p q A B e f a g.2 h.2 (g.3 ∙ ap (λ (z : List TalkItem). End.Failed (NoAck (first_of (heard z)))) first.0 ∙ sym h.3) (λ is. failed_not_refused (NoAck (first_of (heard t2))) (sym h.3 ∙ is))
      ]
    ]

clash : (b : Bool) → b ≡ true → b ≡ false → ⊥
clash b e f = cc

-- the front of an attempt, and the whole
pub attempt_goes : (frame : List ℕ) (x y a : List TalkItem) (p q : ℕ) (A B : List (List ℕ)) (e f : End) → Attempt frame x p A e → Attempt frame y q B f → x ++ a ≡ y → Extends p q A B e f a
attempt_goes frame x y a p q A B e f (inl (s1, t1, r1, b1, e1, still1, w1, how1)) (inl (s2, t2, r2, b2, e2, still2, w2, how2)) i =
    let first = one_still settled_waits (omega arith) s1 s2 ((t1 ++ r1) ++ a) (t2 ++ r2) still1 still2 (behind_two x y s1 (t1 ++ r1) s2 (t2 ++ r2) a e1 e2 i) in
    let woke = one_wake 3 t1 t2 (r1 ++ a) r2 b1 b2 w1 w2 (sym (append_assoc t1 r1 a) ∙ first.1) in
    elim how1 [
      | inl g ↦ elim how2 [
        | inl h ↦ requests_go frame r1 r2 a p q A B e f g.1 h.1 woke.1
        | inr h ↦ absurd (clash b2 (sym woke.2 ∙ g.0) h.0)
      ]
      | inr g ↦ elim how2 [
        | inl h ↦ absurd (clash b2 h.0 (sym woke.2 ∙ g.0))
        | inr h ↦ no_pages p q A B e f a g.2 h.2 (g.3 ∙ sym h.3) (λ is. failed_not_refused Asleep (sym h.3 ∙ is))
      ]
    ]
attempt_goes frame x y a p q A B e f (inl (s1, t1, r1, b1, e1, still1, w1, how1)) (inr (inl (flood2, is2, end2))) i =
    absurd (still_or_flood settled_waits (omega arith) s1 y ((t1 ++ r1) ++ a) [] still1 flood2 (behind_two x y s1 (t1 ++ r1) y [] a e1 (sym (append-nil y)) i))
attempt_goes frame x y a p q A B e f (inl (s1, t1, r1, b1, e1, still1, w1, how1)) (inr (inr (s2, t2, e2, still2, floods2, is2, end2))) i =
    let first = one_still settled_waits (omega arith) s1 s2 ((t1 ++ r1) ++ a) t2 still1 still2 (behind_two x y s1 (t1 ++ r1) s2 t2 a e1 e2 i) in
    absurd (flood_or_wake 3 t2 t1 [] (r1 ++ a) b1 floods2 w1 (append-nil t2 ∙ sym first.1 ∙ append_assoc t1 r1 a))
attempt_goes frame x y a p q A B e f (inr (inl (flood1, is1, end1))) (inl (s2, t2, r2, b2, e2, still2, w2, how2)) i =
    absurd (still_or_flood settled_waits (omega arith) s2 x (t2 ++ r2) a still2 flood1 (sym e2 ∙ sym i))
attempt_goes frame x y a p q A B e f (inr (inl (flood1, is1, end1))) (inr (inl (flood2, is2, end2))) i =
    no_pages p q A B e f a is1 is2 (end1 ∙ sym end2) (λ is. flooded_not_refused (sym end2 ∙ is))
attempt_goes frame x y a p q A B e f (inr (inl (flood1, is1, end1))) (inr (inr (s2, t2, e2, still2, floods2, is2, end2))) i =
    absurd (still_or_flood settled_waits (omega arith) s2 x t2 a still2 flood1 (sym e2 ∙ sym i))
attempt_goes frame x y a p q A B e f (inr (inr (s1, t1, e1, still1, floods1, is1, end1))) (inl (s2, t2, r2, b2, e2, still2, w2, how2)) i =
    let first = one_still settled_waits (omega arith) s1 s2 (t1 ++ a) (t2 ++ r2) still1 still2 (behind_two x y s1 t1 s2 (t2 ++ r2) a e1 e2 i) in
    absurd (flood_or_wake 3 t1 t2 a r2 b2 floods1 w2 first.1)
attempt_goes frame x y a p q A B e f (inr (inr (s1, t1, e1, still1, floods1, is1, end1))) (inr (inl (flood2, is2, end2))) i =
    absurd (still_or_flood settled_waits (omega arith) s1 y (t1 ++ a) [] still1 flood2 (behind_two x y s1 t1 y [] a e1 (sym (append-nil y)) i))
attempt_goes frame x y a p q A B e f (inr (inr (s1, t1, e1, still1, floods1, is1, end1))) (inr (inr (s2, t2, e2, still2, floods2, is2, end2))) i =
    no_pages p q A B e f a is1 is2 (end1 ∙ sym end2) (λ is. flooded_not_refused (sym end2 ∙ is))
