-- What was said and heard tells how the askings for a page end.
use Rattle.std.proofs.Common.{◌≡◌, ◌≢◌, ℕ, zero, suc, ◌⊎◌, Bool, true, false, List, [], ◌∷◌, ◌++◌, refl, sym, ◌∙◌, ap, subst, inl, inr, arith, append_assoc}
use Rattle.std.specs.Prelude.{slice_index}
use Rattle.vantage_frames.specs.Slots.{page_size}
use Rattle.serial_link.specs.declared.talk.TalkItem.{TalkItem}
use Rattle.serial_link.specs.declared.talk.TalkItem.TheVariants.{Said}
use Rattle.wake_retry.specs.Parts.{heard, Still, Flooding, Awaits, settled_waits, answer_waits}
use Rattle.wake_retry.proofs.Endings.{one_answer, one_still, one_flood, still_or_flood, behind_first, whole_again}
use Rattle.dmpaft_pump.specs.declared.outcome.Trouble.{Trouble}
use Rattle.dmpaft_pump.specs.declared.outcome.Trouble.TheVariants.{PageLost, PageAhead}
use Rattle.dmpaft_pump.specs.Page.{is_page_for, is_ahead, next_said}
use Rattle.dmpaft_driver.specs.Attempt.{TakesPage, Misses, AskFloods}

-- what came of the askings for a page
pub data Came : Type 0 where
  Page : (bytes : List ℕ) → Came
  Missed : (trouble : Trouble) → Came
  Floods : Came

-- within so many askings for page k, of which the first says b, this comes
abbrev pub Askings : ℕ → ℕ → ℕ → List TalkItem → Came → Type 0
Askings left k b talk (Came.Page bytes) = TakesPage left k b talk bytes
Askings left k b talk (Came.Missed trouble) = Misses left k b talk trouble
Askings left k b talk Came.Floods = AskFloods left k b talk

-- with these bytes the askings are over
abbrev Over : ℕ → ℕ → List ℕ → List TalkItem → Came → Type 0
Over left k bytes rest (Came.Page got) = (is_page_for k bytes ≡ true) × (rest ≡ []) × (got ≡ bytes)
Over left k bytes rest (Came.Missed trouble) =
    (is_page_for k bytes ≡ false)
    × (((is_ahead k bytes ≡ true) × (rest ≡ []) × (trouble ≡ PageAhead k (slice_index bytes 0)))
    ⊎ ((is_ahead k bytes ≡ false) × (left ≡ 0) × (rest ≡ []) × (trouble ≡ PageLost k)))
Over left k bytes rest Came.Floods = (is_page_for k bytes ≡ false) × (is_ahead k bytes ≡ false) × (left ≢ 0) × Flooding settled_waits rest

-- with these bytes they go on
record AskedAgain (left k : ℕ) (bytes : List ℕ) (rest : List TalkItem) (came : Came) : Type 0 where
  pub not_this : is_page_for k bytes ≡ false
  pub not_ahead : is_ahead k bytes ≡ false
  pub s : List TalkItem
  pub more : List TalkItem
  pub is : rest ≡ s ++ more
  pub still : Still settled_waits s
  pub later : Askings left k (next_said k bytes) more came

-- the first asking, and what is behind it
record First (left k b : ℕ) (talk : List TalkItem) (came : Came) : Type 0 where
  pub t : List TalkItem
  pub rest : List TalkItem
  pub is : talk ≡ Said b true ∷ t ++ rest
  pub awaits : Awaits answer_waits page_size t
  pub how : Over left k (heard t) rest came ⊎ AskedAgain left k (heard t) rest came

unroll : (left k b : ℕ) (talk : List TalkItem) (came : Came) → Askings (suc left) k b talk came → First left k b talk came
unroll left k b talk (Came.Page got) (t, rest, e, w, inl x) = record { t = t; rest = rest; is = e; awaits = w; how = inl x }
unroll left k b talk (Came.Page got) (t, rest, e, w, inr (f, g, (s, more, is, still, x))) =
    record { t = t; rest = rest; is = e; awaits = w; how = inr (record { not_this = f; not_ahead = g; s = s; more = more; is = is; still = still; later = x }) }
unroll left k b talk (Came.Missed trouble) (t, rest, e, w, f, inl x) = record { t = t; rest = rest; is = e; awaits = w; how = inl (f, inl x) }
unroll left k b talk (Came.Missed trouble) (t, rest, e, w, f, inr (inl x)) = record { t = t; rest = rest; is = e; awaits = w; how = inl (f, inr x) }
unroll left k b talk (Came.Missed trouble) (t, rest, e, w, f, inr (inr (g, (s, more, is, still, x)))) =
    record { t = t; rest = rest; is = e; awaits = w; how = inr (record { not_this = f; not_ahead = g; s = s; more = more; is = is; still = still; later = x }) }
unroll left k b talk Came.Floods (t, rest, e, w, f, g, inl (some, x)) = record { t = t; rest = rest; is = e; awaits = w; how = inl (f, g, some, x) }
unroll left k b talk Came.Floods (t, rest, e, w, f, g, inr (s, more, is, still, x)) =
    record { t = t; rest = rest; is = e; awaits = w; how = inr (record { not_this = f; not_ahead = g; s = s; more = more; is = is; still = still; later = x }) }

-- no asking is no end
pub none_left : (k b : ℕ) (talk : List TalkItem) (came : Came) → Askings 0 k b talk came → ⊥
none_left k b talk (Came.Page got) x = x
none_left k b talk (Came.Missed trouble) x = x
none_left k b talk Came.Floods x = x

-- the first byte said
pub begins_saying : (left k b : ℕ) (talk : List TalkItem) (came : Came) → Askings left k b talk came → (rest : List TalkItem) × (talk ≡ Said b true ∷ rest)
begins_saying zero k b talk came x = absurd (none_left k b talk came x)
begins_saying (suc left) k b talk came x = let u = unroll left k b talk came x in (u.t ++ u.rest, u.is)

clash : (b : Bool) → b ≡ true → b ≡ false → ⊥
clash b e f = cc

-- both behind nothing
alone : (r1 r2 a c : List TalkItem) → r1 ≡ [] → r2 ≡ [] → r1 ++ a ≡ r2 ++ c → (r1 ≡ r2) × (a ≡ c)
alone r1 r2 a c e f g = (e ∙ sym f, ap (λ (x : List TalkItem). x ++ a) (sym e) ∙ g ∙ ap (λ (x : List TalkItem). x ++ c) f)

over_once : (left k : ℕ) (bytes : List ℕ) (r1 r2 a c : List TalkItem) (p q : Came) → Over left k bytes r1 p → Over left k bytes r2 q → r1 ++ a ≡ r2 ++ c → (p ≡ q) × ((r1 ≡ r2) × (a ≡ c))
over_once left k bytes r1 r2 a c (Came.Page g) (Came.Page h) x y e = (ap (λ (z : List ℕ). Came.Page z) (x.2 ∙ sym y.2), alone r1 r2 a c x.1 y.1 e)
over_once left k bytes r1 r2 a c (Came.Page g) (Came.Missed u) x y e = absurd (clash _ x.0 y.0)
over_once left k bytes r1 r2 a c (Came.Page g) Came.Floods x y e = absurd (clash _ x.0 y.0)
over_once left k bytes r1 r2 a c (Came.Missed t) (Came.Page h) x y e = absurd (clash _ y.0 x.0)
over_once left k bytes r1 r2 a c (Came.Missed t) (Came.Missed u) (f, inl x) (g, inl y) e = (ap (λ (z : Trouble). Came.Missed z) (x.2 ∙ sym y.2), alone r1 r2 a c x.1 y.1 e)
over_once left k bytes r1 r2 a c (Came.Missed t) (Came.Missed u) (f, inl x) (g, inr y) e = absurd (clash _ x.0 y.0)
over_once left k bytes r1 r2 a c (Came.Missed t) (Came.Missed u) (f, inr x) (g, inl y) e = absurd (clash _ y.0 x.0)
over_once left k bytes r1 r2 a c (Came.Missed t) (Came.Missed u) (f, inr x) (g, inr y) e = (ap (λ (z : Trouble). Came.Missed z) (x.3 ∙ sym y.3), alone r1 r2 a c x.2 y.2 e)
over_once left k bytes r1 r2 a c (Came.Missed t) Came.Floods (f, inl x) y e = absurd (clash _ x.0 y.1)
over_once left k bytes r1 r2 a c (Came.Missed t) Came.Floods (f, inr x) y e = absurd (y.2 x.1)
over_once left k bytes r1 r2 a c Came.Floods (Came.Page h) x y e = absurd (clash _ y.0 x.0)
over_once left k bytes r1 r2 a c Came.Floods (Came.Missed u) x (g, inl y) e = absurd (clash _ y.0 x.1)
over_once left k bytes r1 r2 a c Came.Floods (Came.Missed u) x (g, inr y) e = absurd (x.2 y.1)
over_once left k bytes r1 r2 a c Came.Floods Came.Floods x y e = (refl, one_flood settled_waits (omega arith) r1 r2 a c x.3 y.3 e)

over_not_on : (left k : ℕ) (bytes : List ℕ) (r1 r2 a c : List TalkItem) (p q : Came) → Over left k bytes r1 p → AskedAgain left k bytes r2 q → r1 ++ a ≡ r2 ++ c → ⊥
over_not_on left k bytes r1 r2 a c (Came.Page g) q x y e = clash _ x.0 y.not_this
over_not_on left k bytes r1 r2 a c (Came.Missed t) q (f, inl x) y e = clash _ x.0 y.not_ahead
over_not_on left k bytes r1 r2 a c (Came.Missed t) q (f, inr x) y e = none_left k (next_said k bytes) y.more q (subst (λ n. Askings n k (next_said k bytes) y.more q) x.1 y.later)
over_not_on left k bytes r1 r2 a c Came.Floods q x y e =
    still_or_flood settled_waits (omega arith) y.s r1 (y.more ++ c) a y.still x.3 (sym (append_assoc y.s y.more c) ∙ ap (λ (z : List TalkItem). z ++ c) (sym y.is) ∙ sym e)

-- a talk has one end of the askings at most in front
pub one_askings : (left k b : ℕ) (x y a c : List TalkItem) (p q : Came) → Askings left k b x p → Askings left k b y q → x ++ a ≡ y ++ c → (p ≡ q) × (x ≡ y) × (a ≡ c)
one_askings zero k b x y a c p q f g e = absurd (none_left k b x p f)
one_askings (suc left) k b x y a c p q f g e =
    let u = unroll left k b x p f in
    let v = unroll left k b y q g in
    let first = one_answer answer_waits page_size (omega arith) u.t v.t (u.rest ++ a) (v.rest ++ c) u.awaits v.awaits (behind_first (Said b true) x y u.t v.t u.rest v.rest a c u.is v.is e) in
    let bytes = heard v.t in
    let how : Over left k bytes u.rest p ⊎ AskedAgain left k bytes u.rest p = subst (λ (z : List TalkItem). Over left k (heard z) u.rest p ⊎ AskedAgain left k (heard z) u.rest p) first.0 u.how in
    elim how [
      | inl i ↦ elim v.how [
        | inl j ↦
            let o = over_once left k bytes u.rest v.rest a c p q i j first.1 in
            (o.0, whole_again (Said b true) x y u.t v.t u.rest v.rest u.is v.is first.0 o.1.0, o.1.1)
        | inr j ↦ absurd (over_not_on left k bytes u.rest v.rest a c p q i j first.1)
      ]
      | inr i ↦ elim v.how [
        | inl j ↦ absurd (over_not_on left k bytes v.rest u.rest c a q p j i (sym first.1))
        | inr j ↦
            let d : i.s ++ (i.more ++ a) ≡ j.s ++ (j.more ++ c) = sym (append_assoc i.s i.more a) ∙ ap (λ (z : List TalkItem). z ++ a) (sym i.is) ∙ first.1 ∙ ap (λ (z : List TalkItem). z ++ c) j.is ∙ append_assoc j.s j.more c in
            let s = one_still settled_waits (omega arith) i.s j.s (i.more ++ a) (j.more ++ c) i.still j.still d in
            let o = one_askings left k (next_said k bytes) i.more j.more a c p q i.later j.later s.1 in
            let r : u.rest ≡ v.rest = i.is ∙ ap (λ (z : List TalkItem). z ++ i.more) s.0 ∙ ap (λ (z : List TalkItem). j.s ++ z) o.1 ∙ sym j.is in
            (o.0, whole_again (Said b true) x y u.t v.t u.rest v.rest u.is v.is first.0 r, o.2)
      ]
    ]
