-- What a part hears, from r quiet waits in a row and k bytes on.
use Rattle.std.proofs.Common.{◌≡◌, ℕ, ◌+◌, ◌<◌, ◌⊎◌, Bool, true, false, List, [], ◌∷◌, length, refl, sym, ap, subst, inl, inr, arith}
use Rattle.serial_link.specs.declared.talk.TalkItem.{TalkItem}
use Rattle.serial_link.specs.declared.talk.TalkItem.TheVariants.{Said, Heard, Quiet}
use Rattle.wake_retry.specs.Parts.{heard, StillFrom, IsFull, IsFull, IsShort, Awaits, answer_waits, flood_size}

-- it ends with the first q quiet waits in a row, or with byte number m; whether by the byte
abbrev pub HearsFrom : ℕ → ℕ → ℕ → ℕ → List TalkItem → Bool → Type 0
HearsFrom q m r k [] full = ⊥
HearsFrom q m r k (Said b ends ∷ t) full = ⊥
HearsFrom q m r k (Heard b ∷ t) full = ((k + 1 ≡ m) × (t ≡ []) × (full ≡ true)) ⊎ ((k + 1 < m) × HearsFrom q m 0 (k + 1) t full)
HearsFrom q m r k (Quiet ∷ t) full = ((r + 1 ≡ q) × (t ≡ []) × (full ≡ false)) ⊎ ((r + 1 < q) × HearsFrom q m (r + 1) k t full)

pub hears_some : (q m r k : ℕ) (t : List TalkItem) (full : Bool) → HearsFrom q m r k t full → 0 < length t
hears_some q m r k [] full h = absurd h
hears_some q m r k (i ∷ t) full h = omega arith

-- a settling
pub still_hears : (q m r k : ℕ) (t : List TalkItem) → m ≡ flood_size → r < q → k < m → StillFrom q r k t → HearsFrom q m r k t false
still_hears q m r k [] e a b h = absurd (omega (arith, a, h.0))
still_hears q m r k (Said b ends ∷ t) e a l h = absurd h
still_hears q m r k (Heard b ∷ t) e a l h = inr (heard_below t h.1, still_hears q m 0 (k + 1) t e (omega (arith, a)) (heard_below t h.1) h.1)
  where
    below : (r2 n : ℕ) (u : List TalkItem) → StillFrom q r2 n u → n < flood_size
    below r2 n [] x = x.1
    below r2 n (Said c stops ∷ u) x = absurd x
    below r2 n (Heard c ∷ u) x = let y = below 0 (n + 1) u x.1 in omega (arith, y)
    below r2 n (Quiet ∷ u) x = below (r2 + 1) n u x.1

    heard_below : (u : List TalkItem) → StillFrom q 0 (k + 1) u → k + 1 < m
    heard_below u x = omega (arith, below 0 (k + 1) u x, e)
still_hears q m r k (Quiet ∷ []) e a l h = inl (h.1.0, refl, refl)
still_hears q m r k (Quiet ∷ Said b ends ∷ t) e a l h = absurd h.1
still_hears q m r k (Quiet ∷ Heard b ∷ t) e a l h = inr (h.1.0, still_hears q m (r + 1) k (Heard b ∷ t) e h.1.0 l h.1)
still_hears q m r k (Quiet ∷ Quiet ∷ t) e a l h = inr (h.1.0, still_hears q m (r + 1) k (Quiet ∷ t) e h.1.0 l h.1)

pub hears_still : (q m r k : ℕ) (t : List TalkItem) → m ≡ flood_size → r < q → k < m → HearsFrom q m r k t false → StillFrom q r k t
hears_still q m r k [] e a b h = absurd h
hears_still q m r k (Said b ends ∷ t) e a l h = absurd h
hears_still q m r k (Heard b ∷ t) e a l (inl x) = let z = x.2 in cc
hears_still q m r k (Heard b ∷ t) e a l (inr x) = (a, hears_still q m 0 (k + 1) t e (omega (arith, a)) x.0 x.1)
hears_still q m r k (Quiet ∷ t) e a l (inl x) = (a, subst (λ (u : List TalkItem). StillFrom q (r + 1) k u) (sym x.1) (x.0, omega (arith, e, l)))
hears_still q m r k (Quiet ∷ t) e a l (inr x) = (a, hears_still q m (r + 1) k t e x.0 l x.1)

-- a flood
pub flood_hears : (q m r k : ℕ) (t : List TalkItem) → r < q → IsFull q r t → k + length (heard t) ≡ m → HearsFrom q m r k t true
flood_hears q m r k [] a h e = absurd h
flood_hears q m r k (Said b ends ∷ t) a h e = absurd h
flood_hears q m r k (Heard b ∷ []) a h e = inl (e, refl, refl)
flood_hears q m r k (Heard b ∷ i ∷ t) a h e = inr (omega (arith, e, some 0 (i ∷ t) h), flood_hears q m 0 (k + 1) (i ∷ t) (omega (arith, a)) h (omega (arith, e)))
  where
    some : (r2 : ℕ) (u : List TalkItem) → IsFull q r2 u → 0 < length (heard u)
    some r2 [] x = absurd x
    some r2 (Said c stops ∷ u) x = absurd x
    some r2 (Heard c ∷ []) x = omega arith
    some r2 (Heard c ∷ j ∷ u) x = omega arith
    some r2 (Quiet ∷ u) x = some (r2 + 1) u x.1
flood_hears q m r k (Quiet ∷ t) a h e = inr (h.0, flood_hears q m (r + 1) k t h.0 h.1 e)

pub hears_flood : (q m r k : ℕ) (t : List TalkItem) → HearsFrom q m r k t true → IsFull q r t × (k + length (heard t) ≡ m)
hears_flood q m r k [] h = absurd h
hears_flood q m r k (Said b ends ∷ t) h = absurd h
hears_flood q m r k (Heard b ∷ []) (inl x) = (tt, x.0)
hears_flood q m r k (Heard b ∷ i ∷ t) (inl x) = let z = x.1 in cc
hears_flood q m r k (Heard b ∷ []) (inr x) = absurd x.1
hears_flood q m r k (Heard b ∷ i ∷ t) (inr x) = let y = hears_flood q m 0 (k + 1) (i ∷ t) x.1 in (y.0, omega (arith, y.1))
hears_flood q m r k (Quiet ∷ t) (inl x) = let z = x.2 in cc
hears_flood q m r k (Quiet ∷ t) (inr x) = let y = hears_flood q m (r + 1) k t x.1 in ((x.0, y.0), y.1)

-- an answer
short_hears : (q m r k : ℕ) (t : List TalkItem) → r < q → IsShort q r t → k + length (heard t) < m → HearsFrom q m r k t false
short_hears q m r k [] a h l = absurd (omega (arith, a, h))
short_hears q m r k (Said b ends ∷ t) a h l = absurd h
short_hears q m r k (Heard b ∷ t) a h l = inr (omega (arith, l), short_hears q m 0 (k + 1) t (omega (arith, a)) h.1 (omega (arith, l)))
short_hears q m r k (Quiet ∷ []) a h l = inl (h.1, refl, refl)
short_hears q m r k (Quiet ∷ Said b ends ∷ t) a h l = absurd h.1
short_hears q m r k (Quiet ∷ Heard b ∷ t) a h l = inr (h.1.0, short_hears q m (r + 1) k (Heard b ∷ t) h.1.0 h.1 l)
short_hears q m r k (Quiet ∷ Quiet ∷ t) a h l = inr (h.1.0, short_hears q m (r + 1) k (Quiet ∷ t) h.1.0 h.1 l)

hears_short : (q m r k : ℕ) (t : List TalkItem) → r < q → k < m → HearsFrom q m r k t false → IsShort q r t × (k + length (heard t) < m)
hears_short q m r k [] a l h = absurd h
hears_short q m r k (Said b ends ∷ t) a l h = absurd h
hears_short q m r k (Heard b ∷ t) a l (inl x) = let z = x.2 in cc
hears_short q m r k (Heard b ∷ t) a l (inr x) = let y = hears_short q m 0 (k + 1) t (omega (arith, a)) x.0 x.1 in ((a, y.0), omega (arith, y.1))
hears_short q m r k (Quiet ∷ t) a l (inl x) = (
  (a, subst (λ (u : List TalkItem). IsShort q (r + 1) u) (sym x.1) x.0),
  omega (arith, l, ap (λ (u : List TalkItem). length (heard u)) x.1),
)
hears_short q m r k (Quiet ∷ t) a l (inr x) = let y = hears_short q m (r + 1) k t x.0 l x.1 in ((a, y.0), y.1)

pub awaits_hears : (m : ℕ) (t : List TalkItem) → Awaits answer_waits m t → (full : Bool) × HearsFrom answer_waits m 0 0 t full
awaits_hears m t (inl x) = (true, flood_hears 3 m 0 0 t (omega arith) x.0 (omega (arith, x.1)))
awaits_hears m t (inr x) = (false, short_hears 3 m 0 0 t (omega arith) x.0 (omega (arith, x.1)))

pub hears_awaits : (m : ℕ) (t : List TalkItem) (full : Bool) → 0 < m → HearsFrom answer_waits m 0 0 t full → Awaits answer_waits m t
hears_awaits m t true p h = let y = hears_flood 3 m 0 0 t h in inl (y.0, omega (arith, y.1))
hears_awaits m t false p h = let y = hears_short 3 m 0 0 t (omega arith) p h in inr (y.0, omega (arith, y.1))
