-- A pump that goes through a part of an attempt.
use Rattle.std.proofs.Common.{◌≡◌, ◌≢◌, ℕ, ◌+◌, ◌<◌, ◌⊎◌, Bool, true, false, List, [], ◌∷◌, ◌++◌, length, length-append, refl, sym, ◌∙◌, ap, subst, inl, inr, arith, append_assoc, append-nil, eq-eqb, Option}
use Rattle.std.specs.Prelude.{◌==◌}
use Rattle.std.proofs.lemmas.Bool.{eqb-true, and_parts, and_from}
use Rattle.station_base.specs.CivilMinute.{CivilMinute}
use Rattle.serial_link.specs.Talk.{message}
use Rattle.serial_link.specs.declared.talk.TalkItem.{TalkItem}
use Rattle.serial_link.specs.declared.talk.TalkItem.TheVariants.{Said, Heard, Quiet}
use Rattle.wake_retry.specs.Parts.{heard}
use Rattle.causes.specs.declared.stored.Stored.{Stored}
use Rattle.dmpaft_pump.specs.declared.pump_end.PumpEnd.{PumpEnd}
use Rattle.dmpaft_pump.specs.Pump.{AttemptPart, words, begun, AttemptState, Saying, Hearing, Over, Astray, quiets, most, next_after_part, words_said, saying, state_at, same_end, is_said, said_if, heard_if, waited_if, unless_given, pump_from}
use Rattle.dmpaft_pump.proofs.Hears.{HearsFrom}
use Rattle.dmpaft_pump.proofs.PageJudgements.{not_equal}

not_eq : (x y : ℕ) → (x == y) ≡ false → x ≡ y → ⊥
not_eq x y e same = let z : true ≡ false = sym (eq-eqb x y same) ∙ e in cc

end_same : (x y : Bool) → same_end x y ≡ true → x ≡ y
end_same true y e = sym e
end_same false true e = e
end_same false false e = refl

end_refl : (x : Bool) → same_end x x ≡ true
end_refl true = refl
end_refl false = refl

-- an item is to be said that is said
pub said_is : (i j : TalkItem) → is_said i j ≡ true → j ≡ i
said_is (Said b ends) (Said c stops) e =
    let p : b ≡ c = eqb-true b c ((and_parts (b == c) (same_end ends stops) e).0) in
    let q : ends ≡ stops = end_same ends stops ((and_parts (b == c) (same_end ends stops) e).1) in
    ap (λ x. Said x stops) (sym p) ∙ ap (λ (x : Bool). Said b x) (sym q)
said_is (Said b ends) (Heard c) e = cc
said_is (Said b ends) Quiet e = cc
said_is (Heard b) j e = cc
said_is Quiet j e = cc

pub said_refl : (b : ℕ) (ends : Bool) → is_said (Said b ends) (Said b ends) ≡ true
said_refl b ends = and_from (b == b) (same_end ends ends) (eq-eqb b b refl) (end_refl ends)

module _ (a : Option CivilMinute) where
  -- nothing brings back what is astray
  pub astray_stays : (t : List TalkItem) (ks : List Stored) → pump_from a Astray t ks ≡ Astray
  astray_stays [] [] = refl
  astray_stays [] (k ∷ ks) = refl
  astray_stays (i ∷ t) ks = astray_stays t ks

  pub no_astray : (t : List TalkItem) (ks : List Stored) (place : ℕ) (taken : List (List ℕ)) (end : PumpEnd) → pump_from a Astray t ks ≡ Over place taken end → ⊥
  no_astray t ks place taken end e = let z : Astray ≡ Over place taken end = sym (astray_stays t ks) ∙ e in cc

  -- what is over takes nothing more
  pub over_is : (p : ℕ) (pages : List (List ℕ)) (x : PumpEnd) (t : List TalkItem) (ks : List Stored) (place : ℕ) (taken : List (List ℕ)) (end : PumpEnd)
      → pump_from a (Over p pages x) t ks ≡ Over place taken end → (t ≡ []) × (ks ≡ []) × (Over p pages x ≡ Over place taken end)
  over_is p pages x [] [] place taken end e = (refl, refl, e)
  over_is p pages x [] (k ∷ ks) place taken end e = cc
  over_is p pages x (i ∷ t) ks place taken end e = absurd (no_astray t ks place taken end e)

  -- a pump whose run ends at s, which is not astray
  module _ (ks : List Stored) (s : AttemptState) (ne : s ≢ Astray) where
    off : (t : List TalkItem) → pump_from a Astray t ks ≡ s → ⊥
    off t e = ne (sym e ∙ astray_stays t ks)

    -- what takes nothing more is there
    there : (x : AttemptState) (js : List Stored) → unless_given js x ≡ s → s ≡ x
    there x [] e = sym e
    there x (j ∷ js) e = absurd (ne (sym e))

    -- it stands in this part
    abbrev pub Within : AttemptPart → Type 0
    Within p = ((i : TalkItem) × (l : List TalkItem) × (s ≡ Saying p i l)) ⊎ ((bs : List ℕ) × (r : ℕ) × (s ≡ Hearing p bs r))

    abbrev Spoken : AttemptPart → List TalkItem → List TalkItem → Type 0
    Spoken p l t = Within p ⊎ ((u : List TalkItem) × (t ≡ l ++ u) × (pump_from a (words_said p) u ks ≡ s))

    spoken_more : (p : AttemptPart) (i : TalkItem) (l : List TalkItem) (j : TalkItem) (t : List TalkItem) → j ≡ i → Spoken p l t → Spoken p (i ∷ l) (j ∷ t)
    spoken_more p i l j t z (inl x) = inl x
    spoken_more p i l j t z (inr y) = inr (y.0, ap (λ (x : TalkItem). x ∷ t) z ∙ ap (λ (x : List TalkItem). i ∷ x) y.1, y.2)

    spoken_if : (p : AttemptPart) (i : TalkItem) (l : List TalkItem) (j : TalkItem) (t : List TalkItem) → (pump_from a (saying p l) t ks ≡ s → Spoken p l t)
        → (x : Bool) → is_said i j ≡ x → pump_from a (said_if p l x) t ks ≡ s → Spoken p (i ∷ l) (j ∷ t)
    spoken_if p i l j t ih true same f = spoken_more p i l j t (said_is i j same) (ih f)
    spoken_if p i l j t ih false same f = absurd (off t f)

    -- the words of a part are said first
    pub said_out : (p : AttemptPart) (l t : List TalkItem) → pump_from a (saying p l) t ks ≡ s → Spoken p l t
    said_out p [] t e = inr (t, refl, e)
    said_out p (i ∷ l) [] e = inl (inl (i, l, there (Saying p i l) ks e))
    said_out p (i ∷ l) (j ∷ t) e = spoken_if p i l j t (said_out p l t) (is_said i j) refl e

    -- from so many quiet waits in a row and these bytes on a part hears to its end, and then what is next is taken
    abbrev pub Went : AttemptPart → List ℕ → ℕ → List TalkItem → Type 0
    Went p bs r t = Within p ⊎ ((u : List TalkItem) × (rest : List TalkItem) × (full : Bool) × (t ≡ u ++ rest) × HearsFrom (quiets p) (most p) r (length bs) u full
        × (pump_from a (state_at a (next_after_part a p full (bs ++ heard u))) rest ks ≡ s))

    went_byte : (p : AttemptPart) (bs : List ℕ) (r b : ℕ) (t : List TalkItem) → length (bs ++ b ∷ []) ≡ length bs + 1 → length bs + 1 < most p → Went p (bs ++ b ∷ []) 0 t → Went p bs r (Heard b ∷ t)
    went_byte p bs r b t size below (inl x) = inl x
    went_byte p bs r b t size below (inr y) = inr (
      Heard b ∷ y.0,
      y.1,
      y.2,
      ap (λ (x : List TalkItem). Heard b ∷ x) y.3,
      inr (below, subst (λ n. HearsFrom (quiets p) (most p) 0 n y.0 y.2) size y.4),
      ap (λ (x : List ℕ). pump_from a (state_at a (next_after_part a p y.2 x)) y.1 ks) (sym (append_assoc bs (b ∷ []) (heard y.0))) ∙ y.5,
    )

    heard_byte : (p : AttemptPart) (bs : List ℕ) (r b : ℕ) (t : List TalkItem) → length (bs ++ b ∷ []) ≡ length bs + 1 → length bs < most p
        → (length (bs ++ b ∷ []) < most p → pump_from a (Hearing p (bs ++ b ∷ []) 0) t ks ≡ s → Went p (bs ++ b ∷ []) 0 t)
        → (x : Bool) → (length (bs ++ b ∷ []) == most p) ≡ x → pump_from a (heard_if a p (bs ++ b ∷ []) x) t ks ≡ s → Went p bs r (Heard b ∷ t)
    heard_byte p bs r b t size less ih true all f = inr (Heard b ∷ [], t, true, refl, inl (sym size ∙ eqb-true (length (bs ++ b ∷ [])) (most p) all, refl, refl), f)
    heard_byte p bs r b t size less ih false all f =
        let differs = not_eq (length (bs ++ b ∷ [])) (most p) all in
        let below : length bs + 1 < most p = grind (arith, differs, less, size) in
        went_byte p bs r b t size below (ih (omega (arith, below, size)) f)

    went_wait : (p : AttemptPart) (bs : List ℕ) (r : ℕ) (t : List TalkItem) → r + 1 < quiets p → Went p bs (r + 1) t → Went p bs r (Quiet ∷ t)
    went_wait p bs r t below (inl x) = inl x
    went_wait p bs r t below (inr y) = inr (Quiet ∷ y.0, y.1, y.2, ap (λ (x : List TalkItem). Quiet ∷ x) y.3, inr (below, y.4), y.5)

    heard_wait : (p : AttemptPart) (bs : List ℕ) (r : ℕ) (t : List TalkItem) → r < quiets p
        → (r + 1 < quiets p → pump_from a (Hearing p bs (r + 1)) t ks ≡ s → Went p bs (r + 1) t)
        → (x : Bool) → (r + 1 == quiets p) ≡ x → pump_from a (waited_if a p bs (r + 1) x) t ks ≡ s → Went p bs r (Quiet ∷ t)
    heard_wait p bs r t few ih true all f = inr (
      Quiet ∷ [],
      t,
      false,
      refl,
      inl (eqb-true (r + 1) (quiets p) all, refl, refl),
      ap (λ (x : List ℕ). pump_from a (state_at a (next_after_part a p false x)) t ks) (append-nil bs) ∙ f,
    )
    heard_wait p bs r t few ih false all f =
        let differs = not_eq (r + 1) (quiets p) all in
        let below : r + 1 < quiets p = grind (arith, differs, few) in
        went_wait p bs r t below (ih below f)

    -- and then it hears, to its end
    pub heard_out : (p : AttemptPart) (bs : List ℕ) (r : ℕ) (t : List TalkItem) → r < quiets p → length bs < most p → 0 < quiets p
        → pump_from a (Hearing p bs r) t ks ≡ s → Went p bs r t
    heard_out p bs r [] few less some e = inl (inr (bs, r, there (Hearing p bs r) ks e))
    heard_out p bs r (Said b ends ∷ t) few less some e = absurd (off t e)
    heard_out p bs r (Heard b ∷ t) few less some e =
        heard_byte p bs r b t (omega (arith, length-append bs (b ∷ []))) less (λ below f. heard_out p (bs ++ b ∷ []) 0 t some below some f) (length (bs ++ b ∷ []) == most p) refl e
    heard_out p bs r (Quiet ∷ t) few less some e =
        heard_wait p bs r t few (λ below f. heard_out p bs (r + 1) t below less some f) (r + 1 == quiets p) refl e

    -- a part is gone through, or it is stood in
    abbrev pub Passed : AttemptPart → List TalkItem → Type 0
    Passed p t = (u : List TalkItem) × (rest : List TalkItem) × (full : Bool) × (t ≡ message (words a p) ++ (u ++ rest)) × HearsFrom (quiets p) (most p) 0 0 u full
        × (pump_from a (state_at a (next_after_part a p full (heard u))) rest ks ≡ s)

    pub passes : (p : AttemptPart) → words_said p ≡ Hearing p [] 0 → 0 < quiets p → 0 < most p → (t : List TalkItem) → pump_from a (begun a p) t ks ≡ s → Within p ⊎ Passed p t
    passes p is some room t e = spoken (said_out p (message (words a p)) t e)
      where
        went : (u : List TalkItem) → t ≡ message (words a p) ++ u → Went p [] 0 u → Within p ⊎ Passed p t
        went u f (inl x) = inl x
        went u f (inr y) = inr (y.0, y.1, y.2, f ∙ ap (λ (x : List TalkItem). message (words a p) ++ x) y.3, y.4, y.5)

        spoken : Spoken p (message (words a p)) t → Within p ⊎ Passed p t
        spoken (inl x) = inl x
        spoken (inr y) = went y.0 y.1 (heard_out p [] 0 y.0 some room some (ap (λ (x : AttemptState). pump_from a x y.0 ks) (sym is) ∙ y.2))

  -- the words are said
  pub said_in : (p : AttemptPart) (bytes : List ℕ) (t : List TalkItem) (ks : List Stored) → pump_from a (saying p (message bytes)) (message bytes ++ t) ks ≡ pump_from a (words_said p) t ks
  said_in p [] t ks = refl
  said_in p (b ∷ []) t ks = ap (λ (y : Bool). pump_from a (said_if p [] y) t ks) (said_refl b true)
  said_in p (b ∷ c ∷ bs) t ks = ap (λ (y : Bool). pump_from a (said_if p (message (c ∷ bs)) y) (message (c ∷ bs) ++ t) ks) (said_refl b false) ∙ said_in p (c ∷ bs) t ks

  -- what a part hears brings the next one
  pub heard_in : (p : AttemptPart) (bs : List ℕ) (r : ℕ) (u rest : List TalkItem) (full : Bool) (ks : List Stored) → HearsFrom (quiets p) (most p) r (length bs) u full
      → pump_from a (Hearing p bs r) (u ++ rest) ks ≡ pump_from a (state_at a (next_after_part a p full (bs ++ heard u))) rest ks
  heard_in p bs r [] rest full ks h = absurd h
  heard_in p bs r (Said b ends ∷ u) rest full ks h = absurd h
  heard_in p bs r (Heard b ∷ u) rest full ks (inl x) =
      let all : (length (bs ++ b ∷ []) == most p) ≡ true = eq-eqb (length (bs ++ b ∷ [])) (most p) (omega (arith, length-append bs (b ∷ []), x.0)) in
      ap (λ (y : Bool). pump_from a (heard_if a p (bs ++ b ∷ []) y) (u ++ rest) ks) all
      ∙ ap (λ (y : List TalkItem). pump_from a (state_at a (next_after_part a p true (bs ++ b ∷ []))) (y ++ rest) ks) x.1
      ∙ ap (λ (y : List TalkItem). pump_from a (state_at a (next_after_part a p true (bs ++ b ∷ heard y))) rest ks) (sym x.1)
      ∙ ap (λ (y : Bool). pump_from a (state_at a (next_after_part a p y (bs ++ b ∷ heard u))) rest ks) (sym x.2)
  heard_in p bs r (Heard b ∷ u) rest full ks (inr x) =
      let size : length (bs ++ b ∷ []) ≡ length bs + 1 = omega (arith, length-append bs (b ∷ [])) in
      let all : (length (bs ++ b ∷ []) == most p) ≡ false = not_equal (length (bs ++ b ∷ [])) (most p) (λ e. absurd (omega (arith, e, size, x.0))) in
      ap (λ (y : Bool). pump_from a (heard_if a p (bs ++ b ∷ []) y) (u ++ rest) ks) all
      ∙ heard_in p (bs ++ b ∷ []) 0 u rest full ks (subst (λ n. HearsFrom (quiets p) (most p) 0 n u full) (sym size) x.1)
      ∙ ap (λ (y : List ℕ). pump_from a (state_at a (next_after_part a p full y)) rest ks) (append_assoc bs (b ∷ []) (heard u))
  heard_in p bs r (Quiet ∷ u) rest full ks (inl x) =
      ap (λ (y : Bool). pump_from a (waited_if a p bs (r + 1) y) (u ++ rest) ks) (eq-eqb (r + 1) (quiets p) x.0)
      ∙ ap (λ (y : List TalkItem). pump_from a (state_at a (next_after_part a p false bs)) (y ++ rest) ks) x.1
      ∙ ap (λ (y : List ℕ). pump_from a (state_at a (next_after_part a p false y)) rest ks) (sym (append-nil bs))
      ∙ ap (λ (y : List TalkItem). pump_from a (state_at a (next_after_part a p false (bs ++ heard y))) rest ks) (sym x.1)
      ∙ ap (λ (y : Bool). pump_from a (state_at a (next_after_part a p y (bs ++ heard u))) rest ks) (sym x.2)
  heard_in p bs r (Quiet ∷ u) rest full ks (inr x) =
      ap (λ (y : Bool). pump_from a (waited_if a p bs (r + 1) y) (u ++ rest) ks) (not_equal (r + 1) (quiets p) (λ e. absurd (omega (arith, e, x.0))))
      ∙ heard_in p bs (r + 1) u rest full ks x.1
