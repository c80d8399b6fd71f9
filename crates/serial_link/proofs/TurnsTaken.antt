-- Turns one behind another.
use Rattle.std.proofs.Common.{ℕ, zero, suc, ◌≡◌, ◌+◌, ◌<◌, ◌⊎◌, List, [], ◌∷◌, ◌++◌, inl, inr, refl, sym, ap, subst, ◌∙◌, arith, append-nil, append_assoc}
use Rattle.serial_link.specs.declared.talk.TalkItem.{TalkItem}
use Rattle.serial_link.specs.Turns.{AreTurns, TurnsBreakOff}

module _ {S : Type 0} (Turn : S → List TalkItem → S → Type 0) where
  pub one_turn : (from to : S) (t : List TalkItem) → Turn from t to → AreTurns Turn 1 from t to
  one_turn from to t turn = (t, [], to, sym (append-nil t), turn, (refl, refl))

  -- the turn that one turn is
  pub only_turn : (from to : S) (t : List TalkItem) → AreTurns Turn 1 from t to → Turn from t to
  only_turn from to t one =
      let same : t ≡ one.0 = one.3 ∙ (ap (λ (x : List TalkItem). one.0 ++ x) one.5.0 ∙ append-nil one.0) in
      subst (λ (x : List TalkItem). Turn from x to) (sym same) (subst (λ (s : S). Turn from one.0 s) (sym one.5.1) one.4)

  -- turns, and one more
  pub turns_then : (turns : ℕ) (from mid to : S) (s t : List TalkItem) → AreTurns Turn turns from s mid → Turn mid t to
      → AreTurns Turn (suc turns) from (s ++ t) to
  turns_then zero from mid to s t none turn = (
    t,
    [],
    to,
    ap (λ (x : List TalkItem). x ++ t) none.0 ∙ sym (append-nil t),
    subst (λ (x : S). Turn x t to) none.1 turn,
    (refl, refl),
  )
  turns_then (suc turns) from mid to s t taken turn = (
    taken.0,
    taken.1 ++ t,
    taken.2,
    ap (λ (x : List TalkItem). x ++ t) taken.3 ∙ append_assoc taken.0 taken.1 t,
    taken.4,
    turns_then turns taken.2 mid to taken.1 t taken.5 turn,
  )

  pub turns_and_one : (turns all : ℕ) (from mid to : S) (s t : List TalkItem) → all ≡ turns + 1 → AreTurns Turn turns from s mid
      → AreTurns Turn 1 mid t to → AreTurns Turn all from (s ++ t) to
  turns_and_one turns all from mid to s t count taken one =
      let next : suc turns ≡ all = omega (arith, count) in
      subst (λ (n : ℕ). AreTurns Turn n from (s ++ t) to) next (turns_then turns from mid to s t taken (only_turn mid to t one))

  module _ (BreaksOff : S → List TalkItem → Type 0) where
    -- nothing was said or heard
    pub breaks_unheard : (turns : ℕ) (from : S) → 0 < turns → TurnsBreakOff Turn BreaksOff turns from []
    breaks_unheard turns from some = record {
      taken = 0;
      few = some;
      front = [];
      last = [];
      whole = refl;
      at = from;
      turns_are = (refl, refl);
      ends = inl refl;
    }

    -- the first turn broke off
    pub breaks_first : (turns : ℕ) (from : S) (t : List TalkItem) → 0 < turns → BreaksOff from t → TurnsBreakOff Turn BreaksOff turns from t
    breaks_first turns from t some broke = record {
      taken = 0;
      few = some;
      front = [];
      last = t;
      whole = refl;
      at = from;
      turns_are = (refl, refl);
      ends = inr broke;
    }

    none_taken : (taken : ℕ) (from to : S) (t : List TalkItem) → taken < 1 → AreTurns Turn taken from t to → (t ≡ []) × (to ≡ from)
    none_taken zero from to t few none = none
    none_taken (suc taken) from to t few turns = absurd (omega (arith, few))

    -- turns were taken, and the next one broke off
    pub breaks_then : (turns all : ℕ) (from mid : S) (s t : List TalkItem) → turns < all → AreTurns Turn turns from s mid
        → TurnsBreakOff Turn BreaksOff 1 mid t → TurnsBreakOff Turn BreaksOff all from (s ++ t)
    breaks_then turns all from mid s t few taken broke =
        let none = none_taken broke.taken mid broke.at broke.front broke.few broke.turns_are in
        let last : t ≡ broke.last = broke.whole ∙ ap (λ (x : List TalkItem). x ++ broke.last) none.0 in
        record {
          taken = turns;
          few = few;
          front = s;
          last = t;
          whole = refl;
          at = mid;
          turns_are = taken;
          ends = subst (λ (x : List TalkItem). (x ≡ []) ⊎ BreaksOff mid x) (sym last)
              (subst (λ (x : S). (broke.last ≡ []) ⊎ BreaksOff x broke.last) none.1 broke.ends);
        }
