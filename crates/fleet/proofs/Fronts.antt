-- Fronts of lines with their heads.
use Rattle.std.proofs.Common.{ℕ, ◌≡◌, ◌<◌, ◌==◌, Bool, true, false, List, [], ◌∷◌, ◌++◌, length, append-nil, append_assoc, refl, sym, ap, subst, ◌∙◌, arith}
use Rattle.causes.specs.Lists.{IsFrontOf}
use Rattle.fleet.specs.declared.pen.Pen.{Pen}
use Rattle.fleet.specs.declared.pen.Pen.TheVariants.{AtStart, Inside, Stuck}
use Rattle.fleet.specs.Lines.{PenSpells, numbered_lines, pen_after, pen_behind, head, lead, is_stuck}

-- a prefix of a list, and more behind it
pub front_before : {A : Type 0} (front whole more : List A) → IsFrontOf front whole → IsFrontOf front (whole ++ more)
front_before {A} front whole more (rest, is) =
    (rest ++ more, sym (append_assoc front rest more) ∙ ap (λ (x : List A). x ++ more) is)

-- a prefix of a list, and the same before both
pub front_behind : {A : Type 0} (before front whole : List A) → IsFrontOf front whole
    → IsFrontOf (before ++ front) (before ++ whole)
front_behind {A} before front whole (rest, is) =
    (rest, append_assoc before front rest ∙ ap (λ (x : List A). before ++ x) is)

-- A front of a text is that of a front of the bytes, with a part of what goes before the next byte behind it perhaps.
pub record Cut (digit : ℕ) (pen : Pen) (bytes text : List ℕ) : Type 0 where
  pub written : List ℕ
  pub front : IsFrontOf written bytes
  pub part : List ℕ
  pub small : IsFrontOf part (lead digit (pen_after pen written))
  pub whole : text ≡ numbered_lines digit pen written ++ part

nothing : (digit : ℕ) (pen : Pen) (bytes : List ℕ) → Cut digit pen bytes []
nothing digit pen bytes = record {
  written = [];
  front = (bytes, refl);
  part = [];
  small = (lead digit pen, refl);
  whole = refl;
}

-- a byte more in front
one_more : (digit : ℕ) (pen : Pen) (b : ℕ) (bytes text : List ℕ) → Cut digit (pen_behind (b == 10)) bytes text
    → Cut digit pen (b ∷ bytes) (lead digit pen ++ b ∷ text)
one_more digit pen b bytes text c = record {
  written = b ∷ c.written;
  front = front_behind (b ∷ []) c.written bytes c.front;
  part = c.part;
  small = c.small;
  whole = ap (λ (x : List ℕ). lead digit pen ++ b ∷ x) c.whole
      ∙ sym (append_assoc (lead digit pen) (b ∷ numbered_lines digit (pen_behind (b == 10)) c.written) c.part);
}

-- a front that ends within a head
part_of_head : (digit : ℕ) (bytes part rest : List ℕ) → part ++ rest ≡ head digit → Cut digit AtStart bytes part
part_of_head digit bytes part rest e = record {
  written = [];
  front = (bytes, refl);
  part = part;
  small = (rest, e);
  whole = refl;
}

along : {A : Type 0} (P : A → Type 0) (a b : A) → a ≡ b → P b → P a
along P a b e p = let back : b ≡ a = sym e in subst P back p

pub cut : (digit : ℕ) (pen : Pen) (bytes text rest : List ℕ) → text ++ rest ≡ numbered_lines digit pen bytes
    → Cut digit pen bytes text
cut digit pen bytes [] rest e = nothing digit pen bytes
cut digit pen [] (x ∷ text) rest e = absurd (let bad : x ∷ (text ++ rest) ≡ [] = e in cc)
cut digit AtStart (b ∷ bytes) (x ∷ []) rest e =
    let here : x ≡ digit = cc in
    part_of_head digit (b ∷ bytes) (x ∷ []) (32 ∷ []) (ap (λ (n : ℕ). n ∷ 32 ∷ []) here)
cut digit AtStart (b ∷ bytes) (x ∷ y ∷ []) rest e =
    let here : x ≡ digit = cc in
    let space : y ≡ 32 = cc in
    part_of_head digit (b ∷ bytes) (x ∷ y ∷ []) [] (ap (λ (n : ℕ). n ∷ y ∷ []) here ∙ ap (λ (n : ℕ). digit ∷ n ∷ []) space)
cut digit AtStart (b ∷ bytes) (x ∷ y ∷ z ∷ text) rest e =
    let here : x ≡ digit = cc in
    let space : y ≡ 32 = cc in
    let byte : z ≡ b = cc in
    let more : text ++ rest ≡ numbered_lines digit (pen_behind (b == 10)) bytes = cc in
    let same : x ∷ y ∷ z ∷ text ≡ digit ∷ 32 ∷ b ∷ text = cc in
    along (Cut digit AtStart (b ∷ bytes)) (x ∷ y ∷ z ∷ text) (digit ∷ 32 ∷ b ∷ text) same
    (one_more digit AtStart b bytes text (cut digit (pen_behind (b == 10)) bytes text rest more))
cut digit Inside (b ∷ bytes) (z ∷ text) rest e =
    let byte : z ≡ b = cc in
    let more : text ++ rest ≡ numbered_lines digit (pen_behind (b == 10)) bytes = cc in
    let same : z ∷ text ≡ b ∷ text = cc in
    along (Cut digit Inside (b ∷ bytes)) (z ∷ text) (b ∷ text) same
    (one_more digit Inside b bytes text (cut digit (pen_behind (b == 10)) bytes text rest more))
cut digit Stuck (b ∷ bytes) (z ∷ text) rest e =
    let byte : z ≡ b = cc in
    let more : text ++ rest ≡ numbered_lines digit (pen_behind (b == 10)) bytes = cc in
    let same : z ∷ text ≡ b ∷ text = cc in
    along (Cut digit Stuck (b ∷ bytes)) (z ∷ text) (b ∷ text) same
    (one_more digit Stuck b bytes text (cut digit (pen_behind (b == 10)) bytes text rest more))

-- behind bytes the pen is free
behind_free : (ends : Bool) → is_stuck (pen_behind ends) ≡ false
behind_free true = refl
behind_free false = refl

pub pen_free : (pen : Pen) (bytes : List ℕ) → is_stuck pen ≡ false → is_stuck (pen_after pen bytes) ≡ false
pen_free pen [] free = free
pen_free pen (b ∷ bytes) free = pen_free (pen_behind (b == 10)) bytes (behind_free (b == 10))

-- the whole text
pub spells_whole : (digit : ℕ) (pen : Pen) (bytes : List ℕ) → is_stuck pen ≡ false
    → PenSpells digit pen bytes (pen_after pen bytes) (numbered_lines digit pen bytes)
spells_whole digit pen bytes free = record {
  part = [];
  small = (lead digit (pen_after pen bytes), refl);
  whole = sym (append-nil (numbered_lines digit pen bytes));
  none = λ _. refl;
  pen = λ _. refl;
  stays = λ stuck. absurd (let bad : true ≡ false = sym (ap is_stuck stuck) ∙ free in cc);
}

-- a front of it, behind which the pen is stuck
pub spells_cut : (digit : ℕ) (pen : Pen) (bytes text : List ℕ) (c : Cut digit pen bytes text) → is_stuck pen ≡ false
    → PenSpells digit pen c.written Stuck text
spells_cut digit pen bytes text c free = record {
  part = c.part;
  small = c.small;
  whole = c.whole;
  none = λ e. absurd (let bad : true ≡ false = e in cc);
  pen = λ e. absurd (let bad : true ≡ false = e in cc);
  stays = λ stuck. absurd (let bad : true ≡ false = sym (ap is_stuck stuck) ∙ free in cc);
}

-- a text of some bytes is not empty
pub numbered_some : (digit : ℕ) (pen : Pen) (bytes : List ℕ) → 0 < length bytes → 0 < length (numbered_lines digit pen bytes)
numbered_some digit pen [] some = some
numbered_some digit AtStart (b ∷ bytes) some = omega arith
numbered_some digit Inside (b ∷ bytes) some = omega arith
numbered_some digit Stuck (b ∷ bytes) some = omega arith
