-- Laws of lines with the number of their station before them.
use Rattle.std.specs.Prelude.{ℕ, ◌≡◌, ◌==◌, true, false, List, [], ◌∷◌, ◌++◌}
use Rattle.std.proofs.Common.{refl, sym, ap, subst, ◌∙◌, append-nil, append_assoc}
use Rattle.causes.specs.Lists.{IsFrontOf}
use Rattle.fleet.specs.declared.pen.Pen.{Pen}
use Rattle.fleet.specs.declared.pen.Pen.TheVariants.{AtStart, Inside, Stuck}
use Rattle.fleet.specs.Lines.{PenSpells, StaysStuck, is_stuck, numbered_lines, pen_after, pen_behind, lead}

pub numbered_append : (digit : ℕ) (pen : Pen) (v w : List ℕ)
    → numbered_lines digit pen (v ++ w) ≡ numbered_lines digit pen v ++ numbered_lines digit (pen_after pen v) w
numbered_append digit pen [] w = refl
numbered_append digit pen (b ∷ v) w =
    ap (λ (t : List ℕ). lead digit pen ++ b ∷ t) (numbered_append digit (pen_behind (b == 10)) v w)
    ∙ sym (append_assoc (lead digit pen) (b ∷ numbered_lines digit (pen_behind (b == 10)) v)
    (numbered_lines digit (pen_after (pen_behind (b == 10)) v) w))

pub pen_append : (pen : Pen) (v w : List ℕ) → pen_after pen (v ++ w) ≡ pen_after (pen_after pen v) w
pen_append pen [] w = refl
pen_append pen (b ∷ v) w = pen_append (pen_behind (b == 10)) v w

-- behind a pen that is free the text goes on
free_joins : (digit : ℕ) (from mid to : Pen) (v w s t : List ℕ) → is_stuck mid ≡ false → PenSpells digit from v mid s
    → PenSpells digit mid w to t → PenSpells digit from (v ++ w) to (s ++ t)
free_joins digit from mid to v w s t free one two = record {
  part = two.part;
  small = subst (λ (p : Pen). IsFrontOf two.part (lead digit p))
      (ap (λ (p : Pen). pen_after p w) (one.pen free) ∙ sym (pen_append from v w)) two.small;
  whole = ap (λ (x : List ℕ). x ++ t) (one.whole ∙ ap (λ (p : List ℕ). numbered_lines digit from v ++ p) (one.none free)
      ∙ append-nil (numbered_lines digit from v))
      ∙ ap (λ (x : List ℕ). numbered_lines digit from v ++ x)
      (two.whole ∙ ap (λ (p : Pen). numbered_lines digit p w ++ two.part) (one.pen free))
      ∙ sym (append_assoc (numbered_lines digit from v) (numbered_lines digit (pen_after from v) w) two.part)
      ∙ ap (λ (x : List ℕ). x ++ two.part) (sym (numbered_append digit from v w));
  none = two.none;
  pen = λ goes. two.pen goes ∙ ap (λ (p : Pen). pen_after p w) (one.pen free) ∙ sym (pen_append from v w);
  stays = λ stuck. absurd (let bad : true ≡ false = sym (ap is_stuck (one.stays stuck).stuck) ∙ free in cc);
}

pub spells_joins : (digit : ℕ) (from mid to : Pen) (v w s t : List ℕ) → PenSpells digit from v mid s
    → PenSpells digit mid w to t → PenSpells digit from (v ++ w) to (s ++ t)
spells_joins digit from AtStart to v w s t one two = free_joins digit from AtStart to v w s t refl one two
spells_joins digit from Inside to v w s t one two = free_joins digit from Inside to v w s t refl one two
spells_joins digit from Stuck to v w s t one two =
    let still : StaysStuck w to t = two.stays refl in
    rw (still.no_bytes, still.stuck, still.no_text, append-nil v, append-nil s) one

pub spells_none : (digit : ℕ) (pen : Pen) → PenSpells digit pen [] pen []
spells_none digit pen = record {
  part = [];
  small = (lead digit pen, refl);
  whole = refl;
  none = λ _. refl;
  pen = λ _. refl;
  stays = λ stuck. record { no_bytes = refl; stuck = stuck; no_text = refl };
}
