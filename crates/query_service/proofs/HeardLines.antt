-- The lines of bytes that are heard one behind another.
use Rattle.std.proofs.Common.{ℕ, ◌≡◌, ◌<◌, ◌≤◌, ◌==◌, Bool, true, false, List, [], ◌∷◌, ◌++◌, cond, length, take, refl, sym, ap, subst, ◌∙◌, arith}
use Rattle.std.proofs.lemmas.List.{length-append, length-take, length-take-le, take_all, take-append-le}
use Rattle.query_service.specs.Asked.{LineAsks, Means}
use Rattle.query_service.specs.Lines.{lines_after, rest_after}
use Rattle.query_service.specs.declared.request.Request.{Request}

-- by whether the next byte ends the line
lines_by : (t : Bool) (begun : List ℕ) (us vs xs ys : List (List ℕ)) (r s y : List ℕ) → us ≡ xs ++ lines_after r y → vs ≡ ys ++ lines_after s y
    → cond t (begun ∷ us) vs ≡ cond t (begun ∷ xs) ys ++ lines_after (cond t r s) y
lines_by true begun us vs xs ys r s y ends goes_on = ap (λ (l : List (List ℕ)). begun ∷ l) ends
lines_by false begun us vs xs ys r s y ends goes_on = goes_on

rest_by : (t : Bool) (u v r s y : List ℕ) → u ≡ rest_after r y → v ≡ rest_after s y → cond t u v ≡ rest_after (cond t r s) y
rest_by true u v r s y ends goes_on = ends
rest_by false u v r s y ends goes_on = goes_on

-- the lines of all bytes are those of the first, and then those of the later ones
pub lines_join : (begun x y : List ℕ) → lines_after begun (x ++ y) ≡ lines_after begun x ++ lines_after (rest_after begun x) y
lines_join begun [] y = refl
lines_join begun (b ∷ x) y =
    lines_by (b == 10) begun (lines_after [] (x ++ y)) (lines_after (begun ++ b ∷ []) (x ++ y)) (lines_after [] x) (lines_after (begun ++ b ∷ []) x)
    (rest_after [] x) (rest_after (begun ++ b ∷ []) x) y (lines_join [] x y) (lines_join (begun ++ b ∷ []) x y)

pub rest_join : (begun x y : List ℕ) → rest_after begun (x ++ y) ≡ rest_after (rest_after begun x) y
rest_join begun [] y = refl
rest_join begun (b ∷ x) y =
    rest_by (b == 10) (rest_after [] (x ++ y)) (rest_after (begun ++ b ∷ []) (x ++ y)) (rest_after [] x) (rest_after (begun ++ b ∷ []) x) y
    (rest_join [] x y) (rest_join (begun ++ b ∷ []) x y)

-- a byte that ends the line
pub line_ends : (begun : List ℕ) (b : ℕ) → b ≡ 10 → (lines_after begun (b ∷ []) ≡ begun ∷ []) × (rest_after begun (b ∷ []) ≡ [])
line_ends begun b is =
    let ends : (b == 10) ≡ true = grind (arith, is) in
    (ap (λ (t : Bool). cond t (begun ∷ []) []) ends, ap (λ (t : Bool). cond t [] (begun ++ b ∷ [])) ends)

-- a byte that does not
pub line_goes_on : (begun : List ℕ) (b : ℕ) → (b ≡ 10 → ⊥) → (lines_after begun (b ∷ []) ≡ []) × (rest_after begun (b ∷ []) ≡ begun ++ b ∷ [])
line_goes_on begun b apart =
    let goes_on : (b == 10) ≡ false = grind (arith, apart) in
    (ap (λ (t : Bool). cond t (begun ∷ []) []) goes_on, ap (λ (t : Bool). cond t [] (begun ++ b ∷ [])) goes_on)

-- what is held of a line asks for what the line asks for
pub asks_held : (line : List ℕ) (request : Request) → LineAsks (take 65 line) request → LineAsks line request
asks_held line request asks = record {
  long = λ more. asks.long (omega (arith, length-take-le 65 line (omega (arith, more))));
  short = λ few.
      let whole : take 65 line ≡ line = take_all 65 line (omega (arith, few)) in
      subst (λ (l : List ℕ). Means l request) whole (asks.short (omega (arith, ap length whole, few)));
}

-- a line that is held whole holds one more byte
pub hold_more : (line after begun : List ℕ) (b : ℕ) → length line < 65 → after ≡ line ++ b ∷ [] → line ≡ take 65 begun → after ≡ take 65 (begun ++ b ∷ [])
hold_more line after begun b room is held =
    let few : length begun < 65 = omega (arith, room, ap length held, length-take 65 begun) in
    let whole : line ≡ begun = held ∙ take_all 65 begun (omega (arith, few)) in
    is ∙ (ap (λ (l : List ℕ). l ++ b ∷ []) whole ∙ sym (take_all 65 (begun ++ b ∷ []) (omega (arith, few, length-append begun (b ∷ [])))))

-- of a longer line no more is held
pub hold_full : (line begun : List ℕ) (b : ℕ) → 65 ≤ length line → line ≡ take 65 begun → line ≡ take 65 (begun ++ b ∷ [])
hold_full line begun b full held =
    held ∙ sym (take-append-le 65 begun (b ∷ []) (omega (arith, full, ap length held, length-take 65 begun)))
