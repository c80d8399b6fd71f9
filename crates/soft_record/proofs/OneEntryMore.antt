-- One entry more.
use Rattle.std.proofs.Common.{ℕ, ℤ, ◌≡◌, ◌+◌, Bool, true, false, List, [], ◌∷◌, ◌++◌, Option, Some, None, refl, sym, ap, subst, ◌∙◌, arith}
use Rattle.std.specs.Prelude.{sum_by}
use Rattle.std.specs.Ordering.{int_eq}
use Rattle.std.proofs.lemmas.List.Sums.{sum_by-append}
use Rattle.loop_packet.specs.declared.packet.LoopPacket.{LoopPacket}
use Rattle.soft_record.specs.declared.spread.Spread.{Spread}
use Rattle.soft_record.specs.Interval.{Rising}
use Rattle.soft_record.specs.Marks.{latest, there}
use Rattle.soft_record.specs.Numbers.{last_of_numbers, with_number}
use Rattle.soft_record.specs.SoftRow.{numbers, there_in}
use Rattle.soft_record.specs.Spread.{IsSpreadOf}

cons_number : (x : ℤ) (xs : List ℤ) (o : Option ℤ) → with_number (x ∷ xs) o ≡ x ∷ with_number xs o
cons_number x xs None = refl
cons_number x xs (Some n) = refl

one_there : (mark : ℤ) (number : LoopPacket → ℤ) (r : Rising) (test : Bool) → int_eq (number r.entry.packet) mark ≡ test
    → there_in mark number (r ∷ []) ≡ with_number [] (there mark (number r.entry.packet))
one_there mark number r true is = rw is refl
one_there mark number r false is = rw is refl

cons_there : (mark : ℤ) (number : LoopPacket → ℤ) (q r : Rising) (rs : List Rising) (test : Bool)
    → int_eq (number q.entry.packet) mark ≡ test
    → there_in mark number (rs ++ r ∷ []) ≡ with_number (there_in mark number rs) (there mark (number r.entry.packet))
    → there_in mark number (q ∷ rs ++ r ∷ []) ≡ with_number (there_in mark number (q ∷ rs)) (there mark (number r.entry.packet))
cons_there mark number q r rs true is more = rw is more
cons_there mark number q r rs false is more =
    rw is (ap (λ (xs : List ℤ). number q.entry.packet ∷ xs) more
    ∙ sym (cons_number (number q.entry.packet) (there_in mark number rs) (there mark (number r.entry.packet))))

pub there_more : (mark : ℤ) (number : LoopPacket → ℤ) (rs : List Rising) (r : Rising)
    → there_in mark number (rs ++ r ∷ []) ≡ with_number (there_in mark number rs) (there mark (number r.entry.packet))
there_more mark number [] r = one_there mark number r _ refl
there_more mark number (q ∷ rs) r = cons_there mark number q r rs _ refl (there_more mark number rs r)

pub numbers_more : (number : LoopPacket → ℤ) (rs : List Rising) (r : Rising)
    → numbers number (rs ++ r ∷ []) ≡ numbers number rs ++ number r.entry.packet ∷ []
numbers_more number [] r = refl
numbers_more number (q ∷ rs) r = ap (λ (xs : List ℤ). number q.entry.packet ∷ xs) (numbers_more number rs r)

last_more : (xs : List ℤ) (n : ℤ) → last_of_numbers (xs ++ n ∷ []) ≡ Some n
last_more [] n = refl
last_more (x ∷ []) n = refl
last_more (x ∷ y ∷ xs) n = last_more (y ∷ xs) n

last_with : (xs : List ℤ) (o : Option ℤ) → last_of_numbers (with_number xs o) ≡ latest o (last_of_numbers xs)
last_with xs None = refl
last_with xs (Some n) = last_more xs n

-- a spread of one number more, where it is there
pub spread_more : (mark : ℤ) (number : LoopPacket → ℤ) (rs : List Rising) (r : Rising) (packet : LoopPacket) (told : Option ℤ)
    (old new : Spread) → r.entry.packet ≡ packet → told ≡ there mark (number packet)
    → ((ns : List ℤ) → IsSpreadOf ns old → IsSpreadOf (with_number ns told) new) → IsSpreadOf (there_in mark number rs) old
    → IsSpreadOf (there_in mark number (rs ++ r ∷ [])) new
spread_more mark number rs r packet told old new is exact more come =
    let same : with_number (there_in mark number rs) told ≡ there_in mark number (rs ++ r ∷ []) =
    ap (λ (o : Option ℤ). with_number (there_in mark number rs) o) (exact ∙ ap (λ (p : LoopPacket). there mark (number p)) (sym is))
    ∙ sym (there_more mark number rs r) in
    subst (λ (ns : List ℤ). IsSpreadOf ns new) same (more (there_in mark number rs) come)

-- the same of numbers without a mark
pub rate_more : (number : LoopPacket → ℤ) (rs : List Rising) (r : Rising) (packet : LoopPacket) (told : Option ℤ)
    (old new : Spread) → r.entry.packet ≡ packet → told ≡ Some (number packet)
    → ((ns : List ℤ) → IsSpreadOf ns old → IsSpreadOf (with_number ns told) new) → IsSpreadOf (numbers number rs) old
    → IsSpreadOf (numbers number (rs ++ r ∷ [])) new
rate_more number rs r packet told old new is exact more come =
    let same : with_number (numbers number rs) told ≡ numbers number (rs ++ r ∷ []) =
    ap (λ (o : Option ℤ). with_number (numbers number rs) o) (exact ∙ ap (λ (p : LoopPacket). Some (number p)) (sym is))
    ∙ sym (numbers_more number rs r) in
    subst (λ (ns : List ℤ). IsSpreadOf ns new) same (more (numbers number rs) come)

-- the last number that is there
pub latest_more : (mark : ℤ) (number : LoopPacket → ℤ) (rs : List Rising) (r : Rising) (packet : LoopPacket)
    (told before now : Option ℤ) → r.entry.packet ≡ packet → told ≡ there mark (number packet) → now ≡ latest told before
    → before ≡ last_of_numbers (there_in mark number rs) → now ≡ last_of_numbers (there_in mark number (rs ++ r ∷ []))
latest_more mark number rs r packet told before now is exact latest_is come =
    latest_is ∙ (ap (λ (b : Option ℤ). latest told b) come
    ∙ (sym (last_with (there_in mark number rs) told)
    ∙ ap last_of_numbers (ap (λ (o : Option ℤ). with_number (there_in mark number rs) o)
    (exact ∙ ap (λ (p : LoopPacket). there mark (number p)) (sym is)) ∙ sym (there_more mark number rs r))))

-- a sum of one more
pub sum_more : (f : Rising → ℕ) (rs : List Rising) (r : Rising) (old more new : ℕ) → old ≡ sum_by f rs → f r ≡ more
    → new ≡ old + more → new ≡ sum_by f (rs ++ r ∷ [])
sum_more f rs r old more new come is sum = omega (arith, come, is, sum, sum_by-append f rs (r ∷ []))
