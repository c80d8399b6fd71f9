-- The batch of the last page.
use Rattle.std.proofs.Common.{◌≡◌, ◌≢◌, ℕ, List, [], ◌∷◌, ◌++◌, Option, refl, ◌∙◌, ap, subst}
use Rattle.station_base.specs.CivilMinute.{CivilMinute}
use Rattle.dmpaft_pump.specs.Batch.{slots_in_page, rising, newest, add, batches, EndsGiving}
use Rattle.station_session.proofs.KeptBatches.{but_last}

-- the last of some pages
pub some_last : (l : List (List ℕ)) → l ≢ [] → (first : List (List ℕ)) × (last : List ℕ) × (l ≡ first ++ last ∷ [])
some_last [] some = absurd (some refl)
some_last (x ∷ []) some = ([], x, refl)
some_last (x ∷ y ∷ l) some = let s = some_last (y ∷ l) (λ no. cc) in (x ∷ s.0, s.1, ap (λ (z : List (List ℕ)). x ∷ z) s.2)

but_last_one : (bs : List (List (List ℕ))) (b : List (List ℕ)) → but_last (bs ++ b ∷ []) ≡ bs
but_last_one [] b = refl
but_last_one (x ∷ []) b = refl
but_last_one (x ∷ y ∷ bs) b = ap (λ (z : List (List (List ℕ))). x ∷ z) (but_last_one (y ∷ bs) b)

add_before : (rows : List (List ℕ)) (bs : List (List (List ℕ))) (b : List (List ℕ)) → add rows (bs ++ b ∷ []) ≡ add rows bs ++ b ∷ []
add_before [] bs b = refl
add_before (r ∷ rows) bs b = refl

add_one : (rows : List (List ℕ)) → rows ≢ [] → add rows [] ≡ rows ∷ []
add_one [] some = absurd (some refl)
add_one (r ∷ rows) some = refl

gives_next : (after : Option CivilMinute) (place : ℕ) (page : List ℕ) (first : List (List ℕ)) (last : List ℕ) → EndsGiving after place (page ∷ (first ++ last ∷ [])) → EndsGiving (newest after (slots_in_page place page)) 0 (first ++ last ∷ [])
gives_next after place page [] last x = x
gives_next after place page (next ∷ first) last x = x

-- the batch of the last page is the last batch, where that page gives one
batches_last : (after : Option CivilMinute) (place : ℕ) (first : List (List ℕ)) (last : List ℕ) → EndsGiving after place (first ++ last ∷ []) → (b : List (List ℕ)) × (batches after place (first ++ last ∷ []) ≡ batches after place first ++ b ∷ [])
batches_last after place [] last x = (rising after (slots_in_page place last), add_one (rising after (slots_in_page place last)) x)
batches_last after place (page ∷ first) last x =
    let n = newest after (slots_in_page place page) in
    let s = batches_last n 0 first last (gives_next after place page first last x) in
    (s.0, ap (λ (z : List (List (List ℕ))). add (rising after (slots_in_page place page)) z) s.1 ∙ add_before (rising after (slots_in_page place page)) (batches n 0 first) s.0)

-- all batches but the last are those of all pages but the last
pub but_last_batches : (after : Option CivilMinute) (place : ℕ) (taken first : List (List ℕ)) (last : List ℕ) → taken ≡ first ++ last ∷ [] → EndsGiving after place taken → but_last (batches after place taken) ≡ batches after place first
but_last_batches after place taken first last is gives =
    let b = batches_last after place first last (subst (EndsGiving after place) is gives) in
    ap (λ (z : List (List ℕ)). but_last (batches after place z)) is ∙ ap but_last b.1 ∙ but_last_one (batches after place first) b.0
