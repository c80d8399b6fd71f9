-- The batch of the last page.
use Rattle.std.proofs.Common.{◌≡◌, ◌≢◌, ℕ, List, [], ◌∷◌, ◌++◌, Option, refl, sym, ap, subst, append-nil}
use Rattle.station_base.specs.CivilMinute.{CivilMinute}
use Rattle.dmpaft_pump.specs.Batch.{slots_in_page, rising, newest, last_if, slot_is_newer, all_slots, EndsGiving}
use Rattle.dmpaft_pump.specs.Pump.{batch_of}

pub newest_joins : (a : Option CivilMinute) (xs ys : List (List ℕ)) → newest a (xs ++ ys) ≡ newest (newest a xs) ys
newest_joins a [] ys = refl
newest_joins a (s ∷ ss) ys = newest_joins (last_if (slot_is_newer a s) a s) ss ys

-- the last page gives its batch
pub gives_last : (a : Option CivilMinute) (at : ℕ) (taken : List (List ℕ)) (page : List ℕ) → EndsGiving a at (taken ++ page ∷ []) → batch_of a at taken page ≢ []
gives_last a at [] page x = x
gives_last a at (p ∷ []) page x =
    subst (λ (b : Option CivilMinute). rising b (slots_in_page 0 page) ≢ []) (ap (λ (y : List (List ℕ)). newest a y) (sym (append-nil (slots_in_page at p)))) x
gives_last a at (p ∷ q ∷ taken) page x =
    let y = gives_last (newest a (slots_in_page at p)) 0 (q ∷ taken) page x in
    subst (λ (b : Option CivilMinute). rising b (slots_in_page 0 page) ≢ []) (sym (newest_joins a (slots_in_page at p) (all_slots 0 (q ∷ taken)))) y

pub gives_so : (a : Option CivilMinute) (at : ℕ) (taken : List (List ℕ)) (page : List ℕ) → batch_of a at taken page ≢ [] → EndsGiving a at (taken ++ page ∷ [])
gives_so a at [] page x = x
gives_so a at (p ∷ []) page x =
    subst (λ (b : Option CivilMinute). rising b (slots_in_page 0 page) ≢ []) (sym (ap (λ (y : List (List ℕ)). newest a y) (sym (append-nil (slots_in_page at p))))) x
gives_so a at (p ∷ q ∷ taken) page x =
    gives_so (newest a (slots_in_page at p)) 0 (q ∷ taken) page (subst (λ (b : Option CivilMinute). rising b (slots_in_page 0 page) ≢ []) (newest_joins a (slots_in_page at p) (all_slots 0 (q ∷ taken))) x)
