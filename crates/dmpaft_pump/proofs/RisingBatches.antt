-- The batches of an attempt, put together.
use Rattle.std.proofs.Common.{◌≡◌, ℕ, Option, List, [], ◌∷◌, ◌++◌, refl, sym, ◌∙◌, ap, append_assoc}
use Rattle.station_base.specs.CivilMinute.{CivilMinute}
use Rattle.dmpaft_pump.specs.Batch.{slots_in_page, slot_is_newer, one_if, last_if, rising, newest, add, batches, all_slots, records_in}

-- the records of slots after others
pub rising_joins : (a : Option CivilMinute) (xs ys : List (List ℕ)) → rising a (xs ++ ys) ≡ rising a xs ++ rising (newest a xs) ys
rising_joins a [] ys = refl
rising_joins a (s ∷ ss) ys =
    let b = last_if (slot_is_newer a s) a s in
    ap (λ (x : List (List ℕ)). one_if (slot_is_newer a s) s ++ x) (rising_joins b ss ys) ∙ sym (append_assoc (one_if (slot_is_newer a s) s) (rising b ss) (rising (newest b ss) ys))

records_in_add : (rows : List (List ℕ)) (more : List (List (List ℕ))) → records_in (add rows more) ≡ rows ++ records_in more
records_in_add [] more = refl
records_in_add (r ∷ rows) more = refl

-- one batch after another, they are the rows of all slots whose stamps rise
pub batches_rise : (a : Option CivilMinute) (place : ℕ) (taken : List (List ℕ)) → records_in (batches a place taken) ≡ rising a (all_slots place taken)
batches_rise a place [] = refl
batches_rise a place (page ∷ more) =
    records_in_add (rising a (slots_in_page place page)) (batches (newest a (slots_in_page place page)) 0 more)
    ∙ ap (λ (x : List (List ℕ)). rising a (slots_in_page place page) ++ x) (batches_rise (newest a (slots_in_page place page)) 0 more)
    ∙ sym (rising_joins a (slots_in_page place page) (all_slots 0 more))
