-- What a pump holds after one page more.
use Rattle.std.proofs.Common.{◌≡◌, ◌≢◌, ℕ, zero, suc, ◌+◌, ◌-◌, ◌*◌, ◌<◌, ◌≤◌, Bool, true, false, List, [], ◌∷◌, ◌++◌, length, take, drop, refl, sym, ◌∙◌, ap, arith, append_assoc, append-nil, Option, get_or}
use Rattle.std.specs.Prelude.{◌==◌}
use Rattle.std.proofs.lemmas.Bool.{eqb-true}
use Rattle.std.proofs.Math.Seq.{take-length}
use Rattle.archive_record.specs.Place.{record_size}
use Rattle.station_base.specs.CivilMinute.{CivilMinute}
use Rattle.dmpaft_pump.specs.Keeper.{kept_all}
use Rattle.dmpaft_pump.specs.Slot.{is_skipped}
use Rattle.dmpaft_pump.specs.Batch.{slots_in_page, slots_from, rising, newest, skipped, count_if, add, batches, all_slots, all_skipped}
use Rattle.dmpaft_pump.specs.Pump.{newest_in_pages, next_place, batch_of, batched, Keeps}
use Rattle.dmpaft_pump.specs.Shown.{all_kept}
use Rattle.dmpaft_pump.proofs.LastBatch.{newest_joins}

pub skips_more : (place : ℕ) (taken : List (List ℕ)) (page : List ℕ) → all_skipped place (taken ++ page ∷ []) ≡ all_skipped place taken + skipped (slots_in_page (next_place place taken) page)
skips_more place [] page = omega arith
skips_more place (p ∷ []) page = omega arith
skips_more place (p ∷ q ∷ taken) page = omega (arith, skips_more 0 (q ∷ taken) page)

pub slots_more : (place : ℕ) (taken : List (List ℕ)) (page : List ℕ) → all_slots place (taken ++ page ∷ []) ≡ all_slots place taken ++ slots_in_page (next_place place taken) page
slots_more place [] page = append-nil (slots_in_page place page)
slots_more place (p ∷ []) page = ap (λ (x : List (List ℕ)). slots_in_page place p ++ x) (append-nil (slots_in_page 0 page)) ∙ ap (λ (x : List (List ℕ)). x ++ slots_in_page 0 page) (sym (append-nil (slots_in_page place p)))
slots_more place (p ∷ q ∷ taken) page = ap (λ (x : List (List ℕ)). slots_in_page place p ++ x) (slots_more 0 (q ∷ taken) page) ∙ sym (append_assoc (slots_in_page place p) (all_slots 0 (q ∷ taken)) (slots_in_page 0 page))

pub newest_more : (a : Option CivilMinute) (place : ℕ) (taken : List (List ℕ)) (page : List ℕ) → newest_in_pages a place (taken ++ page ∷ []) ≡ newest (newest_in_pages a place taken) (slots_in_page (next_place place taken) page)
newest_more a place taken page = ap (λ (x : List (List ℕ)). newest a x) (slots_more place taken page) ∙ newest_joins a (all_slots place taken) (slots_in_page (next_place place taken) page)

pub place_more : (place : ℕ) (taken : List (List ℕ)) (page : List ℕ) → next_place place (taken ++ page ∷ []) ≡ 0
place_more place [] page = refl
place_more place (p ∷ taken) page = refl

one_skipped : (b : Bool) → count_if b ≤ 1
one_skipped true = omega arith
one_skipped false = omega arith

skipped_few : (n place : ℕ) (page : List ℕ) → skipped (slots_from n place page) ≤ n
skipped_few zero place page = omega arith
skipped_few (suc n) place page = omega (arith, skipped_few n (place + 1) page, one_skipped (is_skipped (take record_size (drop (1 + record_size * place) page))))

pub all_few : (place : ℕ) (taken : List (List ℕ)) → all_skipped place taken ≤ 5 * length taken
all_few place [] = omega arith
all_few place (p ∷ taken) = omega (arith, skipped_few (5 - place) place p, all_few 0 taken)

add_joins : (rows : List (List ℕ)) (more : List (List (List ℕ))) → add rows more ≡ add rows [] ++ more
add_joins [] more = refl
add_joins (r ∷ rows) more = refl

pub batches_more : (a : Option CivilMinute) (place : ℕ) (taken : List (List ℕ)) (page : List ℕ) → batches a place (taken ++ page ∷ []) ≡ batches a place taken ++ add (batch_of a place taken page) []
batches_more a place [] page = refl
batches_more a place (p ∷ []) page =
    ap (λ (x : Option CivilMinute). add (rising a (slots_in_page place p)) (add (rising x (slots_in_page 0 page)) [])) (ap (λ (y : List (List ℕ)). newest a y) (sym (append-nil (slots_in_page place p))))
    ∙ add_joins (rising a (slots_in_page place p)) (add (rising (newest a (slots_in_page place p ++ [])) (slots_in_page 0 page)) [])
batches_more a place (p ∷ q ∷ taken) page =
    let b = newest a (slots_in_page place p) in
    ap (λ (x : List (List (List ℕ))). add (rising a (slots_in_page place p)) x) (batches_more b 0 (q ∷ taken) page)
    ∙ add_joins (rising a (slots_in_page place p)) (batches b 0 (q ∷ taken) ++ add (batch_of b 0 (q ∷ taken) page) [])
    ∙ ap (λ (x : Option CivilMinute). add (rising a (slots_in_page place p)) [] ++ (batches b 0 (q ∷ taken) ++ add (rising x (slots_in_page 0 page)) [])) (sym (newest_joins a (slots_in_page place p) (all_slots 0 (q ∷ taken))))
    ∙ sym (append_assoc (add (rising a (slots_in_page place p)) []) (batches b 0 (q ∷ taken)) (add (batch_of a place (p ∷ q ∷ taken) page) []))
    ∙ ap (λ (x : List (List (List ℕ))). x ++ add (batch_of a place (p ∷ q ∷ taken) page) []) (sym (add_joins (rising a (slots_in_page place p)) (batches b 0 (q ∷ taken))))

-- a page with no batch leaves what was kept
pub kept_none : (a : Option CivilMinute) (place : ℕ) (taken : List (List ℕ)) (page : List ℕ) → batch_of a place taken page ≡ [] → all_kept a place (taken ++ page ∷ []) ≡ all_kept a place taken
kept_none a place taken page e =
    ap kept_all (batches_more a place taken page ∙ ap (λ (x : List (List ℕ)). batches a place taken ++ add x []) e ∙ append-nil (batches a place taken))

-- one byte was heard
pub heard_one : (bs buf : List ℕ) (x : ℕ) → length bs ≡ 1 → take (length bs) buf ≡ bs → 0 < length buf → get_or buf 0 0 ≡ x → bs ≡ x ∷ []
heard_one bs [] x l e p f = absurd (omega (arith, p))
heard_one [] (b ∷ buf) x l e p f = absurd (omega arith)
heard_one (c ∷ []) (b ∷ buf) x l e p f = sym e ∙ ap (λ y. y ∷ []) f
heard_one (c ∷ d ∷ bs) (b ∷ buf) x l e p f = absurd (omega arith)

pub all_of : (bs buf : List ℕ) (n : ℕ) → length bs ≡ n → length buf ≡ n → take (length bs) buf ≡ bs → buf ≡ bs
all_of bs buf n l m e = sym (take-length buf) ∙ ap (λ k. take k buf) (m ∙ sym l) ∙ e

pub none_in : (rows : List (List ℕ)) → (length rows == 0) ≡ true → rows ≡ []
none_in [] e = refl
none_in (r ∷ rows) e = absurd (omega (arith, eqb-true (length (r ∷ rows)) 0 e))

pub some_in : (rows : List (List ℕ)) → (length rows == 0) ≡ false → rows ≢ []
some_in [] e = λ z. cc
some_in (r ∷ rows) e = λ z. cc

pub batched_some : (more place : ℕ) (taken : List (List ℕ)) (page : List ℕ) (rows : List (List ℕ)) → rows ≢ [] → batched more place taken page rows ≡ Keeps more place taken page
batched_some more place taken page [] some = absurd (some refl)
batched_some more place taken page (r ∷ rows) some = refl
