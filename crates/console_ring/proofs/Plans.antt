-- The plan by how many records are left from the first newer one on.
use Rattle.std.proofs.Common.{◌≡◌, ℕ, ◌+◌, ◌-◌, ◌/◌, ◌%◌, ◌≤◌, List, length, refl, sym, ap, ◌∙◌, arith, length-drop, Option, Some, None}
use Rattle.std.specs.Prelude.{position, option_map}
use Rattle.console_ring.specs.declared.plan.Plan.{Plan}
use Rattle.console_ring.specs.History.{retained, record_is_newer, ring_size}
use Rattle.console_ring.specs.Picture.{no_plan, plan_by, plan_of}
use Rattle.console_ring.specs.Standing.{KeptRecords, RingStandsFor}

-- the plan of so many records, where the next one goes in this slot
abbrev pub made_plan : ℕ → ℕ → Plan
made_plan next count = record {
  pages = (count - 1 + (next + ring_size - count) % ring_size % 5) / 5 + 1;
  place = (next + ring_size - count) % ring_size % 5;
  first_page = (next + ring_size - count) % ring_size / 5;
}

abbrev of_numbers : ℕ → ℕ → Plan
of_numbers left slot = record { pages = (left + slot % 5) / 5 + 1; place = slot % 5; first_page = slot / 5 }

plan_none : (o : Option ℕ) (overwritten total long : ℕ) → option_map (λ place. long - place) o ≡ None → plan_by o overwritten total ≡ no_plan
plan_none None overwritten total long is = refl
plan_none (Some place) overwritten total long is = cc

same_slot : (next total long place count : ℕ) → long - place ≡ count → 1 ≤ count → long ≡ total - (total - ring_size) → next ≡ total % ring_size →
    (next + ring_size - count) % ring_size ≡ (total - ring_size + place) % ring_size
same_slot next total long place count left some all after = omega arith

same_left : (total long place count : ℕ) → long - place ≡ count → 1 ≤ count → long ≡ total - (total - ring_size) →
    count - 1 ≡ total - 1 - (total - ring_size + place)
same_left total long place count left some all = omega arith

plan_some : (o : Option ℕ) (next total long count : ℕ) → option_map (λ place. long - place) o ≡ Some count → 1 ≤ count →
    long ≡ total - (total - ring_size) → next ≡ total % ring_size → made_plan next count ≡ plan_by o (total - ring_size) total
plan_some None next total long count is some all after = cc
plan_some (Some place) next total long count is some all after =
    let left : long - place ≡ count = cc in
    ap (λ slot. of_numbers (count - 1) slot) (same_slot next total long place count left some all after)
    ∙ ap (λ n. of_numbers n ((total - ring_size + place) % ring_size)) (same_left total long place count left some all)

pub without : (ring : KeptRecords) (history : List (List ℕ)) (date time : ℕ) → RingStandsFor ring history →
    option_map (λ place. length ring.records - place) (position (record_is_newer date time) ring.records) ≡ None → no_plan ≡ plan_of history date time
unfolding plan_of
without ring history date time stands is =
    let found = ap (λ xs. option_map (λ place. length xs - place) (position (record_is_newer date time) xs)) stands.records in
    sym (plan_none (position (record_is_newer date time) (retained history)) (length history - ring_size) (length history) (length (retained history)) (sym found ∙ is))

pub with_records : (ring : KeptRecords) (history : List (List ℕ)) (date time next count : ℕ) → RingStandsFor ring history → next ≡ length history % ring_size →
    option_map (λ place. length ring.records - place) (position (record_is_newer date time) ring.records) ≡ Some count → 1 ≤ count →
    made_plan next count ≡ plan_of history date time
unfolding plan_of
with_records ring history date time next count stands after is some =
    let found = ap (λ xs. option_map (λ place. length xs - place) (position (record_is_newer date time) xs)) stands.records in
    plan_some (position (record_is_newer date time) (retained history)) next (length history) (length (retained history)) count (sym found ∙ is) some (length-drop (length history - ring_size) history) after
