-- Records can hold the values that are drawn.
use Rattle.std.proofs.Common.{◌≡◌, ℕ, ℤ, pos, ◌%◌, ◌-ℤ◌, not, Bool, true, false, Option, Some, None, refl, arith, rules}
use Rattle.std.specs.Prelude.{int_le, negsuc, ◌≤ℤ◌, slice_set}
use Rattle.std.specs.Ordering.{int_eq}
use Rattle.std.proofs.lemmas.Bool.Decides.{Decides-int_eq}
use Rattle.std.proofs.lemmas.Bool.{and_from}
use Rattle.jiff_core.proofs.SignedLemmas.{signed_arith}
use Rattle.station_base.specs.Fields.{field_named, fields}
use Rattle.archive_record.specs.Place.{can_hold}
use Rattle.archive_record.specs.Table.{field_places, place, places}
use Rattle.archive_record.specs.Writing.{can_hold_all}
use Rattle.archive_record.specs.declared.kind.Kind.TheVariants.{SignedWord, Word}
use Rattle.schedule_file.specs.Forms.{no_values}
use Rattle.made_run.specs.Made.{due_values}

at_most : (a b : ℤ) → a ≤ℤ b → int_le a b ≡ true
at_most a b h = search rules

differs : (a b : ℤ) → (a ≡ b → ⊥) → not (int_eq a b) ≡ true
differs a b apart = go (int_eq a b) refl
  where
    go : (t : Bool) → int_eq a b ≡ t → not t ≡ true
    go true is = absurd (apart ((Decides-int_eq a b).0 is))
    go false is = refl

temperature_held : (t : ℕ) → can_hold (place 4 SignedWord (Some 32767)) (Some (pos (t % 1000) -ℤ pos 200)) ≡ true
temperature_held t =
    let value = pos (t % 1000) -ℤ pos 200 in
    and_from _ _ (and_from _ _ (at_most (negsuc 32767) value (omega (arith, signed_arith))) (at_most value (pos 32767) (omega (arith, signed_arith))))
    (differs value (pos 32767) (λ same. omega (arith, signed_arith, same)))

rain_held : (r : ℕ) → can_hold (place 10 Word None) (Some (pos (r % 3))) ≡ true
rain_held r = and_from _ _ (and_from _ _ (at_most (pos 0) (pos (r % 3)) (omega (arith, signed_arith))) (at_most (pos (r % 3)) (pos 65535) (omega (arith, signed_arith)))) refl

both_held : (a b : Option ℤ) → can_hold (place 4 SignedWord (Some 32767)) a ≡ true → can_hold (place 10 Word None) b ≡ true → can_hold_all places (slice_set (slice_set no_values 0 a) 3 b) ≡ true
unfolding places field_places
both_held a b first second = and_from _ _ first (and_from _ _ second refl)

pub due_held : (t r : ℕ) → can_hold_all places (due_values t r) ≡ true
unfolding field_named fields
due_held t r = both_held (Some (pos (t % 1000) -ℤ pos 200)) (Some (pos (r % 3))) (temperature_held t) (rain_held r)
