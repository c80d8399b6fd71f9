use Rattle.std.proofs.Common.{ℕ, List, [], ◌∷◌, ◌++◌, ◌≡◌, length, take, arith, length-append}
use Rattle.std.proofs.lemmas.List.{length-take}
use Rattle.value_tests.proofs.soft_record_tests.bytes_that_are_no_entry_change_nothing.Goals as goal

-- so many bytes of an entry with one behind it
front : (entry : List ℕ) → length entry ≡ 104 → 103 ≡ length (take 103 (entry ++ 0 ∷ []))
front entry is = omega (arith, is, length-take 103 (entry ++ 0 ∷ []), length-append entry (0 ∷ []))

pub slice_bounds-take-length : goal.slice_bounds-take-length
slice_bounds-take-length g c = front c.copy_from_slice.new.self (omega arith)

pub slice_bounds-take-length-2 : goal.slice_bounds-take-length-2
slice_bounds-take-length-2 g c = front c.copy_from_slice.new.self (omega arith)
