-- The record without values.
use Rattle.std.proofs.Common.{◌≡◌, ℕ, zero, suc, ◌<◌, true, List, [], ◌∷◌, length, slice_index, arith, nat_lt, lit<}
use Rattle.std.specs.List.{list_all}
use Rattle.std.proofs.lemmas.Bool.{and_parts}
use Rattle.std.proofs.lemmas.Bool.Decides.{nat_tests}
use Rattle.archive_record.specs.Record.{IsRecord}
use Rattle.archive_record.specs.Place.{record_size}

lt_of : (byte : ℕ) → nat_lt byte 256 ≡ true → byte < 256
lt_of byte test = grind (arith, nat_tests)

all_small : (bytes : List ℕ) → list_all (λ byte. nat_lt byte 256) bytes ≡ true → (i : ℕ) → slice_index bytes i < 256
all_small [] test i = lit< tt
all_small (byte ∷ bytes) test zero = (let small = (and_parts (nat_lt byte 256) (list_all (λ b. nat_lt b 256) bytes) test).0 in lt_of byte small)
all_small (byte ∷ bytes) test (suc i) = all_small bytes (and_parts (nat_lt byte 256) (list_all (λ b. nat_lt b 256) bytes) test).1 i

-- a list that a test finds to be a record
pub is_record : (bytes : List ℕ) → length bytes ≡ record_size → list_all (λ byte. nat_lt byte 256) bytes ≡ true → IsRecord bytes
is_record bytes long test = record { long = long; small = all_small bytes test }
