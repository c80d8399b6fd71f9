-- Pieces, one behind the other.
use Rattle.std.proofs.Common.{◌≡◌, ℕ, ◌+◌, ◌<◌, ◌≤◌, List, length, take, get_or, arith, ap, Bor, ◌++◌, ◌∷◌, ◌∙◌}
use Rattle.std.specs.Prelude.{flat_map}
use Rattle.std.proofs.lemmas.List.Folds.{length-flat_map-take}

-- there is room for one piece more
pub room : (pieces : List (Bor (List ℕ))) (i all : ℕ) (written : List ℕ) (d : Bor (List ℕ)) → i < length pieces → length (flat_map (λ piece. piece.now) pieces) ≡ all → written ≡ flat_map (λ piece. piece.now) (take i pieces) → length written + length (get_or pieces i d).now ≤ all
room pieces i all written d within whole so_far =
    let few : length (flat_map (λ (piece : Bor (List ℕ)). piece.now) (take i pieces)) + length (get_or pieces i d).now ≤ length (flat_map (λ (piece : Bor (List ℕ)). piece.now) pieces) = length-flat_map-take (λ (piece : Bor (List ℕ)). piece.now) pieces i d within in
    let same : length written ≡ length (flat_map (λ (piece : Bor (List ℕ)). piece.now) (take i pieces)) = ap length so_far in
    omega arith

-- what stands behind a piece, behind one that is the same, and behind one byte
pub joins : {piece other rest more : List ℕ} → piece ≡ other → rest ≡ more → piece ++ rest ≡ other ++ more
joins {piece = piece} {other = other} {rest = rest} {more = more} same behind = ap (λ (xs : List ℕ). xs ++ rest) same ∙ ap (λ (xs : List ℕ). other ++ xs) behind

pub keeps : (piece : List ℕ) {rest more : List ℕ} → rest ≡ more → piece ++ rest ≡ piece ++ more
keeps piece behind = ap (λ (xs : List ℕ). piece ++ xs) behind

pub keeps_byte : {byte : ℕ} {rest more : List ℕ} → rest ≡ more → byte ∷ rest ≡ byte ∷ more
keeps_byte {byte = byte} behind = ap (λ (xs : List ℕ). byte ∷ xs) behind
