-- Bytes that are read pair by pair.
use Rattle.std.proofs.Common.{◌≡◌, ℕ, ◌+◌, ◌*◌, ◌≤◌, ◌<◌, Bool, true, false, Option, Some, None, List, [], ◌∷◌, ◌++◌, length, get_or, drop, refl, sym, ap, ◌∙◌, arith, append_assoc, append-nil}
use Rattle.std.specs.Prelude.{nat_le, ◌&&◌}
use Rattle.std.proofs.lemmas.Bool.{le-leb, leb-true}
use Rattle.numerals.specs.Then.{◌>>=◌, only_if}
use Rattle.numerals.specs.Pairs.{pair_of, pairs_of, bytes_within}

-- the bytes that were read, and those of what is left
abbrev pub bytes_on : List ℕ → Option (List ℕ) → Option (List ℕ)
bytes_on bytes rest = rest >>= (λ (more : List ℕ). Some (bytes ++ more))

-- one pair more
pub pair_more : (bytes rest : List ℕ) (byte : ℕ) → 2 ≤ length rest → pair_of (get_or rest 0 0) (get_or rest 1 0) ≡ Some byte
    → bytes_on bytes (pairs_of rest) ≡ bytes_on (bytes ++ byte ∷ []) (pairs_of (drop 2 rest))
pair_more bytes [] byte long read = absurd (omega arith)
pair_more bytes (one ∷ []) byte long read = absurd (omega arith)
pair_more bytes (high ∷ low ∷ more) byte long read = rw read (go (pairs_of more))
  where
    go : (rest : Option (List ℕ)) → bytes_on bytes (rest >>= (λ (bs : List ℕ). Some (byte ∷ bs))) ≡ bytes_on (bytes ++ byte ∷ []) rest
    go None = refl
    go (Some bs) = ap Some (sym (append_assoc bytes (byte ∷ []) bs))

-- a pair that is none
pub pair_none : (bytes rest : List ℕ) → 2 ≤ length rest → pair_of (get_or rest 0 0) (get_or rest 1 0) ≡ None → bytes_on bytes (pairs_of rest) ≡ None
pair_none bytes [] long read = absurd (omega arith)
pair_none bytes (one ∷ []) long read = absurd (omega arith)
pair_none bytes (high ∷ low ∷ more) long read = rw read refl

-- a digit alone is no pair
pub digit_left : (bytes rest : List ℕ) → 0 < length rest → length rest < 2 → bytes_on bytes (pairs_of rest) ≡ None
digit_left bytes [] some few = absurd (omega arith)
digit_left bytes (one ∷ []) some few = refl
digit_left bytes (high ∷ low ∷ more) some few = absurd (omega arith)

nothing_left : (rest : List ℕ) → length rest ≡ 0 → rest ≡ []
nothing_left [] e = refl
nothing_left (d ∷ ds) e = absurd (omega arith)

-- all that was read, where nothing is left
pub bytes_whole : (most : ℕ) (word bytes rest : List ℕ) → pairs_of word ≡ bytes_on bytes (pairs_of rest) → length rest ≡ 0 → 1 ≤ length bytes → length bytes ≤ most
    → Some bytes ≡ bytes_within most word
unfolding bytes_within
bytes_whole most word bytes rest whole e some few =
    let none = nothing_left rest e in
    let all : pairs_of word ≡ Some bytes = whole ∙ ap (λ (r : List ℕ). bytes_on bytes (pairs_of r)) none ∙ ap Some (append-nil bytes) in
    rw (all, le-leb 1 (length bytes) some, le-leb (length bytes) most few) refl

-- none, where the pairs are none
pub bytes_none : (most : ℕ) (word : List ℕ) → pairs_of word ≡ None → None ≡ bytes_within most word
unfolding bytes_within
bytes_none most word none = rw none refl

pub bytes_empty : (most : ℕ) (word : List ℕ) → length word ≡ 0 → None ≡ bytes_within most word
unfolding bytes_within
bytes_empty most [] e = refl
bytes_empty most (d ∷ ds) e = absurd (omega arith)

double : (byte : Option ℕ) (rest : Option (List ℕ)) (n : ℕ) → ((bytes : List ℕ) → rest ≡ Some bytes → n ≡ 2 * length bytes)
    → (bytes : List ℕ) → (byte >>= (λ (m : ℕ). rest >>= (λ (bs : List ℕ). Some (m ∷ bs)))) ≡ Some bytes → n + 2 ≡ 2 * length bytes
double None rest n half bytes e = cc
double (Some m) None n half bytes e = cc
double (Some m) (Some bs) n half bytes e =
    let same : m ∷ bs ≡ bytes = cc in
    let h : n ≡ 2 * length bs = half bs refl in
    rw (← same) (omega arith)

-- there are two digits for each byte
long_pairs : (word bytes : List ℕ) → pairs_of word ≡ Some bytes → length word ≡ 2 * length bytes
long_pairs [] [] e = refl
long_pairs [] (m ∷ bs) e = cc
long_pairs (d ∷ []) bytes e = cc
long_pairs (h ∷ l ∷ ds) bytes e =
    let n : length ds + 2 ≡ 2 * length bytes = double (pair_of h l) (pairs_of ds) (length ds) (long_pairs ds) bytes e in
    omega arith

-- more than two digits for each are too many
pub bytes_long : (most : ℕ) (word : List ℕ) → 2 * most < length word → None ≡ bytes_within most word
unfolding bytes_within
bytes_long most word long = go (pairs_of word) refl
  where
    go : (pairs : Option (List ℕ)) → pairs_of word ≡ pairs → None ≡ (pairs >>= (λ (bytes : List ℕ). only_if (nat_le 1 (length bytes) && nat_le (length bytes) most) bytes))
    go None e = refl
    go (Some bytes) e =
        let twice = long_pairs word bytes e in
        test (nat_le 1 (length bytes)) (nat_le (length bytes) most) (λ h. let few = leb-true (length bytes) most h in absurd (omega arith))
      where
        test : (a b : Bool) → (b ≡ true → ⊥) → None ≡ only_if (a && b) bytes
        test true true wrong = absurd (wrong refl)
        test true false wrong = refl
        test false b wrong = refl
