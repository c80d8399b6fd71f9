-- Reads and writes after one another.
use Rattle.std.proofs.Common.{◌≡◌, ◌≤◌, ◌<◌, ◌+◌, ℕ, List, [], ◌++◌, length, take, drop, Some, None, refl, sym, ap, ◌∙◌, subst, append_assoc, append-nil, arith}
use Rattle.std.proofs.Math.Seq.{take-append-add}
use Rattle.std.proofs.lemmas.List.{take-append-drop, take-append-le, take-take, drop-drop, length-take-le, length-append}
use Rattle.std.specs.Io.KnownBytes.{Appends, Keeps, Consumes, IsAtEnd}
use Rattle.causes.specs.Written.{Leaves, WritesPart}
use Rattle.causes.proofs.WritesInTurn.{leaves_less}
use Rattle.std.specs.declared.option.Option.{Option as Maybe}

-- no bytes were read
pub Consumes-nil : (known : Maybe (List ℕ)) → Consumes known known []
Consumes-nil None = tt
Consumes-nil (Some xs) = refl

-- two reads are one of both
pub Consumes-append : (a b c : Maybe (List ℕ)) (xs ys : List ℕ) → Consumes a b xs → Consumes b c ys → Consumes a c (xs ++ ys)
Consumes-append None b c xs ys first second = tt
Consumes-append (Some a) None c xs ys first second = absurd first
Consumes-append (Some a) (Some b) None xs ys first second = absurd second
Consumes-append (Some a) (Some b) (Some c) xs ys first second =
    first ∙ ap (λ (zs : List ℕ). xs ++ zs) second ∙ sym (append_assoc xs ys c)

-- a read that failed read nothing
pub Consumes-keeps : (a b c : Maybe (List ℕ)) (xs : List ℕ) → Consumes a b xs → Keeps b c → Consumes a c xs
Consumes-keeps None b c xs first kept = tt
Consumes-keeps (Some a) None c xs first kept = absurd first
Consumes-keeps (Some a) (Some b) None xs first kept = absurd kept
Consumes-keeps (Some a) (Some b) (Some c) xs first kept = first ∙ ap (λ (zs : List ℕ). xs ++ zs) (sym kept)

-- all was read
pub Consumes-end : (a b : Maybe (List ℕ)) (xs all : List ℕ) → Consumes a b xs → IsAtEnd b → a ≡ Some all → xs ≡ all
Consumes-end a None xs all first end told = absurd (subst (λ o. Consumes o None xs) told first)
Consumes-end a (Some b) xs all first end told =
    let whole : all ≡ xs ++ b = subst (λ o. Consumes o (Some b) xs) told first in
    sym (whole ∙ ap (λ (zs : List ℕ). xs ++ zs) end ∙ append-nil xs)

-- what was read is a front
pub Consumes-front : (a b : Maybe (List ℕ)) (xs all : List ℕ) → Consumes a b xs → a ≡ Some all → (rest : List ℕ) × (all ≡ xs ++ rest)
Consumes-front a None xs all first told = absurd (subst (λ o. Consumes o None xs) told first)
Consumes-front a (Some b) xs all first told = (b, subst (λ o. Consumes o (Some b) xs) told first)

-- a write that failed wrote nothing
Appends-keeps : (a b c : Maybe (List ℕ)) (xs : List ℕ) → Appends a b xs → Keeps b c → Appends a c xs
Appends-keeps None b c xs first kept = tt
Appends-keeps (Some a) None c xs first kept = absurd first
Appends-keeps (Some a) (Some b) None xs first kept = absurd kept
Appends-keeps (Some a) (Some b) (Some c) xs first kept = kept ∙ first

-- a write failed, and what was written before it is a part
pub part_kept : (old now new : Maybe (List ℕ)) (all rest : List ℕ) → Leaves old now all rest → Keeps now new → WritesPart old new all
part_kept old now new all rest before kept = record {
  left = rest;
  leaves = record {
    written = before.written;
    appended = Appends-keeps old now new before.written before.appended kept;
    whole = before.whole;
  };
}

-- a write took no byte, and what was written before it is a part
pub part_ended : (old now new : Maybe (List ℕ)) (all rest : List ℕ) → Leaves old now all rest → Appends now new [] → WritesPart old new all
part_ended old now new all rest before none = record {
  left = rest;
  leaves = leaves_less old now new all [] rest before none;
}

-- what is left after one more write
pub leaves_behind : (old now new : Maybe (List ℕ)) (all : List ℕ) (at n : ℕ) → Leaves old now all (drop at all)
    → Appends now new (take n (drop at all)) → Leaves old new all (drop (at + n) all)
leaves_behind old now new all at n before more =
    let halves : take n (drop at all) ++ drop (at + n) all ≡ drop at all = ap (λ (zs : List ℕ). take n (drop at all) ++ zs) (sym (drop-drop n at all)) ∙ take-append-drop n (drop at all) in
    leaves_less old now new all (take n (drop at all)) (drop (at + n) all)
    (subst (λ (zs : List ℕ). Leaves old now all zs) (sym halves) before) more

-- a read went past what there is room for
pub front_of_more : (a b new : Maybe (List ℕ)) (xs chunk all : List ℕ) (n room most : ℕ)
    → Consumes a b xs → Consumes b new (take n chunk) → a ≡ Some all
    → length xs + room ≡ most → room < n → n ≤ length chunk
    → (xs ++ take room chunk ≡ take most all) × (most < length all)
front_of_more a b new xs chunk all n room most first then told full over within =
    let split : (rest : List ℕ) × (all ≡ (xs ++ take n chunk) ++ rest)
    = Consumes-front a new (xs ++ take n chunk) all (Consumes-append a b new xs (take n chunk) first then) told in
    let held : length (take n chunk) ≡ n = length-take-le n chunk within in
    let sizes : length all ≡ (length xs + n) + length split.0 = omega (arith, ap length split.1, length-append (xs ++ take n chunk) split.0, length-append xs (take n chunk), held) in
    let whole : all ≡ xs ++ (take n chunk ++ split.0) = split.1 ∙ append_assoc xs (take n chunk) split.0 in
    let small : take room (take n chunk ++ split.0) ≡ take room chunk
    = take-append-le room (take n chunk) split.0 (omega (arith, held, over)) ∙ take-take room n chunk (omega (arith, over)) in
    let front : take most all ≡ xs ++ take room chunk
    = ap (take most) whole ∙ ap (λ (m : ℕ). take m (xs ++ (take n chunk ++ split.0))) (sym full)
    ∙ take-append-add xs (take n chunk ++ split.0) room ∙ ap (λ (zs : List ℕ). xs ++ zs) small in
    (sym front, omega (arith, sizes, full, over))
