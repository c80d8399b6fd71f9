-- Bytes that are taken out, and bytes whose bits are turned.
use Rattle.std.proofs.Common.{Bool, true, false, if◌then◌else◌, ◌≡◌, ◌⊎◌, inl, inr, ℕ, zero, suc, ◌+◌, ◌-◌, ◌<◌, ◌≤◌, List, [], ◌∷◌, ◌++◌, length, take, drop, get_or, refl, sym, ap, ◌∙◌, arith, length-append, length-take, length-drop, bit_xor}
use Rattle.std.proofs.lemmas.Bool.Decides.{nat_tests}
use Rattle.std.proofs.lemmas.List.{take_more}
use Rattle.std.specs.Prelude.{nat_lt, slice_set, slice_index}
use Rattle.std.proofs.lemmas.List.Edits.{paste_all}
use Rattle.std.proofs.Math.Seq.{paste, take-append_seam}
use Rattle.std.proofs.Math.ListN.{set}
use Rattle.station_sim.specs.Delivery.{masked}
use Rattle.station_sim.proofs.PartsInFlight.{same_at}

take_all : (n : ℕ) (xs : List ℕ) → length xs ≤ n → take n xs ≡ xs
take_all zero [] h = refl
take_all zero (x ∷ xs) h = absurd (omega arith)
take_all (suc n) [] h = refl
take_all (suc n) (x ∷ xs) h = ap (λ ys. x ∷ ys) (take_all n xs (omega arith))

drop_all : (n : ℕ) (xs : List ℕ) → length xs ≤ n → drop n xs ≡ []
drop_all zero [] h = refl
drop_all zero (x ∷ xs) h = absurd (omega arith)
drop_all (suc n) [] h = refl
drop_all (suc n) (x ∷ xs) h = drop_all n xs (omega arith)

front : (xs ys zs : List ℕ) (n : ℕ) → n ≡ length xs + length ys → take n (xs ++ (ys ++ zs)) ≡ xs ++ ys
front xs ys zs n e =
    let size : n ≡ length (xs ++ ys) = omega (arith, length-append xs ys) in
    ap (λ l. take n l) (sym (append_assoc_of xs ys zs)) ∙ ap (λ k. take k ((xs ++ ys) ++ zs)) size ∙ take-append_seam (xs ++ ys) zs
  where
    append_assoc_of : (xs ys zs : List ℕ) → (xs ++ ys) ++ zs ≡ xs ++ (ys ++ zs)
    append_assoc_of [] ys zs = refl
    append_assoc_of (x ∷ xs) ys zs = ap (λ l. x ∷ l) (append_assoc_of xs ys zs)

take_min : (n : ℕ) (xs : List ℕ) (m : ℕ) → ((m ≡ n) × (n ≤ length xs)) ⊎ ((m ≡ length xs) × (length xs ≤ n)) → take m xs ≡ take n xs
take_min n xs m (inl h) = ap (λ k. take k xs) h.0
take_min n xs m (inr h) = ap (λ k. take k xs) h.0 ∙ take_all (length xs) xs (omega arith) ∙ sym (take_all n xs h.1)

drop_min : (n : ℕ) (xs : List ℕ) (m : ℕ) → ((m ≡ n) × (n ≤ length xs)) ⊎ ((m ≡ length xs) × (length xs ≤ n)) → drop m xs ≡ drop n xs
drop_min n xs m (inl h) = ap (λ k. drop k xs) h.0
drop_min n xs m (inr h) = ap (λ k. drop k xs) h.0 ∙ drop_all (length xs) xs (omega arith) ∙ sym (drop_all n xs h.1)

-- what is left after bytes were taken out
pub taken_out : (xs : List ℕ) (p q to from r : ℕ) → p ≤ q → ((to ≡ p) × (p ≤ length xs)) ⊎ ((to ≡ length xs) × (length xs ≤ p)) → ((from ≡ q) × (q ≤ length xs)) ⊎ ((from ≡ length xs) × (length xs ≤ q)) →
    r ≡ to + (length xs - from) → to ≤ length xs → take r (paste xs to (drop from xs) (length xs - from)) ≡ take p xs ++ drop q xs
taken_out xs p q to from r le a b is within =
    let n = length xs - from in
    let all : paste xs to (drop from xs) (length xs - from) ≡ take to xs ++ (drop from xs ++ drop (to + n) xs) = paste_all xs to (drop from xs) n (sym (length-drop from xs)) in
    ap (λ l. take r l) all ∙ front (take to xs) (drop from xs) (drop (to + n) xs) r (omega (arith, is, length-take to xs, length-drop from xs, within))
    ∙ ap (λ l. l ++ drop from xs) (take_min p xs to a) ∙ ap (λ l. take p xs ++ l) (drop_min q xs from b)

-- one mask more
masked_set : (ms bs : List ℕ) (m : ℕ) → length ms < length bs → set (masked ms bs) (length ms) (bit_xor (get_or (masked ms bs) (length ms) 0) m) ≡ masked (ms ++ m ∷ []) bs
masked_set [] [] m h = absurd (omega arith)
masked_set [] (b ∷ bs) m h = refl
masked_set (x ∷ ms) [] m h = absurd (omega arith)
masked_set (x ∷ ms) (b ∷ bs) m h = ap (λ l. bit_xor b x ∷ l) (masked_set ms bs m (omega arith))

masked_past : (ms bs : List ℕ) (m : ℕ) → length bs ≤ length ms → masked (ms ++ m ∷ []) bs ≡ masked ms bs
masked_past [] [] m h = refl
masked_past [] (b ∷ bs) m h = absurd (omega arith)
masked_past (x ∷ ms) [] m h = refl
masked_past (x ∷ ms) (b ∷ bs) m h = ap (λ l. bit_xor b x ∷ l) (masked_past ms bs m (omega arith))

-- bytes as they are before the first mask
pub masked_none : (p : ℕ) (xs : List ℕ) → take p xs ++ masked [] (drop p xs) ≡ xs
masked_none zero xs = refl
masked_none (suc p) [] = refl
masked_none (suc p) (x ∷ xs) = ap (λ l. x ∷ l) (masked_none p xs)

pub masked_long : (p : ℕ) (ms xs : List ℕ) → length (take p xs ++ masked ms (drop p xs)) ≡ length xs
masked_long zero ms xs = go ms xs
  where
    go : (ms bs : List ℕ) → length (masked ms bs) ≡ length bs
    go [] bs = refl
    go (m ∷ ms) [] = refl
    go (m ∷ ms) (b ∷ bs) = ap suc (go ms bs)
masked_long (suc p) ms [] = go ms
  where
    go : (ms : List ℕ) → length (masked ms []) ≡ 0
    go [] = refl
    go (m ∷ ms) = refl
masked_long (suc p) ms (x ∷ xs) = ap suc (masked_long p ms xs)

pub flipped_more : (p : ℕ) (ms xs : List ℕ) (m : ℕ) → p + length ms < length xs →
    (let now = take p xs ++ masked ms (drop p xs) in set now (p + length ms) (bit_xor (get_or now (p + length ms) 0) m) ≡ take p xs ++ masked (ms ++ m ∷ []) (drop p xs))
flipped_more zero ms xs m h =
    let e : 0 + length ms ≡ length ms = omega arith in
    ap (λ n. set (masked ms xs) n (bit_xor (get_or (masked ms xs) n 0) m)) e ∙ masked_set ms xs m (omega arith)
flipped_more (suc p) ms [] m h = absurd (omega arith)
flipped_more (suc p) ms (x ∷ xs) m h =
    let e : suc p + length ms ≡ suc (p + length ms) = omega arith in
    let now = take (suc p) (x ∷ xs) ++ masked ms (drop (suc p) (x ∷ xs)) in
    ap (λ n. set now n (bit_xor (get_or now n 0) m)) e ∙ ap (λ l. x ∷ l) (flipped_more p ms xs m (omega arith))

pub flipped_past : (p : ℕ) (ms xs : List ℕ) (m : ℕ) → length xs ≤ p + length ms → take p xs ++ masked (ms ++ m ∷ []) (drop p xs) ≡ take p xs ++ masked ms (drop p xs)
flipped_past zero ms xs m h = masked_past ms xs m (omega arith)
flipped_past (suc p) ms [] m h = none ms
  where
    none : (ms : List ℕ) → masked (ms ++ m ∷ []) [] ≡ masked ms []
    none [] = refl
    none (y ∷ ms) = refl
flipped_past (suc p) ms (x ∷ xs) m h = ap (λ l. x ∷ l) (flipped_past p ms xs m (omega arith))

-- one mask more, wherever it stands
pub flipped_step : (p : ℕ) (masks xs was now then_ : List ℕ) (i at m : ℕ) → i < length masks → m ≡ get_or masks i 0 → at ≡ p + i → now ≡ take p xs ++ masked (take i masks) (drop p xs) →
    then_ ≡ (if nat_lt at (length now) then slice_set now at (bit_xor (slice_index now at) m) else now) → then_ ≡ take p xs ++ masked (take (i + 1) masks) (drop p xs)
flipped_step p masks xs was now then_ i at m below is place before turned =
    let size : length (take i masks) ≡ i = omega (arith, length-take i masks) in
    let long : length now ≡ length xs = ap (λ l. length l) before ∙ masked_long p (take i masks) xs in
    let more : take (i + 1) masks ≡ take i masks ++ m ∷ [] = take_more masks i m below ∙ ap (λ x. take i masks ++ x ∷ []) (same_at masks i m 0 below ∙ sym is) in
    let at2 : at ≡ p + length (take i masks) = omega (arith, place, size) in
    turned ∙ go (nat_lt at (length now)) refl size long at2 ∙ ap (λ l. take p xs ++ masked l (drop p xs)) (sym more)
  where
    go : (t : Bool) → nat_lt at (length now) ≡ t → length (take i masks) ≡ i → length now ≡ length xs → at ≡ p + length (take i masks) →
        (if t then slice_set now at (bit_xor (slice_index now at) m) else now) ≡ take p xs ++ masked (take i masks ++ m ∷ []) (drop p xs)
    go true e size long at2 =
        let less : p + length (take i masks) < length xs = grind (arith, nat_tests, e, long, at2) in
        ap (λ n. slice_set now n (bit_xor (slice_index now n) m)) at2
        ∙ ap (λ l. slice_set l (p + length (take i masks)) (bit_xor (slice_index l (p + length (take i masks))) m)) before
        ∙ flipped_more p (take i masks) xs m less
    go false e size long at2 =
        let past : length xs ≤ p + length (take i masks) = grind (arith, nat_tests, e, long, at2) in
        before ∙ sym (flipped_past p (take i masks) xs m past)
