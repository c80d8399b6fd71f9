-- A page that is written slot by slot.
use Rattle.std.proofs.Common.{◌≡◌, ℕ, zero, suc, ◌+◌, ◌-◌, ◌*◌, ◌%◌, ◌<◌, List, ◌∷◌, ◌++◌, length, drop, take, replicate, refl, sym, ap, ◌∙◌, arith, length-append, length-take, length-drop, append_assoc, add-one, below_more}
use Rattle.std.proofs.lemmas.List.{drop-drop, drop-replicate}
use Rattle.std.proofs.Math.Seq.{drop-append_seam, take-append-add, take-append_seam}
use Rattle.archive_record.specs.Place.{record_size}
use borrow.Rule.Slice.PartMut.{put_mid}
use Rattle.crc_ccitt.specs.Check.{sealed, check_bytes}
use Rattle.vantage_frames.specs.Slots.{slot_at, page_size}
use Rattle.console_ring.specs.declared.plan.Plan.{Plan}
use Rattle.console_ring.specs.Picture.{shown, ring_slot, slot_on, slots_before, page_of}
use Rattle.console_ring.specs.History.{ring_pages}

-- a page has its sequence and the slots below a place, and else 0xFF
pub record Begins (page : List ℕ) (sequence : ℕ) (slot : ℕ → List ℕ) (place : ℕ) : Type 0 where
  pub bytes : page ≡ (sequence ∷ slots_before slot place) ++ replicate (266 - record_size * place) 255
  pub long : length (slots_before slot place) ≡ record_size * place
  pub sized : (p : ℕ) → p < place → length (slot p) ≡ record_size

pub begun : (sequence : ℕ) (slot : ℕ → List ℕ) → Begins (sequence ∷ replicate 266 255) sequence slot 0
unfolding slots_before
begun sequence slot = record { bytes = refl; long = refl; sized = λ p below. absurd (omega arith) }

-- bytes over the first of those behind a front
over : (front bytes page : List ℕ) (rest size : ℕ) (filler : ℕ) → page ≡ front ++ replicate rest filler →
    put_mid (length front) size page bytes ≡ (front ++ bytes) ++ replicate (rest - size) filler
over front bytes page rest size filler is =
    let tail : List ℕ = replicate rest filler in
    let kept : take (length front) page ≡ front = ap (λ xs. take (length front) xs) is ∙ take-append_seam front tail in
    let left : drop size (drop (length front) page) ≡ replicate (rest - size) filler =
    ap (λ xs. drop size (drop (length front) xs)) is ∙ ap (λ xs. drop size xs) (drop-append_seam front tail) ∙ drop-replicate size rest filler in
    ap (λ xs. xs ++ (bytes ++ drop size (drop (length front) page))) kept ∙ ap (λ xs. front ++ (bytes ++ xs)) left ∙ sym (append_assoc front bytes (replicate (rest - size) filler))

slots_more : (slot : ℕ → List ℕ) (place : ℕ) → slots_before slot (place + 1) ≡ slots_before slot place ++ slot place
unfolding slots_before
slots_more slot place = ap (λ n. slots_before slot n) (add-one place)

pub more : (page bytes : List ℕ) (sequence : ℕ) (slot : ℕ → List ℕ) (place start size : ℕ) → Begins page sequence slot place → place < 5 →
    length bytes ≡ record_size → bytes ≡ slot place → start ≡ 1 + record_size * place → size ≡ record_size → Begins (put_mid start size page bytes) sequence slot (place + 1)
more page bytes sequence slot place start size begins below long is from all =
    let front : List ℕ = sequence ∷ slots_before slot place in
    let placed : length front ≡ start = omega (arith, begins.long, from) in
    let rest : 266 - record_size * place - size ≡ 266 - record_size * (place + 1) = omega arith in
    let grown : slots_before slot place ++ bytes ≡ slots_before slot (place + 1) = ap (λ xs. slots_before slot place ++ xs) is ∙ sym (slots_more slot place) in
    let both = length-append (slots_before slot place) bytes in
    record {
      bytes = ap (λ n. put_mid n size page bytes) (sym placed) ∙ over front bytes page (266 - record_size * place) size 255 begins.bytes
          ∙ ap (λ n. (front ++ bytes) ++ replicate n 255) rest ∙ ap (λ xs. (sequence ∷ xs) ++ replicate (266 - record_size * (place + 1)) 255) grown;
      long = ap (λ xs. length xs) (sym grown) ∙ both ∙ omega (arith, begins.long, long);
      sized = below_more (λ p. length (slot p) ≡ record_size) place begins.sized (ap (λ xs. length xs) (sym is) ∙ long);
    }

pub whole : (page : List ℕ) (history : List (List ℕ)) (plan : Plan) (k place : ℕ) → Begins page (k % 256) (slot_on history plan k) place → place ≡ 5 → length page ≡ page_size →
    sealed (take (length page - 2) page) ≡ page_of history plan k
unfolding page_of
whole page history plan k place begins all long =
    let slot : ℕ → List ℕ = slot_on history plan k in
    let front : List ℕ = (k % 256) ∷ slots_before slot 5 in
    let bytes : page ≡ front ++ replicate 6 255 = rw all at begins.bytes in
    let slots : length (slots_before slot 5) ≡ 260 = rw all at begins.long in
    let cut : length page - 2 ≡ length front + 4 = omega (arith, slots, long) in
    ap (λ xs. sealed xs) (ap (λ n. take n page) cut ∙ ap (λ xs. take (length front + 4) xs) bytes ∙ take-append-add front (replicate 6 255) 4)

-- the place of a slot in a page has its size
pub room : (page : List ℕ) (place start size : ℕ) → length page ≡ page_size → place < 5 → start ≡ 1 + record_size * place → size ≡ record_size → length (take size (drop start page)) ≡ record_size
room page place start size long below from all =
    let taken = length-take size (drop start page) in
    let dropped = length-drop start page in
    omega (arith, taken, dropped, long, from, all)

pub same_slot : (history : List (List ℕ)) (plan : Plan) (first_page k page place at : ℕ) → first_page ≡ plan.first_page → page ≡ k → at ≡ place →
    shown (ring_slot history (5 * ((first_page + page) % ring_pages) + at)) ≡ slot_on history plan k place
same_slot history plan first_page k page place at e f g = rw (e, f, g) refl

-- slots of one size stand where their places say
slot_within : (slot : ℕ → List ℕ) (n place : ℕ) (rest : List ℕ) → ((p : ℕ) → p < n → length (slot p) ≡ record_size) → length (slots_before slot n) ≡ record_size * n → place < n →
    take record_size (drop (record_size * place) (slots_before slot n ++ rest)) ≡ slot place
unfolding slots_before
slot_within slot zero place rest sized long below = absurd (omega arith)
slot_within slot (suc n) place rest sized long below =
    let size : length (slot n) ≡ record_size = sized n (omega arith) in
    let both = length-append (slots_before slot n) (slot n) in
    let before : length (slots_before slot n) ≡ record_size * n = omega (arith, both, size, long) in
    let behind : List ℕ = slot n ++ rest in
    let last : take record_size (drop (record_size * n) (slots_before slot n ++ behind)) ≡ slot n =
    ap (λ m. take record_size (drop m (slots_before slot n ++ behind))) (sym before) ∙ ap (λ xs. take record_size xs) (drop-append_seam (slots_before slot n) behind)
    ∙ ap (λ m. take m behind) (sym size) ∙ take-append_seam (slot n) rest in
    let within : place < n + 1 = omega arith in
    ap (λ xs. take record_size (drop (record_size * place) xs)) (append_assoc (slots_before slot n) (slot n) rest)
    ∙ below_more (λ p. take record_size (drop (record_size * p) (slots_before slot n ++ behind)) ≡ slot p) n
    (λ p lt. slot_within slot n p behind (λ q less. sized q (omega arith)) before lt) last place within

pub slots_shown : (page : List ℕ) (history : List (List ℕ)) (plan : Plan) (k place at : ℕ) → Begins page (k % 256) (slot_on history plan k) place → place ≡ 5 → at < 5 →
    slot_at (page_of history plan k) at ≡ slot_on history plan k at
unfolding page_of
slots_shown page history plan k place at begins all below =
    let slot : ℕ → List ℕ = slot_on history plan k in
    let slots : List ℕ = slots_before slot 5 in
    let unused : List ℕ = replicate 4 255 in
    let ending : List ℕ = check_bytes ((k % 256) ∷ slots ++ unused) in
    let long : length slots ≡ 260 = rw all at begins.long in
    let first : List ℕ = (k % 256) ∷ ((slots ++ unused) ++ ending) in
    ap (λ xs. take record_size xs) (sym (drop-drop (record_size * at) 1 first)) ∙ ap (λ xs. take record_size (drop (record_size * at) xs)) (append_assoc slots unused ending)
    ∙ slot_within slot 5 at (unused ++ ending) (λ p lt. begins.sized p (omega (arith, all, lt))) long below
