-- What is delivered, and what of it is unseen.
use Rattle.std.proofs.Common.{◌≡◌, ◌*◌, ℕ, zero, suc, ◌+◌, ◌≤◌, ◌%◌, if◌then◌else◌, Bool, true, false, ◌&&◌, not, List, [], ◌∷◌, ◌++◌, length, take, drop, replicate, Option, Some, None, refl, sym, ◌∙◌, ap, arith, length-append, length-drop, length-take, ◌-◌}
use Rattle.std.specs.Prelude.{bytes_eq, nat_lt, slice_get}
use Rattle.std.proofs.lemmas.List.{length-replicate}
use Rattle.std.proofs.lemmas.Slice.Eq.{bytes_eq-Decides}
use Rattle.archive_record.specs.Place.{record_size}
use Rattle.console_ring.specs.declared.plan.Plan.{Plan}
use Rattle.console_model.specs.declared.reply.ReplyKind.{ReplyKind}
use Rattle.console_ring.specs.Picture.{page_of, shown, ring_slot, slot_on, slots_before, last_number_in}
use Rattle.crc_ccitt.specs.Check.{check_bytes}
use Rattle.station_sim.specs.Sound.{AreRecords}
use Rattle.crc_ccitt.specs.Check.{is_good}
use Rattle.vantage_frames.specs.Slots.{page_size}
use Rattle.console_ring.specs.History.{ring_pages}
use Rattle.console_model.specs.declared.reply.ReplyKind.TheVariants.{Page}
use Rattle.dmpaft_pump.specs.Pump.{most_askings}
use Rattle.station_sim.specs.declared.part.Part.{Part}
use Rattle.schedule_file.specs.declared.fate.Fate.{Fate}
use Rattle.station_sim.specs.Delivery.{delivered, masked, late, waits, all_bytes}
use Rattle.station_sim.specs.declared.part.Part.TheVariants.{Byte}
use Rattle.schedule_file.specs.declared.fate.Fate.TheVariants.{Lost, Cut, Dropped, Flipped}
use Rattle.station_sim.specs.declared.unseen.Unseen.{Unseen}
use Rattle.station_sim.specs.Line.{is_harmed, passes, earlier}
use Rattle.line_laws.specs.Host.{HasSequence}
use Rattle.line_laws.proofs.HushedConsole.{bytes_of}

masked_length : (ms bs : List ℕ) → length (masked ms bs) ≡ length bs
masked_length [] bs = refl
masked_length (m ∷ ms) [] = refl
masked_length (m ∷ ms) (b ∷ bs) = ap suc (masked_length ms bs)

pub delivered_length : (f : Option Fate) (bs : List ℕ) → length (delivered f bs) ≤ length bs
unfolding delivered
delivered_length None bs = omega arith
delivered_length (Some Lost) bs = omega arith
delivered_length (Some (Cut n)) bs = omega (arith, length-take n bs)
delivered_length (Some (Dropped p n)) bs = omega (arith, length-append (take p bs) (drop (p + n) bs), length-take p bs, length-drop (p + n) bs)
delivered_length (Some (Flipped p ms)) bs = omega (arith, length-append (take p bs) (masked ms.items (drop p bs)), length-take p bs, length-drop p bs, masked_length ms.items (drop p bs))

bytes_of_all : (bs : List ℕ) → bytes_of (all_bytes bs) ≡ bs
bytes_of_all [] = refl
bytes_of_all (b ∷ bs) = ap (λ x. b ∷ x) (bytes_of_all bs)

bytes_of_waits : (k : ℕ) (l : List Part) → bytes_of (waits k l) ≡ bytes_of l
bytes_of_waits zero l = refl
bytes_of_waits (suc k) l = bytes_of_waits k l

pub bytes_of_late : (k p : ℕ) (bs : List ℕ) → bytes_of (late k p bs) ≡ bs
bytes_of_late k p [] = refl
bytes_of_late k zero (b ∷ bs) = bytes_of_waits k (Byte b ∷ all_bytes bs) ∙ ap (λ x. b ∷ x) (bytes_of_all bs)
bytes_of_late k (suc p) (b ∷ bs) = ap (λ x. b ∷ x) (bytes_of_late k p bs)

-- a delivery of full length that passes, and is not unseen, is what was sent
pub unharmed_page : (u : Option Unseen) (x : Unseen) (k : ReplyKind) (sent got : List ℕ) → k ≡ Page → length sent ≡ page_size → length got ≡ page_size → is_good got ≡ true →
    earlier u (if is_harmed sent got && passes k sent got then Some x else None) ≡ None → got ≡ sent
unharmed_page (Some v) x k sent got e ls lg g h = absurd cc
unharmed_page None x k sent got e ls lg g h = sym ((bytes_eq-Decides sent got).0 (go (bytes_eq sent got) (passes k sent got) refl passing h))
  where
    passing : passes k sent got ≡ true
    passing = rw e (grind (arith, ls, lg, g))

    go : (t s : Bool) → bytes_eq sent got ≡ t → s ≡ true → (if not t && s then Some x else None) ≡ None → bytes_eq sent got ≡ true
    go true s q r m = q
    go false true q r m = absurd cc
    go false false q r m = absurd cc

get_long : (h : List (List ℕ)) (i : ℕ) → AreRecords h → length (shown (slice_get h i)) ≡ record_size
get_long [] i ok = length-replicate {A = ℕ} record_size 255
get_long (r ∷ h) zero ok = ok.0.long
get_long (r ∷ h) (suc i) ok = get_long h i ok.2

pub slot_long : (h : List (List ℕ)) → AreRecords h → (s : ℕ) → length (shown (ring_slot h s)) ≡ record_size
slot_long h ok s = go (nat_lt s (length h))
  where
    go : (t : Bool) → length (shown (if t then slice_get h (last_number_in (length h) s) else None)) ≡ record_size
    go true = get_long h (last_number_in (length h) s) ok
    go false = length-replicate {A = ℕ} record_size 255

slots_long : (slot : ℕ → List ℕ) → ((n : ℕ) → length (slot n) ≡ record_size) → (n : ℕ) → length (slots_before slot n) ≡ record_size * n
unfolding slots_before
slots_long slot long zero = refl
slots_long slot long (suc n) = omega (arith, length-append (slots_before slot n) (slot n), long n, slots_long slot long n)

pub page_length : (h : List (List ℕ)) (p : Plan) (k : ℕ) → AreRecords h → length (page_of h p k) ≡ page_size
unfolding page_of
page_length h p k ok =
    let body = slots_before (slot_on h p k) 5 in
    let message = (k % 256) ∷ body ++ replicate 4 255 in
    omega (arith, length-append message (check_bytes message), length-append body (replicate 4 255), length-replicate {A = ℕ} 4 255, slots_long (slot_on h p k) (λ n. slot_long h ok (5 * ((p.first_page + k) % ring_pages) + n)) 5)

pub page_sequence : (h : List (List ℕ)) (p : Plan) (k n : ℕ) → HasSequence n (page_of h p k) → k % 256 ≡ n
unfolding page_of
page_sequence h p k n e = e

-- numbers that are near and agree modulo 256 are the same
pub near_same : (k j m : ℕ) → j ≤ most_askings - 1 → k ≤ m + 1 → m + 1 ≤ k + j + 1 → m % 256 ≡ k % 256 → m ≡ k
near_same k j m a b c e = omega arith
