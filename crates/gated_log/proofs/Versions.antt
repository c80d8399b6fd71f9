-- The versions of images.
use Rattle.std.proofs.Common.{◌≡◌, ℕ, ◌≤◌, true, false, Bool, List, ◌++◌, length, refl, ◌∙◌, ap, arith, ◌+◌}
use Rattle.std.specs.Prelude.{nat_lt, if◌then◌else◌}
use Rattle.std.proofs.lemmas.Bool.{false≢true}
use Rattle.gated_log.specs.declared.start.Purpose.{Purpose}
use Rattle.gated_log.specs.declared.start.Purpose.TheVariants.{Read, Write}
use Rattle.gated_log.specs.Log.{begins_first}
use Rattle.gated_log.specs.Version.{version_in, version_of, is_refused}
use Rattle.gated_log.specs.declared.version.Version.{Version}
use Rattle.gated_log.specs.declared.version.Version.TheVariants.{First, Second}
use Rattle.gated_log.specs.Chain.{IsChain}
use Rattle.gated_log.specs.Stands.{GateIsClosed, Opened, ImageHas}
use Rattle.gated_log.specs.Appending.{IsHanded, handed_slots, behind_gate}
use Rattle.std.proofs.Common.{◌∷◌, [], take, sym}
use Rattle.gated_log.proofs.Chains.{small_test, large_test, log_closed, log_opened, log_small, first_front, first_read, gate_place}
use Rattle.gated_log.specs.Layout.{empty_size}

-- an image that is no longer than an archive without slots, and a longer one
pub short_version : (c : List ℕ) → length c ≤ empty_size → version_of c ≡ Second
unfolding version_of
short_version c short = rw (small_test (length c) (omega arith)) refl

pub long_version : (c : List ℕ) → empty_size + 1 ≤ length c → version_of c ≡ version_in c
unfolding version_of
long_version c long = rw (large_test (length c) long) refl

second_by : (small first : Bool) → first ≡ false → (if small then Second else (if first then First else Second)) ≡ Second
second_by true first is = refl
second_by false first is = rw is refl

pub not_first : (c : List ℕ) → begins_first c ≡ false → version_of c ≡ Second
unfolding version_of
not_first c other = second_by (nat_lt (length c) (empty_size + 1)) (begins_first c) other

-- what begins as a chain of the second version does
pub version_front : (before c rest : List ℕ) (slots : List (List ℕ)) → IsChain before slots → begins_first before ≡ false → c ≡ before ++ rest → version_of c ≡ Second
version_front before c rest slots is current parts =
    not_first c (ap begins_first parts ∙ first_front before rest (omega (arith, gate_place before slots is)) ∙ current)

-- an image whose chain ends at a closed gate, or at an open one
pub has_closed : (before : List ℕ) (slots : List (List ℕ)) (c : List ℕ) (is : IsChain before slots) → begins_first before ≡ false → GateIsClosed before c → ImageHas slots c
has_closed before slots c is current closed = record {
  holds_them = log_closed before slots c is closed;
  version_is = version_front before c (0 ∷ closed.0) slots is current closed.1;
}

pub has_opened : (before bytes c : List ℕ) (slots : List (List ℕ)) (is : IsChain before slots) → begins_first before ≡ false → IsHanded bytes → Opened before (behind_gate bytes) c → ImageHas (slots ++ handed_slots bytes) c
has_opened before bytes c slots is current h open_is = record {
  holds_them = log_opened before bytes c slots is h open_is;
  version_is = version_front before c (open_is.gate ∷ (behind_gate bytes ++ open_is.rest)) slots is current open_is.image_is;
}

-- and one that is no longer than an archive without slots
pub has_none : (c : List ℕ) → length c ≤ empty_size → ImageHas [] c
has_none c short = record { holds_them = log_small c (small_test (length c) (omega arith)); version_is = short_version c short }

-- what the first bytes of a longer image tell
pub version_read : (c buf : List ℕ) (k : ℕ) → 8 ≤ k → buf ≡ take k c → empty_size + 1 ≤ length c → version_in buf ≡ version_of c
version_read c buf k long is large = ap (λ (b : Bool). if b then First else Second) (first_read c buf k long is) ∙ sym (long_version c large)

-- an archive that may be written is of the second version
pub second_of : (v : Version) → is_refused Write v ≡ false → v ≡ Second
second_of First is = absurd (false≢true (sym is))
second_of Second is = refl

-- and does not begin as one of the first
pub current_by : (purpose : Purpose) (first : Bool) → purpose ≡ Write → is_refused purpose (if first then First else Second) ≡ false → first ≡ false
current_by purpose true write is = absurd (false≢true (sym (ap (λ (p : Purpose). is_refused p First) (sym write) ∙ is)))
current_by purpose false write is = refl

-- what is refused was to be written
pub write_of : (purpose : Purpose) (v : Version) → is_refused purpose v ≡ true → purpose ≡ Write
write_of Read v is = absurd (false≢true is)
write_of Write v is = refl
