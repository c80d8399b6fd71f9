-- The bytes of a clock.
use Rattle.std.proofs.Common.{◌≡◌, ℕ, ◌+◌, ◌-◌, ◌<◌, nat_le, Bool, true, false, List, [], ◌∷◌, length, refl, sym, ◌∙◌, ap, arith}
use Rattle.std.specs.Prelude.{slice_index}
use Rattle.station_base.specs.declared.clock.ClockTime.{ClockTime}
use Rattle.station_base.specs.ClockTime.{can_be_shown, is_civil_second, clock_bytes, time_shown}
use Rattle.console_tasks.specs.declared.end.TaskEnd.TheVariants as task_end
use Rattle.console_tasks.specs.Clock.{judge_clock}
use Rattle.console_tasks.proofs.WrittenAndRead.{take_this, take_that}

-- the bytes of the time that six bytes show
clock_again : (bytes : List ℕ) → length bytes ≡ 6 → clock_bytes (time_shown bytes) ≡ bytes
clock_again [] e = absurd (omega arith)
clock_again (a ∷ []) e = absurd (omega arith)
clock_again (a ∷ b ∷ []) e = absurd (omega arith)
clock_again (a ∷ b ∷ c ∷ []) e = absurd (omega arith)
clock_again (a ∷ b ∷ c ∷ d ∷ []) e = absurd (omega arith)
clock_again (a ∷ b ∷ c ∷ d ∷ f ∷ []) e = absurd (omega arith)
clock_again (a ∷ b ∷ c ∷ d ∷ f ∷ y ∷ []) e = let z : 1900 + y - 1900 ≡ y = omega arith in ap (λ x. a ∷ b ∷ c ∷ d ∷ f ∷ x ∷ []) z
clock_again (a ∷ b ∷ c ∷ d ∷ f ∷ y ∷ h ∷ bs) e = absurd (omega arith)

is_from : (y : ℕ) → nat_le 1900 (1900 + y) ≡ true
is_from y = grind arith

is_to : (y : ℕ) → y < 256 → nat_le (1900 + y) 2155 ≡ true
is_to y below = grind arith

-- a byte tells no year that cannot be shown
shown_by : (bytes : List ℕ) → slice_index bytes 5 < 256 → can_be_shown (time_shown bytes) ≡ is_civil_second (time_shown bytes)
shown_by bytes below = rw (is_from (slice_index bytes 5), is_to (slice_index bytes 5) below) refl

-- bytes that show a second of the calendar
pub clock_good : (bytes : List ℕ) (time : ClockTime) (b : Bool) → length bytes ≡ 6 → slice_index bytes 5 < 256
    → time ≡ time_shown bytes → b ≡ can_be_shown time → b ≡ true
    → (clock_bytes time ≡ bytes) × (judge_clock bytes ≡ task_end.Done)
clock_good bytes time b l below e c t = (
  ap clock_bytes e ∙ clock_again bytes l,
  take_this (is_civil_second (time_shown bytes)) task_end.Done task_end.BadValue
      (sym (shown_by bytes below) ∙ sym (ap can_be_shown e) ∙ sym c ∙ t),
)

-- bytes that show none
pub clock_bad : (bytes : List ℕ) (time : ClockTime) (b : Bool) → slice_index bytes 5 < 256 → time ≡ time_shown bytes
    → b ≡ can_be_shown time → b ≡ false → judge_clock bytes ≡ task_end.BadValue
clock_bad bytes time b below e c t =
    take_that (is_civil_second (time_shown bytes)) task_end.Done task_end.BadValue
    (sym (shown_by bytes below) ∙ sym (ap can_be_shown e) ∙ sym c ∙ t)
