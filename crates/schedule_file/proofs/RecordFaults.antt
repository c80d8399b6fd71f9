-- The faults of a record that a line tells.
use Rattle.std.proofs.Common.{◌≡◌, ℕ, ℤ, ◌+◌, ◌-◌, ◌*◌, ◌≤◌, ◌<◌, Bool, true, false, Option, Some, None, List, refl, arith}
use Rattle.std.specs.Prelude.{nat_lt, nat_le}
use Rattle.std.proofs.lemmas.Bool.{lt-ltb, le-leb, ltb-true, leb-true}
use Rattle.station_base.specs.CivilMinute.{CivilMinute, minute_of, last_minute}
use Rattle.station_base.proofs.Minutes.{last_minute_number}
use Rattle.archive_record.specs.Table.{places}
use Rattle.archive_record.specs.Writing.{CanHoldAll, can_hold_all}
use Rattle.schedule_file.specs.declared.schedule.form.Told.{Told}
use Rattle.schedule_file.specs.Steps.{Said}
use Rattle.schedule_file.specs.Kinds.{first_applying, told_kinds}
use Rattle.archive_record.proofs.HeldValues.{can_hold_to, can_hold_from}

not_lt : (m n : ℕ) → n ≤ m → nat_lt m n ≡ false
not_lt m n le = go (nat_lt m n) refl
  where
    go : (b : Bool) → nat_lt m n ≡ b → b ≡ false
    go true e = absurd (omega (arith, ltb-true m n e))
    go false e = refl

not_le : (m n : ℕ) → n < m → nat_le m n ≡ false
not_le m n lt = go (nat_le m n) refl
  where
    go : (b : Bool) → nat_le m n ≡ b → b ≡ false
    go true e = absurd (omega (arith, leb-true m n e))
    go false e = refl

module _ (period : ℕ) (s : Said) (told : Told) (count : ℕ) (stamp : CivilMinute) where
  abbrev last : ℕ
  last = minute_of stamp + (count - 1) * period

  -- past the last stamp
  pub is_past : told.stamp ≡ Some stamp → 83099519 < last → first_applying (told_kinds period s told count) ≡ Some 5
  is_past there past =
      let at : nat_lt (minute_of last_minute) last ≡ true = lt-ltb (minute_of last_minute) last (rw last_minute_number past) in
      rw (there, at) refl

  within_stamps : last ≤ 83099519 → nat_lt (minute_of last_minute) last ≡ false
  within_stamps within = not_lt (minute_of last_minute) last (rw last_minute_number within)

  -- not later than a record before
  pub is_early : told.stamp ≡ Some stamp → last ≤ 83099519 → minute_of stamp ≤ s.newest → first_applying (told_kinds period s told count) ≡ Some 6
  is_early there within early =
      rw (there, within_stamps within, le-leb (minute_of stamp) s.newest early) refl

  -- names that are wrong
  pub is_misnamed : told.stamp ≡ Some stamp → last ≤ 83099519 → s.newest < minute_of stamp → told.values ≡ None → first_applying (told_kinds period s told count) ≡ Some 7
  is_misnamed there within later none =
      rw (there, within_stamps within, not_le (minute_of stamp) s.newest later, none) refl

  -- values that no record has
  pub is_unheld : (values : List (Option ℤ)) → told.stamp ≡ Some stamp → last ≤ 83099519 → s.newest < minute_of stamp → told.values ≡ Some values
      → (CanHoldAll values → ⊥) → first_applying (told_kinds period s told count) ≡ Some 7
  is_unheld values there within later some unheld =
      let fails : can_hold_all places values ≡ false = go (can_hold_all places values) refl in
      rw (there, within_stamps within, not_le (minute_of stamp) s.newest later, some, fails) refl
    where
      go : (b : Bool) → can_hold_all places values ≡ b → b ≡ false
      go true e = absurd (unheld (can_hold_to values e))
      go false e = refl

  -- none of these
  pub is_told : (values : List (Option ℤ)) → told.stamp ≡ Some stamp → last ≤ 83099519 → s.newest < minute_of stamp → told.values ≡ Some values
      → CanHoldAll values → first_applying (told_kinds period s told count) ≡ None
  is_told values there within later some held =
      rw (there, within_stamps within, not_le (minute_of stamp) s.newest later, some, can_hold_from values held) refl
