-- Limits, the least and the greatest value that is kept (this project's profile).
use Rattle.std.specs.Prelude.{ℤ, pos, neg_ℤ, ◌≤ℤ◌, None, IfSome}
use Rattle.settings_file.specs.declared.limits.Limits.{Limits}

-- the number is at most two thousand million either way
pub record IsLimit (n : ℤ) : Type 0 where
  pub from : neg_ℤ (pos 2000000000) ≤ℤ n
  pub to : n ≤ℤ pos 2000000000

-- the numbers of limits are in their range, where they are there
pub record AreLimits (l : Limits) : Type 0 where
  pub least : IfSome l.least IsLimit
  pub greatest : IfSome l.greatest IsLimit

-- each value is kept
abbrev pub unlimited : Limits
unlimited = record { least = None; greatest = None }
