-- What befalls the messages of a round. (This project's profile.)
use Rattle.std.specs.Prelude.{ℕ, List}
use Rattle.std.specs.declared.option.Option.{Option}
use Rattle.schedule_file.specs.declared.fate.Fate.{Fate}

-- how late a reply comes
pub record Lateness : Type 0 where
  pub waits : ℕ
  pub place : ℕ

-- The fates of a round as functions. By the number of a message of either side, what befalls it. By that of a reply,
-- how late it is. By that of a host's message, the records that are due after it.
pub record FatesByNumber : Type 0 where
  pub host : ℕ → Option Fate
  pub reply : ℕ → Option Fate
  pub late : ℕ → Lateness
  pub mids : ℕ → List (List ℕ)
