-- A link that tells nothing of what was said and heard.
use Rattle.std.specs.Prelude.{ℕ, None}
use Rattle.serial_link.specs.Traffic.{Traffic}

-- it tells how often it failed and how many waits passed; it never has a shortage
abbrev pub untold_traffic : {L : Type 0} → (L → ℕ) → (L → ℕ) → Traffic L
untold_traffic faults quiets = record {
  talk = λ l. None;
  goes = λ l t m. Unit {0};
  dialed = λ l side address answer m. Unit {0};
  faults = faults;
  quiets = quiets;
  shortages = λ l. 0;
  goes_none = λ l. tt;
  goes_joins = λ l m n first later one two. tt;
}
