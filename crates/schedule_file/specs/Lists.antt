-- What the lists of a round's fates say of each number.
use Rattle.std.specs.Prelude.{ℕ, ◌==◌, nat_lt, if◌then◌else◌, List, [], ◌∷◌, Some, None}
use Rattle.std.specs.declared.option.Option.{Option}
use Rattle.std.specs.Ordering.{nat_cmp}
use Rattle.std.specs.BTreeMap.{is_at, insert_entry}
use Rattle.std.specs.Map.{lookup}
use Rattle.schedule_file.specs.declared.fates.Late.{Late}
use Rattle.schedule_file.specs.declared.fates.Mid.{Mid}
use Rattle.schedule_file.specs.declared.fates.Fates as lists
use Rattle.schedule_file.specs.Fates.{FatesByNumber, Lateness}

-- of entries by the numbers of messages, that of this number
abbrev pub entry_of : {A : Type 0} → ℕ → List (ℕ × A) → Option A
entry_of n entries = lookup (is_at (nat_cmp n)) entries

-- the entries with one of this number, which has none
abbrev pub with_entry : {A : Type 0} → List (ℕ × A) → ℕ → A → List (ℕ × A)
with_entry entries n x = insert_entry nat_cmp entries n x

-- how late an entry makes a reply
abbrev pub late_seen : Late → Lateness
late_seen late = record { waits = late.waits; place = late.place }

-- a reply that no entry speaks of is not late
abbrev pub or_in_time : Option Late → Lateness
or_in_time None = record { waits = 0; place = 0 }
or_in_time (Some late) = late_seen late

-- how late the reply of this number comes
abbrev pub late_in : List (ℕ × Late) → ℕ → Lateness
late_in entries n = or_in_time (entry_of n entries)

-- the records that fall due right after the message of this number
abbrev pub mids_in : List Mid → ℕ → List (List ℕ)
mids_in [] n = []
mids_in (x ∷ xs) n = if x.number == n then x.rec ∷ mids_in xs n else mids_in xs n

-- the records of messages with a greater number
abbrev pub records_left_in : List Mid → ℕ → List (List ℕ)
records_left_in [] n = []
records_left_in (x ∷ xs) n = if nat_lt n x.number then x.rec ∷ records_left_in xs n else records_left_in xs n

-- what the lists of a round's fates say
abbrev pub fates_of : lists.Fates → FatesByNumber
fates_of f = record {
  host = λ n. entry_of n f.host.entries;
  reply = λ n. entry_of n f.replies.entries;
  late = late_in f.lates.entries;
  mids = mids_in f.mids.items;
}

-- every message comes as it was sent, and no record falls due
abbrev pub no_fates : FatesByNumber
no_fates = record {
  host = λ n. None;
  reply = λ n. None;
  late = λ n. record { waits = 0; place = 0 };
  mids = λ n. [];
}
