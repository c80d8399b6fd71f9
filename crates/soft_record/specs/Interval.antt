-- The entries of an interval, and by how much the numbers of the day rose with each. (This project's own.)
use Rattle.std.specs.Prelude.{ℕ, ◌-◌, ◌==◌, Bool, nat_lt, if◌then◌else◌, List, [], ◌∷◌, filter, Some, None}
use Rattle.std.specs.declared.option.Option.{Option}
use Rattle.soft_record.specs.declared.entry.Entry.{Entry}
use Rattle.soft_record.specs.Entry.{interval_end}

-- an entry, with the rises of rain and evapotranspiration since the entry before
pub record Rising : Type 0 where
  pub entry : Entry
  pub rain : ℕ
  pub et : ℕ

-- by how much a number of the day rose; one that fell began again
abbrev pub rise_between : ℕ → ℕ → ℕ
rise_between before now = if nat_lt now before then now else now - before

-- an entry behind the one before; with the first entry nothing rose
abbrev pub rising_entry : Option Entry → Entry → Rising
rising_entry None e = record { entry = e; rain = 0; et = 0 }
rising_entry (Some b) e = record {
  entry = e;
  rain = rise_between b.packet.day_rain e.packet.day_rain;
  et = rise_between b.packet.day_et e.packet.day_et;
}

-- entries one behind another
abbrev pub risings : Option Entry → List Entry → List Rising
risings before [] = []
risings before (e ∷ es) = rising_entry before e ∷ risings (Some e) es

-- the last of the entries, or the one before them if there is none
abbrev pub last_entry : Option Entry → List Entry → Option Entry
last_entry before [] = before
last_entry before (e ∷ es) = last_entry (Some e) es

-- whether the interval of the entry ends at this minute
abbrev pub is_of : ℕ → ℕ → Rising → Bool
is_of period end r = interval_end period r.entry == end

-- the entries of the interval that ends at this minute
abbrev pub interval_of : ℕ → ℕ → List Entry → List Rising
interval_of period end entries = filter (is_of period end) (risings None entries)
