-- What comes of a message by its fate, and how late. (This project's profile.)
use Rattle.std.specs.Prelude.{ℕ, zero, suc, ◌+◌, List, [], ◌∷◌, ◌++◌, take, drop, bit_xor, Some, None}
use Rattle.std.specs.declared.option.Option.{Option}
use Rattle.schedule_file.specs.declared.fate.Fate.{Fate}
use Rattle.schedule_file.specs.declared.fate.Fate.TheVariants.{Lost, Cut, Dropped, Flipped}
use Rattle.station_sim.specs.declared.part.Part.{Part}
use Rattle.station_sim.specs.declared.part.Part.TheVariants.{Byte, Wait}

-- bytes with the bits of masks turned, one mask for each byte
abbrev pub masked : List ℕ → List ℕ → List ℕ
masked [] bs = bs
masked (m ∷ ms) [] = []
masked (m ∷ ms) (b ∷ bs) = bit_xor b m ∷ masked ms bs

-- what comes of a message, which is the message where nothing befalls it
unfoldable pub delivered : Option Fate → List ℕ → List ℕ
delivered None bs = bs
delivered (Some Lost) bs = []
delivered (Some (Cut n)) bs = take n bs
delivered (Some (Dropped p n)) bs = take p bs ++ drop (p + n) bs
delivered (Some (Flipped p ms)) bs = take p bs ++ masked ms.items (drop p bs)

-- the bytes with no wait among them
abbrev pub all_bytes : List ℕ → List Part
all_bytes [] = []
all_bytes (b ∷ bs) = Byte b ∷ all_bytes bs

-- so many waits, and then the parts
abbrev pub waits : ℕ → List Part → List Part
waits zero ps = ps
waits (suc k) ps = Wait ∷ waits k ps

-- what is in flight of a message that comes late: so many waits stand before the byte at this place
abbrev pub late : ℕ → ℕ → List ℕ → List Part
late k p [] = []
late k zero (b ∷ bs) = waits k (Byte b ∷ all_bytes bs)
late k (suc p) (b ∷ bs) = Byte b ∷ late k p bs
