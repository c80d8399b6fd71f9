-- Bytes behind a place.
use Rattle.std.proofs.Common.{ℕ, ◌+◌, List, drop}
use Rattle.std.proofs.lemmas.List.{get_or-drop}
use Rattle.causes.specs.Lists.{AreBytes}

-- what stands behind a place are bytes too
pub bytes_behind : (place : ℕ) (bytes : List ℕ) → AreBytes bytes → AreBytes (drop place bytes)
bytes_behind place bytes fits i = rw (get_or-drop place bytes i 0) (fits (place + i))
