-- Which stations have not ended, by their last answers.
use Rattle.std.specs.Prelude.{ℕ, ◌+◌, ◌%◌, Bool, true, false, if◌then◌else◌, List, [], ◌∷◌, length, slice_index_or}
use Rattle.std.specs.Prelude.{Some, None}
use Rattle.std.specs.declared.option.Option.{Option}
use Rattle.fleet.specs.declared.member.MemberTurn.{MemberTurn}
use Rattle.fleet.specs.declared.member.MemberTurn.TheVariants.{More, Ended, Unseen, WriteFault, OutOfMemory}
use Rattle.draws.specs.Draws.{drawn}

-- the numbers of the stations that have not ended, from this one on, rising
abbrev pub is_more : MemberTurn → Bool
is_more More = true
is_more Ended = false
is_more Unseen = false
is_more WriteFault = false
is_more OutOfMemory = false

abbrev pub open_from : ℕ → List MemberTurn → List ℕ
open_from station [] = []
open_from station (answer ∷ last) =
    if is_more answer then station ∷ open_from (station + 1) last else open_from (station + 1) last

-- the station that is drawn as this number is reached
abbrev pub chosen : ℕ → List ℕ → ℕ
chosen x stations = slice_index_or stations (drawn x % length stations) 0

-- the least station, from this one on, that ended by an unseen delivery
abbrev pub is_unseen : MemberTurn → Bool
is_unseen More = false
is_unseen Ended = false
is_unseen Unseen = true
is_unseen WriteFault = false
is_unseen OutOfMemory = false

abbrev pub least_unseen : ℕ → List MemberTurn → Option ℕ
least_unseen station [] = None
least_unseen station (answer ∷ last) = if is_unseen answer then Some station else least_unseen (station + 1) last
