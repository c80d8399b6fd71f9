-- What a round takes of the slots that its attempts read.
use Rattle.std.specs.Prelude.{ℕ, List, [], ◌∷◌, ◌++◌}
use Rattle.dmpaft_pump.specs.Batch.{all_slots}
use Rattle.station_session.specs.Attempts.{MadeAttempt}

-- the slots of the pages that attempts took, in order, of each attempt's first page from the header's place on
abbrev pub slots_taken : List MadeAttempt → List (List ℕ)
slots_taken [] = []
slots_taken (t ∷ ts) = all_slots t.place t.taken ++ slots_taken ts
