-- What is told of the items of a run.
use Rattle.std.specs.Prelude.{ℕ, List, [], ◌++◌, Ok, Err}
use Rattle.std.specs.declared.result.Result.{Result}
use Rattle.replay_laws.specs.Replay.{Item}
use Rattle.schedule_replay.specs.declared.cut.Cut.{Cut}
use Rattle.schedule_replay.specs.declared.cut.Cut.TheVariants.{WriteFault, OutOfMemory}

-- What tellers of type T tell: that one became another by being told these items; that one did by being told a prefix
-- of what there is to tell of them; how often a telling failed, a count that stops at 2 ^ 64 - 1. By no items a teller
-- stays, and items after one another join. Nothing is a prefix of whatever there is to tell. A prefix of what is told
-- of some items is one of that of these and more. So is what is told of some items and then a prefix of the rest.
pub record Telling (T : Type 0) : Type 1 where
  pub tells : T → List Item → T → Type 0
  pub breaks_off : T → List Item → T → Type 0
  pub faults : T → ℕ
  pub tells_none : (a : T) → tells a [] a
  pub tells_joins : (a b c : T) (first later : List Item) → tells a first b → tells b later c
      → tells a (first ++ later) c
  pub breaks_none : (a : T) (items : List Item) → breaks_off a items a
  pub breaks_first : (a b : T) (first later : List Item) → breaks_off a first b → breaks_off a (first ++ later) b
  pub breaks_later : (a b c : T) (first later : List Item) → tells a first b → breaks_off b later c
      → breaks_off a (first ++ later) c

-- all of the items are told, or, where that failed, a prefix of what there is to tell. No memory is asked for
abbrev pub TellsAll : {T : Type 0} → Telling T → T → List Item → Result (Unit {0}) Cut → T → Type 0
TellsAll telling old items (Ok done) new = telling.tells old items new
TellsAll telling old items (Err WriteFault) new = telling.breaks_off old items new
TellsAll telling old items (Err OutOfMemory) new = ⊥
