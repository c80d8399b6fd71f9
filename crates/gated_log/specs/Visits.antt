-- What the slots of a log are to one who is shown them.
use Rattle.std.specs.Prelude.{◌≡◌, ℕ, ◌+◌, List, [], ◌++◌, length}
use Rattle.gated_log.specs.declared.version.Version.{Version}

-- What visitors of type V tell: that one became another by being shown these slots of an archive of this version; and
-- how many slots one was shown. By no slots a visitor stays itself, and slots shown after one another join.
pub record Visits (V : Type 0) : Type 1 where
  pub saw : Version → V → List (List ℕ) → V → Type 0
  pub count : V → ℕ
  pub saw_none : (version : Version) (v : V) → saw version v [] v
  pub saw_joins : (version : Version) (u v w : V) (first later : List (List ℕ)) → saw version u first v
      → saw version v later w → saw version u (first ++ later) w
  pub counts : (version : Version) (u v : V) (slots : List (List ℕ)) → saw version u slots v
      → count v ≡ count u + length slots

-- The visitor was shown so many slots, and these have P.
pub record IsShown {V : Type 0} (visits : Visits V) (version : Version) (old : V) (slots_shown : ℕ)
    (P : List (List ℕ) → Type 0) (new : V) : Type 0 where
  pub slots : List (List ℕ)
  pub saw : visits.saw version old slots new
  pub count_is : slots_shown ≡ length slots
  pub are : P slots
