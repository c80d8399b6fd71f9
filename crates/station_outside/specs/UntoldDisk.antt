-- A disk that tells nothing of what its file holds, nor of what a crash leaves.
use Rattle.std.specs.Prelude.{ℕ, ◌≡◌, None, Some}
use Rattle.disk_model.specs.Medium.{Medium}

-- what is not told is no value
pub nothing_told : {A : Type 0} (a : A) → None ≡ Some a → ⊥
nothing_told a told = cc

-- it tells how many changes and reads there were, and how often it failed
abbrev pub untold_medium : {D : Type 0} → (D → ℕ) → (D → ℕ) → (D → ℕ) → Medium D
untold_medium moment looks faults = record {
  seen = λ d. None;
  left = λ d t c. ⊥;
  synced = λ d. None;
  moment = moment;
  looks = looks;
  faults = faults;
  went = λ d calls e. Unit {0};
  reads_image = λ d c told. nothing_told c told;
  synced_image = λ d c told. nothing_told c told;
  since = λ d t u c le left. left;
  went_none = λ d. tt;
  went_joins = λ d e f first later one two. tt;
}
