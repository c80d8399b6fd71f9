-- The changes for batches.
use Rattle.std.proofs.Common.{◌≡◌, ℕ, ◌+◌, ◌-◌, ◌<◌, ◌≤◌, true, false, List, [], ◌∷◌, ◌++◌, length, min, take, drop, refl, sym, ◌∙◌, ap, subst, arith, append_assoc, append-nil, length-append}
use Rattle.std.proofs.Math.Seq.{take-append-add}
use Rattle.std.proofs.lemmas.List.{take_all, take-append-drop, length-take}
use Rattle.causes.specs.Lists.{IsFrontOf}
use Rattle.disk_model.specs.Medium.{Medium}
use Rattle.disk_model.specs.Calls.{DiskCall}
use Rattle.disk_model.specs.declared.disk.Disked.{Disked}
use Rattle.disk_model.specs.declared.disk.Disked.TheVariants.{Done}
use Rattle.gated_log.specs.Calls.{up_to}
use Rattle.station_base.specs.declared.row.Row.{Row}
use Rattle.batch_adding.proofs.Changes.{are_for, are_take, up_done, up_failed}
use Rattle.batch_adding.specs.Adding.{batch_count}
use Rattle.batch_adding.specs.Calls.{AddsBatches, AreBatches, changes_of_batch, changes_of_batches, failed_answer, rows_of_batches}

-- each of them has five rows
abbrev pub AreFull : List (List Row) → Type 0
AreFull [] = Unit {0}
AreFull (batch ∷ more) = (length batch ≡ 5) × AreFull more

pub full_more : (bs : List (List Row)) (b : List Row) → AreFull bs → length b ≡ 5 → AreFull (bs ++ b ∷ [])
full_more [] b are is = (is, tt)
full_more (x ∷ bs) b are is = (are.0, full_more bs b are.1 is)

-- full batches, and then a last one
pub full_then : (bs : List (List Row)) (b : List Row) → AreFull bs → 1 ≤ length b → length b ≤ 5 → AreBatches (bs ++ b ∷ [])
full_then [] b are some few = (some, few)
full_then (x ∷ []) b are some few = (are.0, (some, few))
full_then (x ∷ y ∷ bs) b are some few = (are.0, full_then (y ∷ bs) b are.1 some few)

pub rows_join : (bs : List (List Row)) (b : List Row) → rows_of_batches (bs ++ b ∷ []) ≡ rows_of_batches bs ++ b
rows_join [] b = append-nil b
rows_join (x ∷ bs) b = ap (λ (rows : List Row). x ++ rows) (rows_join bs b) ∙ sym (append_assoc x (rows_of_batches bs) b)

-- the changes for one batch more
pub changes_join : (mine : List Row) (bs : List (List Row)) (b : List Row) → changes_of_batches mine (bs ++ b ∷ []) ≡ changes_of_batches mine bs ++ changes_of_batch (mine ++ rows_of_batches bs) b
changes_join mine [] b = append-nil (changes_of_batch mine b) ∙ ap (λ (rows : List Row). changes_of_batch rows b) (sym (append-nil mine))
changes_join mine (x ∷ bs) b =
    ap (λ (cs : List (Disked → DiskCall)). changes_of_batch mine x ++ cs) (changes_join (mine ++ x) bs b)
    ∙ sym (append_assoc (changes_of_batch mine x) (changes_of_batches (mine ++ x) bs) (changes_of_batch ((mine ++ x) ++ rows_of_batches bs) b))
    ∙ ap (λ (rows : List Row). changes_of_batches mine (x ∷ bs) ++ changes_of_batch rows b) (append_assoc mine x (rows_of_batches bs))

-- changes that were done, and then some more
pub up_to_join : (xs ys : List (Disked → DiskCall)) (a : Disked) → 0 < length ys → up_to (xs ++ ys) a ≡ up_to xs Done ++ up_to ys a
up_to_join [] ys a some = refl
up_to_join (x ∷ []) [] a some = absurd (omega arith)
up_to_join (x ∷ []) (y ∷ ys) a some = refl
up_to_join (x ∷ z ∷ xs) ys a some = ap (λ (cs : List DiskCall). x Done ∷ cs) (up_to_join (z ∷ xs) ys a some)

module _ {D : Type 0} (medium : Medium D) (mine : List Row) (d : D) where
  -- so many batches were added, each whole
  pub record AddedSo (are : List Row → Type 0) (going : Type 0) (e : D) : Type 0 where
    pub so_far : List (List Row)
    pub sizes : AreBatches so_far
    pub full : going → AreFull so_far
    pub moved : medium.moment e ≡ medium.moment d + length (changes_of_batches mine so_far)
    pub by : medium.went d (up_to (changes_of_batches mine so_far) Done) e
    pub rows_are : are (rows_of_batches so_far)

  pub adds_none : (are : List Row → Type 0) (going : Type 0) → are [] → AddedSo are going d
  adds_none are going is = record { so_far = []; sizes = tt; full = λ _. tt; moved = omega arith; by = medium.went_none d; rows_are = is }

  pub adds_one : (are more : List Row → Type 0) (going later : Type 0) (e f : D) (b : List Row) (so : AddedSo are going e) → going → 1 ≤ length b → length b ≤ 5 → (later → length b ≡ 5)
      → medium.moment f ≡ medium.moment e + 4 → medium.went e (up_to (take (medium.moment f - medium.moment e) (changes_of_batch (mine ++ rows_of_batches so.so_far) b)) Done) f
      → (are (rows_of_batches so.so_far) → more (rows_of_batches so.so_far ++ b)) → AddedSo more later f
  adds_one are more going later e f b so is_open some few five moved went on =
      let bs = so.so_far in let four = changes_of_batch (mine ++ rows_of_batches so.so_far) b in
      let n : medium.moment f - medium.moment e ≡ 4 = omega (arith, moved) in
      let same : up_to (changes_of_batches mine so.so_far) Done ++ up_to (take (medium.moment f - medium.moment e) (changes_of_batch (mine ++ rows_of_batches so.so_far) b)) Done
      ≡ up_to (changes_of_batches mine (so.so_far ++ b ∷ [])) Done =
      ap (λ (k : ℕ). up_to (changes_of_batches mine so.so_far) Done ++ up_to (take k (changes_of_batch (mine ++ rows_of_batches so.so_far) b)) Done) n
      ∙ sym (up_to_join (changes_of_batches mine bs) four Done (omega arith)) ∙ ap (λ (cs : List (Disked → DiskCall)). up_to cs Done) (sym (changes_join mine bs b)) in
      record {
        so_far = bs ++ b ∷ [];
        sizes = full_then bs b (so.full is_open) some few;
        full = λ is. full_more bs b (so.full is_open) (five is);
        moved = omega (arith, so.moved, moved, ap length (changes_join mine bs b), length-append (changes_of_batches mine bs) four);
        by = subst (λ (cs : List DiskCall). medium.went d cs f) same
            (medium.went_joins d e f (up_to (changes_of_batches mine bs) Done) (up_to (take (medium.moment f - medium.moment e) four) Done) so.by went);
        rows_are = subst more (sym (rows_join bs b)) (on so.rows_are);
      }

  -- at the end of an adding
  pub ends_so : (are more : List Row → Type 0) (going : Type 0) (e f : D) (so : AddedSo are going e) → medium.moment f ≡ medium.moment e → medium.went e [] f → (are (rows_of_batches so.so_far) → more (rows_of_batches so.so_far))
      → AddsBatches medium mine false more d f
  ends_so are more going e f so at went on =
      let whole : take (medium.moment f - medium.moment d) (changes_of_batches mine so.so_far) ≡ changes_of_batches mine so.so_far =
      take_all (medium.moment f - medium.moment d) (changes_of_batches mine so.so_far) (omega (arith, so.moved, at)) in
      let same : up_to (changes_of_batches mine so.so_far) Done ++ [] ≡ up_to (take (medium.moment f - medium.moment d) (changes_of_batches mine so.so_far)) Done =
      append-nil (up_to (changes_of_batches mine so.so_far) Done) ∙ ap (λ (cs : List (Disked → DiskCall)). up_to cs Done) (sym whole) in
      record {
        batches = so.so_far;
        sizes = so.sizes;
        begun = omega (arith, so.moved, at);
        by = subst (λ (cs : List DiskCall). medium.went d cs f) same (medium.went_joins d e f (up_to (changes_of_batches mine so.so_far) Done) [] so.by went);
        fails = up_done (take (medium.moment f - medium.moment d) (changes_of_batches mine so.so_far)) (are_take (medium.moment f - medium.moment d) (changes_of_batches mine so.so_far) (are_for mine so.so_far));
        rows_are = on so.rows_are;
      }

  -- where one batch more failed
  pub fails_one : (are more : List Row → Type 0) (going : Type 0) (e f : D) (b : List Row) (so : AddedSo are going e) → going → 1 ≤ length b → length b ≤ 5
      → medium.moment e < medium.moment f → medium.went e (up_to (take (medium.moment f - medium.moment e) (changes_of_batch (mine ++ rows_of_batches so.so_far) b)) (failed_answer true)) f
      → (are (rows_of_batches so.so_far) → more (rows_of_batches so.so_far ++ b)) → AddsBatches medium mine true more d f
  fails_one are more going e f b so is_open some few later went on =
      let bs = so.so_far in let four = changes_of_batch (mine ++ rows_of_batches so.so_far) b in let n = medium.moment f - medium.moment e in
      let place : medium.moment f - medium.moment d ≡ length (changes_of_batches mine so.so_far) + (medium.moment f - medium.moment e) = omega (arith, so.moved, later) in
      let parts : take (medium.moment f - medium.moment d) (changes_of_batches mine (so.so_far ++ b ∷ [])) ≡
      changes_of_batches mine so.so_far ++ take (medium.moment f - medium.moment e) (changes_of_batch (mine ++ rows_of_batches so.so_far) b) =
      ap (λ (cs : List (Disked → DiskCall)). take (medium.moment f - medium.moment d) cs) (changes_join mine bs b)
      ∙ ap (λ (k : ℕ). take k (changes_of_batches mine so.so_far ++ changes_of_batch (mine ++ rows_of_batches so.so_far) b)) place
      ∙ take-append-add (changes_of_batches mine bs) four n in
      let same = up_to_join (changes_of_batches mine bs) (take n four) (failed_answer true) (omega (arith, length-take n four, later))
      in
      record {
        batches = bs ++ b ∷ [];
        sizes = full_then bs b (so.full is_open) some few;
        begun = omega (arith, so.moved, later);
        by = subst (λ (cs : List DiskCall). medium.went d cs f) (sym same ∙ ap (λ (cs : List (Disked → DiskCall)). up_to cs (failed_answer true)) (sym parts))
            (medium.went_joins d e f (up_to (changes_of_batches mine bs) Done) (up_to (take n four) (failed_answer true)) so.by went);
        fails = up_failed (take (medium.moment f - medium.moment d) (changes_of_batches mine (bs ++ b ∷ [])))
            (omega (arith, ap length parts, length-append (changes_of_batches mine bs) (take n four), length-take n four, later))
            (are_take (medium.moment f - medium.moment d) (changes_of_batches mine (bs ++ b ∷ [])) (are_for mine (bs ++ b ∷ [])));
        rows_are = subst more (sym (rows_join bs b)) (on so.rows_are);
      }

-- some of the next rows are a front of them
pub front_of : (rows next : List Row) (n : ℕ) → rows ≡ take n next → IsFrontOf rows next
front_of rows next n is = (drop n next, ap (λ (xs : List Row). xs ++ drop n next) is ∙ take-append-drop n next)

-- a batch less is to come
pub batch_less : (k : ℕ) → 0 < k → batch_count k ≡ 1 + batch_count (k - min 5 k)
batch_less k pos = omega arith
