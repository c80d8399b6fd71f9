-- Entries by number, and how late replies are seen.
use Rattle.std.proofs.Common.{◌≡◌, ℕ, Bool, true, false, cond, List, [], ◌∷◌, Some, refl, ap, ◌∙◌}
use Rattle.std.specs.List.{AllZip}
use Rattle.std.specs.Prelude.{is_some}
use Rattle.std.specs.Ordering.{nat_cmp, match_ordering}
use Rattle.std.specs.declared.cmp.Ordering.{Ordering}
use Rattle.std.specs.declared.cmp.Ordering.TheVariants.{Less, Equal, Greater}
use Rattle.std.specs.BTreeMap.{is_at}
use Rattle.schedule_file.specs.Fates.{Lateness}
use Rattle.schedule_file.specs.declared.fates.Late.{Late}
use Rattle.schedule_file.specs.Lists.{entry_of, with_entry, late_seen}
use Rattle.schedule_file.specs.Steps.{lates_seen}

pub lates_more : (entries : List (ℕ × Late)) (n : ℕ) (late : Late)
    → lates_seen (with_entry entries n late) ≡ with_entry (lates_seen entries) n (late_seen late)
lates_more [] n late = refl
lates_more (entry ∷ entries) n late = go (nat_cmp n entry.0) (lates_more entries n late)
  where
    go : (order : Ordering) → lates_seen (with_entry entries n late) ≡ with_entry (lates_seen entries) n (late_seen late)
        → lates_seen (match_ordering order ((n, late) ∷ entry ∷ entries) ((entry.0, late) ∷ entries) (entry ∷ with_entry entries n late))
        ≡ match_ordering order ((n, late_seen late) ∷ (entry.0, late_seen entry.1) ∷ lates_seen entries) ((entry.0, late_seen late) ∷ lates_seen entries) ((entry.0, late_seen entry.1) ∷ with_entry (lates_seen entries) n (late_seen late))
    go Less same = refl
    go Equal same = refl
    go Greater same = ap (λ (more : List (ℕ × Lateness)). (entry.0, late_seen entry.1) ∷ more) same

pub lates_listed : (entries : List (ℕ × Late)) (n : ℕ) → is_some (entry_of n (lates_seen entries)) ≡ is_some (entry_of n entries)
lates_listed [] n = refl
lates_listed (entry ∷ entries) n = go (is_at (nat_cmp n) entry.0) (lates_listed entries n)
  where
    go : (here : Bool) → is_some (entry_of n (lates_seen entries)) ≡ is_some (entry_of n entries)
        → is_some (cond here (Some (late_seen entry.1)) (entry_of n (lates_seen entries))) ≡ is_some (cond here (Some entry.1) (entry_of n entries))
    go true same = refl
    go false same = same

pair_same : {A : Type 0} (x y : ℕ × A) → y.0 ≡ x.0 → y.1 ≡ x.1 → y ≡ x
pair_same x y one other = ap (λ n. (n, y.1)) one ∙ ap (λ z. (x.0, z)) other

-- entries of which each is the one at its place are the same
pub entries_same : {A : Type 0} (xs ys : List (ℕ × A)) → AllZip (λ p q. (q.0 ≡ p.0) × (q.1 ≡ p.1)) xs ys → ys ≡ xs
entries_same [] [] each = refl
entries_same [] (y ∷ ys) each = absurd each
entries_same (x ∷ xs) [] each = absurd each
entries_same (x ∷ xs) (y ∷ ys) each = ap (λ z. z ∷ ys) (pair_same x y each.0.0 each.0.1) ∙ ap (λ zs. x ∷ zs) (entries_same xs ys each.1)
