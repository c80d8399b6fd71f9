-- A fate and its copy are the same.
use Rattle.std.proofs.Common.{◌≡◌, ℕ, List, [], ◌∷◌, refl, ap, ◌∙◌}
use Rattle.std.specs.List.{AllZip, each_same}
use Rattle.schedule_file.specs.declared.fate.Fate.{Fate}
use Rattle.schedule_file.specs.declared.fate.Fate.TheVariants.{Lost, Cut, Dropped, Flipped}
use Rattle.schedule_file.specs.contracts.fate.FateClone.TheImpl.{by_variants}
use Rattle.schedule_file.proofs.Entries.{entries_same}

fate_same : (a b : Fate) → by_variants a b → b ≡ a
fate_same Lost Lost e = refl
fate_same (Cut m) (Cut n) e = ap Cut e
fate_same (Dropped p m) (Dropped q n) e = ap (λ x. Dropped x n) e.0 ∙ ap (λ y. Dropped p y) e.1
fate_same (Flipped p ms) (Flipped q ns) e = ap (λ x. Flipped x ns) e.0 ∙ ap (λ (y : List ℕ). Flipped p (record { items = y })) (each_same ms.items ns.items e.1)
fate_same Lost (Cut n) e = absurd e
fate_same Lost (Dropped q n) e = absurd e
fate_same Lost (Flipped q ns) e = absurd e
fate_same (Cut m) Lost e = absurd e
fate_same (Cut m) (Dropped q n) e = absurd e
fate_same (Cut m) (Flipped q ns) e = absurd e
fate_same (Dropped p m) Lost e = absurd e
fate_same (Dropped p m) (Cut n) e = absurd e
fate_same (Dropped p m) (Flipped q ns) e = absurd e
fate_same (Flipped p ms) Lost e = absurd e
fate_same (Flipped p ms) (Cut n) e = absurd e
fate_same (Flipped p ms) (Dropped q n) e = absurd e

each_fate : (xs ys : List (ℕ × Fate)) → AllZip (λ p q. (q.0 ≡ p.0) × by_variants p.1 q.1) xs ys → AllZip (λ p q. (q.0 ≡ p.0) × (q.1 ≡ p.1)) xs ys
each_fate [] [] each = each
each_fate [] (y ∷ ys) each = each
each_fate (x ∷ xs) [] each = each
each_fate (x ∷ xs) (y ∷ ys) each = ((each.0.0, fate_same x.1 y.1 each.0.1), each_fate xs ys each.1)

-- fates of which each is a copy of the one at its place are the same
pub fates_same : (xs ys : List (ℕ × Fate)) → AllZip (λ p q. (q.0 ≡ p.0) × by_variants p.1 q.1) xs ys → ys ≡ xs
fates_same xs ys each = entries_same xs ys (each_fate xs ys each)
