-- What becomes of a link's counts where a piece that is said over it is refused.
use Rattle.std.specs.Prelude.{ℕ, ◌≡◌, ◌≤◌, ◌-◌, ◌^◌, Option, Some, None}
use Rattle.std.proofs.Common.{refl, sym}
use Rattle.causes.specs.Cause.{Rose}
use Rattle.query_service.specs.declared.link_sink.Refusal.{Refusal}
use Rattle.query_service.specs.declared.link_sink.Refusal.TheVariants.{LinkFault, OutOfMemory}

-- No piece was refused anew: what was refused before and both counts of the link stand.
pub record NoneRefused (was now : Option Refusal) (f f' s s' : ℕ) : Type 0 where
  pub same : now ≡ was
  pub faults : f' ≡ f
  pub shortages : s' ≡ s

-- The one count rose, and the other stands.
pub record OneRose (count count' other other' : ℕ) : Type 0 where
  pub never_falls : count ≤ count'
  pub rose : Rose count count'
  pub stands : other' ≡ other

-- Of the link's faults and shortages the one that refused a piece rose, and the other stands. Both stand where no piece
-- was refused, and behind one that was.
abbrev pub Refuses : Option Refusal → Option Refusal → ℕ → ℕ → ℕ → ℕ → Type 0
Refuses None None f f' s s' = NoneRefused None None f f' s s'
Refuses None (Some LinkFault) f f' s s' = OneRose f f' s s'
Refuses None (Some OutOfMemory) f f' s s' = OneRose s s' f f'
Refuses (Some r) now f f' s s' = NoneRefused (Some r) now f f' s s'

pub refuses_none : (r : Option Refusal) (f s : ℕ) → Refuses r r f f s s
refuses_none None f s = record { same = refl; faults = refl; shortages = refl }
refuses_none (Some r) f s = record { same = refl; faults = refl; shortages = refl }

pub refuses_joins : (p q r : Option Refusal) (a b c x y z : ℕ) → Refuses p q a b x y → Refuses q r b c y z
    → Refuses p r a c x z
refuses_joins None None r a b c x y z one two = rw (sym one.faults, sym one.shortages) two
refuses_joins (Some p) None r a b c x y z one two = absurd (let no : None ≡ Some p = one.same in cc)
refuses_joins p (Some q) r a b c x y z one two = rw (two.same, two.faults, two.shortages) one

-- a count of refused pieces that stands at its end once one was refused
abbrev pub refused : Option Refusal → ℕ
refused None = 0
refused (Some r) = 2 ^ 64 - 1
