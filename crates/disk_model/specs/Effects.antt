-- Which changes took effect on a disk, as far as its calls tell them, and what they made of its platter.
use Rattle.std.specs.Prelude.{◌≡◌, ℕ, Bool, true, false, List, [], ◌∷◌, ◌++◌, length, Option, Some, None, if◌then◌else◌}
use Rattle.std.proofs.Common.{ap, sym, subst, ◌∙◌}
use Rattle.std.proofs.lemmas.List.{append_assoc}
use Rattle.disk_model.specs.Calls.{DiskCall, wrote, synced, one_byte}
use Rattle.disk_model.specs.DiskState.{DiskState, WentBy, must_fail, and_after, after_calls, went_by_joins}
use Rattle.disk_model.specs.Platter.{Platter, PlatterStep, write, sync, take_step}

-- a write that took effect, with its place, its length, and its byte where it is of one; or a sync
pub data Effect : Type 0 where
  write_of : ℕ → ℕ → Option ℕ → Effect
  sync_of : Effect

-- the change is the one of which this effect tells
abbrev pub IsEffect : PlatterStep → Effect → Type 0
IsEffect (write place bytes) (write_of at len byte) = (place ≡ at) × (length bytes ≡ len) × (one_byte bytes ≡ byte)
IsEffect sync sync_of = Unit {0}
IsEffect other effect = ⊥

-- changes with these effects made the one platter of the other
abbrev pub Took : Platter → List Effect → Platter → Type 0
Took old [] new = new ≡ old
Took old (effect ∷ more) new = (s : PlatterStep) × IsEffect s effect × Took (take_step old s) more new

-- a platter after a write that fails, or takes effect
abbrev pub written_unless : Bool → ℕ → List ℕ → Platter → Platter
written_unless true at bytes m = m
written_unless false at bytes m = take_step m (write at bytes)

-- what takes effect of a call of a disk in memory
abbrev pub effect : DiskState → DiskCall → List Effect
effect s (wrote at len byte answer) = if must_fail s (wrote at len byte answer) then [] else write_of at len byte ∷ []
effect s (synced answer) = if must_fail s (synced answer) then [] else sync_of ∷ []
effect s other = []

-- what takes effect of a call, if the state before it is known
abbrev pub effect_of : Option DiskState → DiskCall → List Effect
effect_of None call = []
effect_of (Some s) call = effect s call

-- what takes effect of these calls, one after another
abbrev pub effects : Option DiskState → List DiskCall → List Effect
effects s [] = []
effects s (call ∷ more) = effect_of s call ++ effects (and_after s call) more

-- These calls made the one of the other: their answers were as they must be, and what took effect is on the platter.
pub record MemWent (s : DiskState) (m : Platter) (calls : List DiskCall) (t : DiskState) (n : Platter) : Type 0 where
  pub state : WentBy s calls t
  pub platter : Took m (effects (Some s) calls) n

-- changes and then changes: what they make of a platter joins (a proof)
pub took_joins : (a b c : Platter) (first later : List Effect) → Took a first b → Took b later c
    → Took a (first ++ later) c
took_joins a b c [] later one two = subst (λ (m : Platter). Took m later c) one two
took_joins a b c (effect ∷ first) later one two =
    (one.0, one.1, took_joins (take_step a one.0) b c first later one.2 two)

-- what takes effect of calls that follow others (a proof)
effects_join : (s : Option DiskState) (t : DiskState) (first later : List DiskCall) → after_calls s first ≡ Some t
    → effects s (first ++ later) ≡ effects s first ++ effects (Some t) later
effects_join s t [] later is = ap (λ (o : Option DiskState). effects o later) is
effects_join s t (call ∷ first) later is =
    ap (λ (es : List Effect). effect_of s call ++ es) (effects_join (and_after s call) t first later is)
    ∙ sym (append_assoc (effect_of s call) (effects (and_after s call) first) (effects (Some t) later))

-- calls and then calls: the states and the platters join (a proof)
pub mem_went_joins : (s t u : DiskState) (a b c : Platter) (first later : List DiskCall) → MemWent s a first t b
    → MemWent t b later u c → MemWent s a (first ++ later) u c
mem_went_joins s t u a b c first later one two = record {
  state = went_by_joins s t u first later one.state two.state;
  platter = subst (λ (es : List Effect). Took a es c) (sym (effects_join (Some s) t first later one.state))
      (took_joins a b c _ _ one.platter two.platter);
}
