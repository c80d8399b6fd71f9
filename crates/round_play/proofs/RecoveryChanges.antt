-- Among the calls of a recovery only its changes do anything to a disk in memory of which no call is to fail.
use Rattle.std.proofs.Common.{◌≡◌, ℕ, ◌+◌, ◌-◌, ◌≤◌, ◌==◌, Bool, true, false, if◌then◌else◌, List, [], ◌∷◌, ◌++◌, Option, Some, None, refl, sym, ◌∙◌, ap, subst, arith}
use Rattle.std.specs.Prelude.{◌&&◌, ◌||◌, nat_lt}
use Rattle.std.proofs.lemmas.Bool.Decides.{nat_tests}
use Rattle.std.proofs.lemmas.Option.{same_Some}
use Rattle.disk_model.specs.Calls.{DiskCall, attached, measured, was_read, wrote, synced, answered_failed, is_change}
use Rattle.disk_model.specs.declared.disk.Disked.TheVariants.{Done, Failed}
use Rattle.disk_model.specs.declared.disk.Length.TheVariants.{Known}
use Rattle.disk_model.specs.declared.disk.Length.TheVariants as unknown
use Rattle.disk_model.specs.DiskState.{DiskState, call_counted, call_done, next_disk_state, must_fail, same_truth, says_size}
use Rattle.disk_model.specs.Effects.{Effect}
use Rattle.disk_model.specs.StoppingState.{StoppingState, within_stop, go_on, after_stop, after_stops, stop_effect, stop_effects}
use Rattle.gated_log.specs.Calls.{changes, any_failed, reads_fit}
use Rattle.gated_log.proofs.StoppedCalls.{going}
use Rattle.replay_laws.proofs.Stops.{stops_part}

-- what each call does to a disk: it is counted, the file grows no shorter, the room that it was made with stays
pub record Counts (s m : DiskState) : Type 0 where
  pub fails : m.fails_at ≡ s.fails_at - 1
  pub grows : s.size ≤ m.size
  pub limits : m.limits ≡ s.limits

counted_counts : (s : DiskState) → Counts s (call_counted s)
counted_counts s = record { fails = refl; grows = omega arith; limits = refl }

done_counts : (s : DiskState) (call : DiskCall) → Counts s (call_done (call_counted s) call)
done_counts s (attached name make answer) = counted_counts s
done_counts s (measured answer) = counted_counts s
done_counts s (was_read at len answer) = counted_counts s
done_counts s (wrote at len byte answer) = record { fails = refl; grows = omega arith; limits = refl }
done_counts s (synced answer) = record { fails = refl; grows = omega arith; limits = refl }

next_counts : (s : DiskState) (call : DiskCall) → Counts s (next_disk_state s call)
next_counts s call = by (must_fail s call)
  where
    by : (b : Bool) → Counts s (if b then call_counted s else call_done (call_counted s) call)
    by true = counted_counts s
    by false = done_counts s call

within_counts : (s : DiskState) (call : DiskCall) → Counts s (within_stop s call)
within_counts s (attached name make answer) = next_counts s (attached name make answer)
within_counts s (measured answer) = next_counts s (measured answer)
within_counts s (was_read at len answer) = next_counts s (was_read at len answer)
within_counts s (wrote at len byte answer) = next_counts s (wrote at len byte answer)
within_counts s (synced answer) = counted_counts s

pub call_counts : (s m : StoppingState) (call : DiskCall) → after_stop s call ≡ Some m → Counts s.inner m.inner
call_counts s m call h =
    go s.stopped (is_change call && (s.armed == 1)) (answered_failed call) (same_truth (must_fail s.inner call) (answered_failed call) && says_size s.inner.size call) (if is_change call then s.armed - 1 else s.armed) h
  where
    to_m : (x : StoppingState) → Some x ≡ Some m → Counts s.inner x.inner → Counts s.inner m.inner
    to_m x e = subst (λ (z : StoppingState). Counts s.inner z.inner) (same_Some x m e)

    go : (t b f k : Bool) (armed : ℕ)
        → (if t then (if f then Some (record s { inner = call_counted s.inner; stopped = true }) else None)
        else if b then (if f then Some (record s { inner = within_stop s.inner call; armed = 0; stopped = true }) else None)
        else go_on armed s.pick (if k then Some (next_disk_state s.inner call) else None)) ≡ Some m → Counts s.inner m.inner
    go true b true k armed h = to_m (record s { inner = call_counted s.inner; stopped = true }) h (counted_counts s.inner)
    go true b false k armed h = absurd cc
    go false true true k armed h = to_m (record s { inner = within_stop s.inner call; armed = 0; stopped = true }) h (within_counts s.inner call)
    go false true false k armed h = absurd cc
    go false false f true armed h = to_m (going (next_disk_state s.inner call) armed s.pick) h (next_counts s.inner call)
    go false false f false armed h = absurd cc

-- the room that a disk was made with stays
pub limits_stay : (calls : List DiskCall) (s u : StoppingState) → after_stops (Some s) calls ≡ Some u → u.inner.limits ≡ s.inner.limits
limits_stay [] s u h = sym (ap (λ (x : StoppingState). x.inner.limits) (same_Some s u h))
limits_stay (call ∷ calls) s u h =
    let p = stops_part (after_stop s call) [] calls u h in
    limits_stay calls p.0 u p.2 ∙ (call_counts s p.0 call p.1).limits

-- to count a call is nothing where none is to fail
same_counted : (s : StoppingState) → s.inner.fails_at ≡ 0 → record s { inner = call_counted s.inner } ≡ s
same_counted s sure =
    let e : s.inner.fails_at - 1 ≡ s.inner.fails_at = omega (arith, sure) in
    ap (λ (n : ℕ). record s { inner = record s.inner { fails_at = n } }) e

-- where it is stopped, or goes on, that need not be said again
same_stopped : (s : StoppingState) (b : Bool) → s.stopped ≡ b → s.inner.fails_at ≡ 0 → record s { inner = call_counted s.inner; stopped = b } ≡ s
same_stopped s b is sure = ap (λ (t : Bool). record s { inner = call_counted s.inner; stopped = t }) (sym is) ∙ same_counted s sure

-- a call that is no change leaves the state
next_is : (s : DiskState) (call : DiskCall) → is_change call ≡ false → next_disk_state s call ≡ call_counted s
next_is s (attached name make answer) none = either (must_fail s (attached name make answer))
  where
    either : (b : Bool) → (if b then call_counted s else call_counted s) ≡ call_counted s
    either true = refl
    either false = refl
next_is s (measured answer) none = either (must_fail s (measured answer))
  where
    either : (b : Bool) → (if b then call_counted s else call_counted s) ≡ call_counted s
    either true = refl
    either false = refl
next_is s (was_read at len answer) none = either (must_fail s (was_read at len answer))
  where
    either : (b : Bool) → (if b then call_counted s else call_counted s) ≡ call_counted s
    either true = refl
    either false = refl
next_is s (wrote at len byte answer) none = absurd cc
next_is s (synced answer) none = absurd cc

pub no_change : (s m : StoppingState) (call : DiskCall) → is_change call ≡ false → s.inner.fails_at ≡ 0 → after_stop s call ≡ Some m → m ≡ s
no_change s m call none sure h =
    go s.stopped (is_change call) (answered_failed call) (same_truth (must_fail s.inner call) (answered_failed call) && says_size s.inner.size call) refl none h
  where
    go : (t b f k : Bool) → s.stopped ≡ t → b ≡ false
        → (if t then (if f then Some (record s { inner = call_counted s.inner; stopped = true }) else None)
        else if b && (s.armed == 1) then (if f then Some (record s { inner = within_stop s.inner call; armed = 0; stopped = true }) else None)
        else go_on (if b then s.armed - 1 else s.armed) s.pick (if k then Some (next_disk_state s.inner call) else None)) ≡ Some m → m ≡ s
    go true b true k is e h = sym (same_Some (record s { inner = call_counted s.inner; stopped = true }) m h) ∙ same_stopped s true is sure
    go true b false k is e h = absurd cc
    go false true f k is e h = absurd cc
    go false false f true is e h =
        sym (same_Some (going (next_disk_state s.inner call) s.armed s.pick) m h) ∙ ap (λ (i : DiskState). going i s.armed s.pick) (next_is s.inner call none) ∙ same_stopped s false is sure
    go false false f false is e h = absurd cc

-- and has no effect
abbrev nothing : List Effect
nothing = []

no_effect : (s : StoppingState) (call : DiskCall) → is_change call ≡ false → stop_effect s call ≡ []
no_effect s (attached name make answer) none = either s.stopped
  where
    either : (t : Bool) → (if t then nothing else nothing) ≡ nothing
    either true = refl
    either false = refl
no_effect s (measured answer) none = either s.stopped
  where
    either : (t : Bool) → (if t then nothing else nothing) ≡ nothing
    either true = refl
    either false = refl
no_effect s (was_read at len answer) none = either s.stopped
  where
    either : (t : Bool) → (if t then nothing else nothing) ≡ nothing
    either true = refl
    either false = refl
no_effect s (wrote at len byte answer) none = absurd cc
no_effect s (synced answer) none = absurd cc

-- some calls do what others do
pub record Does (s u : StoppingState) (calls others : List DiskCall) : Type 0 where
  pub state : after_stops (Some s) others ≡ Some u
  pub effects : stop_effects (Some s) calls ≡ stop_effects (Some s) others

-- a call that is no change, in front of them
passes : (s u m : StoppingState) (call : DiskCall) (calls others : List DiskCall) → is_change call ≡ false → s.inner.fails_at ≡ 0
    → after_stop s call ≡ Some m → Does m u calls others → Does s u (call ∷ calls) others
passes s u m call calls others none sure h does =
    let e = no_change s m call none sure h in
    let here : after_stop s call ≡ Some s = h ∙ ap (λ (x : StoppingState). Some x) e in
    let later = subst (λ (x : StoppingState). Does x u calls others) e does in
    record {
      state = later.state;
      effects = ap (λ (es : List Effect). es ++ stop_effects (after_stop s call) calls) (no_effect s call none)
          ∙ ap (λ (o : Option StoppingState). stop_effects o calls) here ∙ later.effects;
    }

-- a call in front of both
goes_first : (s u m : StoppingState) (call : DiskCall) (calls others : List DiskCall) → after_stop s call ≡ Some m
    → Does m u calls others → Does s u (call ∷ calls) (call ∷ others)
goes_first s u m call calls others h does = record {
  state = ap (λ (o : Option StoppingState). after_stops o others) h ∙ does.state;
  effects = ap (λ (es : List Effect). stop_effect s call ++ es)
      (ap (λ (o : Option StoppingState). stop_effects o calls) h ∙ does.effects ∙ sym (ap (λ (o : Option StoppingState). stop_effects o others) h));
}

sure_then : (s m : StoppingState) (call : DiskCall) → s.inner.fails_at ≡ 0 → after_stop s call ≡ Some m → m.inner.fails_at ≡ 0
sure_then s m call sure h = let e = (call_counts s m call h).fails in omega (arith, e, sure)

-- the changes alone do what the calls do
pub by_changes : (calls : List DiskCall) (s u : StoppingState) → s.inner.fails_at ≡ 0 → after_stops (Some s) calls ≡ Some u
    → Does s u calls (changes calls)
by_changes [] s u sure h = record { state = h; effects = refl }
by_changes (attached name make answer ∷ calls) s u sure h =
    let p = stops_part (after_stop s (attached name make answer)) [] calls u h in
    goes_first s u p.0 (attached name make answer) calls (changes calls) p.1 (by_changes calls p.0 u (sure_then s p.0 (attached name make answer) sure p.1) p.2)
by_changes (measured answer ∷ calls) s u sure h =
    let p = stops_part (after_stop s (measured answer)) [] calls u h in
    passes s u p.0 (measured answer) calls (changes calls) refl sure p.1 (by_changes calls p.0 u (sure_then s p.0 (measured answer) sure p.1) p.2)
by_changes (was_read at len answer ∷ calls) s u sure h =
    let p = stops_part (after_stop s (was_read at len answer)) [] calls u h in
    passes s u p.0 (was_read at len answer) calls (changes calls) refl sure p.1 (by_changes calls p.0 u (sure_then s p.0 (was_read at len answer) sure p.1) p.2)
by_changes (wrote at len byte answer ∷ calls) s u sure h =
    let p = stops_part (after_stop s (wrote at len byte answer)) [] calls u h in
    goes_first s u p.0 (wrote at len byte answer) calls (changes calls) p.1 (by_changes calls p.0 u (sure_then s p.0 (wrote at len byte answer) sure p.1) p.2)
by_changes (synced answer ∷ calls) s u sure h =
    let p = stops_part (after_stop s (synced answer)) [] calls u h in
    goes_first s u p.0 (synced answer) calls (changes calls) p.1 (by_changes calls p.0 u (sure_then s p.0 (synced answer) sure p.1) p.2)

-- a disk that goes on tells its length, and a read within it is done
module _ (s m : StoppingState) (goes : s.stopped ≡ false) (sure : s.inner.fails_at ≡ 0) where
  tests : (s.inner.fails_at == 1) ≡ false
  tests = grind (arith, nat_tests, sure)

  pub tells_length : (n : ℕ) → after_stop s (measured (Known n)) ≡ Some m → n ≡ s.inner.size
  tells_length n h = go s.stopped (n == s.inner.size) (same_truth (must_fail s.inner (measured (Known n))) false) goes refl h
    where
      same_number : (n == s.inner.size) ≡ true → n ≡ s.inner.size
      same_number e = grind (arith, nat_tests, e)

      go : (t k b : Bool) → t ≡ false → (n == s.inner.size) ≡ k
          → (if t then None else go_on s.armed s.pick (if b && k then Some (next_disk_state s.inner (measured (Known n))) else None)) ≡ Some m → n ≡ s.inner.size
      go true k b e f h = absurd cc
      go false true b e f h = same_number f
      go false false true e f h = absurd cc
      go false false false e f h = absurd cc

  pub tells_some : after_stop s (measured unknown.Failed) ≡ Some m → ⊥
  tells_some h = go s.stopped (s.inner.fails_at == 1) goes tests h
    where
      go : (t b : Bool) → t ≡ false → b ≡ false
          → (if t then Some (record s { inner = call_counted s.inner; stopped = true })
          else go_on s.armed s.pick (if same_truth (b || false) true && true then Some (next_disk_state s.inner (measured unknown.Failed)) else None)) ≡ Some m → ⊥
      go true b e f h = absurd cc
      go false true e f h = absurd cc
      go false false e f h = absurd cc

  pub reads_done : (at len : ℕ) → at + len ≤ s.inner.size → after_stop s (was_read at len Failed) ≡ Some m → ⊥
  reads_done at len within h = go s.stopped (s.inner.fails_at == 1) (nat_lt s.inner.size (at + len)) goes tests fits h
    where
      fits : nat_lt s.inner.size (at + len) ≡ false
      fits = grind (arith, nat_tests)

      go : (t b k : Bool) → t ≡ false → b ≡ false → k ≡ false
          → (if t then Some (record s { inner = call_counted s.inner; stopped = true })
          else go_on s.armed s.pick (if same_truth (b || k) true && true then Some (next_disk_state s.inner (was_read at len Failed)) else None)) ≡ Some m → ⊥
      go true b k e f g h = absurd cc
      go false true k e f g h = absurd cc
      go false false true e f g h = absurd cc
      go false false false e f g h = absurd cc

  -- a call that is done does not stop it
  pub goes_on : (call : DiskCall) → answered_failed call ≡ false → after_stop s call ≡ Some m → m.stopped ≡ false
  goes_on call ok h = go s.stopped (is_change call && (s.armed == 1)) (answered_failed call) (same_truth (must_fail s.inner call) (answered_failed call) && says_size s.inner.size call) goes ok h
    where
      go : (t b f k : Bool) → t ≡ false → f ≡ false
          → (if t then (if f then Some (record s { inner = call_counted s.inner; stopped = true }) else None)
          else if b then (if f then Some (record s { inner = within_stop s.inner call; armed = 0; stopped = true }) else None)
          else go_on (if is_change call then s.armed - 1 else s.armed) s.pick (if k then Some (next_disk_state s.inner call) else None)) ≡ Some m → m.stopped ≡ false
      go true b f k e g h = absurd cc
      go false true true k e g h = absurd cc
      go false true false k e g h = absurd cc
      go false false f true e g h = sym (ap (λ (x : StoppingState). x.stopped) (same_Some (going (next_disk_state s.inner call) (if is_change call then s.armed - 1 else s.armed) s.pick) m h))
      go false false f false e g h = absurd cc

-- on a disk that goes on a call fails only where a change does
abbrev pub Fails : ℕ → List DiskCall → StoppingState → StoppingState → Type 0
Fails len calls s u = s.stopped ≡ false → s.inner.fails_at ≡ 0 → len ≤ s.inner.size → reads_fit len calls → after_stops (Some s) calls ≡ Some u
    → any_failed calls ≡ any_failed (changes calls)

or_else : (f : Bool) (a b : Bool) → (f ≡ false → a ≡ b) → (f || a) ≡ (f || b)
or_else true a b same = refl
or_else false a b same = same refl

then_fails : (len : ℕ) (call : DiskCall) (calls : List DiskCall) (s u : StoppingState) → ((m : StoppingState) → Fails len calls m u)
    → s.stopped ≡ false → s.inner.fails_at ≡ 0 → len ≤ s.inner.size → reads_fit len calls → after_stops (after_stop s call) calls ≡ Some u
    → (answered_failed call || any_failed calls) ≡ (answered_failed call || any_failed (changes calls))
then_fails len call calls s u more goes sure fits reads h =
    let p = stops_part (after_stop s call) [] calls u h in
    let counts = call_counts s p.0 call p.1 in
    or_else (answered_failed call) (any_failed calls) (any_failed (changes calls))
    (λ ok. more p.0 (goes_on s p.0 goes sure call ok p.1) (sure_then s p.0 call sure p.1) (omega (arith, fits, counts.grows)) reads p.2)

pub fails_by_changes : (len : ℕ) (calls : List DiskCall) (s u : StoppingState) → Fails len calls s u
fails_by_changes len [] s u goes sure fits reads h = refl
fails_by_changes len (attached name make answer ∷ calls) s u goes sure fits reads h =
    then_fails len (attached name make answer) calls s u (λ m. fails_by_changes len calls m u) goes sure fits reads h
fails_by_changes len (measured (Known n) ∷ calls) s u goes sure fits reads h =
    let p = stops_part (after_stop s (measured (Known n))) [] calls u h in
    let e = tells_length s p.0 goes sure n p.1 in
    let counts = call_counts s p.0 (measured (Known n)) p.1 in
    fails_by_changes n calls p.0 u (goes_on s p.0 goes sure (measured (Known n)) refl p.1) (sure_then s p.0 (measured (Known n)) sure p.1) (omega (arith, e, counts.grows)) reads p.2
fails_by_changes len (measured unknown.Failed ∷ calls) s u goes sure fits reads h =
    let p = stops_part (after_stop s (measured unknown.Failed)) [] calls u h in
    absurd (tells_some s p.0 goes sure p.1)
fails_by_changes len (was_read at n Failed ∷ calls) s u goes sure fits reads h =
    let p = stops_part (after_stop s (was_read at n Failed)) [] calls u h in
    absurd (reads_done s p.0 goes sure at n (omega (arith, fits, reads.0)) p.1)
fails_by_changes len (was_read at n Done ∷ calls) s u goes sure fits reads h =
    let p = stops_part (after_stop s (was_read at n Done)) [] calls u h in
    let counts = call_counts s p.0 (was_read at n Done) p.1 in
    fails_by_changes len calls p.0 u (goes_on s p.0 goes sure (was_read at n Done) refl p.1) (sure_then s p.0 (was_read at n Done) sure p.1) (omega (arith, fits, counts.grows)) reads.1 p.2
fails_by_changes len (wrote at n byte answer ∷ calls) s u goes sure fits reads h =
    then_fails len (wrote at n byte answer) calls s u (λ m. fails_by_changes len calls m u) goes sure fits reads h
fails_by_changes len (synced answer ∷ calls) s u goes sure fits reads h =
    then_fails len (synced answer) calls s u (λ m. fails_by_changes len calls m u) goes sure fits reads h
