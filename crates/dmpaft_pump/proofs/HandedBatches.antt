-- Batches that were handed over, one behind another.
use Rattle.std.proofs.Common.{◌≡◌, ◌≢◌, ℕ, ◌+◌, List, [], ◌∷◌, ◌++◌, length, refl, ap, arith, Option}
use Rattle.station_base.specs.CivilMinute.{CivilMinute}
use Rattle.causes.specs.declared.stored.Stored.{Stored}
use Rattle.causes.specs.declared.stored.Stored.TheVariants as stored
use Rattle.dmpaft_pump.specs.Keeper.{Handed, one_batch, kept_all, join, kept_in, count, last_kept}
use Rattle.dmpaft_pump.specs.Batch.{add, answered_batches}

-- three that join, from either side
pub join_assoc : (a b c : Handed) → join (join a b) c ≡ join a (join b c)
join_assoc Handed.Nothing b c = refl
join_assoc (Handed.Kept rows more) b c = ap (λ (x : Handed). Handed.Kept rows x) (join_assoc more b c)
join_assoc (Handed.Refused rows why) b c = refl

-- nothing more changes nothing
pub join_none : (a : Handed) → join a Handed.Nothing ≡ a
join_none Handed.Nothing = refl
join_none (Handed.Kept rows more) = ap (λ (x : Handed). Handed.Kept rows x) (join_none more)
join_none (Handed.Refused rows why) = refl

-- kept batches behind others that were kept
pub kept_join : (bs cs : List (List (List ℕ))) → kept_all (bs ++ cs) ≡ join (kept_all bs) (kept_all cs)
kept_join [] cs = refl
kept_join (b ∷ bs) cs = ap (λ (x : Handed). Handed.Kept b x) (kept_join bs cs)

-- batches of which no answer refuses one are all kept
pub kept_answered : (bs : List (List (List ℕ))) → answered_batches stored.Done bs ≡ kept_all bs
kept_answered [] = refl
kept_answered (b ∷ []) = refl
kept_answered (b ∷ c ∷ bs) = ap (λ (x : Handed). Handed.Kept b x) (kept_answered (c ∷ bs))

-- an answer is to the last batch, and those before it were kept
pub answered_snoc : (answer : Stored) (bs : List (List (List ℕ))) (rows : List (List ℕ)) → answered_batches answer (bs ++ rows ∷ []) ≡ join (kept_all bs) (one_batch answer rows)
answered_snoc answer [] rows = refl
answered_snoc answer (b ∷ []) rows = refl
answered_snoc answer (b ∷ c ∷ bs) rows = ap (λ (x : Handed). Handed.Kept b x) (answered_snoc answer (c ∷ bs) rows)

-- one batch is one, whatever its answer
pub one_size : (answer : Stored) (rows : List (List ℕ)) → count (one_batch answer rows) ≡ 1
one_size stored.Done rows = refl
one_size stored.Full rows = refl
one_size stored.Stale rows = refl
one_size stored.DiskFault rows = refl

-- one batch is not nothing
pub one_some : (answer : Stored) (rows : List (List ℕ)) → one_batch answer rows ≢ Handed.Nothing
one_some answer rows e = absurd (omega (arith, one_size answer rows, ap count e))

-- a batch with records is added
pub add_some : (rows : List (List ℕ)) → (rows ≡ [] → ⊥) → add rows [] ≡ rows ∷ []
add_some [] some = absurd (some refl)
add_some (r ∷ rows) some = refl

-- the last record kept, by kept batches and by what is behind them
pub last_joins : (first : List (List (List ℕ))) (later : Handed) (before : Option CivilMinute) → last_kept (join (kept_all first) later) before ≡ last_kept later (last_kept (kept_all first) before)
last_joins [] later before = refl
last_joins (b ∷ first) later before = last_joins first later _

-- kept batches and what is behind them are counted together
pub count_join : (first : List (List (List ℕ))) (later : Handed) → count (join (kept_all first) later) ≡ length first + count later
count_join [] later = omega arith
count_join (b ∷ first) later = omega (arith, count_join first later)

-- kept batches are so many
pub count_kept : (bs : List (List (List ℕ))) → count (kept_all bs) ≡ length bs
count_kept [] = refl
count_kept (b ∷ bs) = omega (arith, count_kept bs)

-- of kept batches each one was kept
pub kept_in_all : (bs : List (List (List ℕ))) → kept_in (kept_all bs) ≡ bs
kept_in_all [] = refl
kept_in_all (b ∷ bs) = ap (λ (x : List (List (List ℕ))). b ∷ x) (kept_in_all bs)

-- kept batches, and what was kept behind them
pub kept_in_join : (first : List (List (List ℕ))) (later : Handed) → kept_in (join (kept_all first) later) ≡ first ++ kept_in later
kept_in_join [] later = refl
kept_in_join (b ∷ first) later = ap (λ (x : List (List (List ℕ))). b ∷ x) (kept_in_join first later)
