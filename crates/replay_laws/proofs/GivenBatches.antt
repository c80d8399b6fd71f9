-- What the keeping of an attempt's batches leaves.
use Rattle.std.proofs.Common.{◌≡◌, ℕ, ◌+◌, ◌-◌, ◌/◌, ◌<◌, ◌==◌, if◌then◌else◌, Bool, true, false, ◌⊎◌, inl, inr, List, [], ◌∷◌, ◌++◌, length, take, Option, Some, None, refl, sym, ◌∙◌, ap, subst, arith, append_assoc, append-nil, add-one}
use Rattle.std.specs.Prelude.{nat_lt}
use Rattle.station_base.specs.declared.row.Row.{Row}
use Rattle.settings_file.specs.StationSettings.{StationSettings}
use Rattle.dmpaft_pump.specs.Batch.{records_in}
use Rattle.station_session.proofs.KeptBatches.{but_last}
use Rattle.station_session.specs.Records.{stored_rows}
use Rattle.station_session.proofs.Stamps.{stored_append}
use Rattle.schedule_file.specs.declared.schedule.step.Stop.{Stop}
use Rattle.replay_laws.specs.Keeping.{Archive, with_batch, appended, stopped, left_by_stop, batches_before}
use Rattle.replay_laws.proofs.RoundAttempts.{Answer, Keeping, Keeps, answer, answer_by, reached}

-- rows, and those of some batches
abbrev pub and_rows : StationSettings → List Row → List (List (List ℕ)) → List Row
and_rows settings rows bs = rows ++ stored_rows settings (records_in bs)

pub and_more : (settings : StationSettings) (rows : List Row) (b : List (List ℕ)) (bs : List (List (List ℕ))) → and_rows settings (rows ++ stored_rows settings b) bs ≡ and_rows settings rows (b ∷ bs)
and_more settings rows b bs = append_assoc rows (stored_rows settings b) (stored_rows settings (records_in bs)) ∙ ap (λ z. rows ++ z) (sym (stored_append settings b (records_in bs)))

and_none : (settings : StationSettings) (rows : List Row) → rows ≡ and_rows settings rows []
and_none settings rows = sym (append-nil rows)

pub one_batch : (settings : StationSettings) (rows : List Row) (batch : List (List ℕ)) → rows ++ stored_rows settings batch ≡ and_rows settings rows (batch ∷ [])
one_batch settings rows batch = ap (λ z. rows ++ stored_rows settings z) (sym (append-nil batch))

but_last_more : (x : List (List ℕ)) (xs : List (List (List ℕ))) → (0 < length xs) → but_last (x ∷ xs) ≡ x ∷ but_last xs
but_last_more x [] h = absurd (omega arith)
but_last_more x (y ∷ xs) h = refl

-- an answer, by what it is
pub stored_is : (settings : StationSettings) (stop : Option Stop) (stored : ℕ) (a b : Archive) (batch : List (List ℕ)) → answer settings stop stored a batch ≡ Answer.Stored b → b ≡ appended settings a batch
stored_is settings stop stored a b batch h = go (nat_lt settings.most (length (with_batch settings a batch))) (reached stop stored) h
  where
    go : (t : Bool) (s : Option Stop) → answer_by t s settings stored a batch ≡ Answer.Stored b → b ≡ appended settings a batch
    go true s q = absurd cc
    go false None q = cc
    go false (Some s) q = absurd cc

-- a stop leaves the batch or not
Leaves : StationSettings → ℕ → Option Stop → Archive → Archive → List (List ℕ) → Type 0
Leaves settings stored None a b batch = ⊥
Leaves settings stored (Some s) a b batch = (batches_before s.change ≡ stored) × ((b.rows ≡ a.rows) ⊎ (b.rows ≡ with_batch settings a batch))

left_rows : (early opens : Bool) (settings : StationSettings) (s : Stop) (stored : ℕ) (a : Archive) (batch : List (List ℕ)) → ((left_by_stop early opens settings s stored a batch).rows ≡ a.rows) ⊎ ((left_by_stop early opens settings s stored a batch).rows ≡ with_batch settings a batch)
left_rows true opens settings s stored a batch = inl refl
left_rows false true settings s stored a batch = inr refl
left_rows false false settings s stored a batch = inl refl

breaks_is : (settings : StationSettings) (stop : Option Stop) (stored : ℕ) (a b : Archive) (batch : List (List ℕ)) → answer settings stop stored a batch ≡ Answer.Stops b → Leaves settings stored stop a b batch
unfolding Leaves
breaks_is settings None stored a b batch h = go (nat_lt settings.most (length (with_batch settings a batch))) h
  where
    go : (t : Bool) → answer_by t None settings stored a batch ≡ Answer.Stops b → ⊥
    go true q = cc
    go false q = cc
breaks_is settings (Some s) stored a b batch h = go (nat_lt settings.most (length (with_batch settings a batch))) (batches_before s.change == stored) refl h
  where
    go : (t u : Bool) → (batches_before s.change == stored) ≡ u → answer_by t (if u then Some s else None) settings stored a batch ≡ Answer.Stops b → (batches_before s.change ≡ stored) × ((b.rows ≡ a.rows) ⊎ (b.rows ≡ with_batch settings a batch))
    go true u z q = absurd cc
    go false false z q = absurd cc
    go false true z q =
        let is : stopped settings s stored a batch ≡ b = cc in (
          grind (arith, z),
          subst (λ x. (x.rows ≡ a.rows) ⊎ (x.rows ≡ with_batch settings a batch)) is (left_rows _ _ settings s stored a batch),
        )

-- what the keeping of an attempt's batches leaves where a stop comes
pub record Parted (settings : StationSettings) (stop : Option Stop) (stored : ℕ) (a : Archive) (bs : List (List (List ℕ))) (b c : Archive) : Type 0 where
  pub kept : b.rows ≡ and_rows settings a.rows (but_last bs)
  pub after : (c.rows ≡ b.rows) ⊎ (c.rows ≡ and_rows settings a.rows bs)
  pub some : 0 < length bs
  pub the : Stop
  pub is : stop ≡ Some the
  pub place : ℕ
  pub at : batches_before the.change ≡ stored + place
  pub all : length bs ≡ place + 1
  pub left : (c.rows ≡ and_rows settings a.rows (take place bs)) ⊎ (c.rows ≡ and_rows settings a.rows (take (place + 1) bs))

abbrev pub Part : StationSettings → Option Stop → ℕ → Archive → List (List (List ℕ)) → Keeping → Type 0
Part settings stop stored a bs (Keeping.Goes m b) = (b.rows ≡ and_rows settings a.rows bs) × (m ≡ stored + length bs)
Part settings stop stored a bs (Keeping.Fills b) = (b.rows ≡ and_rows settings a.rows (but_last bs)) × (0 < length bs)
Part settings stop stored a bs (Keeping.Breaks b c) = Parted settings stop stored a bs b c

take_one : (n : ℕ) (x : List (List ℕ)) (xs : List (List (List ℕ))) → take (n + 1) (x ∷ xs) ≡ x ∷ take n xs
take_one n x xs = rw add-one refl

-- a batch stored before
stored_part : (settings : StationSettings) (stop : Option Stop) (stored : ℕ) (a b : Archive) (batch : List (List ℕ)) (bs : List (List (List ℕ))) (k : Keeping) → b ≡ appended settings a batch → Part settings stop (stored + 1) b bs k → Part settings stop stored a (batch ∷ bs) k
stored_part settings stop stored a b batch bs (Keeping.Goes m c) q p = (p.0 ∙ ap (λ x. and_rows settings x.rows bs) q ∙ and_more settings a.rows batch bs, omega (arith, p.1))
stored_part settings stop stored a b batch bs (Keeping.Fills c) q p =
    (p.0 ∙ ap (λ x. and_rows settings x.rows (but_last bs)) q ∙ and_more settings a.rows batch (but_last bs) ∙ ap (and_rows settings a.rows) (sym (but_last_more batch bs p.1)), omega arith)
stored_part settings stop stored a b batch bs (Keeping.Breaks c d) q p =
    record {
      kept = p.kept ∙ ap (λ x. and_rows settings x.rows (but_last bs)) q ∙ and_more settings a.rows batch (but_last bs) ∙ ap (and_rows settings a.rows) (sym (but_last_more batch bs p.some));
      after = elim p.after [ inl z ↦ inl z | inr z ↦ inr (z ∙ ap (λ x. and_rows settings x.rows bs) q ∙ and_more settings a.rows batch bs) ];
      some = omega arith;
      the = p.the;
      is = p.is;
      place = p.place + 1;
      at = omega (arith, p.at);
      all = omega (arith, p.all);
      left = elim p.left [
        | inl z ↦ inl (z ∙ ap (λ x. and_rows settings x.rows (take p.place bs)) q ∙ and_more settings a.rows batch (take p.place bs) ∙ ap (and_rows settings a.rows) (sym (take_one p.place batch bs)))
        | inr z ↦ inr (z ∙ ap (λ x. and_rows settings x.rows (take (p.place + 1) bs)) q ∙ and_more settings a.rows batch (take (p.place + 1) bs) ∙ ap (and_rows settings a.rows) (sym (take_one (p.place + 1) batch bs)))
      ];
    }

stop_part : (settings : StationSettings) (stop : Option Stop) (stored : ℕ) (a b : Archive) (batch : List (List ℕ)) → Leaves settings stored stop a b batch → Parted settings stop stored a (batch ∷ []) a b
unfolding Leaves
stop_part settings None stored a b batch h = absurd h
stop_part settings (Some s) stored a b batch h = record {
  kept = and_none settings a.rows;
  after = elim h.1 [ inl z ↦ inl z | inr z ↦ inr (z ∙ one_batch settings a.rows batch) ];
  some = omega arith;
  the = s;
  is = refl;
  place = 0;
  at = omega (arith, h.0);
  all = omega arith;
  left = elim h.1 [ inl z ↦ inl (z ∙ and_none settings a.rows) | inr z ↦ inr (z ∙ one_batch settings a.rows batch) ];
}

pub keeps_part : (settings : StationSettings) (stop : Option Stop) (stored : ℕ) (a : Archive) (bs : List (List (List ℕ))) (k : Keeping) → Keeps settings stop stored a bs k → Part settings stop stored a bs k
keeps_part settings stop stored a [] k h = subst (Part settings stop stored a []) (sym h) (and_none settings a.rows, omega arith)
keeps_part settings stop stored a (batch ∷ bs) k (inl (b, is, again)) = stored_part settings stop stored a b batch bs k (stored_is settings stop stored a b batch is) (keeps_part settings stop (stored + 1) b bs k again)
keeps_part settings stop stored a (batch ∷ bs) k (inr (inl (is, none, end))) =
    subst (Part settings stop stored a (batch ∷ bs)) (sym end) (subst (λ x. Part settings stop stored a (batch ∷ x) (Keeping.Fills a)) (sym none) (and_none settings a.rows, omega arith))
keeps_part settings stop stored a (batch ∷ bs) k (inr (inr (b, is, none, end))) =
    subst (Part settings stop stored a (batch ∷ bs)) (sym end) (subst (λ x. Part settings stop stored a (batch ∷ x) (Keeping.Breaks a b)) (sym none) (stop_part settings stop stored a b batch (breaks_is settings stop stored a b batch is)))
