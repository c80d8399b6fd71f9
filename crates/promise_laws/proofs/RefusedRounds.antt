-- No round that holds drops an acknowledged page, leaves a newer record or half a page, or gives up too early.
use Rattle.std.proofs.Common.{◌≡◌, ◌⊎◌, inl, inr, ℕ, ◌<◌, ◌+◌, ◌-◌, ◌/◌, List, [], ◌∷◌, ◌++◌, length, take, refl, sym, ap, subst, ◌∙◌, arith, append_assoc}
use Rattle.std.specs.Prelude.{min, map, ◌≤◌}
use Rattle.std.proofs.lemmas.List.{same_from_push}
use Rattle.std.proofs.lemmas.List.Elements.{All-from_recursion, All-contains}
use Rattle.station_base.specs.declared.row.Row.{Row}
use Rattle.settings_file.specs.StationSettings.{StationSettings}
use Rattle.console_model.specs.Console.{Begun}
use Rattle.dmpaft_pump.specs.Batch.{records_in}
use Rattle.station_session.specs.Records.{stored_rows}
use Rattle.line_laws.specs.PagesAcknowledged.{records_on_pages}
use Rattle.replay_laws.specs.Acknowledged.{AllRounds, KeepsAcknowledged}
use Rattle.replay_laws.specs.Kept.{Past, ItemHolds, HoldsRound, IsComplete, batches_given}
use Rattle.replay_laws.specs.DumpCounts.{DumpsGather, DumpCount, counts_of_attempt, dump_count, offered, dump_counts}
use Rattle.replay_laws.specs.Replay.{Item, Rounded}
use Rattle.replay_laws.specs.Round.{LineAttempt}
use Rattle.promise_laws.specs.Rounds.{SomeRound, DropsAcknowledgedPages, DropsPagesSaid, LeavesNewerRecord, LeavesHalfPage, GivesUpEarly, GivesUpUnharmed}
use Rattle.replay_laws.specs.Keeping.{batches_before}

-- dumps gather one list of rows
one_gathers : (settings : StationSettings) (records : List (List ℕ)) (dumps : List DumpCount) (a b c : List Row)
    → DumpsGather settings records dumps a b → DumpsGather settings records dumps a c → b ≡ c
one_gathers settings records [] a b c g h = g ∙ sym h
one_gathers settings records (p ∷ ps) a b c (enough, few, g) (also_enough, also_few, h) = one_gathers settings records ps _ b c g h

-- what some dumps give, and others behind them
gathers_parts : (settings : StationSettings) (records : List (List ℕ)) (ps qs : List DumpCount) (a c : List Row)
    → DumpsGather settings records (ps ++ qs) a c → (b : List Row) × DumpsGather settings records ps a b × DumpsGather settings records qs b c
gathers_parts settings records [] qs a c g = (a, refl, g)
gathers_parts settings records (p ∷ ps) qs a c (enough, few, g) =
    let q = gathers_parts settings records ps qs _ c g in
    (q.0, (enough, few, q.1), q.2)

counts_join : (xs ys : List LineAttempt) → dump_counts (xs ++ ys) ≡ dump_counts xs ++ dump_counts ys
counts_join [] ys = refl
counts_join (x ∷ xs) ys = ap (λ (ps : List DumpCount). counts_of_attempt x ++ ps) (counts_join xs ys) ∙ sym (append_assoc (counts_of_attempt x) (dump_counts xs) (dump_counts ys))

-- 0x06 was said right after pages, and their rows were not kept
pub none_said : (settings : StationSettings) (past : Past) (round : Rounded) → DropsPagesSaid settings past round → KeepsAcknowledged settings round → ⊥
none_said settings past round d keeps = d.dropped (keeps d.earlier d.attempt d.later d.place d.pages d.tried d.acknowledged)

-- what is so of each round is so of the round at a place
pub round_at : (P : Rounded → Type 0) (before : List Item) (round : Rounded) (after : List Item) → AllRounds P (before ++ Item.Ran round ∷ after) → P round
round_at P [] round after h = h.0
round_at P (Item.Opened rows n ∷ before) round after h = round_at P before round after h
round_at P (Item.OpenStopped change rows ∷ before) round after h = round_at P before round after h
round_at P (Item.Ran first ∷ before) round after h = round_at P before round after h.1
round_at P (Item.Unsaid number which ∷ before) round after h = round_at P before round after h
round_at P (Item.Ended rows ∷ before) round after h = round_at P before round after h

module _ (settings : StationSettings) (records : List (List ℕ)) where
  -- an item is refused that is a round which has what no round that holds has
  pub round_refused : (has : Past → Rounded → Type 0) → ((past : Past) (round : Rounded) → has past round → HoldsRound settings records past round → ⊥)
      → (past : Past) (item : Item) → SomeRound has past item → ItemHolds settings records past item → ⊥
  round_refused has never past item (round, is, it_has) h = never past round it_has (subst (ItemHolds settings records past) is h)

  pub none_dropped : (past : Past) (round : Rounded) → DropsAcknowledgedPages settings records past round → HoldsRound settings records past round → ⊥
  none_dropped past round d h =
      let dump = dump_count d.attempt.acknowledged d.attempt.gained d.dump in
      let own : dump_counts (d.attempt ∷ d.later) ≡ dump ∷ dump_counts d.later = ap (λ (ds : List Begun). map (dump_count d.attempt.acknowledged d.attempt.gained) ds ++ dump_counts d.later) d.began in
      let is : past.dumps ++ dump_counts round.tried ≡ (past.dumps ++ dump_counts d.earlier) ++ (dump ∷ dump_counts d.later)
      = ap (λ (ts : List LineAttempt). past.dumps ++ dump_counts ts) d.tried ∙ ap (λ (ps : List DumpCount). past.dumps ++ ps) (counts_join d.earlier (d.attempt ∷ d.later) ∙ ap (λ (ps : List DumpCount). dump_counts d.earlier ++ ps) own)
      ∙ sym (append_assoc past.dumps (dump_counts d.earlier) (dump ∷ dump_counts d.later)) in
      let (rows, earlier, more) = gathers_parts settings records (past.dumps ++ dump_counts d.earlier) (dump ∷ dump_counts d.later) [] round.rows
      (subst (λ (ps : List DumpCount). DumpsGather settings records ps [] round.rows) is h.gathers) in
      let same : rows ≡ d.rows = one_gathers settings records (past.dumps ++ dump_counts d.earlier) [] rows d.rows earlier d.gathered in
      let enough : min (records_on_pages d.attempt.acknowledged d.dump.plan) (length (offered records d.rows (length d.dump.history))) ≤ d.attempt.gained
      = subst (λ (x : List Row). min (records_on_pages d.attempt.acknowledged d.dump.plan) (length (offered records x (length d.dump.history))) ≤ d.attempt.gained) same more.0 in
      omega (arith, enough, d.dropped)

  last_all : (past : Past) (round : Rounded) → LeavesNewerRecord settings records past round → IsComplete settings records past.dumps round.tried → ⊥
  last_all past round l c =
      let (earlier_same, last_same) = same_from_push c.earlier l.earlier c.last l.last (sym c.is_last ∙ l.tried) in
      let dumps_same : c.dump ∷ [] ≡ l.dump ∷ [] = sym c.began ∙ ap (λ (t : LineAttempt). t.dumps) last_same ∙ l.began in
      let dump_same : c.dump ≡ l.dump = (same_from_push [] [] c.dump l.dump dumps_same).1 in
      let gathered = subst (λ (ts : List LineAttempt). DumpsGather settings records (past.dumps ++ dump_counts ts) [] c.rows) earlier_same c.gathered in
      let rows_same : c.rows ≡ l.rows = one_gathers settings records (past.dumps ++ dump_counts l.earlier) [] c.rows l.rows gathered l.gathered in
      l.not_all (ap (λ (t : LineAttempt). t.gained) (sym last_same) ∙ c.whole
      ∙ ap (λ (rows : List Row). length (offered records rows (length c.dump.history))) rows_same
      ∙ ap (λ (dump : Begun). length (offered records l.rows (length dump.history))) dump_same)

  pub none_left_behind : (past : Past) (round : Rounded) → LeavesNewerRecord settings records past round → HoldsRound settings records past round → ⊥
  none_left_behind past round l h = last_all past round l (h.complete l.ended_ok)

  pub no_half_page : (past : Past) (round : Rounded) → LeavesHalfPage settings past round → HoldsRound settings records past round → ⊥
  no_half_page past round l h = either (h.stopped l.change l.stopped).1
    where
      b : ℕ
      b = batches_before l.change

      either : (round.rows ≡ round.before ++ stored_rows settings (records_in (take b (batches_given round.tried))))
          ⊎ (round.rows ≡ round.before ++ stored_rows settings (records_in (take (b + 1) (batches_given round.tried)))) → ⊥
      either (inl whole) = l.not_whole b whole
      either (inr whole) = l.not_whole (b + 1) whole

  pub not_early : (past : Past) (round : Rounded) → GivesUpEarly past round → HoldsRound settings records past round → ⊥
  not_early past round (gave_up, few) h = omega (arith, few, (h.gave_up gave_up).0)

  pub not_unharmed : (past : Past) (round : Rounded) → GivesUpUnharmed past round → HoldsRound settings records past round → ⊥
  not_unharmed past round (gave_up, attempt, there, none) h =
      let harmed : 0 < attempt.harmed =
      All-contains (λ (t : LineAttempt). 0 < t.harmed) round.tried attempt (All-from_recursion (λ (t : LineAttempt). 0 < t.harmed) round.tried (h.gave_up gave_up).1) there in
      omega (arith, harmed, none)
