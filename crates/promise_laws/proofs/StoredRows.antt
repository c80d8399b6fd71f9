-- Each row that dumps gave is of a record.
use Rattle.std.proofs.Common.{ℕ, List, [], ◌∷◌, ◌++◌, take}
use Rattle.std.specs.List.{All, Contains}
use Rattle.std.proofs.lemmas.List.Elements.{All-nil, All-head, All-tail, All-same, All-append, All-weaker, All-take, All-drop, All-filter, All-contains_itself}
use Rattle.station_base.specs.declared.row.Row.{Row}
use Rattle.settings_file.specs.StationSettings.{StationSettings}
use Rattle.console_ring.specs.History.{retained}
use Rattle.station_session.specs.Records.{stored_rows}
use Rattle.station_session.proofs.Stamps.{stored_append}
use Rattle.replay_laws.specs.DumpCounts.{DumpsGather, DumpCount, offered}
use Rattle.promise_laws.specs.Rows.{IsOfRecord}

module _ (settings : StationSettings) (records : List (List ℕ)) where
  abbrev IsStored : Row → Type 0
  IsStored row = IsOfRecord settings records row

  all_stored : (some : List (List ℕ)) → All (Contains records) some → All IsStored (stored_rows settings some)
  all_stored [] are = All-nil IsStored
  all_stored (r ∷ rs) are =
      let first = All-head (Contains records) r rs are in
      let own : All IsStored (stored_rows settings (r ∷ [])) =
      All-weaker (Contains (stored_rows settings (r ∷ []))) IsStored (λ row there. (r, first, there)) (stored_rows settings (r ∷ [])) (All-contains_itself (stored_rows settings (r ∷ []))) in
      All-same IsStored (stored_rows settings (r ∷ rs)) (stored_rows settings (r ∷ []) ++ stored_rows settings rs) (stored_append settings (r ∷ []) rs)
      (All-append IsStored (stored_rows settings (r ∷ [])) (stored_rows settings rs) own (all_stored rs (All-tail (Contains records) r rs are)))

  offered_are : (rows : List Row) (due n : ℕ) → All (Contains records) (take n (offered records rows due))
  offered_are rows due n =
      All-take (Contains records) n (offered records rows due)
      (All-filter _ (Contains records) (retained (take due records))
      (All-drop (Contains records) _ (take due records)
      (All-take (Contains records) due records (All-contains_itself records))))

  -- if each row before the dumps is of a record, so is each row behind them
  pub gathered_are_stored : (dumps : List DumpCount) (a b : List Row) → All (IsOfRecord settings records) a → DumpsGather settings records dumps a b
      → All (IsOfRecord settings records) b
  gathered_are_stored [] a b are same = All-same IsStored b a same are
  gathered_are_stored (p ∷ ps) a b are (enough, few, more) =
      let gained = take p.gained (offered records a p.due) in
      gathered_are_stored ps (a ++ stored_rows settings gained) b
      (All-append IsStored a (stored_rows settings gained) are (all_stored gained (offered_are a p.due p.gained))) more
