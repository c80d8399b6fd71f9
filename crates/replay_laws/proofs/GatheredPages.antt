-- The rows that dumps give by their numbers have those of each page right after which 0x06 was said.
use Rattle.std.proofs.Common.{◌≡◌, ℕ, zero, suc, ◌≤◌, true, inl, inr, List, [], ◌∷◌, ◌++◌, length, map, None, refl, sym, ◌∙◌, ap, subst, arith, append_assoc}
use Rattle.std.specs.Prelude.{min, take}
use Rattle.causes.specs.Lists.{IsFrontOf}
use Rattle.station_base.specs.declared.row.Row.{Row}
use Rattle.settings_file.specs.StationSettings.{StationSettings}
use Rattle.vantage_frames.specs.StampFrame.{stamp_frame_of}
use Rattle.packed_rows.specs.Rising.{last_row_stamp}
use Rattle.serial_link.specs.declared.talk.TalkItem.TheVariants.{Said}
use Rattle.console_model.specs.Console.{Begun}
use Rattle.console_model.specs.Spelling.{plan_after}
use Rattle.dmpaft_pump.specs.Batch.{batches, records_in}
use Rattle.dmpaft_driver.specs.Attempt.{End}
use Rattle.dmpaft_driver.specs.OneAttempt.{Acknowledges}
use Rattle.dmpaft_driver.proofs.AcknowledgedPages.{attempt_some}
use Rattle.dmpaft_driver.proofs.AttemptBounds.{frame_long}
use Rattle.station_session.specs.Records.{stored_rows}
use Rattle.schedule_file.specs.Fates.{FatesByNumber}
use Rattle.station_sim.specs.Calm.{IsCalm}
use Rattle.station_sim.specs.Joining.{talks_part}
use Rattle.station_sim.specs.Line.{Line}
use Rattle.station_sim.specs.Sound.{AreSound, IsSound}
use Rattle.station_sim.specs.Talk.{console_talk}
use Rattle.line_laws.specs.Gathers.{IsStamp, newer_held, begun_after}
use Rattle.line_laws.specs.PagesAcknowledged.{records_on_pages}
use Rattle.line_laws.proofs.Attempts.{attempt_law}
use Rattle.line_laws.proofs.Batches.{batches_law, placed_as}
use Rattle.line_laws.proofs.EachAcknowledged.{all_counted}
use Rattle.line_laws.proofs.Pages.{goes_unseen}
use Rattle.replay_laws.specs.Acknowledged.{rows_with_pages}
use Rattle.replay_laws.specs.Kept.{AreFirst}
use Rattle.replay_laws.specs.DumpCounts.{DumpsGather, DumpCount, counts_of_attempt, dump_count, offered}
use Rattle.replay_laws.specs.Round.{LineAttempt, IsLineAttempt}
use Rattle.replay_laws.proofs.Acknowledged.{stored_front}
use Rattle.replay_laws.proofs.Bridge.{dumps_more}
use Rattle.replay_laws.proofs.Rounds.{cancel, front_join, front_same}

take_less : (a g : ℕ) (l : List (List ℕ)) → min a (length l) ≤ g → IsFrontOf (take a l) (take g l)
take_less zero g l e = (take g l, refl)
take_less (suc a) g [] e = ([], none g)
  where
    none : (g : ℕ) → let l : List (List ℕ) = [] in l ≡ take g l
    none zero = refl
    none (suc g) = refl
take_less (suc a) zero (x ∷ l) e = absurd (omega (arith, e))
take_less (suc a) (suc g) (x ∷ l) e = let q = take_less a g l (omega (arith, e)) in (q.0, ap (λ y. x ∷ y) q.1)

-- dumps only add rows
gathers_grow : (settings : StationSettings) (r : List (List ℕ)) (ps : List DumpCount) (a b : List Row) → DumpsGather settings r ps a b → IsFrontOf a b
gathers_grow settings r [] a b is = subst (IsFrontOf a) (sym is) (front_same a)
gathers_grow settings r (p ∷ ps) a b (enough, few, g) =
    let given = stored_rows settings (take p.gained (offered r a p.due)) in
    front_join a (a ++ given) b (given, refl) (gathers_grow settings r ps (a ++ given) b g)

pub pages_gathered : (settings : StationSettings) (r : List (List ℕ)) (f : FatesByNumber) → AreSound f → (rows after next : List Row) (w u : Line) (t : LineAttempt) → IsSound w → IsCalm w → IsStamp (last_row_stamp rows) → IsLineAttempt f rows w t after u → u.unseen ≡ None
    → AreFirst r t.dumps → DumpsGather settings r (counts_of_attempt t) rows next → (place : ℕ) (pages : List (List ℕ)) → Acknowledges (stamp_frame_of (last_row_stamp rows)) t.made.said place pages → IsFrontOf (rows_with_pages settings rows place pages) next
pages_gathered settings r f ok rows after next w u t sound calm stamp k un first gathers place pages acked =
    let last = last_row_stamp rows in
    let (front, rest, split, at) = acked in
    let m = talks_part f front (Said 6 true ∷ rest) w u (ap (λ x. console_talk f x w) (sym split) ∙ k.talks) in
    let q = attempt_law f ok (stamp_frame_of last) (frame_long last) front place pages End.Refused w m.0 sound calm at m.1 (goes_unseen f (Said 6 true ∷ rest) m.0 u m.2 un) in
    let more = dumps_more f (Said 6 true ∷ rest) m.0 u m.2 in
    let enough = all_counted f ok (stamp_frame_of last) (frame_long last) t.made.said place pages w u sound calm acked k.talks un in
    elim q.1 [
      | inl none ↦ absurd (attempt_some (stamp_frame_of last) front place pages at none.1)
      | inr d ↦ (
          let h = d.0 in
          let p = plan_after h (stamp_frame_of last) in
          let b : Begun = begun_after last h in
          let is : t.dumps ≡ b ∷ more.0 = cancel w.dumps t.dumps (b ∷ more.0) (sym k.dumps ∙ more.1 ∙ ap (λ x. x ++ more.0) d.1 ∙ append_assoc w.dumps (b ∷ []) more.0) in
          let history : h ≡ take (length h) r = (subst (AreFirst r) is first).0 in
          let g : DumpsGather settings r (dump_count t.acknowledged t.gained b ∷ map (dump_count t.acknowledged t.gained) more.0) rows next
          = subst (λ x. DumpsGather settings r (map (dump_count t.acknowledged t.gained) x) rows next) is gathers in
          let new = newer_held last (take (length h) r) in
          let given : records_in (batches last place pages) ≡ take (records_on_pages (length pages) p) new
          = ap records_in (placed_as last p.place place pages d.5) ∙ (batches_law last stamp h d.6 d.7 pages d.2 d.3).0 ∙ ap (λ x. take (records_on_pages (length pages) p) (newer_held last x)) history in
          let some : min (records_on_pages (length pages) p) (length new) ≤ t.gained = omega (arith, g.0, enough, k.acknowledged) in
          front_join (rows_with_pages settings rows place pages) (rows ++ stored_rows settings (take t.gained new)) next
          (stored_front settings rows (records_in (batches last place pages)) (take t.gained new) (subst (λ x. IsFrontOf x (take t.gained new)) (sym given) (take_less (records_on_pages (length pages) p) t.gained new some)))
          (gathers_grow settings r (map (dump_count t.acknowledged t.gained) more.0) (rows ++ stored_rows settings (take t.gained new)) next g.2)
          )
    ]
