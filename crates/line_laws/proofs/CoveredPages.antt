-- What an attempt gives has the records of the pages that were acknowledged in it.
use Rattle.std.proofs.Common.{◌≡◌, ◌≢◌, ℕ, zero, suc, ◌+◌, ◌≤◌, ◌<◌, inl, inr, List, [], ◌∷◌, ◌++◌, length, Option, None, refl, sym, ◌∙◌, ap, subst, arith, append-nil, length-append}
use Rattle.std.specs.Prelude.{min, take}
use Rattle.std.proofs.lemmas.List.{same_from_push}
use Rattle.station_base.specs.CivilMinute.{CivilMinute}
use Rattle.vantage_frames.specs.StampFrame.{stamp_frame_of}
use Rattle.serial_link.specs.declared.talk.TalkItem.{TalkItem}
use Rattle.console_ring.specs.declared.plan.Plan.{Plan}
use Rattle.console_model.specs.Console.{Begun}
use Rattle.console_model.specs.Spelling.{plan_after}
use Rattle.console_model.specs.Valid.{EachFollows}
use Rattle.dmpaft_pump.specs.Batch.{batches, records_in}
use Rattle.dmpaft_driver.specs.Attempt.{Attempt, End}
use Rattle.dmpaft_driver.proofs.AttemptBounds.{frame_long}
use Rattle.schedule_file.specs.Fates.{FatesByNumber}
use Rattle.station_sim.specs.Line.{Line}
use Rattle.station_sim.specs.Talk.{ConsoleTalk}
use Rattle.station_sim.specs.Calm.{IsCalm}
use Rattle.station_sim.specs.Sound.{AreRecords, IsSound, AreSound}
use Rattle.line_laws.specs.Gathers.{IsStamp, newer_held, begun_after, CoversPages}
use Rattle.line_laws.specs.Host.{ArePages, GathersPages}
use Rattle.line_laws.specs.PagesAcknowledged.{pages_acknowledged, records_on_pages}
use Rattle.line_laws.proofs.Attempts.{attempt_law}
use Rattle.line_laws.proofs.Batches.{batches_law, placed_as}
use Rattle.line_laws.proofs.NotTooEarly.{attempt_few}

take_long : (n : ℕ) (l : List (List ℕ)) → length (take n l) ≡ min n (length l)
take_long zero l = omega arith
take_long (suc n) [] = omega arith
take_long (suc n) (x ∷ l) = omega (arith, take_long n l)

no_more : (ds : List Begun) (d : Begun) → ds ≡ ds ++ d ∷ [] → ⊥
no_more ds d e = omega (arith, ap length e, length-append ds (d ∷ []))

pages_front : (h : List (List ℕ)) (p : Plan) (k : ℕ) (xs ys : List (List ℕ)) → ArePages h p k (xs ++ ys) → ArePages h p k xs
pages_front h p k [] ys a = tt
pages_front h p k (x ∷ xs) ys a = (a.0, pages_front h p (k + 1) xs ys a.1)

-- pages of a dump give as many records as stand on so many of them
covers : (after : Option CivilMinute) → IsStamp after → (h : List (List ℕ)) → AreRecords h → EachFollows [] h → (count place : ℕ) (kept : List (List ℕ)) → ArePages h (plan_after h (stamp_frame_of after)) 0 kept
    → length kept ≤ (plan_after h (stamp_frame_of after)).pages → ((0 < length kept) → place ≡ (plan_after h (stamp_frame_of after)).place) → count ≤ length kept
    → min (records_on_pages count (plan_after h (stamp_frame_of after))) (length (newer_held after h)) ≤ length (records_in (batches after place kept))
covers after stamp h are each count place kept pages few same less =
    let p = plan_after h (stamp_frame_of after) in
    let given = (batches_law after stamp h are each kept pages few).0 in
    let z = ap records_in (placed_as after p.place place kept same) in
    omega (arith, less, ap length z, ap length given, take_long (records_on_pages (length kept) p) (newer_held after h))

module _ (f : FatesByNumber) (ok : AreSound f) (after : Option CivilMinute) (stamp : IsStamp after) where
  -- where the pages that were taken and not refused are the first of those taken
  covered : (talk : List TalkItem) (place : ℕ) (kept more : List (List ℕ)) (end : End) (w v : Line) → IsSound w → IsCalm w → Attempt (stamp_frame_of after) talk place (kept ++ more) end → ConsoleTalk f talk w v → v.unseen ≡ None
      → pages_acknowledged f talk w ≤ length kept → CoversPages after (pages_acknowledged f talk w) w (batches after place kept) v
  covered talk place kept more end w v sound calm at e un less h began = go (attempt_law f ok (stamp_frame_of after) (frame_long after) talk place (kept ++ more) end w v sound calm at e un).1
    where
      long : length (kept ++ more) ≡ length kept + length more
      long = length-append kept more

      go : GathersPages (stamp_frame_of after) w place (kept ++ more) end v
          → min (records_on_pages (pages_acknowledged f talk w) (plan_after h (stamp_frame_of after))) (length (newer_held after h)) ≤ length (records_in (batches after place kept))
      go (inl none) = absurd (no_more w.dumps (begun_after after h) (sym none.0 ∙ began))
      go (inr (g, dumps, pages, few, whole, place_is, are, each)) =
          let same : g ≡ h = ap (λ (b : Begun). b.history) (same_from_push w.dumps w.dumps (begun_after after g) (begun_after after h) (sym dumps ∙ began)).1 in
          subst (λ x. min (records_on_pages (pages_acknowledged f talk w) (plan_after x (stamp_frame_of after))) (length (newer_held after x)) ≤ length (records_in (batches after place kept))) same
          (covers after stamp g are each (pages_acknowledged f talk w) place kept (pages_front g (plan_after g (stamp_frame_of after)) 0 kept more pages) (omega (arith, few, long)) (λ some. place_is (omega (arith, some, long))) less)

  -- an attempt none of whose pages was refused
  pub kept_covers : (talk : List TalkItem) (place : ℕ) (taken : List (List ℕ)) (end : End) (w v : Line) → IsSound w → IsCalm w → Attempt (stamp_frame_of after) talk place taken end → ConsoleTalk f talk w v → v.unseen ≡ None → end ≢ End.Refused
      → CoversPages after (pages_acknowledged f talk w) w (batches after place taken) v
  kept_covers talk place taken end w v sound calm at e un kept =
      covered talk place taken [] end w v sound calm (subst (λ x. Attempt (stamp_frame_of after) talk place x end) (sym (append-nil taken)) at) e un
      (attempt_few f ok (stamp_frame_of after) (frame_long after) talk place taken end w v (length taken) sound calm at e un (λ x. omega arith) (λ x. omega arith))

  -- one whose last page was refused
  pub refused_covers : (talk : List TalkItem) (place : ℕ) (first : List (List ℕ)) (last : List ℕ) (w v : Line) → IsSound w → IsCalm w → Attempt (stamp_frame_of after) talk place (first ++ last ∷ []) End.Refused → ConsoleTalk f talk w v → v.unseen ≡ None
      → CoversPages after (pages_acknowledged f talk w) w (batches after place first) v
  refused_covers talk place first last w v sound calm at e un =
      covered talk place first (last ∷ []) End.Refused w v sound calm at e un
      (attempt_few f ok (stamp_frame_of after) (frame_long after) talk place (first ++ last ∷ []) End.Refused w v (length first) sound calm at e un (λ x. absurd (x refl)) (λ x. omega (arith, length-append first (last ∷ []))))
