-- What was acknowledged had been kept and marked.
use Rattle.std.proofs.Common.{◌≡◌, ℕ, ◌+◌, inl, inr, List, [], ◌∷◌, ◌++◌, length, refl, sym, ◌∙◌, ap, subst, append_assoc, Option}
use Rattle.causes.specs.Lists.{IsFrontOf}
use Rattle.station_base.specs.CivilMinute.{CivilMinute}
use Rattle.dmpaft_pump.specs.Batch.{batches, records_in}
use Rattle.dmpaft_pump.specs.Keeper.{Handed, kept_all, join, kept_in}
use Rattle.dmpaft_driver.proofs.AcknowledgedPages.{acknowledged_are_kept}
use Rattle.dmpaft_pump.proofs.HandedBatches.{kept_in_all}
use Rattle.station_session.specs.declared.round_end.RoundEnd.{RoundEnd}
use Rattle.station_session.specs.declared.report.Mark.{Mark}
use Rattle.station_session.specs.Attempts.{MadeAttempt, AreAttempts, IsMadeAfter, batches_in, stamp_after, stamp_behind, all_batches}
use Rattle.station_session.specs.Report.{mark, marks_for}
use Rattle.station_session.specs.Acknowledged.{kept_up_to, AcknowledgedAreMarked}
use Rattle.station_session.proofs.Ends.{kept_behind}
use Rattle.station_session.proofs.Marked.{marked_for}

-- An attempt behind others that were made: what they kept was kept before its own.
record Behind (last : Option CivilMinute) (earlier : List MadeAttempt) (t : MadeAttempt) (all : Handed) : Type 0 where
  pub tried : IsMadeAfter (stamp_behind last earlier) t
  pub rest : List (List (List ℕ))
  pub all_are : kept_in all ≡ kept_in (all_batches last earlier) ++ (kept_in (batches_in (stamp_behind last earlier) t) ++ rest)

nothing : (xs later : List MadeAttempt) (t : MadeAttempt) → xs ++ t ∷ later ≡ [] → ⊥
nothing [] later t none = cc
nothing (y ∷ xs) later t none = cc

-- what was kept first is kept before what comes behind
kept_first : (h k : Handed) → (rest : List (List (List ℕ))) × (kept_in (join h k) ≡ kept_in h ++ rest)
kept_first Handed.Nothing k = (kept_in k, refl)
kept_first (Handed.Kept rows more) k = let f = kept_first more k in (f.0, ap (λ (z : List (List (List ℕ))). rows ∷ z) f.1)
kept_first (Handed.Refused rows why) k = ([], refl)

behind : (made : ℕ) (last : Option CivilMinute) (earlier : List MadeAttempt) (t : MadeAttempt) (later : List MadeAttempt) (end : RoundEnd) → AreAttempts made last (earlier ++ t ∷ later) end → Behind last earlier t (all_batches last (earlier ++ t ∷ later))
behind made last [] t later end (less, tried, how) = let f = kept_first (batches_in last t) (all_batches (stamp_after last t) later) in record { tried = tried; rest = f.0; all_are = f.1 }
behind made last (x ∷ earlier) t later end (less, tried, inl (e, more)) =
    let stamp = stamp_after last x in
    let b = behind (made + 1) stamp earlier t later end more in
    let own = kept_in (batches_in (stamp_behind stamp earlier) t) ++ b.rest in
    record {
      tried = b.tried;
      rest = b.rest;
      all_are =
          kept_behind last x (all_batches stamp (earlier ++ t ∷ later)) e ∙ ap (λ (z : List (List (List ℕ))). batches last x.place x.taken ++ z) b.all_are
          ∙ sym (append_assoc (batches last x.place x.taken) (kept_in (all_batches stamp earlier)) own) ∙ ap (λ (z : List (List (List ℕ))). z ++ own) (sym (kept_behind last x (all_batches stamp earlier) e));
    }
behind made last (x ∷ earlier) t later end (less, tried, inr (e, none)) = absurd (nothing earlier later t none)

-- what was refused has no mark
marks_kept : (m held : ℕ) (h : Handed) → marks_for m held (kept_all (kept_in h)) ≡ marks_for m held h
marks_kept m held Handed.Nothing = refl
marks_kept m held (Handed.Kept rows more) = ap (λ (z : List Mark). mark (m + 4) (held + length rows) ∷ z) (marks_kept (m + 4) (held + length rows) more)
marks_kept m held (Handed.Refused rows why) = refl

-- the marks of the first batches are the first marks
marks_first : (m held : ℕ) (xs ys : List (List (List ℕ))) → IsFrontOf (marks_for m held (kept_all xs)) (marks_for m held (kept_all (xs ++ ys)))
marks_first m held [] ys = (marks_for m held (kept_all ys), refl)
marks_first m held (x ∷ xs) ys =
    let k = marks_first (m + 4) (held + length x) xs ys in
    (k.0, ap (λ (z : List Mark). mark (m + 4) (held + length x) ∷ z) k.1)

-- two fronts, one behind the other
front_behind : (A D B rest all : List (List (List ℕ))) → all ≡ A ++ (B ++ rest) → IsFrontOf D B → IsFrontOf (A ++ D) all
front_behind A D B rest all e (r, f) = (
  r ++ rest,
  append_assoc A D (r ++ rest) ∙ ap (λ (z : List (List (List ℕ))). A ++ z) (sym (append_assoc D r rest) ∙ ap (λ (z : List (List (List ℕ))). z ++ rest) f) ∙ sym e,
)

pub acknowledged_are_marked : (last : Option CivilMinute) (tries : List MadeAttempt) (end : RoundEnd) (m before : ℕ) (marks : List Mark) → AreAttempts 0 last tries end → marks ≡ marks_for m before (all_batches last tries) → AcknowledgedAreMarked last tries before marks
acknowledged_are_marked last tries end m before marks attempts noted earlier t later place pages is acked =
    let b = behind 0 last earlier t later end (subst (λ (z : List MadeAttempt). AreAttempts 0 last z end) is attempts) in
    let all = kept_in (all_batches last tries) in
    let same : all ≡ kept_in (all_batches last (earlier ++ t ∷ later)) = ap (λ (z : List MadeAttempt). kept_in (all_batches last z)) is in
    let stamp = stamp_behind last earlier in
    let front = acknowledged_are_kept stamp t.said t.place place t.taken pages t.end b.tried acked in
    let kept = kept_up_to last earlier place pages in
    let first : IsFrontOf kept all = front_behind (kept_in (all_batches last earlier)) (batches stamp place pages) (kept_in (batches_in stamp t)) b.rest all (same ∙ b.all_are) front in
    let k = marks_first m before kept first.0 in
    record {
      first = first;
      noted = marks_for m before (kept_all kept);
      noted_first = (k.0, k.1 ∙ ap (λ (z : List (List (List ℕ))). marks_for m before (kept_all z)) first.1 ∙ marks_kept m before (all_batches last tries) ∙ sym noted);
      rows = marked_for m before (kept_all kept) ∙ ap (λ (z : List (List (List ℕ))). before + length (records_in z)) (kept_in_all kept);
    }
