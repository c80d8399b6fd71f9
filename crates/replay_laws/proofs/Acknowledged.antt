-- What was acknowledged in an attempt, and what a round kept.
use Rattle.std.proofs.Common.{◌≡◌, ◌≢◌, ℕ, ◌+◌, ◌≤◌, ◌⊎◌, inl, inr, true, List, [], ◌∷◌, ◌++◌, length, Option, refl, sym, ◌∙◌, ap, subst, arith, append_assoc, append-nil}
use Rattle.causes.specs.Lists.{IsFrontOf}
use Rattle.station_base.specs.CivilMinute.{CivilMinute}
use Rattle.station_base.specs.declared.row.Row.{Row}
use Rattle.vantage_frames.specs.StampFrame.{stamp_frame_of}
use Rattle.serial_link.specs.declared.talk.TalkItem.{TalkItem}
use Rattle.serial_link.specs.declared.talk.TalkItem.TheVariants.{Said}
use Rattle.settings_file.specs.StationSettings.{StationSettings}
use Rattle.packed_rows.specs.Rising.{last_row_stamp}
use Rattle.dmpaft_driver.specs.Attempt.{Attempt, End}
use Rattle.dmpaft_pump.specs.Batch.{batches, records_in, EndsGiving}
use Rattle.dmpaft_driver.specs.Gathered.{dump_batches, RefusesLast}
use Rattle.dmpaft_pump.specs.Keeper.{kept_in}
use Rattle.dmpaft_driver.specs.OneAttempt.{Acknowledges}
use Rattle.dmpaft_driver.specs.Outcome.{Ended, IsCutAfter}
use Rattle.dmpaft_pump.specs.declared.outcome.DumpEnd.{DumpEnd}
use Rattle.dmpaft_pump.specs.declared.outcome.DumpEnd.TheVariants as dump_end
use Rattle.dmpaft_driver.proofs.AcknowledgedPages.{attempt_some, acknowledged_are_kept, taken_are_acknowledged}
use Rattle.dmpaft_driver.proofs.OneTalk.{attempt_goes}
use Rattle.station_session.specs.Attempts.{MadeAttempt, IsMadeAfter, batches_in}
use Rattle.station_session.proofs.KeptBatches.{but_last, kept_batches, kept_by_end, kept_in_end}
use Rattle.station_session.specs.Batches.{kept_records}
use Rattle.station_session.specs.Records.{stored_rows}
use Rattle.station_session.proofs.Ends.{records_append}
use Rattle.station_session.proofs.Stamps.{stored_append}
use Rattle.schedule_file.specs.Fates.{FatesByNumber}
use Rattle.station_sim.specs.Line.{Line}
use Rattle.station_sim.specs.Talk.{started}
use Rattle.replay_laws.specs.Acknowledged.{rows_after_attempts, rows_with_pages, KeepsAcknowledged, AreAcknowledged, AreJustAcknowledged, KeepsJustAcknowledged, TakesOneMore, WereMade}
use Rattle.schedule_file.specs.declared.schedule.step.Stop.{Stop}
use Rattle.replay_laws.specs.Keeping.{Archive}
use Rattle.replay_laws.proofs.RoundAttempts.{Keeping, Tries}
use Rattle.replay_laws.proofs.Bridge.{followed}
use Rattle.replay_laws.specs.Round.{Ending, LineAttempt}
use Rattle.replay_laws.specs.Replay.{Rounded, Stage, IsRound}
use Rattle.replay_laws.proofs.GivenBatches.{and_rows, Parted, keeps_part}
use Rattle.replay_laws.proofs.LastBatch.{some_last, but_last_batches}
use Rattle.replay_laws.proofs.Rounds.{IsPlain, front_same, front_join}

front_is : (xs ys : List Row) → xs ≡ ys → IsFrontOf xs ys
front_is xs ys e = ([], append-nil xs ∙ e)

records_front : (bs cs : List (List (List ℕ))) → IsFrontOf bs cs → IsFrontOf (records_in bs) (records_in cs)
records_front bs cs (rest, e) = (records_in rest, sym (records_append bs rest) ∙ ap records_in e)

pub stored_front : (settings : StationSettings) (rows : List Row) (xs ys : List (List ℕ)) → IsFrontOf xs ys → IsFrontOf (rows ++ stored_rows settings xs) (rows ++ stored_rows settings ys)
stored_front settings rows xs ys (rest, e) = (
  stored_rows settings rest,
  append_assoc rows (stored_rows settings xs) (stored_rows settings rest) ∙ ap (λ (z : List Row). rows ++ z) (sym (stored_append settings xs rest) ∙ ap (stored_rows settings) e),
)

-- An attempt of a round, made behind these rows: the round kept what it kept by its end.
pub record Within (settings : StationSettings) (rows : List Row) (t : LineAttempt) (kept : List Row) : Type 0 where
  pub tried : IsMadeAfter (last_row_stamp rows) t.made
  pub batches_are : t.batches ≡ batches (last_row_stamp rows) t.made.place t.made.taken
  pub plain : IsPlain t.made.end
  pub keeps : IsFrontOf (and_rows settings rows (kept_batches t.made.end t.batches)) kept

-- what was acknowledged in it was kept
pub acked_within : (settings : StationSettings) (rows : List Row) (t : LineAttempt) (kept : List Row) (place : ℕ) (pages : List (List ℕ)) → Within settings rows t kept → Acknowledges (stamp_frame_of (last_row_stamp rows)) t.made.said place pages → IsFrontOf (rows_with_pages settings rows place pages) kept
acked_within settings rows t kept place pages w said =
    let m = t.made in
    let last = last_row_stamp rows in
    let mine = batches last place pages in
    let own = records_in (kept_batches m.end t.batches) in
    let same : kept_records (dump_batches m.end last m.place m.taken) ≡ own = kept_by_end m.end (batches last m.place m.taken) ∙ ap (λ (x : List (List (List ℕ))). records_in (kept_batches m.end x)) (sym w.batches_are) in
    let all : IsFrontOf mine (kept_in (dump_batches m.end last m.place m.taken)) = acknowledged_are_kept last m.said m.place place m.taken pages m.end w.tried said in
    let front : IsFrontOf (records_in mine) own = subst (λ (x : List (List ℕ)). IsFrontOf (records_in mine) x) same (records_front mine (kept_in (dump_batches m.end last m.place m.taken)) all) in
    front_join (rows_with_pages settings rows place pages) (and_rows settings rows (kept_batches m.end t.batches)) kept (stored_front settings rows (records_in mine) own front) w.keeps

nothing : (xs later : List LineAttempt) (t : LineAttempt) → [] ≡ xs ++ t ∷ later → ⊥
nothing [] later t none = cc
nothing (y ∷ xs) later t none = cc

module _ (settings : StationSettings) (f : FatesByNumber) (stop : Option Stop) where
  grows : (n m : ℕ) (a : Archive) (w : Line) (ts : List LineAttempt) (end : Ending) (kept at : Archive) (v : Line) → Tries settings f stop n m a w ts end kept at v → IsFrontOf a.rows kept.rows
  grows n m a w [] end kept at v (three, gave, kb, lb, is) = subst (λ (x : Archive). IsFrontOf a.rows x.rows) (sym kb) (front_same a.rows)
  grows n m a w (t ∷ ts) end kept at v (less, (x, b, k, inl (g, keeps, failed, again))) =
      let p = keeps_part settings stop m a t.batches (Keeping.Goes g b) keeps in
      front_join a.rows b.rows kept.rows (stored_rows settings (records_in t.batches), sym p.0) (grows (n + 1) g b x ts end kept at v again)
  grows n m a w (t ∷ ts) end kept at v (less, (x, b, k, inr (inl (g, keeps, whole, none, ended, kb, lb, is)))) =
      let p = keeps_part settings stop m a t.batches (Keeping.Goes g b) keeps in
      subst (λ (z : Archive). IsFrontOf a.rows z.rows) (sym kb) (stored_rows settings (records_in t.batches), sym p.0)
  grows n m a w (t ∷ ts) end kept at v (less, (x, b, k, inr (inr (inl (keeps, refused, none, full, kb, lb, is))))) =
      let p = keeps_part settings stop m a t.batches (Keeping.Fills b) keeps in
      subst (λ (z : Archive). IsFrontOf a.rows z.rows) (sym kb) (stored_rows settings (records_in (but_last t.batches)), sym p.0)
  grows n m a w (t ∷ ts) end kept at v (less, (x, b, k, inr (inr (inr (keeps, refused, none, stops, lb, is))))) =
      let p : Parted settings stop m a t.batches kept b = keeps_part settings stop m a t.batches (Keeping.Breaks kept b) keeps in
      (stored_rows settings (records_in (but_last t.batches)), sym p.kept)

  first_within : (n m : ℕ) (a : Archive) (w : Line) (t : LineAttempt) (ts : List LineAttempt) (end : Ending) (kept at : Archive) (v : Line) → Tries settings f stop n m a w (t ∷ ts) end kept at v → Within settings a.rows t kept.rows
  first_within n m a w t ts end kept at v (less, (x, b, k, inl (g, keeps, (trouble, failed), again))) =
      let p = keeps_part settings stop m a t.batches (Keeping.Goes g b) keeps in
      let all : IsFrontOf (and_rows settings a.rows t.batches) kept.rows = subst (λ (z : List Row). IsFrontOf z kept.rows) p.0 (grows (n + 1) g b x ts end kept at v again) in
      record {
        tried = k.attempt;
        batches_are = k.over.batches;
        plain = subst IsPlain (sym failed) tt;
        keeps = subst (λ (e : DumpEnd). IsFrontOf (and_rows settings a.rows (kept_batches e t.batches)) kept.rows) (sym failed) all;
      }
  first_within n m a w t ts end kept at v (less, (x, b, k, inr (inl (g, keeps, whole, none, ended, kb, lb, is)))) =
      let p = keeps_part settings stop m a t.batches (Keeping.Goes g b) keeps in
      let all : and_rows settings a.rows t.batches ≡ kept.rows = sym p.0 ∙ ap (λ (z : Archive). z.rows) (sym kb) in
      record {
        tried = k.attempt;
        batches_are = k.over.batches;
        plain = subst IsPlain (sym whole) tt;
        keeps = subst (λ (e : DumpEnd). IsFrontOf (and_rows settings a.rows (kept_batches e t.batches)) kept.rows) (sym whole) (front_is (and_rows settings a.rows t.batches) kept.rows all);
      }
  first_within n m a w t ts end kept at v (less, (x, b, k, inr (inr (inl (keeps, refused, none, full, kb, lb, is))))) =
      let p = keeps_part settings stop m a t.batches (Keeping.Fills b) keeps in
      let all : and_rows settings a.rows (but_last t.batches) ≡ kept.rows = sym p.0 ∙ ap (λ (z : Archive). z.rows) (sym kb) in
      record {
        tried = k.attempt;
        batches_are = k.over.batches;
        plain = subst IsPlain (sym refused) tt;
        keeps = subst (λ (e : DumpEnd). IsFrontOf (and_rows settings a.rows (kept_batches e t.batches)) kept.rows) (sym refused) (front_is (and_rows settings a.rows (but_last t.batches)) kept.rows all);
      }
  first_within n m a w t ts end kept at v (less, (x, b, k, inr (inr (inr (keeps, refused, none, stops, lb, is))))) =
      let p : Parted settings stop m a t.batches kept b = keeps_part settings stop m a t.batches (Keeping.Breaks kept b) keeps in
      record {
        tried = k.attempt;
        batches_are = k.over.batches;
        plain = subst IsPlain (sym refused) tt;
        keeps = subst (λ (e : DumpEnd). IsFrontOf (and_rows settings a.rows (kept_batches e t.batches)) kept.rows) (sym refused) (front_is (and_rows settings a.rows (but_last t.batches)) kept.rows (sym p.kept));
      }

  within : (n m : ℕ) (a : Archive) (w : Line) (ts : List LineAttempt) (end : Ending) (kept at : Archive) (v : Line) → Tries settings f stop n m a w ts end kept at v → (earlier : List LineAttempt) (t : LineAttempt) (later : List LineAttempt) → ts ≡ earlier ++ t ∷ later
      → Within settings (rows_after_attempts settings a.rows earlier) t kept.rows
  within n m a w [] end kept at v h earlier t later is = absurd (nothing earlier later t is)
  within n m a w (y ∷ ts) end kept at v h [] t later is =
      let same : y ≡ t = cc in
      subst (λ (z : LineAttempt). Within settings a.rows z kept.rows) same (first_within n m a w y ts end kept at v h)
  within n m a w (y ∷ ts) end kept at v (less, (x, b, k, inl (g, keeps, failed, again))) (z ∷ earlier) t later is =
      let same : y ≡ z = cc in
      let rest : ts ≡ earlier ++ t ∷ later = cc in
      let p = keeps_part settings stop m a y.batches (Keeping.Goes g b) keeps in
      subst (λ (rows : List Row). Within settings (rows_after_attempts settings rows earlier) t kept.rows) (p.0 ∙ ap (λ (q : LineAttempt). and_rows settings a.rows q.batches) same) (within (n + 1) g b x ts end kept at v again earlier t later rest)
  within n m a w (y ∷ ts) end kept at v (less, (x, b, k, inr (inl (g, keeps, whole, none, ended, kb, lb, e)))) (z ∷ earlier) t later is =
      let rest : ts ≡ earlier ++ t ∷ later = cc in
      absurd (nothing earlier later t (sym none ∙ rest))
  within n m a w (y ∷ ts) end kept at v (less, (x, b, k, inr (inr (inl (keeps, refused, none, full, kb, lb, e))))) (z ∷ earlier) t later is =
      let rest : ts ≡ earlier ++ t ∷ later = cc in
      absurd (nothing earlier later t (sym none ∙ rest))
  within n m a w (y ∷ ts) end kept at v (less, (x, b, k, inr (inr (inr (keeps, refused, none, stops, lb, e))))) (z ∷ earlier) t later is =
      let rest : ts ≡ earlier ++ t ∷ later = cc in
      absurd (nothing earlier later t (sym none ∙ rest))

  -- each attempt of a round by the rules
  round_within : (left : ℕ → List (List ℕ)) (s : Stage) (x : Rounded) (u : Stage) → IsRound settings f left stop s x u → (earlier : List LineAttempt) (t : LineAttempt) (later : List LineAttempt) → x.tried ≡ earlier ++ t ∷ later
      → Within settings (rows_after_attempts settings x.before earlier) t x.kept
  round_within left s x u round earlier t later is =
      let k = followed settings f stop left s x u round in
      let before : x.before ≡ s.archive.rows = k.before_is in
      let kept : x.kept ≡ k.kept.rows = k.kept_is in
      let w = within 0 0 s.archive (started s.line) x.tried x.end k.kept k.archive k.line k.tries earlier t later is in
      subst (λ (rows : List Row). Within settings (rows_after_attempts settings rows earlier) t x.kept) (sym before) (subst (λ (rows : List Row). Within settings (rows_after_attempts settings s.archive.rows earlier) t rows) (sym kept) w)

  keeps_acknowledged : (left : ℕ → List (List ℕ)) (s : Stage) (x : Rounded) (u : Stage) → IsRound settings f left stop s x u → KeepsAcknowledged settings x
  keeps_acknowledged left s x u k earlier t later place pages is said = acked_within settings (rows_after_attempts settings x.before earlier) t x.kept place pages (round_within left s x u k earlier t later is) said

pub round_keeps : (settings : StationSettings) (f : FatesByNumber) (left : ℕ → List (List ℕ)) (stop : Option Stop) (s : Stage) (x : Rounded) (u : Stage) → IsRound settings f left stop s x u → KeepsAcknowledged settings x
round_keeps settings f left stop s x u k = keeps_acknowledged settings f stop left s x u k

none_or_some : (l : List (List ℕ)) → (l ≡ []) ⊎ (l ≢ [])
none_or_some [] = inl refl
none_or_some (x ∷ l) = inr (λ no. cc)

none_behind : (xs ys : List (List ℕ)) → xs ++ ys ≡ [] → ys ≡ []
none_behind [] ys e = e
none_behind (x ∷ xs) ys e = cc

-- what others stand behind is among the first
first_before : (xs more first : List (List ℕ)) (last : List ℕ) → xs ++ more ≡ first ++ last ∷ [] → more ≢ [] → IsFrontOf xs first
first_before [] more first last e some = (first, refl)
first_before (x ∷ xs) more [] last e some = let none : xs ++ more ≡ [] = cc in absurd (some (none_behind xs more none))
first_before (x ∷ xs) more (y ∷ first) last e some =
    let same : x ≡ y = cc in
    let rest : xs ++ more ≡ first ++ last ∷ [] = cc in
    let b = first_before xs more first last rest some in
    (b.0, ap (λ (z : List ℕ). z ∷ (xs ++ b.0)) same ∙ ap (λ (z : List (List ℕ)). y ∷ z) b.1)

-- two fronts of one talk: the one goes past an item behind the other, or not
two_fronts : (x y a b : List TalkItem) (i : TalkItem) → x ++ a ≡ y ++ i ∷ b → ((s : List TalkItem) × (x ≡ y ++ i ∷ s)) ⊎ ((s : List TalkItem) × (y ≡ x ++ s))
two_fronts [] y a b i e = inr (y, refl)
two_fronts (p ∷ x) [] a b i e = let same : p ≡ i = cc in inl (x, ap (λ (z : TalkItem). z ∷ x) same)
two_fronts (p ∷ x) (q ∷ y) a b i e =
    let same : p ≡ q = cc in
    let rest : x ++ a ≡ y ++ i ∷ b = cc in
    elim (two_fronts x y a b i rest) [
      | inl h ↦ inl (h.0, ap (λ (z : TalkItem). z ∷ x) same ∙ ap (λ (z : List TalkItem). q ∷ z) h.1)
      | inr h ↦ inr (h.0, ap (λ (z : List TalkItem). q ∷ z) h.1 ∙ ap (λ (z : TalkItem). z ∷ (x ++ h.0)) (sym same))
    ]

module _ (after : Option CivilMinute) (talk : List TalkItem) (place : ℕ) (taken : List (List ℕ)) where
  abbrev G : List TalkItem → List (List ℕ) → End → Type 0
  G said pages end = Attempt (stamp_frame_of after) said place pages end

  -- all pages were acknowledged where none was refused
  all_acked : (end : End) → end ≢ End.Refused → G talk taken end → AreAcknowledged (stamp_frame_of after) talk place taken
  all_acked end unrefused x =
      let frame = stamp_frame_of after in
      record {
        said = λ some. taken_are_acknowledged frame talk place taken [] end (subst (λ (z : List (List ℕ)). Attempt frame talk place z end) (sym (append-nil taken)) x) some (λ none. unrefused);
        all = λ at first acked.
            let o = attempt_goes frame acked.0 talk (Said 6 true ∷ acked.1) at place first taken End.Refused end acked.3 x (sym acked.2) in
            ((o.more, sym o.first), o.places (attempt_some frame acked.0 at first acked.3));
      }

  -- and all but the last where that was
  first_acked : (first : List (List ℕ)) (last : List ℕ) → taken ≡ first ++ last ∷ [] → G talk taken End.Refused → AreAcknowledged (stamp_frame_of after) talk place first
  first_acked first last is x =
      let frame = stamp_frame_of after in
      record {
        said = λ some. taken_are_acknowledged frame talk place first (last ∷ []) End.Refused (subst (λ (z : List (List ℕ)). Attempt frame talk place z End.Refused) is x) some (λ none same. cc);
        all = λ at others acked.
            let o = attempt_goes frame acked.0 talk (Said 6 true ∷ acked.1) at place others taken End.Refused End.Refused acked.3 x (sym acked.2) in
            let more_some : o.more ≢ [] = λ none. let e : Said 6 true ∷ acked.1 ≡ [] = o.refused refl none in cc in
            (first_before others o.more first last (sym o.first ∙ is) more_some, o.places (attempt_some frame acked.0 at others acked.3));
      }

  just_refused : EndsGiving after place taken → G talk taken End.Refused → (pages : List (List ℕ)) × AreAcknowledged (stamp_frame_of after) talk place pages × (but_last (batches after place taken) ≡ batches after place pages)
  just_refused gives x =
      let s = some_last taken (attempt_some (stamp_frame_of after) talk place taken x) in
      (s.0, first_acked s.0 s.1 s.2 x, but_last_batches after place taken s.0 s.1 s.2 gives)

  just_ended : (end : DumpEnd) → IsPlain end → Ended G end talk taken → RefusesLast end after place taken → (pages : List (List ℕ)) × AreAcknowledged (stamp_frame_of after) talk place pages × (kept_batches end (batches after place taken) ≡ batches after place pages)
  just_ended dump_end.Whole plain x r = (taken, all_acked End.Whole (λ no. cc) x, refl)
  just_ended (dump_end.Failed trouble) plain x r = (taken, all_acked (End.Failed trouble) (λ no. cc) x, refl)
  just_ended dump_end.Flood plain x r = (taken, all_acked End.Flooded (λ no. cc) x, refl)
  just_ended dump_end.Full plain x r = just_refused (r (λ no. cc)) x
  just_ended dump_end.Stale plain x r = just_refused (r (λ no. cc)) x
  just_ended dump_end.DiskFault plain x r = just_refused (r (λ no. cc)) x
  just_ended dump_end.LinkFault plain x r = absurd plain
  just_ended dump_end.OutOfMemory plain x r = absurd plain

  abbrev Most : Type 0
  Most = (pages : List (List ℕ)) × (more : List (List ℕ)) × AreAcknowledged (stamp_frame_of after) talk place pages × (taken ≡ pages ++ more) × (length more ≤ 1)

  most_all : (end : End) → end ≢ End.Refused → G talk taken end → Most
  most_all end unrefused x = (taken, [], all_acked end unrefused x, sym (append-nil taken), omega arith)

  most_refused : G talk taken End.Refused → Most
  most_refused x = let s = some_last taken (attempt_some (stamp_frame_of after) talk place taken x) in (s.0, s.1 ∷ [], first_acked s.0 s.1 s.2 x, s.2, omega arith)

  module _ (cut : IsCutAfter G talk taken) where
    -- what was acknowledged in the talk so far is the first of all that was taken
    cut_first : (at : ℕ) (first : List (List ℕ)) → Acknowledges (stamp_frame_of after) talk at first → IsFrontOf first taken × (at ≡ place)
    cut_first at first acked =
        let frame = stamp_frame_of after in
        let behind = Said 6 true ∷ acked.1 in
        let o = attempt_goes frame acked.0 (talk ++ cut.rest) (behind ++ cut.rest) at place first taken End.Refused cut.end acked.3 cut.whole (sym (append_assoc acked.0 behind cut.rest) ∙ ap (λ (z : List TalkItem). z ++ cut.rest) (sym acked.2)) in
        ((o.more, sym o.first), o.places (attempt_some frame acked.0 at first acked.3))

    -- a page before the last was acknowledged where the last was taken
    cut_said : (first : List (List ℕ)) (last : List ℕ) → taken ≡ first ++ last ∷ [] → first ≢ [] → Acknowledges (stamp_frame_of after) talk place first
    cut_said first last is some = elim cut.were_taken [
      | inl none ↦ absurd (let e : first ++ last ∷ [] ≡ [] = sym is ∙ none in let z : last ∷ [] ≡ [] = none_behind first (last ∷ []) e in cc)
      | inr h ↦
          let frame = stamp_frame_of after in
          let a = taken_are_acknowledged frame h.0 place first (last ∷ []) End.Refused (subst (λ (z : List (List ℕ)). Attempt frame h.0 place z End.Refused) is h.2) some (λ none same. cc) in
          (a.0, a.1 ++ h.1.0, sym h.1.1 ∙ ap (λ (z : List TalkItem). z ++ h.1.0) a.2 ∙ append_assoc a.0 (Said 6 true ∷ a.1) h.1.0, a.3)
    ]

    most_some : taken ≢ [] → Most
    most_some some =
        let frame = stamp_frame_of after in
        let a = taken_are_acknowledged frame (talk ++ cut.rest) place taken [] cut.end (subst (λ (z : List (List ℕ)). Attempt frame (talk ++ cut.rest) place z cut.end) (sym (append-nil taken)) cut.whole) some (λ none. cut.goes_on) in
        let l = some_last taken some in
        elim (two_fronts talk a.0 cut.rest a.1 (Said 6 true) a.2) [
          | inl h ↦ (taken, [], record { said = λ any. (a.0, h.0, h.1, a.3); all = cut_first }, sym (append-nil taken), omega arith)
          | inr h ↦ (
            l.0,
            l.1 ∷ [],
            record {
              said = cut_said l.0 l.1 l.2;
              all = λ at others acked.
                  let behind = Said 6 true ∷ acked.1 in
                  let o = attempt_goes frame acked.0 a.0 (behind ++ h.0) at place others taken End.Refused End.Refused acked.3 a.3 (sym (append_assoc acked.0 behind h.0) ∙ ap (λ (z : List TalkItem). z ++ h.0) (sym acked.2) ∙ sym h.1) in
                  let more_some : o.more ≢ [] = λ none. let e : Said 6 true ∷ (acked.1 ++ h.0) ≡ [] = o.refused refl none in cc in
                  (first_before others o.more l.0 l.1 (sym o.first ∙ l.2) more_some, o.places (attempt_some frame acked.0 at others acked.3));
            },
            l.2,
            omega arith,
          )
        ]

    most_cut : Most
    most_cut = elim (none_or_some taken) [
      | inl none ↦ (taken, [], record { said = λ some. absurd (some none); all = cut_first }, sym (append-nil taken), omega arith)
      | inr some ↦ most_some some
    ]

  most_ended : (end : DumpEnd) → Ended G end talk taken → Most
  most_ended dump_end.Whole x = most_all End.Whole (λ no. cc) x
  most_ended (dump_end.Failed trouble) x = most_all (End.Failed trouble) (λ no. cc) x
  most_ended dump_end.Flood x = most_all End.Flooded (λ no. cc) x
  most_ended dump_end.Full x = most_refused x
  most_ended dump_end.Stale x = most_refused x
  most_ended dump_end.DiskFault x = most_refused x
  most_ended dump_end.LinkFault x = most_cut x
  most_ended dump_end.OutOfMemory x = most_cut x

plain_by : (end : DumpEnd) → end ≢ dump_end.LinkFault → end ≢ dump_end.OutOfMemory → IsPlain end
plain_by dump_end.Whole a b = tt
plain_by (dump_end.Failed trouble) a b = tt
plain_by dump_end.Full a b = tt
plain_by dump_end.Stale a b = tt
plain_by dump_end.DiskFault a b = tt
plain_by dump_end.Flood a b = tt
plain_by dump_end.LinkFault a b = absurd (a refl)
plain_by dump_end.OutOfMemory a b = absurd (b refl)

pub attempt_keeps_just : (after : Option CivilMinute) (t : MadeAttempt) → IsMadeAfter after t → t.end ≢ dump_end.LinkFault → t.end ≢ dump_end.OutOfMemory → AreJustAcknowledged after t (kept_in (batches_in after t))
attempt_keeps_just after t h a b =
    let q = just_ended after t.said t.place t.taken t.end (plain_by t.end a b) h.ends h.refused in
    (q.0, q.1, kept_in_end t.end (batches after t.place t.taken) ∙ q.2)

pub takes_one_more : (after : Option CivilMinute) (t : MadeAttempt) → IsMadeAfter after t → TakesOneMore after t
takes_one_more after t h = most_ended after t.said t.place t.taken t.end h.ends

pub round_was_made : (settings : StationSettings) (f : FatesByNumber) (left : ℕ → List (List ℕ)) (stop : Option Stop) (s : Stage) (x : Rounded) (u : Stage) → IsRound settings f left stop s x u → WereMade settings x
round_was_made settings f left stop s x u k earlier t later is = (round_within settings f stop left s x u k earlier t later is).tried

pub round_keeps_just : (settings : StationSettings) (f : FatesByNumber) (left : ℕ → List (List ℕ)) (stop : Option Stop) (s : Stage) (x : Rounded) (u : Stage) → IsRound settings f left stop s x u → KeepsJustAcknowledged settings x
round_keeps_just settings f left stop s x u k earlier t later is =
    let w = round_within settings f stop left s x u k earlier t later is in
    let last = last_row_stamp (rows_after_attempts settings x.before earlier) in
    let q = just_ended last t.made.said t.made.place t.made.taken t.made.end w.plain w.tried.ends w.tried.refused in
    (q.0, q.1, kept_in_end t.made.end t.batches ∙ ap (kept_batches t.made.end) w.batches_are ∙ q.2)
