-- Two attempts over one line and one archive.
use Rattle.std.proofs.Common.{ℕ, ◌≡◌, ◌≢◌, ◌⊎◌, Bool, true, false, List, [], length, Option, refl, sym, ap, subst, ◌∙◌, inl, inr}
use Rattle.causes.specs.declared.stored.Stored.{Stored}
use Rattle.causes.specs.declared.stored.Stored.TheVariants as reply
use Rattle.settings_file.specs.StationSettings.{StationSettings}
use Rattle.station_base.specs.CivilMinute.{CivilMinute}
use Rattle.vantage_frames.specs.StampFrame.{stamp_frame_of}
use Rattle.serial_link.specs.declared.talk.TalkItem.{TalkItem}
use Rattle.schedule_file.specs.Fates.{FatesByNumber}
use Rattle.station_sim.specs.Line.{Line}
use Rattle.station_sim.specs.Talk.{ConsoleTalk, console_talk}
use Rattle.dmpaft_driver.specs.Attempt.{Attempt, End}
use Rattle.dmpaft_pump.specs.Batch.{EndsGiving, answered_batches, batches}
use Rattle.dmpaft_driver.specs.Exact.{attempt_end}
use Rattle.dmpaft_driver.specs.Gathered.{keeper_answer, RefusesLast}
use Rattle.dmpaft_pump.specs.Keeper.{Handed}
use Rattle.dmpaft_pump.specs.Pump.{Over, Settling, begun, pump_after}
use Rattle.dmpaft_pump.specs.Shown.{pump_answer}
use Rattle.dmpaft_driver.specs.Turning.{dump_end_of}
use Rattle.dmpaft_pump.specs.declared.outcome.DumpEnd.{DumpEnd}
use Rattle.dmpaft_pump.specs.declared.outcome.DumpEnd.TheVariants as dump_end
use Rattle.dmpaft_pump.specs.declared.pump_end.PumpEnd.{PumpEnd}
use Rattle.dmpaft_pump.specs.declared.pump_end.PumpEnd.TheVariants as pump_end
use Rattle.dmpaft_driver.proofs.Exactly.{complete}
use Rattle.station_session.specs.Attempts.{IsMadeAfter, MadeAttempt, batches_in}
use Rattle.station_session.proofs.Ends.{last_in}
use Rattle.replay_laws.specs.Keeping.{Archive}
use Rattle.one_text_laws.specs.SameAttempt.{SameAttempt, AttemptOverLine}
use Rattle.schedule_file.specs.declared.schedule.step.Stop.{Stop}
use Rattle.one_text_laws.proofs.AnsweredBatches.{AreAnswered, are_answered}
use Rattle.one_text_laws.proofs.HandedOver.{gives_all, handed_all}
use Rattle.one_text_laws.proofs.OneTalk.{Alike, CutShort, Leads, alike_from, same_line}
use Rattle.replay_laws.proofs.Rounds.{IsPlain, plain_ended}
use Rattle.replay_laws.proofs.Rounds as rounds

-- how the pump of an attempt ends that ends so
abbrev pub pump_end_of : DumpEnd → PumpEnd
pump_end_of dump_end.Whole = pump_end.Whole
pump_end_of (dump_end.Failed trouble) = pump_end.Failed trouble
pump_end_of dump_end.Full = pump_end.Full
pump_end_of dump_end.Stale = pump_end.Stale
pump_end_of dump_end.DiskFault = pump_end.DiskFault
pump_end_of dump_end.Flood = pump_end.Flood
pump_end_of dump_end.LinkFault = pump_end.Flood
pump_end_of dump_end.OutOfMemory = pump_end.Flood

ends_same : (end : DumpEnd) → rounds.end_of end ≡ attempt_end (pump_end_of end)
ends_same dump_end.Whole = refl
ends_same (dump_end.Failed trouble) = refl
ends_same dump_end.Full = refl
ends_same dump_end.Stale = refl
ends_same dump_end.DiskFault = refl
ends_same dump_end.Flood = refl
ends_same dump_end.LinkFault = refl
ends_same dump_end.OutOfMemory = refl

answers_same : (end : DumpEnd) → pump_answer (pump_end_of end) ≡ keeper_answer end
answers_same dump_end.Whole = refl
answers_same (dump_end.Failed trouble) = refl
answers_same dump_end.Full = refl
answers_same dump_end.Stale = refl
answers_same dump_end.DiskFault = refl
answers_same dump_end.Flood = refl
answers_same dump_end.LinkFault = refl
answers_same dump_end.OutOfMemory = refl

end_back : (end : DumpEnd) → IsPlain end → dump_end_of (pump_end_of end) ≡ end
end_back dump_end.Whole plain = refl
end_back (dump_end.Failed trouble) plain = refl
end_back dump_end.Full plain = refl
end_back dump_end.Stale plain = refl
end_back dump_end.DiskFault plain = refl
end_back dump_end.Flood plain = refl
end_back dump_end.LinkFault plain = absurd plain
end_back dump_end.OutOfMemory plain = absurd plain

-- an attempt that was refused gave a batch last
gave_last : (end : DumpEnd) (after : Option CivilMinute) (place : ℕ) (taken : List (List ℕ)) → RefusesLast end after place taken
    → attempt_end (pump_end_of end) ≡ End.Refused → EndsGiving after place taken
gave_last dump_end.Whole after place taken refused e = absurd (let bad : End.Whole ≡ End.Refused = e in cc)
gave_last (dump_end.Failed trouble) after place taken refused e = absurd (let bad : End.Failed trouble ≡ End.Refused = e in cc)
gave_last dump_end.Full after place taken refused e = refused (λ z. cc)
gave_last dump_end.Stale after place taken refused e = refused (λ z. cc)
gave_last dump_end.DiskFault after place taken refused e = refused (λ z. cc)
gave_last dump_end.Flood after place taken refused e = absurd (let bad : End.Flooded ≡ End.Refused = e in cc)
gave_last dump_end.LinkFault after place taken refused e = absurd (let bad : End.Flooded ≡ End.Refused = e in cc)
gave_last dump_end.OutOfMemory after place taken refused e = absurd (let bad : End.Flooded ≡ End.Refused = e in cc)

pub plain_by : (end : DumpEnd) → end ≢ dump_end.LinkFault → end ≢ dump_end.OutOfMemory → IsPlain end
plain_by dump_end.Whole linked found = tt
plain_by (dump_end.Failed trouble) linked found = tt
plain_by dump_end.Full linked found = tt
plain_by dump_end.Stale linked found = tt
plain_by dump_end.DiskFault linked found = tt
plain_by dump_end.Flood linked found = tt
plain_by dump_end.LinkFault linked found = absurd (linked refl)
plain_by dump_end.OutOfMemory linked found = absurd (found refl)

-- an attempt whose last batch met a disk fault ends by it
pub fault_end : (end : DumpEnd) → keeper_answer end ≡ reply.DiskFault → end ≡ dump_end.DiskFault
fault_end dump_end.Whole e = absurd cc
fault_end (dump_end.Failed trouble) e = absurd cc
fault_end dump_end.Full e = absurd cc
fault_end dump_end.Stale e = absurd cc
fault_end dump_end.DiskFault e = refl
fault_end dump_end.Flood e = absurd cc
fault_end dump_end.LinkFault e = absurd cc
fault_end dump_end.OutOfMemory e = absurd cc

-- the batches are the same if no page was taken, whatever the place
batches_same : (after : Option CivilMinute) (place at : ℕ) (taken : List (List ℕ)) → (taken ≡ []) ⊎ (place ≡ at)
    → batches after place taken ≡ batches after at taken
batches_same after place at taken (inl none) =
    ap (λ (pages : List (List ℕ)). batches after place pages) none ∙ sym (ap (λ (pages : List (List ℕ)). batches after at pages) none)
batches_same after place at taken (inr is) = ap (λ (n : ℕ). batches after n taken) is

-- a pump that is over has one place, one list of pages and one end
module _ (p q : ℕ) (ps qs : List (List ℕ)) (x y : PumpEnd) (e : Over p ps x ≡ Over q qs y) where
  over_place : p ≡ q
  over_place = cc

  over_pages : ps ≡ qs
  over_pages = cc

  over_end : x ≡ y
  over_end = cc

module _ (most : ℕ) (stop : Option Stop) (f : FatesByNumber) (stored held : ℕ) (after : Option CivilMinute) where
  -- An attempt from this line to that one, whose batches are answered as an archive with so many rows answers them,
  -- or whose disk failed.
  pub record Tries (fails : Bool) (w : Line) (t : MadeAttempt) (v : Line) : Type 0 where
    pub tried : IsMadeAfter after t
    pub plain : IsPlain t.end
    pub talks : ConsoleTalk f t.said w v
    pub answered : AreAnswered most stop fails stored held (batches_in after t)

  -- The pump that takes it, with the answers of its batches.
  pub record Pumped (fails : Bool) (w : Line) (t : MadeAttempt) : Type 0 where
    pub answers : List Stored
    pub at : ℕ
    pub over : pump_after after t.said answers ≡ Over at t.taken (pump_end_of t.end)
    pub place : (t.taken ≡ []) ⊎ (t.place ≡ at)
    pub leads : Leads most stop after f fails (begun after Settling) stored held w t.said answers

  pub pumped : (fails : Bool) (w v : Line) (t : MadeAttempt) → Tries fails w t v → Pumped fails w t
  pumped fails w v t h =
      let attempt : Attempt (stamp_frame_of after) t.said t.place t.taken (attempt_end (pump_end_of t.end)) =
      subst (λ (end : End). Attempt (stamp_frame_of after) t.said t.place t.taken end) (ends_same t.end)
      (plain_ended (λ talk pages end. Attempt (stamp_frame_of after) talk t.place pages end) t.end t.said t.taken h.plain h.tried.ends) in
      let found = complete after t.said t.place t.taken (pump_end_of t.end) attempt (gave_last t.end after t.place t.taken h.tried.refused) in
      let all : answered_batches (keeper_answer t.end) (batches after t.place t.taken) ≡ gives_all after (begun after Settling) t.said found.0 =
      ap (λ (bs : List (List (List ℕ))). answered_batches (keeper_answer t.end) bs) (batches_same after t.place found.1 t.taken found.3)
      ∙ ap (λ (k : Stored). answered_batches k (batches after found.1 t.taken)) (sym (answers_same t.end))
      ∙ handed_all after t.said (begun after Settling) found.0 found.1 t.taken (pump_end_of t.end) tt found.2 in
      record {
        answers = found.0;
        at = found.1;
        over = found.2;
        place = found.3;
        leads = record {
          ends = (found.1, t.taken, pump_end_of t.end, found.2);
          answered = subst (λ (handed : Handed). AreAnswered most stop fails stored held handed) all h.answered;
          line = v;
          talks = h.talks;
        };
      }

  place_same : (taken : List (List ℕ)) (place at other there : ℕ) → (taken ≡ []) ⊎ (place ≡ at) → (taken ≡ []) ⊎ (other ≡ there) → at ≡ there
      → taken ≢ [] → place ≡ other
  place_same taken place at other there (inl none) y is some = absurd (some none)
  place_same taken place at other there (inr p) (inl none) is some = absurd (some none)
  place_same taken place at other there (inr p) (inr q) is some = p ∙ (is ∙ sym q)

  -- two attempts of one talk, with one list of answers, are the same, and lead to one line
  same_talk : (fails falls : Bool) (w v x : Line) (t u : MadeAttempt) (one : Tries fails w t v) (two : Tries falls w u x) → t.said ≡ u.said
      → (pumped fails w v t one).answers ≡ (pumped falls w x u two).answers → SameAttempt t u × (v ≡ x)
  same_talk fails falls w v x t u one two said answers =
      let p = pumped fails w v t one in
      let q = pumped falls w x u two in
      let over : Over p.at t.taken (pump_end_of t.end) ≡ Over q.at u.taken (pump_end_of u.end) =
      sym p.over ∙ (ap (λ (talk : List TalkItem). pump_after after talk p.answers) said
      ∙ (ap (λ (replies : List Stored). pump_after after u.said replies) answers ∙ q.over)) in
      let pages = over_pages p.at q.at t.taken u.taken (pump_end_of t.end) (pump_end_of u.end) over in
      let end = over_end p.at q.at t.taken u.taken (pump_end_of t.end) (pump_end_of u.end) over in
      let place = over_place p.at q.at t.taken u.taken (pump_end_of t.end) (pump_end_of u.end) over in (
        record {
          said = said;
          taken = pages;
          end = sym (end_back t.end one.plain) ∙ (ap dump_end_of end ∙ end_back u.end two.plain);
          place = place_same t.taken t.place p.at u.place q.at p.place
              (subst (λ (taken : List (List ℕ)). (taken ≡ []) ⊎ (u.place ≡ q.at)) (sym pages) q.place) place;
        },
        same_line v x (sym one.talks ∙ (ap (λ (talk : List TalkItem). console_talk f talk w) said ∙ two.talks)),
      )

  -- two attempts are the same, and lead to one line, or the disk failed in one of them
  pub tries_meet : (fails falls : Bool) (w v x : Line) (t u : MadeAttempt) → Tries fails w t v → Tries falls w u x
      → (SameAttempt t u × (v ≡ x)) ⊎ CutShort fails falls t.said u.said
  tries_meet fails falls w v x t u one two =
      go (alike_from most stop after f fails falls t.said (begun after Settling) stored held w u.said p.answers q.answers p.leads q.leads)
    where
      p : Pumped fails w t
      p = pumped fails w v t one

      q : Pumped falls w u
      q = pumped falls w x u two

      go : Alike fails falls t.said u.said p.answers q.answers → (SameAttempt t u × (v ≡ x)) ⊎ CutShort fails falls t.said u.said
      go (inl same) = inl (same_talk fails falls w v x t u one two same.0 same.1)
      go (inr cut) = inr cut

-- if the disk failed in neither, neither is cut short
pub never_cut : {A : Type 0} (talk others : List TalkItem) → CutShort false false talk others → A
never_cut talk others (inl cut) = absurd (let no : false ≡ true = cut.0 in cc)
never_cut talk others (inr cut) = absurd (let no : false ≡ true = cut.0 in cc)

-- an attempt over an archive, as its pump takes it
tries_over : (settings : StationSettings) (stop : Option Stop) (f : FatesByNumber) (stored : ℕ) (a : Archive) (after : Option CivilMinute)
    (w v : Line) (t : MadeAttempt) → AttemptOverLine settings stop f stored a after w t v
    → Tries settings.most stop f stored (length a.rows) after false w t v
tries_over settings stop f stored a after w v t h = record {
  tried = h.tried;
  plain = plain_by t.end h.linked h.found;
  talks = h.talks;
  answered = are_answered settings.most stop false stored (length a.rows) (batches_in after t) h.fits h.not_past
      (λ e. inl (h.stops (fault_end t.end (sym (last_in after t h.tried) ∙ e))));
}

pub one_tried_law : (settings : StationSettings) (stop : Option Stop) (f : FatesByNumber) (stored : ℕ) (a : Archive) (after : Option CivilMinute)
    (w v x : Line) (t u : MadeAttempt) → AttemptOverLine settings stop f stored a after w t v → AttemptOverLine settings stop f stored a after w u x
    → SameAttempt t u × (v ≡ x)
one_tried_law settings stop f stored a after w v x t u one two =
    go (tries_meet settings.most stop f stored (length a.rows) after false false w v x t u
    (tries_over settings stop f stored a after w v t one) (tries_over settings stop f stored a after w x u two))
  where
    go : (SameAttempt t u × (v ≡ x)) ⊎ CutShort false false t.said u.said → SameAttempt t u × (v ≡ x)
    go (inl same) = same
    go (inr cut) = never_cut t.said u.said cut
