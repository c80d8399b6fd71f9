-- A session's round over a modelled line and a disk with a stop is a round of a run.
use Rattle.std.proofs.Common.{◌≡◌, ℕ, ◌+◌, ◌-◌, ◌/◌, ◌<◌, ◌≤◌, ◌==◌, ◌⊎◌, if◌then◌else◌, true, false, inl, inr, List, [], ◌∷◌, ◌++◌, length, Option, Some, None, refl, sym, ◌∙◌, ap, subst, arith, append_assoc, append-nil, length-append}
use Rattle.std.specs.Prelude.{nat_lt}
use Rattle.std.proofs.lemmas.Option.{same_Some}
use Rattle.station_base.specs.CivilMinute.{CivilMinute}
use Rattle.station_base.specs.declared.row.Row.{Row}
use Rattle.settings_file.specs.StationSettings.{StationSettings}
use Rattle.serial_link.specs.declared.talk.TalkItem.{TalkItem}
use Rattle.serial_link.specs.declared.talk.TalkItem.TheVariants.{Said, Heard, Quiet}
use Rattle.console_model.specs.declared.reply.ReplyKind.{ReplyKind}
use Rattle.console_model.specs.declared.reply.ReplyKind.TheVariants.{Nothing, Code, Test, Wake, Ack, AckFrame, Page, Packet}
use Rattle.console_model.specs.Console.{Begun, Outcome}
use Rattle.console_model.specs.Hear.{hear}
use Rattle.console_model.specs.Tick.{tick}
use Rattle.dmpaft_pump.specs.Batch.{batches, records_in, answered_batches}
use Rattle.dmpaft_pump.specs.Keeper.{Handed, kept_all, join, last_kept}
use Rattle.archive_record.specs.Reading.{stamp_in}
use Rattle.station_base.specs.LastStamp as stamps
use Rattle.dmpaft_driver.specs.Gathered as outcome
use Rattle.causes.specs.declared.stored.Stored.{Stored}
use Rattle.causes.specs.declared.stored.Stored.TheVariants as kept
use Rattle.dmpaft_pump.specs.declared.outcome.DumpEnd.{DumpEnd}
use Rattle.dmpaft_pump.specs.declared.outcome.DumpEnd.TheVariants as dump_end
use Rattle.dmpaft_pump.proofs.HandedBatches.{join_none, kept_answered, kept_in_all}
use Rattle.packed_rows.specs.Rising.{last_row_stamp}
use Rattle.station_session.specs.declared.round_end.RoundEnd.{RoundEnd}
use Rattle.station_session.specs.declared.round_end.RoundEnd.TheVariants as round_end
use Rattle.station_session.specs.Attempts.{MadeAttempt, AreAttempts, IsMadeAfter, end_after, batches_in, stamp_after, all_batches, all_said, most_attempts}
use Rattle.station_session.proofs.KeptBatches.{but_last, kept_batches, kept_by_end}
use Rattle.station_session.specs.Batches.{kept_records, kept_count, last_answer, Fit}
use Rattle.station_session.specs.Records.{stored_rows, AllRead}
use Rattle.station_session.proofs.Ends.{kept_append, last_in, went_on}
use Rattle.station_session.proofs.Parts.{fit_parts, count_parts}
use Rattle.station_session.proofs.Stamps.{same_count, stored_append}
use Rattle.schedule_file.specs.Fates.{FatesByNumber}
use Rattle.station_sim.specs.Delivery.{delivered}
use Rattle.station_sim.specs.Line.{Line, flies, happens, joins, hears, message_counted, says_byte}
use Rattle.station_sim.specs.Talk.{line_step, console_talk, ConsoleTalk, started}
use Rattle.station_sim.specs.Joining.{and_then_some, talks_join, talks_part}
use Rattle.schedule_file.specs.declared.schedule.step.Stop.{Stop}
use Rattle.replay_laws.specs.Keeping.{Archive, with_batch, appended, batches_before, stopped}
use Rattle.replay_laws.proofs.RoundAttempts.{Answer, IsMadeOver, Keeping, Keeps, Tries, answer, answer_by, reached}
use Rattle.replay_laws.specs.Round.{Ending, LineAttempt, IsLineAttempt, AreLineAttempts, EndsStopped, finished, made_attempts}
use Rattle.replay_laws.specs.Replay.{Rounded, Stage, IsRound, after_round, is_stop}
use Rattle.replay_laws.specs.Session.{NotPast, ComesAt, RoundStopsAt, RoundEndsAs, IsKnown, AreRound, archive_left_after, stop_left}
use Rattle.replay_laws.proofs.Room.{stop_of}
use Rattle.line_laws.specs.PagesAcknowledged.{pages_acknowledged}
use Rattle.line_laws.proofs.FrameStage.{hearing_is, waiting_is}
use Rattle.line_laws.proofs.Clean.{goes_harmed}
use Rattle.replay_laws.proofs.GivenBatches.{keeps_part, stored_is}
use Rattle.replay_laws.proofs.Stamped.{read_front, read_back, batches_read, last_with}

-- dumps are only added
More : Line → Line → Type 0
More w v = (ds : List Begun) × (v.dumps ≡ w.dumps ++ ds)

more_none : (w v : Line) → v.dumps ≡ w.dumps → More w v
unfolding More
more_none w v e = ([], e ∙ sym (append-nil w.dumps))

more_join : (w u v : Line) → More w u → More u v → More w v
unfolding More
more_join w u v a b = (a.0 ++ b.0, b.1 ∙ ap (λ x. x ++ b.0) a.1 ∙ append_assoc w.dumps a.0 b.0)

more_joins : (k : ReplyKind) (f : FatesByNumber) (o : Outcome) (w : Line) → More w (joins k f o w)
unfolding More
more_joins Nothing f o w = ([], sym (append-nil w.dumps))
more_joins Code f o w = (o.begins, refl)
more_joins Wake f o w = (o.begins, refl)
more_joins Test f o w = (o.begins, refl)
more_joins Ack f o w = (o.begins, refl)
more_joins AckFrame f o w = (o.begins, refl)
more_joins Page f o w = (o.begins, refl)
more_joins Packet f o w = (o.begins, refl)

more_hears : (f : FatesByNumber) (got : List ℕ) (w : Line) → More w (hears f got w)
more_hears f [] w = more_none w w refl
more_hears f (b ∷ got) w = let o = hear w.console b in more_join w (happens f o w) (hears f got (happens f o w)) (more_joins o.kind f o w) (more_hears f got (happens f o w))

more_same : (w a b : Line) → a.dumps ≡ b.dumps → More w a → More w b
unfolding More
more_same w a b e m = (m.0, sym e ∙ m.1)

more_from : (a b v : Line) → a.dumps ≡ b.dumps → More a v → More b v
unfolding More
more_from a b v e m = (m.0, m.1 ∙ ap (λ x. x ++ m.0) e)

goes_more : (f : FatesByNumber) (t : List TalkItem) (w v : Line) → console_talk f t w ≡ Some v → More w v
goes_more f [] w v e = more_none w v (ap (λ x. x.dumps) (sym (same_Some w v e)))
goes_more f (Said b false ∷ t) w v e = more_from (says_byte f b false w) w v refl (goes_more f t (says_byte f b false w) v e)
goes_more f (Said b true ∷ t) w v e =
    let m = w.begun ++ b ∷ [] in
    let got = delivered (f.host (w.messages + 1)) (w.begun ++ b ∷ []) in
    more_join w (says_byte f b true w) v
    (more_same w (hears f got (message_counted f m w)) (says_byte f b true w) refl (more_from (message_counted f m w) w (hears f got (message_counted f m w)) refl (more_hears f got (message_counted f m w))))
    (goes_more f t (says_byte f b true w) v e)
goes_more f (Heard b ∷ t) w v e =
    let g = and_then_some (line_step f (Heard b) w) (console_talk f t) v e in
    let q = hearing_is w.flight b w g.0 refl g.1 in
    more_from g.0 w v (ap (λ x. x.dumps) q.2) (goes_more f t g.0 v g.2)
goes_more f (Quiet ∷ t) w v e =
    let g = and_then_some (line_step f Quiet w) (console_talk f t) v e in
    let q = waiting_is w.flight f w g.0 refl g.1 in
    let o = tick w.console in
    more_join w g.0 v (more_same w (happens f o (flies w q.0)) g.0 (ap (λ x. x.dumps) (sym q.2)) (more_from (flies w q.0) w (happens f o (flies w q.0)) refl (more_joins o.kind f o (flies w q.0)))) (goes_more f t g.0 v g.2)

pub dumps_more : (f : FatesByNumber) (t : List TalkItem) (w v : Line) → console_talk f t w ≡ Some v → (ds : List Begun) × (v.dumps ≡ w.dumps ++ ds)
unfolding More
dumps_more f t w v e = goes_more f t w v e

-- the attempt with what the line tells of it
abbrev with_line : MadeAttempt → List (List (List ℕ)) → List Begun → ℕ → ℕ → ℕ → LineAttempt
with_line t bs ds pages harmed gained = record { made = t; batches = bs; dumps = ds; acknowledged = pages; harmed = harmed; gained = gained }

-- the rows only grow
grown : (rows after xs : List Row) → after ≡ rows ++ xs → length rows ≤ length after
grown rows after xs e = omega (arith, ap length e, length-append rows xs)

-- what becomes of one attempt over the line
pub attempted_by : (f : FatesByNumber) (a b : List Row) (w u : Line) (t : MadeAttempt) → IsMadeAfter (last_row_stamp a) t → ConsoleTalk f t.said w u → length a ≤ length b
    → (x : LineAttempt) × IsMadeOver f a w x b u × (x.batches ≡ batches (last_row_stamp a) t.place t.taken) × (x.made ≡ t)
unfolding More
attempted_by f a b w u t attempt g l =
    let m : (ds : List Begun) × (u.dumps ≡ w.dumps ++ ds) = goes_more f t.said w u g in (
      with_line t (batches (last_row_stamp a) t.place t.taken) m.0 (pages_acknowledged f t.said w) (u.harmed - w.harmed) (length b - length a),
      record {
        attempt = attempt;
        over = record { talks = g; batches = refl; dumps = m.1; acknowledged = refl; harmed = omega (arith, goes_harmed f t.said w u g); gained = omega (arith, l) };
      },
      refl,
      refl,
    )

cancel : (xs ys zs : List Begun) → xs ++ ys ≡ xs ++ zs → ys ≡ zs
cancel [] ys zs e = e
cancel (x ∷ xs) ys zs e = cancel xs ys zs (let q : xs ++ ys ≡ xs ++ zs = cc in q)

-- what the line and the archive tell of an attempt is told once
attempt_same : (f : FatesByNumber) (rows after : List Row) (w u v : Line) (x y : LineAttempt) → IsLineAttempt f rows w x after u → IsLineAttempt f rows w y after v → x.made ≡ y.made → (x ≡ y) × (u ≡ v)
attempt_same f rows after w u v x y k h m =
    let lines : u ≡ v = same_Some u v (sym k.talks ∙ ap (λ (t : MadeAttempt). console_talk f t.said w) m ∙ h.talks) in
    let bs : x.batches ≡ y.batches = k.batches ∙ ap (λ (t : MadeAttempt). batches (last_row_stamp rows) t.place t.taken) m ∙ sym h.batches in
    let ds : x.dumps ≡ y.dumps = cancel w.dumps x.dumps y.dumps (sym k.dumps ∙ ap (λ (l : Line). l.dumps) lines ∙ h.dumps) in
    let ps : x.acknowledged ≡ y.acknowledged = k.acknowledged ∙ ap (λ (t : MadeAttempt). pages_acknowledged f t.said w) m ∙ sym h.acknowledged in
    let hs : x.harmed ≡ y.harmed = omega (arith, k.harmed, h.harmed, ap (λ (l : Line). l.harmed) lines) in
    let gs : x.gained ≡ y.gained = omega (arith, k.gained, h.gained) in
    (all_same x y m bs ds ps hs gs, lines)
  where
    all_same : (x y : LineAttempt) → x.made ≡ y.made → x.batches ≡ y.batches → x.dumps ≡ y.dumps → x.acknowledged ≡ y.acknowledged → x.harmed ≡ y.harmed → x.gained ≡ y.gained → x ≡ y
    all_same x y m bs ds ps hs gs =
        let e : with_line x.made x.batches x.dumps x.acknowledged x.harmed x.gained ≡ with_line y.made y.batches y.dumps y.acknowledged y.harmed y.gained
        = ap (λ z. with_line z x.batches x.dumps x.acknowledged x.harmed x.gained) m ∙ ap (λ z. with_line y.made z x.dumps x.acknowledged x.harmed x.gained) bs
        ∙ ap (λ z. with_line y.made y.batches z x.acknowledged x.harmed x.gained) ds ∙ ap (λ z. with_line y.made y.batches y.dumps z x.harmed x.gained) ps
        ∙ ap (λ z. with_line y.made y.batches y.dumps y.acknowledged z x.gained) hs ∙ ap (λ z. with_line y.made y.batches y.dumps y.acknowledged y.harmed z) gs in
        e

told_same : (settings : StationSettings) (f : FatesByNumber) (rows left : List Row) (w u v : Line) (xs ys : List LineAttempt) → AreLineAttempts settings f rows w xs left u → AreLineAttempts settings f rows w ys left v → made_attempts xs ≡ made_attempts ys → xs ≡ ys
told_same settings f rows left w u v [] [] h k e = refl
told_same settings f rows left w u v [] (y ∷ ys) h k e = absurd cc
told_same settings f rows left w u v (x ∷ xs) [] h k e = absurd cc
told_same settings f rows left w u v (x ∷ []) (y ∷ []) (b, p, is, more, last) (c, q, is2, more2, last2) e =
    let m : x.made ≡ y.made = cc in
    let one = attempt_same f rows b w p q x y is (subst (λ z. IsLineAttempt f rows w y z q) (sym last2.0 ∙ last.0) is2) m in
    ap (λ z. z ∷ []) one.0
told_same settings f rows left w u v (x ∷ []) (y ∷ z ∷ ys) h k e = absurd cc
told_same settings f rows left w u v (x ∷ z ∷ xs) (y ∷ []) h k e = absurd cc
told_same settings f rows left w u v (x ∷ x2 ∷ xs) (y ∷ y2 ∷ ys) (b, p, is, more, last) (c, q, is2, more2, last2) e =
    let m : x.made ≡ y.made = cc in
    let rest : made_attempts (x2 ∷ xs) ≡ made_attempts (y2 ∷ ys) = cc in
    let bs : x.batches ≡ y.batches = is.batches ∙ ap (λ (t : MadeAttempt). batches (last_row_stamp rows) t.place t.taken) m ∙ sym is2.batches in
    let same : c ≡ b = more2 (λ no. cc) ∙ ap (λ z. rows ++ stored_rows settings (records_in z)) (sym bs) ∙ sym (more (λ no. cc)) in
    let one = attempt_same f rows b w p q x y is (subst (λ z. IsLineAttempt f rows w y z q) same is2) m in
    let later = subst (λ z. AreLineAttempts settings f z p (y2 ∷ ys) left v) same (subst (λ z. AreLineAttempts settings f c z (y2 ∷ ys) left v) (sym one.1) last2) in
    let t = told_same settings f b left p u v (x2 ∷ xs) (y2 ∷ ys) last later rest in
    ap (λ z. z ∷ (x2 ∷ xs)) one.0 ∙ ap (λ z. y ∷ z) t

-- no stop comes at a batch
Clear : Option Stop → ℕ → Type 0
Clear stop n = reached stop n ≡ None

clear : (stop : Option Stop) (m n : ℕ) → NotPast stop m → n < m → Clear stop n
unfolding Clear
clear None m n b h = refl
clear (Some s) m n b h = let t : (batches_before s.change == n) ≡ false = grind arith in ap (λ t. if t then Some s else None) t

pub not_past_less : (stop : Option Stop) (m k : ℕ) → NotPast stop m → k ≤ m → NotPast stop k
not_past_less None m k b h = tt
not_past_less (Some s) m k b h = omega (arith, b)

module _ (settings : StationSettings) where
  with_length : (a : Archive) (b : List (List ℕ)) → AllRead b → length (with_batch settings a b) ≡ length a.rows + length b
  with_length a b read = omega (arith, length-append a.rows (stored_rows settings b), same_count settings b read)

  not_full : (a : Archive) (b : List (List ℕ)) → AllRead b → length a.rows + length b ≤ settings.most → nat_lt settings.most (length (with_batch settings a b)) ≡ false
  not_full a b read h = let l = with_length a b read in grind (arith, l)

  is_full : (a : Archive) (b : List (List ℕ)) → AllRead b → settings.most < length a.rows + length b → nat_lt settings.most (length (with_batch settings a b)) ≡ true
  is_full a b read h = let l = with_length a b read in grind (arith, l)

  stores : (stop : Option Stop) (n : ℕ) (a : Archive) (b : List (List ℕ)) → AllRead b → length a.rows + length b ≤ settings.most → Clear stop n → answer settings stop n a b ≡ Answer.Stored (appended settings a b)
  unfolding Clear
  stores stop n a b read h c = ap (λ t. answer_by t (reached stop n) settings n a b) (not_full a b read h) ∙ ap (λ s. answer_by false s settings n a b) c

  fills : (stop : Option Stop) (n : ℕ) (a : Archive) (b : List (List ℕ)) → AllRead b → settings.most < length a.rows + length b → answer settings stop n a b ≡ Answer.Full
  fills stop n a b read h = ap (λ t. answer_by t (reached stop n) settings n a b) (is_full a b read h)

  stops : (s : Stop) (n : ℕ) (a : Archive) (b : List (List ℕ)) → AllRead b → length a.rows + length b ≤ settings.most → batches_before s.change ≡ n → answer settings (Some s) n a b ≡ Answer.Stops (stopped settings s n a b)
  stops s n a b read h c =
      let t : (batches_before s.change == n) ≡ true = grind (arith, c) in
      ap (λ t. answer_by t (reached (Some s) n) settings n a b) (not_full a b read h) ∙ ap (λ t. answer_by false (if t then Some s else None) settings n a b) t

  goes_as : (stop : Option Stop) (n : ℕ) (a b : Archive) (bs : List (List (List ℕ))) (m k : ℕ) → m ≡ k → Keeps settings stop n a bs (Keeping.Goes m b) → Keeps settings stop n a bs (Keeping.Goes k b)
  goes_as stop n a b bs m k e h = subst (λ (z : ℕ). Keeps settings stop n a bs (Keeping.Goes z b)) e h

  -- batches are stored that fit, and before which no stop comes
  goes : (stop : Option Stop) (n : ℕ) (a : Archive) (bs : List (List (List ℕ))) → AllRead (records_in bs) → Fit settings.most (length a.rows) (kept_all bs) → NotPast stop (n + length bs) → (b : Archive) × Keeps settings stop n a bs (Keeping.Goes (n + length bs) b)
  goes stop n a [] read fit before = (a, ap (λ (z : ℕ). Keeping.Goes z a) (let e : n + 0 ≡ n = omega arith in e))
  goes stop n a (b ∷ bs) read fit before =
      let one = read_front b (records_in bs) read in
      let e : n + length (b ∷ bs) ≡ n + 1 + length bs = omega arith in
      let q = goes stop (n + 1) (appended settings a b) bs (read_back b (records_in bs) read) (subst (λ (m : ℕ). Fit settings.most m (kept_all bs)) (sym (with_length a b one)) fit.1) (subst (NotPast stop) e before) in
      (q.0, inl (appended settings a b, stores stop n a b one fit.0 (clear stop (n + length (b ∷ bs)) n before (omega arith)), goes_as stop (n + 1) (appended settings a b) q.0 bs (n + 1 + length bs) (n + length (b ∷ bs)) (sym e) q.1))

  -- the last of them does not fit
  fills_last : (stop : Option Stop) (n : ℕ) (a : Archive) (bs : List (List (List ℕ))) → AllRead (records_in bs) → Fit settings.most (length a.rows) (answered_batches kept.Full bs) → NotPast stop (n + kept_count (answered_batches kept.Full bs)) → 0 < length bs
      → (b : Archive) × Keeps settings stop n a bs (Keeping.Fills b)
  fills_last stop n a [] read fit before some = absurd (omega (arith, some))
  fills_last stop n a (b ∷ []) read fit before some = (a, inr (inl (fills stop n a b (read_front b [] read) fit, refl, refl)))
  fills_last stop n a (b ∷ c ∷ bs) read fit before some =
      let one = read_front b (records_in (c ∷ bs)) read in
      let all = kept_count (answered_batches kept.Full (b ∷ c ∷ bs)) in
      let e : n + kept_count (answered_batches kept.Full (b ∷ c ∷ bs)) ≡ n + 1 + kept_count (answered_batches kept.Full (c ∷ bs)) = omega arith in
      let q = fills_last stop (n + 1) (appended settings a b) (c ∷ bs) (read_back b (records_in (c ∷ bs)) read) (subst (λ (m : ℕ). Fit settings.most m (answered_batches kept.Full (c ∷ bs))) (sym (with_length a b one)) fit.1) (subst (NotPast stop) e before) (omega arith) in
      (q.0, inl (appended settings a b, stores stop n a b one fit.0 (clear stop (n + all) n before (omega arith)), q.1))

  -- a stop comes within the last of them
  breaks_last : (stop : Option Stop) (n : ℕ) (a : Archive) (bs : List (List (List ℕ))) → AllRead (records_in bs) → Fit settings.most (length a.rows) (answered_batches kept.DiskFault bs) → ComesAt stop (n + kept_count (answered_batches kept.DiskFault bs)) → 0 < length bs
      → (b : Archive) × (c : Archive) × Keeps settings stop n a bs (Keeping.Breaks b c)
  breaks_last None n a bs read fit at some = absurd at
  breaks_last (Some s) n a [] read fit at some = absurd (omega (arith, some))
  breaks_last (Some s) n a (b ∷ []) read fit at some =
      (a, stopped settings s n a b, inr (inr (stopped settings s n a b, stops s n a b (read_front b [] read) fit (at ∙ (let e : n + 0 ≡ n = omega arith in e)), refl, refl)))
  breaks_last (Some s) n a (b ∷ c ∷ bs) read fit at some =
      let one = read_front b (records_in (c ∷ bs)) read in
      let e : n + kept_count (answered_batches kept.DiskFault (b ∷ c ∷ bs)) ≡ n + 1 + kept_count (answered_batches kept.DiskFault (c ∷ bs)) = omega arith in
      let q = breaks_last (Some s) (n + 1) (appended settings a b) (c ∷ bs) (read_back b (records_in (c ∷ bs)) read) (subst (λ (m : ℕ). Fit settings.most m (answered_batches kept.DiskFault (c ∷ bs))) (sym (with_length a b one)) fit.1) (at ∙ e) (omega arith) in
      (q.0, q.1, inl (appended settings a b, stores (Some s) n a b one fit.0 (clear (Some s) (n + 1) n (omega (arith, at)) (omega arith)), q.2))

last_joined : (xs ys : List (List ℕ)) (before : Option CivilMinute) → stamps.last_stamp stamp_in (xs ++ ys) before ≡ stamps.last_stamp stamp_in ys (stamps.last_stamp stamp_in xs before)
last_joined [] ys before = refl
last_joined (x ∷ xs) ys before = last_joined xs ys _

kept_last : (bs : List (List (List ℕ))) (before : Option CivilMinute) → last_kept (kept_all bs) before ≡ stamps.last_stamp stamp_in (records_in bs) before
kept_last [] before = refl
kept_last (b ∷ bs) before = kept_last bs (stamps.last_stamp stamp_in b before) ∙ sym (last_joined b (records_in bs) before)

-- an attempt after which a round goes on failed
pub none_end : (e : DumpEnd) → end_after e ≡ None → (trouble : _) × (e ≡ dump_end.Failed trouble)
none_end (dump_end.Failed trouble) h = (trouble, refl)
none_end dump_end.Whole h = cc
none_end dump_end.Full h = cc
none_end dump_end.Stale h = cc
none_end dump_end.DiskFault h = cc
none_end dump_end.Flood h = cc
none_end dump_end.LinkFault h = cc
none_end dump_end.OutOfMemory h = cc

some_bs : (a : Stored) (bs : List (List (List ℕ))) → last_answer (answered_batches a bs) ≡ a → ((a ≡ kept.Full) ⊎ (a ≡ kept.DiskFault)) → 0 < length bs
some_bs a [] h (inl e) = let q : kept.Done ≡ kept.Full = h ∙ e in absurd cc
some_bs a [] h (inr e) = let q : kept.Done ≡ kept.DiskFault = h ∙ e in absurd cc
some_bs a (b ∷ bs) h k = omega arith

abbrev count_in : ℕ → Keeping → ℕ
count_in d (Keeping.Goes m b) = m
count_in d (Keeping.Fills b) = d
count_in d (Keeping.Breaks b c) = d

abbrev archive_in : Archive → Keeping → Archive
archive_in d (Keeping.Goes m b) = b
archive_in d (Keeping.Fills b) = d
archive_in d (Keeping.Breaks b c) = d

abbrev filled_in : Archive → Keeping → Archive
filled_in d (Keeping.Goes m b) = d
filled_in d (Keeping.Fills b) = b
filled_in d (Keeping.Breaks b c) = d

abbrev broken_in : Archive → Keeping → Archive
broken_in d (Keeping.Goes m b) = d
broken_in d (Keeping.Fills b) = d
broken_in d (Keeping.Breaks b c) = c

-- what the keeper of a run leaves is what is left of these batches
goes_left : (settings : StationSettings) (stop : Option Stop) (n m : ℕ) (a b : Archive) (bs : List (List (List ℕ))) (rest : Handed) → Keeps settings stop n a bs (Keeping.Goes m b) → archive_left_after settings stop n a (join (kept_all bs) rest) ≡ archive_left_after settings stop m b rest
goes_left settings stop n m a b [] rest h =
    let e1 : m ≡ n = ap (count_in n) h in
    let e2 : b ≡ a = ap (archive_in a) h in
    ap (λ z. archive_left_after settings stop z a rest) (sym e1) ∙ ap (λ z. archive_left_after settings stop m z rest) (sym e2)
goes_left settings stop n m a b (x ∷ bs) rest (inl (c, is, again)) =
    ap (λ z. archive_left_after settings stop (n + 1) z (join (kept_all bs) rest)) (sym (stored_is settings stop n a c x is)) ∙ goes_left settings stop (n + 1) m c b bs rest again
goes_left settings stop n m a b (x ∷ bs) rest (inr (inl (is, none, k))) = absurd cc
goes_left settings stop n m a b (x ∷ bs) rest (inr (inr (c, is, none, k))) = absurd cc

fills_left : (settings : StationSettings) (stop : Option Stop) (n : ℕ) (a b : Archive) (bs : List (List (List ℕ))) → Keeps settings stop n a bs (Keeping.Fills b) → archive_left_after settings stop n a (answered_batches kept.Full bs) ≡ b
fills_left settings stop n a b [] h = absurd cc
fills_left settings stop n a b (x ∷ []) (inl (c, is, again)) = absurd cc
fills_left settings stop n a b (x ∷ y ∷ bs) (inl (c, is, again)) =
    ap (λ z. archive_left_after settings stop (n + 1) z (answered_batches kept.Full (y ∷ bs))) (sym (stored_is settings stop n a c x is)) ∙ fills_left settings stop (n + 1) c b (y ∷ bs) again
fills_left settings stop n a b (x ∷ []) (inr (inl (is, none, k))) = sym (ap (filled_in a) k)
fills_left settings stop n a b (x ∷ y ∷ bs) (inr (inl (is, none, k))) = absurd cc
fills_left settings stop n a b (x ∷ bs) (inr (inr (c, is, none, k))) = absurd cc

breaks_left : (settings : StationSettings) (stop : Option Stop) (n : ℕ) (a b c : Archive) (bs : List (List (List ℕ))) → Keeps settings stop n a bs (Keeping.Breaks b c) → archive_left_after settings stop n a (answered_batches kept.DiskFault bs) ≡ c
breaks_left settings stop n a b c [] h = absurd cc
breaks_left settings stop n a b c (x ∷ []) (inl (d, is, again)) = absurd cc
breaks_left settings stop n a b c (x ∷ y ∷ bs) (inl (d, is, again)) =
    ap (λ z. archive_left_after settings stop (n + 1) z (answered_batches kept.DiskFault (y ∷ bs))) (sym (stored_is settings stop n a d x is)) ∙ breaks_left settings stop (n + 1) d b c (y ∷ bs) again
breaks_left settings stop n a b c (x ∷ bs) (inr (inl (is, none, k))) = absurd cc
breaks_left settings stop n a b c (x ∷ []) (inr (inr (d, is, none, k))) = stops_as stop n a d x is ∙ sym (ap (broken_in a) k)
  where
    stops_as : (stop : Option Stop) (n : ℕ) (a d : Archive) (x : List (List ℕ)) → answer settings stop n a x ≡ Answer.Stops d → stop_left settings stop n a x ≡ d
    stops_as None n a d x h = absurd (let q = stop_of settings None n a d x h in none_stops n a d x h)
      where
        none_stops : (n : ℕ) (a d : Archive) (x : List (List ℕ)) → answer settings None n a x ≡ Answer.Stops d → ⊥
        none_stops n a d x h = by_full (nat_lt settings.most (length (with_batch settings a x))) h
          where
            by_full : (t : _) → answer_by t None settings n a x ≡ Answer.Stops d → ⊥
            by_full true q = cc
            by_full false q = cc
    stops_as (Some s) n a d x h = by_full (nat_lt settings.most (length (with_batch settings a x))) (batches_before s.change == n) h
      where
        by_full : (t u : _) → answer_by t (if u then Some s else None) settings n a x ≡ Answer.Stops d → stopped settings s n a x ≡ d
        by_full true u q = absurd cc
        by_full false false q = absurd cc
        by_full false true q = cc
breaks_left settings stop n a b c (x ∷ y ∷ bs) (inr (inr (d, is, none, k))) = absurd cc

the_stop : (stop : Option Stop) (k : ℕ) → ComesAt stop k → (s : Stop) × (stop ≡ Some s) × (batches_before s.change ≡ k)
the_stop None k h = absurd h
the_stop (Some s) k h = (s, refl, h)

pub said_one : (f : FatesByNumber) (t : MadeAttempt) (w v : Line) → console_talk f (all_said (t ∷ [])) w ≡ Some v → console_talk f t.said w ≡ Some v
said_one f t w v g = ap (λ z. console_talk f z w) (sym (append-nil t.said)) ∙ g

module _ (settings : StationSettings) (f : FatesByNumber) (stop : Option Stop) where
  rows_long : (rows after : List Row) (xs : List (List ℕ)) → AllRead xs → after ≡ rows ++ stored_rows settings xs → length after ≡ length rows + length xs
  rows_long rows after xs read is = ap length is ∙ length-append rows (stored_rows settings xs) ∙ ap (λ x. length rows + x) (same_count settings xs read)

  kept_one : (last : Option CivilMinute) (t : MadeAttempt) (e : DumpEnd) → t.end ≡ e → kept_records (all_batches last (t ∷ [])) ≡ records_in (kept_batches e (batches last t.place t.taken))
  kept_one last t e is = ap kept_records (join_none (batches_in last t)) ∙ kept_by_end t.end (batches last t.place t.taken) ∙ ap (λ x. records_in (kept_batches x (batches last t.place t.taken))) is

  -- all batches of an attempt were kept that refused none
  kept_as : (last : Option CivilMinute) (t : MadeAttempt) (e : DumpEnd) → t.end ≡ e → outcome.keeper_answer e ≡ kept.Done → batches_in last t ≡ kept_all (batches last t.place t.taken)
  kept_as last t e is done =
      ap (λ (x : DumpEnd). answered_batches (outcome.keeper_answer x) (batches last t.place t.taken)) is ∙ ap (λ (x : Stored). answered_batches x (batches last t.place t.taken)) done ∙ kept_answered (batches last t.place t.taken)

  -- and counted
  all_counted : (last : Option CivilMinute) (t : MadeAttempt) → batches_in last t ≡ kept_all (batches last t.place t.taken) → kept_count (batches_in last t) ≡ length (batches last t.place t.taken)
  all_counted last t all = ap kept_count all ∙ ap length (kept_in_all (batches last t.place t.taken))

  -- the batches of an attempt with this end
  fit_as : (most held : ℕ) (last : Option CivilMinute) (t : MadeAttempt) (e : DumpEnd) → t.end ≡ e → Fit most held (batches_in last t) → Fit most held (answered_batches (outcome.keeper_answer e) (batches last t.place t.taken))
  fit_as most held last t e is h = subst (λ (x : DumpEnd). Fit most held (answered_batches (outcome.keeper_answer x) (batches last t.place t.taken))) is h

  count_as : (last : Option CivilMinute) (t : MadeAttempt) (e : DumpEnd) → t.end ≡ e → kept_count (batches_in last t) ≡ kept_count (answered_batches (outcome.keeper_answer e) (batches last t.place t.taken))
  count_as last t e is = ap (λ (x : DumpEnd). kept_count (answered_batches (outcome.keeper_answer x) (batches last t.place t.taken))) is

  some_of : (last : Option CivilMinute) (t : MadeAttempt) (e : DumpEnd) → IsMadeAfter last t → t.end ≡ e → ((outcome.keeper_answer e ≡ kept.Full) ⊎ (outcome.keeper_answer e ≡ kept.DiskFault)) → 0 < length (batches last t.place t.taken)
  some_of last t e attempt is k =
      some_bs (outcome.keeper_answer e) (batches last t.place t.taken)
      (subst (λ (x : DumpEnd). last_answer (answered_batches (outcome.keeper_answer x) (batches last t.place t.taken)) ≡ outcome.keeper_answer x) is (last_in last t attempt)) k

  left_one : (m : ℕ) (a : Archive) (last : Option CivilMinute) (t : MadeAttempt) (e : DumpEnd) → t.end ≡ e → archive_left_after settings stop m a (all_batches last (t ∷ [])) ≡ archive_left_after settings stop m a (answered_batches (outcome.keeper_answer e) (batches last t.place t.taken))
  left_one m a last t e is = ap (archive_left_after settings stop m a) (join_none (batches_in last t)) ∙ ap (λ (x : DumpEnd). archive_left_after settings stop m a (answered_batches (outcome.keeper_answer x) (batches last t.place t.taken))) is

  -- these attempts of a session, so many made and so many batches stored before them, as the laws of a run take them
  record Served (n stored : ℕ) (a : Archive) (w : Line) (ts : List MadeAttempt) (end : RoundEnd) (v : Line) : Type 0 where
    tried : List LineAttempt
    ending : Ending
    kept : Archive
    left : Archive
    tries : Tries settings f stop n stored a w tried ending kept left v
    made : made_attempts tried ≡ ts
    left_is : left ≡ archive_left_after settings stop stored a (all_batches (last_row_stamp a.rows) ts)
    rows : kept.rows ≡ a.rows ++ stored_rows settings (kept_records (all_batches (last_row_stamp a.rows) ts))
    ends : RoundEndsAs stop end ending
    told : AreLineAttempts settings f a.rows w tried left.rows v

  -- the last attempt of a round, by its end
  last_round : (n m : ℕ) (a : Archive) (w v : Line) (t : MadeAttempt) (end : RoundEnd) (e : DumpEnd) → n < most_attempts → IsMadeAfter (last_row_stamp a.rows) t → t.end ≡ e → end_after e ≡ Some end → Fit settings.most (length a.rows) (batches_in (last_row_stamp a.rows) t) → ConsoleTalk f t.said w v
      → IsKnown end → NotPast stop (m + kept_count (batches_in (last_row_stamp a.rows) t)) → (end ≡ round_end.DiskFault → ComesAt stop (m + kept_count (batches_in (last_row_stamp a.rows) t))) → Served n m a w (t ∷ []) end v
  last_round n m a w v t end (dump_end.Failed trouble) less attempt is ends fit g known before at = absurd (let y : None ≡ Some end = ends in cc)
  last_round n m a w v t end dump_end.Stale less attempt is ends fit g known before at = absurd (subst IsKnown (sym (same_Some round_end.Stale end ends)) known)
  last_round n m a w v t end dump_end.Flood less attempt is ends fit g known before at = absurd (subst IsKnown (sym (same_Some round_end.Flood end ends)) known)
  last_round n m a w v t end dump_end.LinkFault less attempt is ends fit g known before at = absurd (subst IsKnown (sym (same_Some round_end.LinkFault end ends)) known)
  last_round n m a w v t end dump_end.OutOfMemory less attempt is ends fit g known before at = absurd (subst IsKnown (sym (same_Some round_end.OutOfMemory end ends)) known)
  last_round n m a w v t end dump_end.Whole less attempt is ends fit g known before at =
      let bs = batches (last_row_stamp a.rows) t.place t.taken in
      let all = kept_as (last_row_stamp a.rows) t dump_end.Whole is refl in
      let q = goes settings stop m a bs (batches_read (last_row_stamp a.rows) t.place t.taken) (subst (λ (h : Handed). Fit settings.most (length a.rows) h) all fit) (subst (λ (z : ℕ). NotPast stop (m + z)) (all_counted (last_row_stamp a.rows) t all) before) in
      let p = keeps_part settings stop m a bs (Keeping.Goes (m + length bs) q.0) q.1 in
      let x = attempted_by f a.rows q.0.rows w v t attempt g (grown a.rows q.0.rows (stored_rows settings (records_in bs)) p.0) in
      record {
        tried = x.0 ∷ [];
        ending = Ending.Ok;
        kept = q.0;
        left = q.0;
        tries = (less, (v, q.0, x.1, inr (inl (m + length bs, subst (λ z. Keeps settings stop m a z (Keeping.Goes (m + length bs) q.0)) (sym x.2) q.1, ap (λ y. y.end) x.3 ∙ is, refl, refl, refl, refl, refl))));
        made = ap (λ y. y ∷ []) x.3;
        left_is = sym (ap (λ (h : Handed). archive_left_after settings stop m a (join h Handed.Nothing)) all ∙ goes_left settings stop m (m + length bs) a q.0 bs Handed.Nothing q.1);
        rows = p.0 ∙ ap (λ z. a.rows ++ stored_rows settings z) (sym (kept_one (last_row_stamp a.rows) t dump_end.Whole is));
        ends = subst (λ z. RoundEndsAs stop z Ending.Ok) (same_Some round_end.Done end ends) refl;
        told = (q.0.rows, v, x.1.over, (λ no. absurd (no refl)), (refl, refl));
      }
  last_round n m a w v t end dump_end.Full less attempt is ends fit g known before at =
      let bs = batches (last_row_stamp a.rows) t.place t.taken in
      let c = count_as (last_row_stamp a.rows) t dump_end.Full is in
      let q = fills_last settings stop m a bs (batches_read (last_row_stamp a.rows) t.place t.taken) (fit_as settings.most (length a.rows) (last_row_stamp a.rows) t dump_end.Full is fit) (subst (λ (z : ℕ). NotPast stop (m + z)) c before)
      (some_of (last_row_stamp a.rows) t dump_end.Full attempt is (inl refl)) in
      let p = keeps_part settings stop m a bs (Keeping.Fills q.0) q.1 in
      let x = attempted_by f a.rows q.0.rows w v t attempt g (grown a.rows q.0.rows (stored_rows settings (records_in (but_last bs))) p.0) in
      record {
        tried = x.0 ∷ [];
        ending = Ending.Full;
        kept = q.0;
        left = q.0;
        tries = (less, (v, q.0, x.1, inr (inr (inl (subst (λ z. Keeps settings stop m a z (Keeping.Fills q.0)) (sym x.2) q.1, ap (λ y. y.end) x.3 ∙ is, refl, refl, refl, refl, refl)))));
        made = ap (λ y. y ∷ []) x.3;
        left_is = sym (left_one m a (last_row_stamp a.rows) t dump_end.Full is ∙ fills_left settings stop m a q.0 bs q.1);
        rows = p.0 ∙ ap (λ z. a.rows ++ stored_rows settings z) (sym (kept_one (last_row_stamp a.rows) t dump_end.Full is));
        ends = subst (λ z. RoundEndsAs stop z Ending.Full) (same_Some round_end.ArchiveFull end ends) refl;
        told = (q.0.rows, v, x.1.over, (λ no. absurd (no refl)), (refl, refl));
      }
  last_round n m a w v t end dump_end.DiskFault less attempt is ends fit g known before at =
      let bs = batches (last_row_stamp a.rows) t.place t.taken in
      let c = count_as (last_row_stamp a.rows) t dump_end.DiskFault is in
      let fault : round_end.DiskFault ≡ end = same_Some round_end.DiskFault end ends in
      let s = the_stop stop (m + kept_count (answered_batches kept.DiskFault bs)) (subst (λ (z : ℕ). ComesAt stop (m + z)) c (at (sym fault))) in
      let q = breaks_last settings stop m a bs (batches_read (last_row_stamp a.rows) t.place t.taken) (fit_as settings.most (length a.rows) (last_row_stamp a.rows) t dump_end.DiskFault is fit) (subst (λ (z : ℕ). ComesAt stop (m + z)) c (at (sym fault)))
      (some_of (last_row_stamp a.rows) t dump_end.DiskFault attempt is (inr refl)) in
      let p = keeps_part settings stop m a bs (Keeping.Breaks q.0 q.1) q.2 in
      let kept_less = grown a.rows q.0.rows (stored_rows settings (records_in (but_last bs))) p.kept in
      let l : length a.rows ≤ length q.1.rows = elim p.after [ inl z ↦ omega (arith, kept_less, ap length z) | inr z ↦ grown a.rows q.1.rows (stored_rows settings (records_in bs)) z ] in
      let x = attempted_by f a.rows q.1.rows w v t attempt g l in
      let end_is : EndsStopped stop (Ending.Stopped s.0.change) = subst (λ z. EndsStopped z (Ending.Stopped s.0.change)) (sym s.1) refl in
      record {
        tried = x.0 ∷ [];
        ending = Ending.Stopped s.0.change;
        kept = q.0;
        left = q.1;
        tries = (less, (v, q.1, x.1, inr (inr (inr (subst (λ z. Keeps settings stop m a z (Keeping.Breaks q.0 q.1)) (sym x.2) q.2, ap (λ y. y.end) x.3 ∙ is, refl, end_is, refl, refl)))));
        made = ap (λ y. y ∷ []) x.3;
        left_is = sym (left_one m a (last_row_stamp a.rows) t dump_end.DiskFault is ∙ breaks_left settings stop m a q.0 q.1 bs q.2);
        rows = p.kept ∙ ap (λ z. a.rows ++ stored_rows settings z) (sym (kept_one (last_row_stamp a.rows) t dump_end.DiskFault is));
        ends = subst (λ z. RoundEndsAs stop z (Ending.Stopped s.0.change)) fault end_is;
        told = (q.1.rows, v, x.1.over, (λ no. absurd (no refl)), (refl, refl));
      }

  -- what a failed attempt keeps
  pub record Went (m : ℕ) (a : Archive) (w u : Line) (t : MadeAttempt) : Type 0 where
    pub b : Archive
    pub count : ℕ
    pub counts : count ≡ m + length (batches (last_row_stamp a.rows) t.place t.taken)
    pub x : LineAttempt
    pub is_attempted : IsMadeOver f a.rows w x b.rows u
    pub keeps : Keeps settings stop m a x.batches (Keeping.Goes count b)
    pub failed : (trouble : _) × (x.made.end ≡ dump_end.Failed trouble)
    pub is_made : x.made ≡ t
    pub rows : b.rows ≡ a.rows ++ stored_rows settings (records_in (batches (last_row_stamp a.rows) t.place t.taken))
    pub long : length a.rows + length (records_in (batches (last_row_stamp a.rows) t.place t.taken)) ≡ length b.rows
    pub stamp : stamp_after (last_row_stamp a.rows) t ≡ last_row_stamp b.rows
    pub goes_on : (rest : Handed) → archive_left_after settings stop m a (join (kept_all (batches (last_row_stamp a.rows) t.place t.taken)) rest) ≡ archive_left_after settings stop count b rest

  pub went : (m : ℕ) (a : Archive) (w u : Line) (t : MadeAttempt) → IsMadeAfter (last_row_stamp a.rows) t → end_after t.end ≡ None → Fit settings.most (length a.rows) (kept_all (batches (last_row_stamp a.rows) t.place t.taken)) → NotPast stop (m + length (batches (last_row_stamp a.rows) t.place t.taken)) → ConsoleTalk f t.said w u → Went m a w u t
  went m a w u t attempt none fit before g =
      let bs = batches (last_row_stamp a.rows) t.place t.taken in
      let e = none_end t.end none in
      let read = batches_read (last_row_stamp a.rows) t.place t.taken in
      let q = goes settings stop m a bs read fit before in
      let p = keeps_part settings stop m a bs (Keeping.Goes (m + length bs) q.0) q.1 in
      let x = attempted_by f a.rows q.0.rows w u t attempt g (grown a.rows q.0.rows (stored_rows settings (records_in bs)) p.0) in
      record {
        b = q.0;
        count = m + length bs;
        counts = refl;
        x = x.0;
        is_attempted = x.1;
        keeps = subst (λ z. Keeps settings stop m a z (Keeping.Goes (m + length bs) q.0)) (sym x.2) q.1;
        failed = (e.0, ap (λ y. y.end) x.3 ∙ e.1);
        is_made = x.3;
        rows = p.0;
        long = sym (rows_long a.rows q.0.rows (records_in bs) read p.0);
        stamp = ap (λ (h : Handed). last_kept h (last_row_stamp a.rows)) (went_on (last_row_stamp a.rows) t none) ∙ kept_last bs (last_row_stamp a.rows) ∙ sym (last_with settings a.rows (records_in bs) read) ∙ ap last_row_stamp (sym p.0);
        goes_on = λ rest. goes_left settings stop m (m + length bs) a q.0 bs rest q.1;
      }

  serves_round : (n m : ℕ) (a : Archive) (w v : Line) (ts : List MadeAttempt) (end : RoundEnd) → AreAttempts n (last_row_stamp a.rows) ts end → Fit settings.most (length a.rows) (all_batches (last_row_stamp a.rows) ts) → ConsoleTalk f (all_said ts) w v
      → IsKnown end → NotPast stop (m + kept_count (all_batches (last_row_stamp a.rows) ts)) → (end ≡ round_end.DiskFault → ComesAt stop (m + kept_count (all_batches (last_row_stamp a.rows) ts))) → Served n m a w ts end v
  serves_round n m a w v [] round_end.Done (inl (none, ends)) fit g known before at = absurd ends
  serves_round n m a w v [] round_end.GaveUp (inl (none, ends)) fit g known before at = absurd ends
  serves_round n m a w v [] round_end.LinkFault (inl (none, ends)) fit g known before at = absurd ends
  serves_round n m a w v [] round_end.DiskFault (inl (none, ends)) fit g known before at = absurd ends
  serves_round n m a w v [] round_end.Flood (inl (none, ends)) fit g known before at = absurd ends
  serves_round n m a w v [] round_end.ArchiveFull (inl (none, ends)) fit g known before at = absurd ends
  serves_round n m a w v [] round_end.Stale (inl (none, ends)) fit g known before at = absurd known
  serves_round n m a w v [] round_end.OutOfMemory (inl (none, ends)) fit g known before at = absurd known
  serves_round n m a w v [] end (inr (three, gave)) fit g known before at = record {
    tried = [];
    ending = Ending.GaveUp;
    kept = a;
    left = a;
    tries = (three, refl, refl, refl, sym (same_Some w v g));
    made = refl;
    left_is = refl;
    rows = sym (append-nil a.rows);
    ends = subst (λ z. RoundEndsAs stop z Ending.GaveUp) (sym gave) refl;
    told = (refl, sym (same_Some w v g));
  }
  serves_round n m a w v (t ∷ ts) end (less, attempt, inr (ends, none)) fit g known before at =
      subst (λ z. Served n m a w (t ∷ z) end v) (sym none)
      (last_round n m a w v t end t.end less attempt refl ends
      (subst (λ z. Fit settings.most (length a.rows) z) one fit)
      (said_one f t w v (ap (λ z. console_talk f (all_said (t ∷ z)) w) (sym none) ∙ g)) known
      (subst (λ z. NotPast stop (m + kept_count z)) one before) (λ e. subst (λ z. ComesAt stop (m + kept_count z)) one (at e)))
    where
      one : all_batches (last_row_stamp a.rows) (t ∷ ts) ≡ batches_in (last_row_stamp a.rows) t
      one = ap (λ z. all_batches (last_row_stamp a.rows) (t ∷ z)) none ∙ join_none (batches_in (last_row_stamp a.rows) t)
  serves_round n m a w v (t ∷ ts) end (less, attempt, inl (none, more)) fit g known before at =
      let bs = batches (last_row_stamp a.rows) t.place t.taken in
      let rest = all_batches (stamp_after (last_row_stamp a.rows) t) ts in
      let all : all_batches (last_row_stamp a.rows) (t ∷ ts) ≡ join (kept_all bs) rest = ap (λ (h : Handed). join h rest) (went_on (last_row_stamp a.rows) t none) in
      let parts = fit_parts settings.most (length a.rows) bs rest (subst (λ (h : Handed). Fit settings.most (length a.rows) h) all fit) in
      let count = ap kept_count all ∙ count_parts bs rest in
      let p = talks_part f t.said (all_said ts) w v g in
      let o = went m a w p.0 t attempt none parts.0 (not_past_less stop (m + kept_count (all_batches (last_row_stamp a.rows) (t ∷ ts))) (m + length bs) before (omega (arith, count))) p.1 in
      let same : m + kept_count (all_batches (last_row_stamp a.rows) (t ∷ ts)) ≡ o.count + kept_count (all_batches (last_row_stamp o.b.rows) ts)
      = omega (arith, count, o.counts, ap (λ z. kept_count (all_batches z ts)) o.stamp) in
      let y = serves_round (n + 1) o.count o.b p.0 v ts end
      (subst (λ z. AreAttempts (n + 1) z ts end) o.stamp more)
      (subst (λ z. Fit settings.most (length o.b.rows) (all_batches z ts)) o.stamp (subst (λ (z : ℕ). Fit settings.most z rest) o.long parts.1))
      p.2 known (subst (NotPast stop) same before) (λ e. subst (ComesAt stop) same (at e)) in
      record {
        tried = o.x ∷ y.tried;
        ending = y.ending;
        kept = y.kept;
        left = y.left;
        tries = (less, (p.0, o.b, o.is_attempted, inl (o.count, o.keeps, o.failed, y.tries)));
        made = ap (λ z. z ∷ made_attempts y.tried) o.is_made ∙ ap (λ z. t ∷ z) y.made;
        left_is = y.left_is ∙ ap (λ z. archive_left_after settings stop o.count o.b (all_batches z ts)) (sym o.stamp) ∙ sym (o.goes_on rest) ∙ ap (archive_left_after settings stop m a) (sym all);
        rows = y.rows ∙ ap (λ z. z ++ stored_rows settings (kept_records (all_batches (last_row_stamp o.b.rows) ts))) o.rows
            ∙ append_assoc a.rows (stored_rows settings (records_in bs)) (stored_rows settings (kept_records (all_batches (last_row_stamp o.b.rows) ts)))
            ∙ ap (λ z. a.rows ++ z) (sym (stored_append settings (records_in bs) (kept_records (all_batches (last_row_stamp o.b.rows) ts))))
            ∙ ap (λ z. a.rows ++ stored_rows settings (records_in bs ++ kept_records (all_batches z ts))) (sym o.stamp)
            ∙ ap (λ z. a.rows ++ stored_rows settings z) (sym (ap kept_records all ∙ kept_append bs rest));
        ends = y.ends;
        told = (o.b.rows, p.0, o.is_attempted.over, (λ some. (keeps_part settings stop m a o.x.batches (Keeping.Goes o.count o.b) o.keeps).0), y.told);
      }

  -- a session's round as the laws of a run take it
  session_serves : (a : Archive) (w v : Line) (ts : List MadeAttempt) (end : RoundEnd) → AreAttempts 0 (last_row_stamp a.rows) ts end → Fit settings.most (length a.rows) (all_batches (last_row_stamp a.rows) ts) → ConsoleTalk f (all_said ts) w v
      → IsKnown end → RoundStopsAt stop end (kept_count (all_batches (last_row_stamp a.rows) ts)) → Served 0 0 a w ts end v
  session_serves a w v ts end attempts fit g known at =
      let z : kept_count (all_batches (last_row_stamp a.rows) ts) ≡ 0 + kept_count (all_batches (last_row_stamp a.rows) ts) = omega arith in
      serves_round 0 0 a w v ts end attempts fit g known (subst (NotPast stop) z at.before) (λ e. subst (ComesAt stop) z (at.at e))

  pub session_law : (a : Archive) (w v : Line) (ts : List MadeAttempt) (end : RoundEnd) → AreAttempts 0 (last_row_stamp a.rows) ts end → Fit settings.most (length a.rows) (all_batches (last_row_stamp a.rows) ts) → ConsoleTalk f (all_said ts) w v
      → IsKnown end → RoundStopsAt stop end (kept_count (all_batches (last_row_stamp a.rows) ts)) → AreRound settings f stop a w ts end v
  session_law a w v ts end attempts fit g known at =
      let y = session_serves a w v ts end attempts fit g known at in
      record { tried = y.tried; made = y.made; told = subst (λ (x : Archive). AreLineAttempts settings f a.rows w y.tried x.rows v) y.left_is y.told; ending = y.ending; ends = y.ends }

  pub known_end : (end : RoundEnd) (x : Ending) → RoundEndsAs stop end x → IsKnown end
  known_end round_end.Done x h = tt
  known_end round_end.GaveUp x h = tt
  known_end round_end.ArchiveFull x h = tt
  known_end round_end.DiskFault x h = tt
  known_end round_end.LinkFault x h = h
  known_end round_end.Flood x h = h
  known_end round_end.Stale x h = h
  known_end round_end.OutOfMemory x h = h

  stopped_same : (s : Option Stop) (x y : Ending) → EndsStopped s x → EndsStopped s y → x ≡ y
  stopped_same None x y h k = absurd h
  stopped_same (Some s) x y h k = h ∙ sym k

  pub ends_same : (end : RoundEnd) (x y : Ending) → RoundEndsAs stop end x → RoundEndsAs stop end y → x ≡ y
  ends_same round_end.Done x y h k = h ∙ sym k
  ends_same round_end.GaveUp x y h k = h ∙ sym k
  ends_same round_end.ArchiveFull x y h k = h ∙ sym k
  ends_same round_end.DiskFault x y h k = stopped_same stop x y h k
  ends_same round_end.LinkFault x y h k = absurd h
  ends_same round_end.Flood x y h k = absurd h
  ends_same round_end.Stale x y h k = absurd h
  ends_same round_end.OutOfMemory x y h k = absurd h

  all_talk : (rows left : List Row) (w v : Line) (ts : List LineAttempt) → AreLineAttempts settings f rows w ts left v → ConsoleTalk f (all_said (made_attempts ts)) w v
  all_talk rows left w v [] (l, is) = ap (λ (u : Line). Some u) (sym is)
  all_talk rows left w v (t ∷ ts) (after, u, k, more, rest) = talks_join f t.made.said (all_said (made_attempts ts)) w u v k.talks (all_talk after left u v ts rest)

  -- the talk of a round
  pub round_talk : (left : ℕ → List (List ℕ)) (s u : Stage) (x : Rounded) → (k : IsRound settings f left stop s x u) → ConsoleTalk f (all_said (made_attempts x.tried)) (started s.line) k.line
  round_talk left s u x k = all_talk s.archive.rows _ (started s.line) k.line x.tried k.told

  -- a round of a run, attempt by attempt
  pub record Followed (left : ℕ → List (List ℕ)) (s : Stage) (r : Rounded) (u : Stage) : Type 0 where
    pub kept : Archive
    pub archive : Archive
    pub line : Line
    pub tries : Tries settings f stop 0 0 s.archive (started s.line) r.tried r.end kept archive line
    pub seen : line.unseen ≡ None
    pub before_is : r.before ≡ s.archive.rows
    pub kept_is : r.kept ≡ kept.rows
    pub rows_is : r.rows ≡ archive.rows
    pub written_is : r.written ≡ s.written
    pub next : u ≡ after_round (is_stop r.end) s archive (finished left line)

  pub followed : (left : ℕ → List (List ℕ)) (s : Stage) (r : Rounded) (u : Stage) → IsRound settings f left stop s r u → Followed left s r u
  followed left s r u k =
      let talk : ConsoleTalk f (all_said k.made) (started s.line) k.line = subst (λ (z : List MadeAttempt). ConsoleTalk f (all_said z) (started s.line) k.line) k.made_are (round_talk left s u r k) in
      let y = session_serves s.archive (started s.line) k.line k.made k.end k.attempts k.fits talk (known_end k.end r.end k.ends) k.stops in
      let told = subst (λ (x : Archive). AreLineAttempts settings f s.archive.rows (started s.line) y.tried x.rows k.line) y.left_is y.told in
      let same : y.tried ≡ r.tried = told_same settings f s.archive.rows _ (started s.line) k.line k.line y.tried r.tried told k.told (y.made ∙ sym k.made_are) in
      let ended : y.ending ≡ r.end = ends_same k.end y.ending r.end y.ends k.ends in
      record {
        kept = y.kept;
        archive = y.left;
        line = k.line;
        tries = subst (λ (z : List LineAttempt). Tries settings f stop 0 0 s.archive (started s.line) z r.end y.kept y.left k.line) same
            (subst (λ (z : Ending). Tries settings f stop 0 0 s.archive (started s.line) y.tried z y.kept y.left k.line) ended y.tries);
        seen = k.seen;
        before_is = ap (λ (z : Rounded). z.before) k.is;
        kept_is = ap (λ (z : Rounded). z.kept) k.is ∙ sym y.rows;
        rows_is = ap (λ (z : Rounded). z.rows) k.is ∙ ap (λ (z : Archive). z.rows) (sym y.left_is);
        written_is = ap (λ (z : Rounded). z.written) k.is;
        next = subst (λ (z : Archive). u ≡ after_round (is_stop r.end) s z (finished left k.line)) (sym y.left_is) k.next;
      }
