-- What one turn of a round comes to.
use Rattle.std.proofs.Common.{◌≡◌, ℕ, ◌+◌, ◌-◌, ◌*◌, ◌^◌, ◌<◌, ◌≤◌, Bool, false, inl, inr, List, [], ◌∷◌, ◌++◌, length, vec_len, vec_capacity, refl, sym, ◌∙◌, ap, subst, arith, length-append, Option, Some, None}
use Rattle.causes.specs.Cause.{Cause}
use Rattle.causes.specs.Stored.{stale_after}
use Rattle.causes.specs.declared.stored.Stored.{Stored}
use Rattle.causes.specs.declared.stored.Stored.TheVariants as stored
use Rattle.disk_model.specs.Disk.{BeginsChanges, Faults}
use Rattle.disk_model.specs.Medium.{Medium}
use Rattle.serial_link.specs.Traffic.{Traffic}
use Rattle.serial_link.proofs.GrownTalk.{adds_joins}
use Rattle.serial_link.specs.declared.talk.TalkItem.{TalkItem}
use Rattle.station_base.specs.CivilMinute.{CivilMinute}
use Rattle.weather_book.specs.Book.{last_stamp_of, spare, len_of}
use Rattle.dmpaft_pump.specs.Keeper.{Handed, kept_all, join, count, last_kept}
use Rattle.dmpaft_pump.specs.Pump.{AttemptState}
use Rattle.dmpaft_pump.specs.Shown.{PumpShows}
use Rattle.dmpaft_driver.specs.Standing.{gives}
use Rattle.dmpaft_pump.proofs.HandedBatches.{one_size, last_joins, count_kept}
use Rattle.dmpaft_pump.specs.declared.outcome.DumpEnd.{DumpEnd}
use Rattle.dmpaft_pump.specs.declared.outcome.DumpEnd.TheVariants as dump_end
use Rattle.dmpaft_pump.specs.declared.outcome.Tally.{Tally}
use Rattle.station_session.specs.declared.round.Round.{Round}
use Rattle.station_session.specs.declared.round.Turn.{Turn}
use Rattle.station_session.specs.declared.round.Turn.TheVariants as turn
use Rattle.station_session.specs.declared.round_end.RoundEnd.TheVariants as round_end
use Rattle.station_session.specs.Attempts.{stamp_behind, most_attempts}
use Rattle.station_session.specs.Batches.{last_answer}
use Rattle.station_session.specs.Fits.{RoundFits}
use Rattle.station_session.specs.Holding.{Holding, holding}
use Rattle.station_session.specs.OneBatch.{AddsBatch, Chain}
use Rattle.station_session.specs.Round.{RoundHost}
use Rattle.station_session.specs.RoundAt.{RoundAt, tally_of}
use Rattle.station_session.specs.Session.{session_settings, session_most_rows, held, session_is_stale}
use Rattle.station_session.specs.Stepping.{bench, StepsAttempt, RoundGoesOn, round_end_of}
use Rattle.station_session.specs.Turning.{RoundDesk, RoundTakesTurn, RoundTurnsTo, IsOneCallOrBatch, AnswersTurn, LeavesTurn, IsOneAtMost, stale_by as turn_stale}
use Rattle.station_session.proofs.BookAfter.{chain_last, chain_most, chain_faults, chain_begun, chain_moved, chain_stale, chain_rose, chain_never_stale}
use Rattle.station_session.proofs.Ends.{answer_at}
use Rattle.station_session.proofs.SoFar.{last_is, few_kept}
use Rattle.station_session.proofs.LastTurn.{chain_on, makes_round}
use Rattle.station_session.specs.UnderWay.{UnderWay, GoesOnFrom}
use Rattle.station_session.proofs.Turned.{kept_on, stays, tries_again, refuses, refused_batch, ends, no_batch, mild_end, link_fault, no_memory, no_link_end}
use Rattle.station_session.proofs.WholeRound.{same_book, stale_by}
use Rattle.station_session.specs.declared.limits.TheConstants.{MOST_BATCHES}

-- one batch at most was kept
few_more : (said : List TalkItem) (more : List (List (List ℕ))) → IsOneCallOrBatch said more → length more ≤ 1
few_more said more (inl (call, none)) = omega (arith, ap (λ (x : List (List (List ℕ))). length x) none)
few_more said more (inr (silent, rows, one)) = omega (arith, ap (λ (x : List (List (List ℕ))). length x) one)

-- one batch at most was given
few_given : (said : List TalkItem) (given : Handed) → IsOneAtMost said given → count given ≤ 1
few_given said given (inl none) = omega (arith, ap count none)
few_given said given (inr (silent, answer, rows, one)) = omega (arith, ap count one, one_size answer rows)

-- a turn: one step of the attempt, and what the round did then
pub record HasTurned {L D : Type 0} (traffic : Traffic L) (medium : Medium D) (end : Option DumpEnd) (result : Turn) (old new : RoundDesk L D) : Type 0 where
  pub fits : RoundFits old.session old.round old.report
  pub mid : Round
  pub steps : (start : Tally) (after : Option CivilMinute) (s : AttemptState) → PumpShows start after s old.round.pump
      → StepsAttempt traffic medium (session_settings old.session) end start after s (bench old.round.pump old.link (holding old.session.book old.disk old.report.marks.items))
      (bench mid.pump new.link (holding new.session.book new.disk new.report.marks.items))
  pub more : mid.more ≡ old.round.more
  pub noted : mid.troubles.items ≡ old.round.troubles.items
  pub goes : RoundGoesOn end result (last_stamp_of new.session.book) mid new.round
  pub attempts : new.report.attempts + new.round.more ≡ most_attempts
  pub tally : new.report.tally ≡ new.round.pump.tally
  pub troubles : new.report.troubles.items ≡ new.round.troubles.items
  pub capacity : vec_capacity old.report.marks ≤ vec_capacity new.report.marks
  pub settings : session_settings new.session ≡ session_settings old.session
  pub before : new.report.rows_before ≡ old.report.rows_before

-- by the calls of a turn
pub turned : {L D : Type 0} (traffic : Traffic L) (medium : Medium D) (old new : RoundDesk L D) (end : Option DumpEnd) (result : Turn) (mid : Round) (o : Option CivilMinute) → RoundFits old.session old.round old.report
    → ((start : Tally) (after : Option CivilMinute) (s : AttemptState) → PumpShows start after s old.round.pump
    → StepsAttempt traffic medium (session_settings old.session) end start after s (bench old.round.pump old.link (holding old.session.book old.disk old.report.marks.items))
    (bench mid.pump new.link (holding new.session.book new.disk new.report.marks.items)))
    → mid.more ≡ old.round.more → mid.troubles.items ≡ old.round.troubles.items → o ≡ last_stamp_of new.session.book → RoundGoesOn end result o mid new.round → new.report.attempts + new.round.more ≡ most_attempts → new.report.tally ≡ new.round.pump.tally
    → new.report.troubles.items ≡ new.round.troubles.items → vec_capacity old.report.marks ≤ vec_capacity new.report.marks → session_settings new.session ≡ session_settings old.session → new.report.rows_before ≡ old.report.rows_before → HasTurned traffic medium end result old new
turned traffic medium old new end result mid o fits steps more noted last goes attempts tally troubles capacity settings before = record {
  fits = fits;
  mid = mid;
  steps = steps;
  more = more;
  noted = noted;
  goes = subst (λ (x : Option CivilMinute). RoundGoesOn end result x mid new.round) last goes;
  attempts = attempts;
  tally = tally;
  troubles = troubles;
  capacity = capacity;
  settings = settings;
  before = before;
}

-- how the batch of a turn was answered
abbrev answer_by_turn : Turn → Stored
answer_by_turn turn.More = stored.Done
answer_by_turn (turn.Ended end) = answer_at end

-- of batches that were kept the last was
last_done : (kept : List (List (List ℕ))) → last_answer (kept_all kept) ≡ stored.Done
last_done [] = refl
last_done (rows ∷ kept) = last_done kept

-- one turn, the room that it took, and how its batch was answered
record Taken {L D : Type 0} (traffic : Traffic L) (medium : Medium D) (result : Turn) (last : Option CivilMinute) (talk : List TalkItem) (kept : List (List (List ℕ))) (old new : RoundDesk L D) : Type 0 where
  pub turn : RoundTakesTurn traffic medium result last talk kept old new
  pub spare : spare old.session.book ≤ spare new.session.book + 5 * count turn.given
  pub answered : last_answer turn.given ≡ answer_by_turn result

-- a turn answers a fault of the link, or its want of memory, as the step does
link_by : (end : Option DumpEnd) (result : Turn) (last : Option CivilMinute) (mid round : Round) → RoundGoesOn end result last mid round → result ≡ turn.Ended round_end.LinkFault → end ≡ Some dump_end.LinkFault
link_by end result last mid round goes e = by_end end (subst (λ (x : Turn). RoundGoesOn end x last mid round) e goes)
  where
    by_end : (end : Option DumpEnd) → RoundGoesOn end (turn.Ended round_end.LinkFault) last mid round → end ≡ Some dump_end.LinkFault
    by_end None g = absurd ((no_link_end g.1).0 g.3)
    by_end (Some d) g = let z : round_end_of d ≡ round_end.LinkFault = cc in ap (λ (x : DumpEnd). Some x) (link_fault d z)

memory_by : (end : Option DumpEnd) (result : Turn) (last : Option CivilMinute) (mid round : Round) → RoundGoesOn end result last mid round → result ≡ turn.Ended round_end.OutOfMemory → end ≡ Some dump_end.OutOfMemory
memory_by end result last mid round goes e = by_end end (subst (λ (x : Turn). RoundGoesOn end x last mid round) e goes)
  where
    by_end : (end : Option DumpEnd) → RoundGoesOn end (turn.Ended round_end.OutOfMemory) last mid round → end ≡ Some dump_end.OutOfMemory
    by_end None g = absurd ((no_link_end g.1).1 g.3)
    by_end (Some d) g = let z : round_end_of d ≡ round_end.OutOfMemory = cc in ap (λ (x : DumpEnd). Some x) (no_memory d z)

module _ {L D : Type 0} {traffic : Traffic L} {medium : Medium D} {end : Option DumpEnd} {result : Turn} {old new : RoundDesk L D} (h : HasTurned traffic medium end result old new) where
  abbrev steps_from : Option DumpEnd → {last : Option CivilMinute} {talk : List TalkItem} {kept : List (List (List ℕ))} → RoundAt last talk kept old.round → Type 0
  steps_from end {last} {talk} {kept} r = StepsAttempt traffic medium (session_settings old.session) end (tally_of last r.tries) (stamp_behind last r.tries) r.state
      (bench old.round.pump old.link (holding old.session.book old.disk old.report.marks.items)) (bench h.mid.pump new.link (holding new.session.book new.disk new.report.marks.items))

  -- the stamp of the last record kept, behind the batch that was given
  new_last : {last : Option CivilMinute} {talk : List TalkItem} {kept : List (List (List ℕ))} → RoundAt last talk kept old.round → (given : Handed)
      → Chain (AddsBatch medium (session_settings old.session)) (holding old.session.book old.disk old.report.marks.items) given (holding new.session.book new.disk new.report.marks.items)
      → last_stamp_of new.session.book ≡ last_kept (join (kept_all kept) given) last
  new_last {last} {talk} {kept} r given chain =
      chain_last medium (session_settings old.session) (holding old.session.book old.disk old.report.marks.items) given (holding new.session.book new.disk new.report.marks.items) chain
      ∙ ap (λ (x : Option CivilMinute). last_kept given x) (h.fits.last ∙ sym (last_is r)) ∙ sym (last_joins kept given last)

  takes_by : (end : Option DumpEnd) (result : Turn) → RoundGoesOn end result (last_stamp_of new.session.book) h.mid new.round → {last : Option CivilMinute} {talk : List TalkItem} {kept : List (List (List ℕ))} (r : RoundAt last talk kept old.round)
      → steps_from end r → Taken traffic medium result last talk kept old new
  takes_by None turn.More (inl stay) {last} {talk} {kept} r v =
      let one = stays r refl v h.mid new.round refl h.more h.noted stay in
      record { turn = record { said = v.said; given = gives (stamp_behind last r.tries) r.state v.answers; adds = v.adds; chain = v.chain; stands = one }; spare = v.spare; answered = ap last_answer one.1 ∙ last_done one.0 }
  takes_by None turn.More (inr again) {last} {talk} {kept} r v =
      let one = tries_again r refl v h.mid new.round refl h.more h.noted (last_stamp_of new.session.book) (new_last r (gives (stamp_behind last r.tries) r.state v.answers) v.chain) again in
      record {
        spare = v.spare;
        answered = ap last_answer one.1 ∙ last_done one.0;
        turn = record {
          said = v.said;
          given = gives (stamp_behind last r.tries) r.state v.answers;
          adds = v.adds;
          chain = v.chain;
          stands = one;
        };
      }
  takes_by None (turn.Ended e) refused {last} {talk} {kept} r v = record {
    spare = v.spare;
    answered = refused_batch r refl v h.mid new.round refl e refused;
    turn = record {
      said = v.said;
      given = gives (stamp_behind last r.tries) r.state v.answers;
      adds = v.adds;
      chain = v.chain;
      stands = refuses r refl v h.mid new.round refl h.more h.noted e refused new.report h.attempts h.tally h.troubles;
    };
  }
  takes_by (Some d) result (is, same) {last} {talk} {kept} r v = record {
    spare = v.spare;
    answered = ap last_answer (no_batch r refl d v) ∙ sym (ap answer_by_turn is ∙ mild_end r refl d v);
    turn = record {
      said = v.said;
      given = gives (stamp_behind last r.tries) r.state v.answers;
      adds = v.adds;
      chain = v.chain;
      stands = subst (λ (x : Turn). RoundTurnsTo x last talk kept v.said (gives (stamp_behind last r.tries) r.state v.answers) new) (sym is)
          (ends r refl d v h.mid new.round refl h.more h.noted same new.report h.attempts h.tally h.troubles);
    };
  }

  taken : {last : Option CivilMinute} {talk : List TalkItem} {kept : List (List (List ℕ))} → RoundAt last talk kept old.round → Taken traffic medium result last talk kept old new
  taken {last} {talk} {kept} r = takes_by end result h.goes r (h.steps (tally_of last r.tries) (stamp_behind last r.tries) r.state r.shows)

  pub takes : {last : Option CivilMinute} {talk : List TalkItem} {kept : List (List (List ℕ))} → RoundAt last talk kept old.round → RoundTakesTurn traffic medium result last talk kept old new
  takes r = (taken r).turn

  abbrev TheChain : Handed → Type 0
  TheChain given = Chain (AddsBatch medium (session_settings old.session)) (holding old.session.book old.disk old.report.marks.items) given (holding new.session.book new.disk new.report.marks.items)

  -- where the round goes on the book is not stale, and a mark was noted for a batch of `changes_in_a_batch` changes
  fresh_more : (said : List TalkItem) (more : List (List (List ℕ))) → TheChain (kept_all more) → IsOneCallOrBatch said more
      → (session_is_stale new.session ≡ false) × (length new.report.marks.items ≡ length old.report.marks.items + length more) × (medium.moment new.disk ≡ medium.moment old.disk + 4 * length more)
  fresh_more said more chain (inl (call, none)) =
      let c : TheChain Handed.Nothing = subst (λ (x : List (List (List ℕ))). TheChain (kept_all x)) none chain in
      (ap (λ (x : Holding D). Rattle.weather_book.specs.Book.book_is_stale x.book) c ∙ h.fits.fresh, omega (arith, ap (λ (x : Holding D). length x.marks) c, ap (λ (x : List (List (List ℕ))). length x) none), omega (arith, ap (λ (x : Holding D). medium.moment x.disk) c, ap (λ (x : List (List (List ℕ))). length x) none))
  fresh_more said more chain (inr (silent, rows, one)) =
      let c : TheChain (Handed.Kept rows Handed.Nothing) = subst (λ (x : List (List (List ℕ))). TheChain (kept_all x)) one chain in (
        ap (λ (x : Holding D). Rattle.weather_book.specs.Book.book_is_stale x.book) c.2 ∙ c.1.stale ∙ h.fits.fresh,
        omega (arith, ap (λ (x : Holding D). length x.marks) c.2, ap (λ (x : List Rattle.station_session.specs.declared.report.Mark.Mark). length x) c.1.noted, length-append old.report.marks.items (Rattle.station_session.specs.Report.mark_for stored.Done (medium.moment c.0.disk) (len_of old.session.book + length rows)), ap (λ (x : List (List (List ℕ))). length x) one),
        omega (arith, ap (λ (x : Holding D). medium.moment x.disk) c.2, c.1.moved, ap (λ (x : List (List (List ℕ))). length x) one),
      )

  pub fits_then : result ≡ turn.More → RoundFits new.session new.round new.report
  fits_then more =
      let r = h.fits.marked.at in
      let k : Taken traffic medium turn.More h.fits.marked.last h.fits.marked.talk h.fits.marked.kept old new = subst (λ (x : Turn). Taken traffic medium x h.fits.marked.last h.fits.marked.talk h.fits.marked.kept old new) more (taken r) in
      let t = k.turn in
      let now = t.stands.0 in
      let f = fresh_more t.said now (subst TheChain t.stands.1 t.chain) t.stands.3 in
      let noted : vec_len new.report.marks ≡ vec_len old.report.marks + length now = omega (arith, f.1, new.report.marks.ok.0, old.report.marks.ok.0) in
      record {
        fresh = f.0;
        last = new_last r t.given t.chain ∙ ap (λ (x : Handed). last_kept x h.fits.marked.last) (kept_on h.fits.marked.kept now t.given t.stands.1) ∙ last_is t.stands.2;
        attempts = h.attempts;
        tally = h.tally;
        troubles = h.troubles;
        marked = record {
          last = h.fits.marked.last;
          talk = h.fits.marked.talk ++ t.said;
          kept = h.fits.marked.kept ++ now;
          at = t.stands.2;
          count_is = omega (arith, noted, h.fits.marked.count_is, length-append h.fits.marked.kept now);
        };
        rows = omega (arith, h.fits.rows, k.spare, noted, ap count t.stands.1, count_kept now);
        marks = omega (arith, h.fits.marks, h.capacity);
      }

  pub room_then : result ≡ turn.More → medium.moment old.disk + 4 * (MOST_BATCHES - vec_len old.report.marks) < 2 ^ 64 → medium.moment new.disk + 4 * (MOST_BATCHES - vec_len new.report.marks) < 2 ^ 64
  room_then more room =
      let t : RoundTakesTurn traffic medium turn.More h.fits.marked.last h.fits.marked.talk h.fits.marked.kept old new = subst (λ (x : Turn). RoundTakesTurn traffic medium x h.fits.marked.last h.fits.marked.talk h.fits.marked.kept old new) more (takes h.fits.marked.at) in
      let now = t.stands.0 in
      let f = fresh_more t.said now (subst TheChain t.stands.1 t.chain) t.stands.3 in
      omega (arith, room, f.1, f.2, new.report.marks.ok.0, old.report.marks.ok.0, few_kept t.stands.2, h.fits.marked.count_is, length-append h.fits.marked.kept now)

  -- at most one batch was given
  one_given : (result : Turn) {last : Option CivilMinute} {talk : List TalkItem} {kept : List (List (List ℕ))} → (t : RoundTakesTurn traffic medium result last talk kept old new) → count t.given ≤ 1
  one_given turn.More t = omega (arith, ap count t.stands.1, count_kept t.stands.0, few_more t.said t.stands.0 t.stands.3)
  one_given (turn.Ended e) t = few_given t.said t.given t.stands.1

  leaves_by : (given : Handed) → TheChain given → count given ≤ 1 → (session_most_rows new.session ≡ session_most_rows old.session) × BeginsChanges medium 4 old.disk new.disk
  leaves_by given chain one =
      let K = holding old.session.book old.disk old.report.marks.items in
      let M = holding new.session.book new.disk new.report.marks.items in (
        chain_most medium (session_settings old.session) K given M chain,
        (chain_begun medium (session_settings old.session) K given M chain, omega (arith, one, chain_moved medium (session_settings old.session) K given M chain)),
      )

  most_and_begun : (session_most_rows new.session ≡ session_most_rows old.session) × BeginsChanges medium 4 old.disk new.disk
  most_and_begun = let t = takes h.fits.marked.at in leaves_by t.given t.chain (one_given result t)

  stale_with_turn : (result : Turn) → stale_after (answer_by_turn result) false ≡ turn_stale result
  stale_with_turn turn.More = refl
  stale_with_turn (turn.Ended end) = stale_by end false

  -- the session is stale where its batch met a disk fault
  stale_then : session_is_stale new.session ≡ turn_stale result
  stale_then =
      let k = taken h.fits.marked.at in
      chain_stale medium (session_settings old.session) (holding old.session.book old.disk old.report.marks.items) k.turn.given (holding new.session.book new.disk new.report.marks.items) k.turn.chain
      ∙ ap (λ (x : Stored). stale_after x (session_is_stale old.session)) k.answered ∙ ap (λ (x : Bool). stale_after (answer_by_turn result) x) h.fits.fresh ∙ stale_with_turn result

  disk_fault : Faults medium old.disk new.disk (result ≡ turn.Ended round_end.DiskFault)
  disk_fault =
      let k = taken h.fits.marked.at in
      record {
        never_falls = chain_faults medium (session_settings old.session) (holding old.session.book old.disk old.report.marks.items) k.turn.given (holding new.session.book new.disk new.report.marks.items) k.turn.chain;
        rose = λ e. chain_rose medium (session_settings old.session) (holding old.session.book old.disk old.report.marks.items) k.turn.given (holding new.session.book new.disk new.report.marks.items) (k.answered ∙ ap answer_by_turn e) k.turn.chain;
      }

  never_stale : result ≡ turn.Ended round_end.Stale → ⊥
  never_stale e =
      let k = taken h.fits.marked.at in
      chain_never_stale medium (session_settings old.session) (holding old.session.book old.disk old.report.marks.items) k.turn.given (holding new.session.book new.disk new.report.marks.items) h.fits.fresh (k.answered ∙ ap answer_by_turn e) k.turn.chain

  pub answers : Cause (traffic.faults old.link) (traffic.faults new.link) (end ≡ Some dump_end.LinkFault) → Cause (traffic.shortages old.link) (traffic.shortages new.link) (end ≡ Some dump_end.OutOfMemory) → AnswersTurn traffic medium result old new
  answers fault shortage = record {
    fault = record { never_falls = fault.never_falls; rose = λ e. fault.rose (link_by end result (last_stamp_of new.session.book) h.mid new.round h.goes e) };
    shortage = record { never_falls = shortage.never_falls; rose = λ e. shortage.rose (memory_by end result (last_stamp_of new.session.book) h.mid new.round h.goes e) };
    disk_fault = disk_fault;
    never_stale = never_stale;
  }

  pub leaves : new.report.rows_after ≡ held new.session → LeavesTurn medium result old new
  leaves after = record { settings = h.settings; most = most_and_begun.0; before = h.before; after = after; marked = stale_then; begun = most_and_begun.1 }

  -- a round that was under way goes on, or did all that a round does
  pub goes_on : new.report.rows_after ≡ held new.session → Cause (traffic.faults old.link) (traffic.faults new.link) (end ≡ Some dump_end.LinkFault) → Cause (traffic.shortages old.link) (traffic.shortages new.link) (end ≡ Some dump_end.OutOfMemory)
      → (began : RoundHost L D) (talk : List TalkItem) (kept : List (List (List ℕ))) → UnderWay traffic medium began talk kept old → GoesOnFrom traffic medium result began talk kept new
  goes_on after fault shortage began talk kept u = by_result result (takes u.at) (answers fault shortage) (leaves after)
    where
      by_result : (result : Turn) → RoundTakesTurn traffic medium result (last_stamp_of began.session.book) talk kept old new → AnswersTurn traffic medium result old new → LeavesTurn medium result old new → GoesOnFrom traffic medium result began talk kept new
      by_result turn.More t a l = (
        t.said,
        t.stands.0,
        t.stands.3,
        record {
          at = t.stands.2;
          adds = adds_joins u.adds t.adds;
          faults = omega (arith, u.faults, fault.never_falls);
          shortages = omega (arith, u.shortages, shortage.never_falls);
          in_step = record {
            fresh = u.in_step.fresh;
            settings = h.settings ∙ u.in_step.settings;
            before = h.before ∙ u.in_step.before;
            chain = subst (λ (x : Handed). Chain (AddsBatch medium (session_settings began.session)) (holding began.session.book began.disk []) x (holding new.session.book new.disk new.report.marks.items))
                (kept_on kept t.stands.0 t.given t.stands.1) (chain_on u.in_step t);
          };
        },
      )
      by_result (turn.Ended e) t a l = makes_round (same_book began.session.book) refl u t a l
