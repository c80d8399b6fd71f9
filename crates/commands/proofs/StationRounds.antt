-- A stay leaves what as many rounds of `station` could leave.
use Rattle.std.proofs.Common.{◌≡◌, ℕ, zero, suc, ◌+◌, Bool, true, false, List, Ok, Err, refl, sym, ap, subst, ◌∙◌, arith}
use Rattle.std.specs.declared.result.Result.{Result}
use Rattle.packed_rows.specs.Rising.{last_row_stamp}
use Rattle.settings_file.specs.StationSettings.{StationSettings}
use Rattle.station_base.specs.declared.row.Row.{Row}
use Rattle.station_session.specs.Attempts.{MadeAttempt, all_batches}
use Rattle.station_session.specs.Holding.{rows_after_batches}
use Rattle.station_session.specs.Round.{stale_with}
use Rattle.station_session.specs.Session.{book_of, session_is_stale, session_most_rows, session_settings}
use Rattle.station_session.specs.declared.round_end.RoundEnd.{RoundEnd}
use Rattle.station_session.specs.declared.round_end.RoundEnd.TheVariants as round
use Rattle.station_session.specs.declared.session.Session.{Session}
use Rattle.station_session.proofs.OtherBooks.{answers_over, leaves_over, over_book, serves_over}
use Rattle.weather_book.specs.Book.{book_is_stale, most_rows_of}
use Rattle.weather_book.specs.declared.book.Book.{Book}
use Rattle.run_output.specs.Ended.{Lines}
use Rattle.run_output.specs.Output.{Output}
use Rattle.run_output.specs.Outside.{Meanings, over_link}
use Rattle.run_output.specs.Steps.{then}
use Rattle.run_output.specs.declared.outside.Outside.{Outside}
use Rattle.commands.specs.Pause.{pauses_between}
use Rattle.commands.specs.StationRounds.{IsLeftByRounds, MayBeFound, MayMakeRound, RoundOf}
use Rattle.commands.specs.StationRun.{round_output}
use Rattle.commands.specs.StayRun.{Standing, give_ups_after, round_may_follow, stay_round, standing, stayed_line, stays, stays_by, where_done}
use Rattle.commands.proofs.RoundTold.{followed}
use Rattle.commands.proofs.StayMarks.{behind_lasts, done_is}

-- a session that may make a round under these settings
pub record IsReady (settings : StationSettings) (session : Session) : Type 0 where
  pub fresh : session_is_stale session ≡ false
  pub most : session_most_rows session ≡ settings.most
  pub settings_are : session_settings session ≡ settings

-- a round behind which another may follow leaves its session as fresh as it was
fresh_behind : (end : RoundEnd) (give_ups : ℕ) (stale : Bool) → round_may_follow end give_ups ≡ true → stale_with end stale ≡ stale
fresh_behind round.DiskFault give_ups stale follows = absurd cc
fresh_behind other give_ups stale follows = refl

-- what was given for a step that was done
was_done : {A : Type 0} (a b : A) (answer : Result (Unit {0}) Output) → ◌≡◌ {A = Result A Output} (Ok b) (where_done a answer) → answer ≡ Ok tt
was_done a b (Ok done) is = refl
was_done a b (Err output) is = absurd cc

module _ {F K L D : Type 0} (m : Meanings F K L D) where
  -- the rows behind a round of a stay
  abbrev rows_behind : (made : ℕ) (began : Standing) (old new : Outside F K L D) (result : Result Standing Output) → stay_round m made began old result new → List Row
  rows_behind made began old new result did = rows_after_batches (session_settings began.session) began.rows (all_batches (last_row_stamp began.rows) did.serves.tries)

  -- a round of a stay is one of `station`, whichever book is found
  round_of : (made : ℕ) (began : Standing) (old new : Outside F K L D) (result : Result Standing Output) (did : stay_round m made began old result new)
      → session_is_stale began.session ≡ false → session_most_rows began.session ≡ (session_settings began.session).most
      → (book : Book) → MayBeFound m.medium (session_settings began.session) began.rows old.disk book
      → RoundOf m (session_settings began.session) book began.rows old (rows_behind made began old new result did) (record old { link = new.link; disk = new.disk })
  round_of made began old new result did fresh most book found =
      let same = found.fresh ∙ sym fresh in
      let as_many = found.most ∙ sym most in
      let over = serves_over book as_many did.stands did.serves in
      record {
        result = Err (round_output did.end did.report);
        makes = record {
          rows = began.rows;
          stands = found.stands;
          began = over_book book began.session;
          ended = did.ended;
          end = did.end;
          report = did.report;
          book_is = refl;
          settings_are = refl;
          serves = over.0;
          before = did.before;
          after = did.after;
          answers = answers_over book same did.answers;
          leaves = leaves_over book as_many same (λ is. absurd (let never : false ≡ true = sym fresh ∙ did.answers.stale.0 is in cc)) did.leaves;
          given = refl;
          alone = refl;
        };
        before = refl;
        behind = ap (λ (tries : List MadeAttempt). rows_after_batches (session_settings began.session) began.rows (all_batches (last_row_stamp began.rows) tries)) (sym over.1);
      }

  one_round : (settings : StationSettings) (made : ℕ) (began : Standing) (old new : Outside F K L D) (result : Result Standing Output) (did : stay_round m made began old result new)
      → IsReady settings began.session → MayMakeRound m settings began.rows old.disk (rows_behind made began old new result did) new.disk
  one_round settings made began old new result did ready =
      let most = ready.most ∙ sym (ap (λ (s : StationSettings). s.most) ready.settings_are) in
      subst (λ (s : StationSettings). MayMakeRound m s began.rows old.disk (rows_behind made began old new result did) new.disk) ready.settings_are (record {
        old = old;
        new = record old { link = new.link; disk = new.disk };
        from = refl;
        to = refl;
        found = (book_of began.session, record { fresh = ready.fresh; most = most; stands = did.stands });
        round = λ book found. round_of made began old new result did ready.fresh most book found;
      })

  -- where another round may follow, its session may make it
  ready_behind : (settings : StationSettings) (made : ℕ) (began later : Standing) (old new : Outside F K L D) (result : Result Standing Output) (did : stay_round m made began old result new)
      → IsReady settings began.session → result ≡ Ok later → (later.rows ≡ rows_behind made began old new result did) × IsReady settings later.session
  ready_behind settings made began later old new result did ready is =
      let give_ups = give_ups_after did.end began.give_ups in
      let given = sym is ∙ did.given in
      let here = done_is (standing did.ended give_ups (rows_behind made began old new result did)) later did.answer given in
      let follows = followed m.outlet (round_may_follow did.end give_ups) did.end did.report made old.out new.out did.answer did.told (was_done _ later did.answer given) in
      let ended : IsReady settings did.ended = record {
        fresh = did.leaves.marked ∙ fresh_behind did.end give_ups (session_is_stale began.session) follows ∙ ready.fresh;
        most = did.leaves.most ∙ ready.most;
        settings_are = did.leaves.settings ∙ ready.settings_are;
      } in (
        ap (λ (s : Standing). s.rows) here,
        subst (λ (s : Standing). IsReady settings s.session) (sym here) ended,
      )

  none_made : (settings : StationSettings) (most : ℕ) (rows : List Row) (disk left : D) → left ≡ disk → IsLeftByRounds m settings most rows disk left
  none_made settings most rows disk left same = record { made = 0; few = omega arith; later = rows; rounds_are = (refl, same) }

  more_made : (settings : StationSettings) (most : ℕ) (rows next : List Row) (disk mid left : D) → MayMakeRound m settings rows disk next mid
      → IsLeftByRounds m settings most next mid left → IsLeftByRounds m settings (suc most) rows disk left
  more_made settings most rows next disk mid left round more = record {
    made = suc more.made;
    few = omega (arith, more.few);
    later = more.later;
    rounds_are = (next, mid, round, more.rounds_are);
  }

  -- what the rounds that are left leave, from whatever session they are made
  abbrev pub Further : StationSettings → ℕ → ℕ → ℕ → Type 0
  Further settings waits left made = (later : Standing) (old new : Outside F K L D) (result : Result Lines Output) → IsReady settings later.session
      → stays m waits left made later old result new → IsLeftByRounds m settings left later.rows old.disk new.disk

  -- behind a round, the pause and the rounds that are left
  behind_round : (settings : StationSettings) (waits left made : ℕ) (rows : List Row) (disk : D) (later : Standing) (mid new : Outside F K L D) (result : Result Lines Output)
      → MayMakeRound m settings rows disk later.rows mid.disk → IsReady settings later.session → Further settings waits left (made + 1)
      → (did : then (over_link (pauses_between m.traffic waits left (stayed_line (made + 1)))) (λ _. stays m waits left (made + 1) later) mid result new)
      → IsLeftByRounds m settings (suc left) rows disk new.disk
  behind_round settings waits left made rows disk later mid new result first ready further did =
      let paused : MayMakeRound m settings rows disk later.rows did.mid.disk =
      subst (λ (d : D). MayMakeRound m settings rows disk later.rows d) (sym (ap (λ (w : Outside F K L D). w.disk) did.first.1)) first in
      behind_lasts (λ (w : Outside F K L D). IsLeftByRounds m settings (suc left) rows disk w.disk) (λ (_ : Unit {0}). stays m waits left (made + 1) later) did.mid new did.answer result
      (more_made settings left rows later.rows disk did.mid.disk did.mid.disk paused (none_made settings left later.rows did.mid.disk did.mid.disk refl))
      (λ _ _ more. more_made settings left rows later.rows disk did.mid.disk new.disk paused (further later did.mid new result ready more)) did.behind

  -- a round, and what is behind it
  from_round : (settings : StationSettings) (waits left made : ℕ) (began : Standing) (old new : Outside F K L D) (result : Result Lines Output)
      → IsReady settings began.session → Further settings waits left (made + 1)
      → (did : then (stay_round m made began) (λ later. then (over_link (pauses_between m.traffic waits left (stayed_line (made + 1)))) (λ _. stays m waits left (made + 1) later)) old result new)
      → IsLeftByRounds m settings (suc left) began.rows old.disk new.disk
  from_round settings waits left made began old new result ready further did =
      let rows = rows_behind made began old did.mid did.answer did.first in
      let one : MayMakeRound m settings began.rows old.disk rows did.mid.disk = one_round settings made began old did.mid did.answer did.first ready in
      behind_lasts (λ (w : Outside F K L D). IsLeftByRounds m settings (suc left) began.rows old.disk w.disk)
      (λ (later : Standing). then (over_link (pauses_between m.traffic waits left (stayed_line (made + 1)))) (λ _. stays m waits left (made + 1) later)) did.mid new did.answer result
      (more_made settings left began.rows rows old.disk did.mid.disk did.mid.disk one (none_made settings left rows did.mid.disk did.mid.disk refl))
      (λ later is pause.
      let next = ready_behind settings made began later old did.mid did.answer did.first ready is in
      let first = subst (λ (r : List Row). MayMakeRound m settings began.rows old.disk r did.mid.disk) (sym next.0) one in
      behind_round settings waits left made began.rows old.disk later did.mid new result first next.1 further pause) did.behind

  -- the rounds of a stay from here on leave what so many rounds of `station` could
  pub made_by : (settings : StationSettings) (waits left made : ℕ) → Further settings waits left made
  made_by settings waits zero made began old new result ready did = none_made settings 0 began.rows old.disk new.disk (ap (λ (w : Outside F K L D). w.disk) did.1)
  made_by settings waits (suc left) made began old new result ready did =
      let here : did.mid.disk ≡ old.disk = ap (λ (w : Outside F K L D). w.disk) did.first.1 in
      behind_lasts (λ (w : Outside F K L D). IsLeftByRounds m settings (suc left) began.rows old.disk w.disk) _ did.mid new did.answer result
      (none_made settings (suc left) began.rows old.disk did.mid.disk here)
      (λ _ _ round. subst (λ (d : D). IsLeftByRounds m settings (suc left) began.rows d new.disk) here
      (from_round settings waits left made began did.mid new result ready (made_by settings waits left (made + 1)) round)) did.behind

  -- A stay of a book that was found leaves what no more rounds of `station` could leave.
  pub stay_is_rounds : (rounds waits : ℕ) (settings : StationSettings) (book : Book) (old new : Outside F K L D) (result : Result Lines Output)
      → (did : stays_by m rounds waits settings book old result new) → MayBeFound m.medium settings did.rows old.disk book
      → IsLeftByRounds m settings rounds did.rows old.disk new.disk
  stay_is_rounds rounds waits settings book old new result did found =
      made_by settings waits rounds 0 (standing did.session 0 did.rows) old new result (record {
        fresh = ap book_is_stale did.book_is ∙ found.fresh;
        most = ap most_rows_of did.book_is ∙ found.most;
        settings_are = did.settings_are;
      }) did.goes
