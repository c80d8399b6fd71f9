-- On whatever line an attempt goes to an end.
use Rattle.std.proofs.Common.{◌≡◌, ◌≢◌, ℕ, zero, suc, Bool, true, false, List, [], ◌∷◌, ◌++◌, length, Option}
use Rattle.std.proofs.Common.{refl, sym, ◌∙◌, ap, ◌-◌}
use Rattle.std.specs.Prelude.{bytes_eq}
use Rattle.station_base.specs.CivilMinute.{CivilMinute}
use Rattle.causes.specs.declared.stored.Stored.{Stored}
use Rattle.causes.specs.declared.stored.Stored.TheVariants as stored
use Rattle.serial_link.specs.Talk.{message}
use Rattle.serial_link.specs.declared.talk.TalkItem.{TalkItem}
use Rattle.serial_link.specs.declared.talk.TalkItem.TheVariants.{Said}
use Rattle.wake_retry.specs.Parts.{heard, ends_awake}
use Rattle.dmpaft_pump.specs.declared.outcome.Trouble.{Trouble}
use Rattle.dmpaft_pump.specs.declared.outcome.Trouble.TheVariants.{Asleep, NoAck, PageLost}
use Rattle.dmpaft_pump.specs.declared.pump_end.PumpEnd.{PumpEnd}
use Rattle.dmpaft_pump.specs.declared.pump_end.PumpEnd.TheVariants as pump_end
use Rattle.dmpaft_driver.specs.Gathered.{keeper_answer}
use Rattle.dmpaft_pump.specs.Header.{first_of}
use Rattle.dmpaft_pump.specs.Page.{is_page_for, is_ahead, next_said}
use Rattle.dmpaft_pump.specs.Reply.{Reply, reply_of}
use Rattle.dmpaft_driver.specs.Turning.{dump_end_of}
use Rattle.dmpaft_pump.specs.Pump.{AttemptPart, Settling, Waking, Calling, Heading, Asking, Resettling, Acking, GivingUp}
use Rattle.dmpaft_pump.specs.Pump.{AttemptState, Keeping, Over, words, quiets, most as most_bytes, batch_of}
use Rattle.dmpaft_pump.specs.Pump.{onward, batched, woken, called, headed, asked_again, page_judged, next_after_part, begun}
use Rattle.dmpaft_pump.specs.Pump.{state_at, most_askings, pump_from}
use Rattle.dmpaft_driver.proofs.Exactly.{some_quiets, some_bytes, told_is, kept_done}
use Rattle.dmpaft_driver.proofs.Rest.{Listens}
use Rattle.dmpaft_pump.proofs.PumpSteps.{said_in, heard_in}
use Rattle.schedule_file.specs.Fates.{FatesByNumber}
use Rattle.station_sim.specs.Joining.{talks_join}
use Rattle.station_sim.specs.Line.{Line, says_byte}
use Rattle.station_sim.specs.Talk.{ConsoleTalk}
use Rattle.schedule_file.specs.declared.schedule.step.Stop.{Stop}
use Rattle.replay_laws.specs.Session.{NotPast}
use Rattle.some_run_laws.proofs.SomeTalk.{says_all, hears_part}
use Rattle.some_run_laws.proofs.KeeperAnswers.{Kept, none_kept, same_kept, more_kept}

module _ (after : Option CivilMinute) (most held before : ℕ) (stop : Option Stop) (f : FatesByNumber) where
  -- the batches of these pages were given, and the last was answered so
  abbrev HasKept : Stored → ℕ → List (List ℕ) → Type 0
  HasKept answer place taken = Kept after most held before stop answer place taken

  -- From this state and line an attempt can go to its end, its batches being answered as its keeper must.
  pub record Ends (s : AttemptState) (w : Line) : Type 0 where
    pub talk : List TalkItem
    pub answers : List Stored
    pub place : ℕ
    pub taken : List (List ℕ)
    pub end : PumpEnd
    pub line : Line
    pub over : pump_from after s talk answers ≡ Over place taken end
    pub talks : ConsoleTalk f talk w line
    pub kept : HasKept (keeper_answer (dump_end_of end)) place taken

  -- it is over
  ended : (place : ℕ) (taken : List (List ℕ)) (end : PumpEnd) (w : Line)
      → HasKept (keeper_answer (dump_end_of end)) place taken → Ends (Over place taken end) w
  ended place taken end w k = record {
    talk = [];
    answers = [];
    place = place;
    taken = taken;
    end = end;
    line = w;
    over = refl;
    talks = refl;
    kept = k;
  }

  -- a part is said and heard, where what comes next can go to its end whatever was heard
  part_ends : (p : AttemptPart) → Listens p
      → ((full : Bool) (bytes : List ℕ) (u : Line) → Ends (state_at after (next_after_part after p full bytes)) u) → (w : Line)
      → Ends (begun after p) w
  part_ends p listens goes_on w =
      let s = says_all f (words after p) w in
      let h = hears_part f (quiets p) (most_bytes p) (some_quiets p) (some_bytes p) s.0 in
      let y = goes_on h.full (heard h.talk) h.line in
      record {
        talk = message (words after p) ++ (h.talk ++ y.talk);
        answers = y.answers;
        place = y.place;
        taken = y.taken;
        end = y.end;
        line = y.line;
        over = said_in after p (words after p) (h.talk ++ y.talk) y.answers
            ∙ ap (λ (z : AttemptState). pump_from after z (h.talk ++ y.talk) y.answers) (told_is p listens)
            ∙ heard_in after p [] 0 h.talk y.talk h.full y.answers h.hears ∙ y.over;
        talks = talks_join f (message (words after p)) (h.talk ++ y.talk) w s.0 y.line s.1
            (talks_join f h.talk y.talk s.0 h.line y.line h.talks y.talks);
        kept = y.kept;
      }

  -- the last page is acknowledged
  acks : (place : ℕ) (taken : List (List ℕ)) (w : Line) → HasKept stored.Done place taken
      → Ends (begun after (Acking place taken)) w
  acks place taken w k = record {
    talk = Said 6 true ∷ [];
    answers = [];
    place = place;
    taken = taken;
    end = pump_end.Whole;
    line = says_byte f 6 true w;
    over = refl;
    talks = refl;
    kept = k;
  }

  -- the attempt fails
  gives_up : (place : ℕ) (taken : List (List ℕ)) (trouble : Trouble) (w : Line) → HasKept stored.Done place taken
      → Ends (begun after (GivingUp place taken trouble)) w
  gives_up place taken trouble w k = record {
    talk = Said 27 true ∷ [];
    answers = [];
    place = place;
    taken = taken;
    end = pump_end.Failed trouble;
    line = says_byte f 27 true w;
    over = refl;
    talks = refl;
    kept = k;
  }

  -- behind a page that was taken, so many to come
  abbrev GoesOn : ℕ → Type 0
  GoesOn more = (place : ℕ) (taken : List (List ℕ)) (w : Line) → HasKept stored.Done place taken
      → Ends (begun after (onward more place taken)) w

  -- a batch is with the keeper
  gives : (more : ℕ) → GoesOn more → (place : ℕ) (taken : List (List ℕ)) (page : List ℕ) (w : Line)
      → (answer : Stored) → HasKept answer place (taken ++ page ∷ []) → Ends (Keeping more place taken page) w
  gives more goes_on place taken page w stored.Done k =
      let y = goes_on place (taken ++ page ∷ []) w k in
      record {
        talk = y.talk;
        answers = stored.Done ∷ y.answers;
        place = y.place;
        taken = y.taken;
        end = y.end;
        line = y.line;
        over = kept_done after more place taken page y.talk y.answers ∙ y.over;
        talks = y.talks;
        kept = y.kept;
      }
  gives more goes_on place taken page w stored.Full k = record {
    talk = [];
    answers = stored.Full ∷ [];
    place = place;
    taken = taken ++ page ∷ [];
    end = pump_end.Full;
    line = w;
    over = refl;
    talks = refl;
    kept = k;
  }
  gives more goes_on place taken page w stored.DiskFault k = record {
    talk = [];
    answers = stored.DiskFault ∷ [];
    place = place;
    taken = taken ++ page ∷ [];
    end = pump_end.DiskFault;
    line = w;
    over = refl;
    talks = refl;
    kept = k;
  }
  gives more goes_on place taken page w stored.Stale k = absurd (k.fresh refl)

  -- after a page its batch, if any, is given
  takes : (more : ℕ) → GoesOn more → (place : ℕ) (taken : List (List ℕ)) (page : List ℕ) (w : Line)
      → HasKept stored.Done place taken → (rows : List (List ℕ)) → batch_of after place taken page ≡ rows
      → Ends (state_at after (batched more place taken page rows)) w
  takes more goes_on place taken page w k [] is =
      goes_on place (taken ++ page ∷ []) w (same_kept after most held before stop place taken page is k)
  takes more goes_on place taken page w k (r ∷ rows) is =
      let some : batch_of after place taken page ≢ [] = λ none. let wrong : [] ≡ r ∷ rows = sym none ∙ is in cc in
      let x = more_kept after most held before stop place taken page some k in
      gives more goes_on place taken page w x.0 x.1

  -- after an asking
  judges : (more : ℕ) → GoesOn more → (place : ℕ) (taken : List (List ℕ)) (left : ℕ) (w : Line)
      → HasKept stored.Done place taken → (bytes : List ℕ)
      → ((b : ℕ) → Ends (state_at after (asked_again more place taken left b)) w)
      → (page ahead : Bool) → Ends (state_at after (page_judged after more place taken left bytes page ahead)) w
  judges more goes_on place taken left w k bytes again true ahead =
      takes more goes_on place taken bytes w k (batch_of after place taken bytes) refl
  judges more goes_on place taken left w k bytes again false true = gives_up place taken _ w k
  judges more goes_on place taken left w k bytes again false false = again (next_said (length taken) bytes)

  -- an asking, where one more goes to an end
  asks_once : (more : ℕ) → GoesOn more → (place : ℕ) (taken : List (List ℕ)) (left b : ℕ) (w : Line)
      → HasKept stored.Done place taken
      → ((c : ℕ) (u : Line) → Ends (state_at after (asked_again more place taken left c)) u)
      → Ends (begun after (Asking more place taken left b)) w
  asks_once more goes_on place taken left b w k again =
      part_ends (Asking more place taken left b) tt
      (λ full bytes u. judges more goes_on place taken left u k bytes (λ c. again c u)
      (is_page_for (length taken) bytes) (is_ahead (length taken) bytes)) w

  -- a settling before an asking, where that goes to an end
  resettles : (more place : ℕ) (taken : List (List ℕ)) (left b : ℕ) (w : Line) → HasKept stored.Done place taken
      → ((u : Line) → Ends (begun after (Asking more place taken left b)) u)
      → Ends (begun after (Resettling more place taken left b)) w
  resettles more place taken left b w k again = part_ends (Resettling more place taken left b) tt after_settling w
    where
      after_settling : (full : Bool) (bytes : List ℕ) (u : Line)
          → Ends (state_at after (next_after_part after (Resettling more place taken left b) full bytes)) u
      after_settling true bytes u = ended place taken pump_end.Flood u k
      after_settling false bytes u = again u

  -- a page is asked for, with so many askings more
  asks_from : (more : ℕ) → GoesOn more → (left : ℕ) (place : ℕ) (taken : List (List ℕ)) (b : ℕ) (w : Line)
      → HasKept stored.Done place taken → Ends (begun after (Asking more place taken left b)) w
  asks_from more goes_on zero place taken b w k =
      asks_once more goes_on place taken zero b w k (λ c u. gives_up place taken (PageLost (length taken)) u k)
  asks_from more goes_on (suc left) place taken b w k =
      asks_once more goes_on place taken (suc left) b w k
      (λ c u. resettles more place taken left c u k (λ v. asks_from more goes_on left place taken c v k))

  -- so many pages more are asked for
  goes_on_all : (more : ℕ) → GoesOn more
  goes_on_all zero place taken w k = acks place taken w k
  goes_on_all (suc more) place taken w k = asks_from more (goes_on_all more) (most_askings - 1) place taken 6 w k

  module _ (kept_none : (place : ℕ) → HasKept stored.Done place []) where
    -- after the stamp frame, by what answered it
    heads : (reply : Reply) (w : Line) → Ends (state_at after (headed reply)) w
    heads (Reply.Header zero place) w = ended place [] pump_end.Whole w (kept_none place)
    heads (Reply.Header (suc more) place) w = asks_from more (goes_on_all more) (most_askings - 1) place [] 6 w (kept_none place)
    heads (Reply.NoHeader trouble) w = gives_up 0 [] trouble w (kept_none 0)

    -- after DMPAFT, by what answered it
    calls : (bytes : List ℕ) (answered : Bool) (w : Line) → Ends (state_at after (called bytes answered)) w
    calls bytes true w = part_ends Heading tt (λ full answer u. heads (reply_of answer) u) w
    calls bytes false w = gives_up 0 [] (NoAck (first_of bytes)) w (kept_none 0)

    -- the console is called
    calling : (w : Line) → Ends (begun after Calling) w
    calling w = part_ends Calling tt (λ full bytes u. calls bytes (bytes_eq bytes (6 ∷ [])) u) w

    -- a line feed, where what follows one in vain goes to an end
    wakes_once : (left : ℕ) → ((u : Line) → Ends (state_at after (woken left false)) u) → (w : Line)
        → Ends (begun after (Waking left)) w
    wakes_once left again w = part_ends (Waking left) tt after_waking w
      where
        woke : (awake : Bool) (u : Line) → Ends (state_at after (woken left awake)) u
        woke true u = calling u
        woke false u = again u

        after_waking : (full : Bool) (bytes : List ℕ) (u : Line)
            → Ends (state_at after (next_after_part after (Waking left) full bytes)) u
        after_waking true bytes u = ended 0 [] pump_end.Flood u (kept_none 0)
        after_waking false bytes u = woke (ends_awake bytes) u

    -- the console is woken, with so many tries more
    wakes : (left : ℕ) (w : Line) → Ends (begun after (Waking left)) w
    wakes zero w = wakes_once zero (λ u. gives_up 0 [] Asleep u (kept_none 0)) w
    wakes (suc left) w = wakes_once (suc left) (wakes left) w

    -- an attempt from its begin
    settles : (w : Line) → Ends (begun after Settling) w
    settles w = part_ends Settling tt after_settling w
      where
        after_settling : (full : Bool) (bytes : List ℕ) (u : Line) → Ends (state_at after (next_after_part after Settling full bytes)) u
        after_settling true bytes u = ended 0 [] pump_end.Flood u (kept_none 0)
        after_settling false bytes u = wakes 2 u

  -- an attempt on whatever line
  pub attempt_ends : NotPast stop before → (w : Line) → Ends (begun after Settling) w
  attempt_ends not_past w = settles (none_kept after most held before stop not_past) w
