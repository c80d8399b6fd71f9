-- Lines, bytes and turns, one behind another.
use Rattle.std.proofs.Common.{ℕ, ◌≡◌, ◌≢◌, ◌+◌, ◌*◌, ◌≤◌, ◌<◌, false, List, [], ◌∷◌, ◌++◌, inr, length, map, take, drop, get_or, refl, sym, ap, subst, ◌∙◌, arith, append-nil}
use Rattle.std.proofs.lemmas.List.{length-append, take_more, take-append-drop}
use Rattle.causes.specs.Lists.{IsFrontOf}
use Rattle.disk_model.specs.Disk.{Stays, stays_none}
use Rattle.disk_model.specs.Medium.{Medium}
use Rattle.serial_link.specs.Link.{Hears}
use Rattle.serial_link.specs.Talk.{count_quiets}
use Rattle.serial_link.specs.Traffic.{Traffic}
use Rattle.serial_link.specs.declared.link.Recv.TheVariants as recv
use Rattle.serial_link.specs.declared.talk.TalkItem.{TalkItem}
use Rattle.serial_link.specs.declared.talk.TalkItem.TheVariants.{Heard, Quiet}
use Rattle.serial_link.proofs.GrownTalk.{count_quiets-append, heard_waits}
use Rattle.station_base.specs.declared.row.Row.{Row}
use Rattle.wake_retry.specs.Bounds.{said}
use Rattle.wake_retry.specs.Parts.{heard, count_met}
use Rattle.wake_retry.proofs.Endings.{heard-append}
use Rattle.gated_log.specs.Layout.{slot_size}
use Rattle.packed_rows.specs.Rows.{slot_total}
use Rattle.weather_book.specs.declared.book.Book.{Book}
use Rattle.weather_book.proofs.Looks.{no_look}
use Rattle.query_service.specs.Answers.{answer_to}
use Rattle.query_service.specs.Asked.{LineAsks}
use Rattle.query_service.specs.Lines.{lines_after, rest_after}
use Rattle.query_service.specs.Service.{ServesQueries}
use Rattle.query_service.specs.Talk.{only_joins, only_none, said_joins}
use Rattle.query_service.specs.TurnByTurn.{HearsAndSays}
use Rattle.query_service.specs.AnsweredLines.{AnswersLines, AnsweringBreaksOff}
use Rattle.query_service.specs.Turns.{AnswersBytes, AnswersLine, AnswersTurns, IsAnswer, ServesFrom, TakesTurns}
use Rattle.query_service.specs.declared.service.QueryEnd.{QueryEnd}
use Rattle.query_service.specs.declared.service.QueryEnd.TheVariants.{Done, LinkFault, DiskFault, OutOfMemory}
use Rattle.query_service.proofs.Answered.{from_cut, from_joins, from_none, no_lines}
use Rattle.query_service.proofs.HeardLines.{asks_held, line_ends, line_goes_on}
use Rattle.query_service.proofs.Joined.{serves_as, serves_joins}
use Rattle.query_service.proofs.OneByOne.{turn_heard, turn_unheard, turn_waited, turns_by}
use Rattle.weather_book.proofs.BookOnDisk.{to_read_stays}

-- of bytes that are heard nothing is said
heard_said : (bytes : List ℕ) → said (map Heard bytes) ≡ []
heard_said [] = refl
heard_said (b ∷ bytes) = heard_said bytes

heard_bytes : (bytes : List ℕ) → heard (map Heard bytes) ≡ bytes
heard_bytes [] = refl
heard_bytes (b ∷ bytes) = ap (λ (l : List ℕ). b ∷ l) (heard_bytes bytes)

-- an answer that broke off is a front of one
answer_front : (end : QueryEnd) (answer bytes : List ℕ) → end ≢ Done → IsAnswer answer end bytes → IsFrontOf bytes answer
answer_front Done answer bytes broke is = absurd (broke refl)
answer_front LinkFault answer bytes broke is = is
answer_front DiskFault answer bytes broke is = is
answer_front OutOfMemory answer bytes broke is = is

-- what broke off, by the end
broken_by : (end : QueryEnd) (rows : List Row) (lines : List (List ℕ)) (bytes : List ℕ) (a b : ℕ) → end ≢ Done → AnsweringBreaksOff rows lines bytes a b
    → AnswersLines end rows lines bytes a b
broken_by Done rows lines bytes a b broke is = absurd (broke refl)
broken_by LinkFault rows lines bytes a b broke is = is
broken_by DiskFault rows lines bytes a b broke is = is
broken_by OutOfMemory rows lines bytes a b broke is = is

module _ {D : Type 0} (medium : Medium D) (book : Book) where
  -- no byte came
  pub bytes_none : (disk : D) (line : List ℕ) (n : ℕ) → AnswersBytes medium book disk Done [] line line n n []
  bytes_none disk line n = record { only = only_none; answers = from_none medium book disk Done line n }

  -- a byte came that ends no line
  pub byte_held : (disk : D) (b : ℕ) (before after : List ℕ) (n : ℕ) → (b ≡ 10 → ⊥)
      → ((begun : List ℕ) → before ≡ take 65 begun → after ≡ take 65 (begun ++ b ∷ []))
      → AnswersBytes medium book disk Done (b ∷ []) before after n n []
  byte_held disk b before after n goes_on holds = record {
    only = only_none;
    answers = λ begun held rows stands x told.
        let line = line_goes_on begun b goes_on in
        record {
          answers = subst (λ (lines : List (List ℕ)). AnswersLines Done rows lines [] n n) (sym line.0) (no_lines Done rows n);
          held = λ _. holds begun held ∙ ap (λ (l : List ℕ). take 65 l) (sym line.1);
        };
  }

  -- the line feed came, and the line was answered
  pub line_answered : (disk : D) (b : ℕ) (line after : List ℕ) (n m : ℕ) (t : List TalkItem) → b ≡ 10 → after ≡ [] → m ≡ n + 1
      → AnswersLine medium book disk Done line t → AnswersBytes medium book disk Done (b ∷ []) line after n m t
  line_answered disk b line after n m t ends empty counted one = record {
    only = one.only;
    answers = λ begun held rows stands x told.
        let feed = line_ends begun b ends in let answer = one.answers rows stands x told in
        let asks = asks_held begun answer.0 (subst (λ (l : List ℕ). LineAsks l answer.0) held answer.1) in
        record {
          answers = subst (λ (lines : List (List ℕ)). AnswersLines Done rows lines (said t) n m) (sym feed.0)
              ((answer.0, [], asks, answer.2 ∙ sym (append-nil (answer_to rows answer.0)), refl), counted);
          held = λ _. empty ∙ ap (λ (l : List ℕ). take 65 l) (sym feed.1);
        };
  }

  -- the line feed came, and the answer broke off
  pub line_cut : (disk : D) (end : QueryEnd) (b : ℕ) (line : List ℕ) (n : ℕ) (t : List TalkItem) → b ≡ 10 → end ≢ Done
      → AnswersLine medium book disk end line t → AnswersBytes medium book disk end (b ∷ []) line line n n t
  line_cut disk end b line n t ends broke one = record {
    only = one.only;
    answers = λ begun held rows stands x told.
        let feed = line_ends begun b ends in let answer = one.answers rows stands x told in
        let asks = asks_held begun answer.0 (subst (λ (l : List ℕ). LineAsks l answer.0) held answer.1) in
        record {
          answers = subst (λ (lines : List (List ℕ)). AnswersLines end rows lines (said t) n n) (sym feed.0)
              (broken_by end rows (begun ∷ []) (said t) n n broke (record {
                met = [];
                ahead = begun ∷ [];
                split = refl;
                whole = [];
                part = said t;
                bytes_are = refl;
                answers = refl;
                begun = inr (answer.0, asks, answer_front end (answer_to rows answer.0) (said t) broke answer.2);
                counted = omega arith;
              }));
          held = λ e. absurd (broke e);
        };
  }

  -- bytes came, and then others
  pub bytes_join : (disk later : D) (end : QueryEnd) (x y before now after : List ℕ) (a b c : ℕ) (s t : List TalkItem) → Stays medium disk later
      → AnswersBytes medium book disk Done x before now a b s → AnswersBytes medium book later end y now after b c t
      → AnswersBytes medium book disk end (x ++ y) before after a c (s ++ t)
  bytes_join disk later end x y before now after a b c s t stays one two = record {
    only = only_joins s t one.only two.only;
    answers = subst (λ (bytes : List ℕ). ServesFrom medium book disk end (x ++ y) bytes before after a c) (sym (said_joins s t))
        (from_joins medium book disk later end x y (said s) (said t) before now after a b c stays one.answers two.answers);
  }

  -- bytes came where the service broke off, and others were not looked at
  pub bytes_cut : (disk : D) (end : QueryEnd) (x y before after : List ℕ) (a b : ℕ) (t : List TalkItem) → end ≢ Done
      → AnswersBytes medium book disk end x before after a b t → AnswersBytes medium book disk end (x ++ y) before after a b t
  bytes_cut disk end x y before after a b t broke one = record {
    only = one.only;
    answers = from_cut medium book disk end x y (said t) before after a b broke one.answers;
  }

  -- no turn was taken
  pub turns_none : (disk : D) (line : List ℕ) (n : ℕ) → TakesTurns medium book disk Done 0 line line n n []
  turns_none disk line n = record {
    most = omega arith;
    least = λ _. omega arith;
    turn_by_turn = λ begun held rows stands x told. (begun, (refl, refl), λ _. held);
    answers = from_none medium book disk Done line n;
  }

  -- a turn in which a wait passed
  pub turn_quiet : (disk : D) (line : List ℕ) (n : ℕ) → TakesTurns medium book disk Done 1 line line n n (Quiet ∷ [])
  turn_quiet disk line n = record {
    most = omega arith;
    least = λ _. omega arith;
    turn_by_turn = λ begun held rows stands x told. (begun, turn_waited rows begun, λ _. held);
    answers = from_none medium book disk Done line n;
  }

  -- a turn in which the link failed or found no memory
  pub turn_failed : (disk : D) (end : QueryEnd) (line : List ℕ) (n : ℕ) → end ≢ Done → TakesTurns medium book disk end 1 line line n n []
  turn_failed disk end line n broke = record {
    most = omega arith;
    least = λ e. absurd (broke e);
    turn_by_turn = λ begun held rows stands x told. (begun, turn_unheard rows end begun begun broke, λ e. absurd (broke e));
    answers = from_none medium book disk end line n;
  }

  -- a turn in which bytes were heard, and then the answers to them
  pub turn_got : (disk : D) (end : QueryEnd) (bytes before after : List ℕ) (a b : ℕ) (s t : List TalkItem) → s ≡ map Heard bytes
      → 1 ≤ length bytes → length bytes ≤ 256 → AnswersBytes medium book disk end bytes before after a b t
      → TakesTurns medium book disk end 1 before after a b (s ++ t)
  turn_got disk end bytes before after a b s t is some few one =
      let came : heard s ≡ bytes = ap heard is ∙ heard_bytes bytes in
      let waits : count_quiets s ≡ 0 = ap count_quiets is ∙ heard_waits bytes in
      let all : heard (s ++ t) ≡ bytes =
      heard-append s t ∙ (ap (λ (l : List ℕ). l ++ heard t) came ∙ (ap (λ (l : List ℕ). bytes ++ l) one.only.0 ∙ append-nil bytes)) in
      let texts : said (s ++ t) ≡ said t = said_joins s t ∙ ap (λ (l : List ℕ). l ++ said t) (ap said is ∙ heard_said bytes) in
      let met : count_met (s ++ t) ≡ length bytes = omega (arith, ap length all, count_quiets-append s t, waits, one.only.1) in
      record {
        most = omega (arith, met, few);
        least = λ _. omega (arith, met, some);
        turn_by_turn = λ begun held rows stands x told.
            let served = one.answers begun held rows stands x told in
            let talk : HearsAndSays (s ++ t) = record {
              received = s;
              answered = t;
              whole = refl;
              receives = inr (bytes, is, some, few);
              only_says = one.only;
            } in
            (rest_after begun bytes, turn_heard rows end begun bytes a b (s ++ t) talk came served.answers, served.held);
        answers = subst (λ (l : List ℕ). ServesFrom medium book disk end l (said (s ++ t)) before after a b) (sym all)
            (subst (λ (l : List ℕ). ServesFrom medium book disk end bytes l before after a b) (sym texts) one.answers);
      }

  -- turns were taken, and then one more
  pub turns_join : (disk later : D) (end : QueryEnd) (turns all : ℕ) (before now after : List ℕ) (a b c : ℕ) (s t : List TalkItem) → Stays medium disk later
      → turns + 1 ≤ all → (end ≡ Done → all ≡ turns + 1)
      → TakesTurns medium book disk Done turns before now a b s → TakesTurns medium book later end 1 now after b c t
      → TakesTurns medium book disk end all before after a c (s ++ t)
  turns_join disk later end turns all before now after a b c s t stays within whole one two =
      let came = heard-append s t in
      let met : count_met (s ++ t) ≡ count_met s + count_met t =
      omega (arith, ap length came, length-append (heard s) (heard t), count_quiets-append s t) in
      record {
        most = omega (arith, met, one.most, two.most, within);
        least = λ e. omega (arith, met, one.least refl, two.least e, whole e);
        turn_by_turn = λ begun held rows stands x told.
            let first = one.turn_by_turn begun held rows stands x told in
            let then = two.turn_by_turn first.0 (first.2 refl) rows (to_read_stays medium book disk later rows stands stays) x
            (stays.reads ∙ told) in
            (then.0, turns_by rows end turns all begun first.0 then.0 s t within whole first.1 then.1, then.2);
        answers = subst (λ (l : List ℕ). ServesFrom medium book disk end l (said (s ++ t)) before after a c) (sym came)
            (subst (λ (l : List ℕ). ServesFrom medium book disk end (heard s ++ heard t) l before after a c) (sym (said_joins s t))
            (from_joins medium book disk later end (heard s) (heard t) (said s) (said t) before now after a b c stays one.answers two.answers));
      }

  -- from no line begun on
  pub turns_answered : (disk : D) (end : QueryEnd) (turns : ℕ) (before after : List ℕ) (a b : ℕ) (t : List TalkItem) → before ≡ [] → a ≡ 0
      → TakesTurns medium book disk end turns before after a b t → AnswersTurns medium book disk end turns b t
  turns_answered disk end turns before after a b t none zero one = record {
    most = one.most;
    least = one.least;
    turn_by_turn = λ rows stands x told.
        let turns_are = one.turn_by_turn [] none rows stands x told in (turns_are.0, turns_are.1);
    answers = λ rows stands x told.
        subst (λ (n : ℕ). AnswersLines end rows (lines_after [] (heard t)) (said t) n b) zero
        (one.answers [] none rows stands x told).answers;
  }

-- bytes were heard
pub hears_serves : {L D : Type 0} (traffic : Traffic L) (medium : Medium D) (book : Book) (link link' : L) (disk : D) (n : ℕ) (buf : List ℕ)
    → Hears traffic link (recv.Got n) buf link' → ServesQueries traffic medium book Done (λ t. t ≡ map Heard (take n buf)) link link' disk disk
hears_serves traffic medium book link link' disk n buf hears = record {
  talk = record {
    talk = record { items = map Heard (take n buf); are = refl; adds = hears.talk };
    fault = record { never_falls = hears.fault.never_falls; rose = λ e. absurd (let bad : Done ≡ LinkFault = e in cc) };
    shortage = record { never_falls = hears.shortage.never_falls; rose = λ e. absurd (let bad : Done ≡ OutOfMemory = e in cc) };
  };
  still = record {
    faults = λ _. hears.still.faults (λ e. absurd (let bad : recv.Got n ≡ recv.Failed = e in cc));
    quiets = λ no. absurd (no tt);
    shortages = λ _. hears.still.shortages (λ e. absurd (let bad : recv.Got n ≡ recv.OutOfMemory = e in cc));
  };
  stays = stays_none medium disk;
  went = λ rows stands. record { failed = false; by_end = refl; looked = no_look medium (slot_size * (slot_total rows + 1)) disk };
  disk_fault = record { never_falls = omega arith; rose = λ e. absurd (let bad : Done ≡ DiskFault = e in cc) };
}

-- a wait passed
pub quiet_serves : {L D : Type 0} (traffic : Traffic L) (medium : Medium D) (book : Book) (link link' : L) (disk : D) (buf : List ℕ)
    → Hears traffic link recv.Quiet buf link' → ServesQueries traffic medium book Done (λ t. t ≡ Quiet ∷ []) link link' disk disk
quiet_serves traffic medium book link link' disk buf hears = record {
  talk = record {
    talk = record { items = Quiet ∷ []; are = refl; adds = hears.talk };
    fault = record { never_falls = hears.fault.never_falls; rose = λ e. absurd (let bad : Done ≡ LinkFault = e in cc) };
    shortage = record { never_falls = hears.shortage.never_falls; rose = λ e. absurd (let bad : Done ≡ OutOfMemory = e in cc) };
  };
  still = record {
    faults = λ _. hears.still.faults (λ e. absurd (let bad : recv.Quiet ≡ recv.Failed = e in cc));
    quiets = λ no. absurd (no tt);
    shortages = λ _. hears.still.shortages (λ e. absurd (let bad : recv.Quiet ≡ recv.OutOfMemory = e in cc));
  };
  stays = stays_none medium disk;
  went = λ rows stands. record { failed = false; by_end = refl; looked = no_look medium (slot_size * (slot_total rows + 1)) disk };
  disk_fault = record { never_falls = omega arith; rose = λ e. absurd (let bad : Done ≡ DiskFault = e in cc) };
}

-- the link failed
pub failed_serves : {L D : Type 0} (traffic : Traffic L) (medium : Medium D) (book : Book) (link link' : L) (disk : D) (buf : List ℕ)
    → Hears traffic link recv.Failed buf link' → ServesQueries traffic medium book LinkFault (λ t. t ≡ []) link link' disk disk
failed_serves traffic medium book link link' disk buf hears = record {
  talk = record {
    talk = record { items = []; are = refl; adds = hears.talk };
    fault = record { never_falls = hears.fault.never_falls; rose = λ e. hears.fault.rose refl };
    shortage = record { never_falls = hears.shortage.never_falls; rose = λ e. absurd (let bad : LinkFault ≡ OutOfMemory = e in cc) };
  };
  still = record {
    faults = λ no. absurd (no refl);
    quiets = λ no. absurd (no tt);
    shortages = λ _. hears.still.shortages (λ e. absurd (let bad : recv.Failed ≡ recv.OutOfMemory = e in cc));
  };
  stays = stays_none medium disk;
  went = λ rows stands. record { failed = false; by_end = tt; looked = no_look medium (slot_size * (slot_total rows + 1)) disk };
  disk_fault = record { never_falls = omega arith; rose = λ e. absurd (let bad : LinkFault ≡ DiskFault = e in cc) };
}

-- it found no memory
pub short_serves : {L D : Type 0} (traffic : Traffic L) (medium : Medium D) (book : Book) (link link' : L) (disk : D) (buf : List ℕ)
    → Hears traffic link recv.OutOfMemory buf link' → ServesQueries traffic medium book OutOfMemory (λ t. t ≡ []) link link' disk disk
short_serves traffic medium book link link' disk buf hears = record {
  talk = record {
    talk = record { items = []; are = refl; adds = hears.talk };
    fault = record { never_falls = hears.fault.never_falls; rose = λ e. absurd (let bad : OutOfMemory ≡ LinkFault = e in cc) };
    shortage = record { never_falls = hears.shortage.never_falls; rose = λ e. hears.shortage.rose refl };
  };
  still = record {
    faults = λ _. hears.still.faults (λ e. absurd (let bad : recv.OutOfMemory ≡ recv.Failed = e in cc));
    quiets = λ no. absurd (no tt);
    shortages = λ no. absurd (no refl);
  };
  stays = stays_none medium disk;
  went = λ rows stands. record { failed = false; by_end = tt; looked = no_look medium (slot_size * (slot_total rows + 1)) disk };
  disk_fault = record { never_falls = omega arith; rose = λ e. absurd (let bad : OutOfMemory ≡ DiskFault = e in cc) };
}

-- the bytes up to one, and those behind it, are all
pub bytes_whole : (bytes : List ℕ) (n : ℕ) → n < length bytes → (take n bytes ++ get_or bytes n 0 ∷ []) ++ drop (n + 1) bytes ≡ bytes
bytes_whole bytes n below =
    ap (λ (l : List ℕ). l ++ drop (n + 1) bytes) (sym (take_more bytes n 0 below)) ∙ take-append-drop (n + 1) bytes

module _ {L D : Type 0} (traffic : Traffic L) (medium : Medium D) (book : Book) where
  -- bytes were taken, and then others
  pub bytes_serve : (end : QueryEnd) (x y before now after : List ℕ) (a b c : ℕ) (l m n : L) (d e f : D)
      → ServesQueries traffic medium book Done (AnswersBytes medium book d Done x before now a b) l m d e
      → ServesQueries traffic medium book end (AnswersBytes medium book e end y now after b c) m n e f
      → ServesQueries traffic medium book end (AnswersBytes medium book d end (x ++ y) before after a c) l n d f
  bytes_serve end x y before now after a b c l m n d e f one two =
      serves_joins traffic medium book end _ _ _ l m n d e f one two
      (λ s t first second. bytes_join medium book d e end x y before now after a b c s t one.stays first second)

  -- the same where the service broke off before the last bytes
  pub bytes_serve_cut : (end : QueryEnd) (x y z before now after : List ℕ) (a b c : ℕ) (l m n : L) (d e f : D) → end ≢ Done
      → ServesQueries traffic medium book Done (AnswersBytes medium book d Done x before now a b) l m d e
      → ServesQueries traffic medium book end (AnswersBytes medium book e end y now after b c) m n e f
      → ServesQueries traffic medium book end (AnswersBytes medium book d end ((x ++ y) ++ z) before after a c) l n d f
  bytes_serve_cut end x y z before now after a b c l m n d e f broke one two =
      serves_as traffic medium book end _ _ l n d f (bytes_serve end x y before now after a b c l m n d e f one two)
      (λ t part. bytes_cut medium book d end (x ++ y) z before after a c t broke part)

  -- bytes were heard, and taken
  pub turn_serve : (end : QueryEnd) (bytes before after : List ℕ) (a b : ℕ) (l m n : L) (d e : D) → 1 ≤ length bytes → length bytes ≤ 256
      → ServesQueries traffic medium book Done (λ t. t ≡ map Heard bytes) l m d d
      → ServesQueries traffic medium book end (AnswersBytes medium book d end bytes before after a b) m n d e
      → ServesQueries traffic medium book end (TakesTurns medium book d end 1 before after a b) l n d e
  turn_serve end bytes before after a b l m n d e some few one two =
      serves_joins traffic medium book end _ _ _ l m n d d e one two
      (λ s t first second. turn_got medium book d end bytes before after a b s t first some few second)

  -- turns were taken, and then one more
  pub turns_serve : (end : QueryEnd) (turns all : ℕ) (before now after : List ℕ) (a b c : ℕ) (l m n : L) (d e f : D)
      → turns + 1 ≤ all → (end ≡ Done → all ≡ turns + 1)
      → ServesQueries traffic medium book Done (TakesTurns medium book d Done turns before now a b) l m d e
      → ServesQueries traffic medium book end (TakesTurns medium book e end 1 now after b c) m n e f
      → ServesQueries traffic medium book end (TakesTurns medium book d end all before after a c) l n d f
  turns_serve end turns all before now after a b c l m n d e f within whole one two =
      serves_joins traffic medium book end _ _ _ l m n d e f one two
      (λ s t first second. turns_join medium book d e end turns all before now after a b c s t one.stays within whole first second)
