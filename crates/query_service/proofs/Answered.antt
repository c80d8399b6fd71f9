-- Answers to lines, one behind another.
use Rattle.std.proofs.Common.{ℕ, ◌≢◌, List, [], ◌∷◌, ◌++◌, inl, take, refl, sym, ap, subst, ◌∙◌, arith, append_assoc}
use Rattle.std.proofs.lemmas.List.{length-append}
use Rattle.disk_model.specs.Disk.{Stays}
use Rattle.disk_model.specs.Medium.{Medium}
use Rattle.station_base.specs.declared.row.Row.{Row}
use Rattle.weather_book.specs.declared.book.Book.{Book}
use Rattle.weather_book.proofs.BookOnDisk.{to_read_stays}
use Rattle.query_service.specs.Answers.{answer_to}
use Rattle.query_service.specs.Lines.{lines_after, rest_after}
use Rattle.query_service.specs.AnsweredLines.{AnswersLines, AreAnswers, AnsweringBreaksOff, AnswerIsBegun}
use Rattle.query_service.specs.Turns.{ServesFrom}
use Rattle.query_service.specs.declared.service.QueryEnd.{QueryEnd}
use Rattle.query_service.specs.declared.service.QueryEnd.TheVariants.{Done, LinkFault, DiskFault, OutOfMemory}
use Rattle.query_service.proofs.HeardLines.{lines_join, rest_join}

answers_join : (rows : List Row) (lines more : List (List ℕ)) (bytes later : List ℕ) → AreAnswers rows lines bytes → AreAnswers rows more later
    → AreAnswers rows (lines ++ more) (bytes ++ later)
answers_join rows [] more bytes later one two = subst (λ (b : List ℕ). AreAnswers rows more (b ++ later)) (sym one) two
answers_join rows (line ∷ lines) more bytes later one two = (
  one.0,
  one.1 ++ later,
  one.2,
  ap (λ (b : List ℕ). b ++ later) one.3 ∙ append_assoc (answer_to rows one.0) one.1 later,
  answers_join rows lines more one.1 later one.4 two,
)

breaks_join : (rows : List Row) (lines more : List (List ℕ)) (bytes later : List ℕ) (a b c : ℕ) → AnswersLines Done rows lines bytes a b
    → AnsweringBreaksOff rows more later b c → AnsweringBreaksOff rows (lines ++ more) (bytes ++ later) a c
breaks_join rows lines more bytes later a b c one two = record {
  met = lines ++ two.met;
  ahead = two.ahead;
  split = append_assoc lines two.met two.ahead ∙ ap (λ (l : List (List ℕ)). lines ++ l) two.split;
  whole = bytes ++ two.whole;
  part = two.part;
  bytes_are = ap (λ (l : List ℕ). bytes ++ l) two.bytes_are ∙ sym (append_assoc bytes two.whole two.part);
  answers = answers_join rows lines two.met bytes two.whole one.0 two.answers;
  begun = two.begun;
  counted = omega (arith, one.1, two.counted, length-append lines two.met);
}

-- lines that were answered, and then others
pub lines_answered : (end : QueryEnd) (rows : List Row) (lines more : List (List ℕ)) (bytes later : List ℕ) (a b c : ℕ)
    → AnswersLines Done rows lines bytes a b → AnswersLines end rows more later b c → AnswersLines end rows (lines ++ more) (bytes ++ later) a c
lines_answered Done rows lines more bytes later a b c one two =
    (answers_join rows lines more bytes later one.0 two.0, omega (arith, one.1, two.1, length-append lines more))
lines_answered LinkFault rows lines more bytes later a b c one two = breaks_join rows lines more bytes later a b c one two
lines_answered DiskFault rows lines more bytes later a b c one two = breaks_join rows lines more bytes later a b c one two
lines_answered OutOfMemory rows lines more bytes later a b c one two = breaks_join rows lines more bytes later a b c one two

begun_more : (rows : List Row) (ahead more : List (List ℕ)) (part : List ℕ) → AnswerIsBegun rows ahead part → AnswerIsBegun rows (ahead ++ more) part
begun_more rows [] [] part begun = begun
begun_more rows [] (line ∷ more) part begun = inl begun
begun_more rows (line ∷ ahead) more part begun = begun

breaks_more : (rows : List Row) (lines more : List (List ℕ)) (bytes : List ℕ) (a b : ℕ) → AnsweringBreaksOff rows lines bytes a b → AnsweringBreaksOff rows (lines ++ more) bytes a b
breaks_more rows lines more bytes a b one = record {
  met = one.met;
  ahead = one.ahead ++ more;
  split = sym (append_assoc one.met one.ahead more) ∙ ap (λ (l : List (List ℕ)). l ++ more) one.split;
  whole = one.whole;
  part = one.part;
  bytes_are = one.bytes_are;
  answers = one.answers;
  begun = begun_more rows one.ahead more one.part one.begun;
  counted = one.counted;
}

-- where the service broke off, later lines change nothing
lines_cut : (end : QueryEnd) (rows : List Row) (lines more : List (List ℕ)) (bytes : List ℕ) (a b : ℕ) → end ≢ Done
    → AnswersLines end rows lines bytes a b → AnswersLines end rows (lines ++ more) bytes a b
lines_cut Done rows lines more bytes a b broke one = absurd (broke refl)
lines_cut LinkFault rows lines more bytes a b broke one = breaks_more rows lines more bytes a b one
lines_cut DiskFault rows lines more bytes a b broke one = breaks_more rows lines more bytes a b one
lines_cut OutOfMemory rows lines more bytes a b broke one = breaks_more rows lines more bytes a b one

broken_none : (rows : List Row) (n : ℕ) → AnsweringBreaksOff rows [] [] n n
broken_none rows n = record {
  met = [];
  ahead = [];
  split = refl;
  whole = [];
  part = [];
  bytes_are = refl;
  answers = refl;
  begun = refl;
  counted = omega arith;
}

-- no lines
pub no_lines : (end : QueryEnd) (rows : List Row) (n : ℕ) → AnswersLines end rows [] [] n n
no_lines Done rows n = (refl, omega arith)
no_lines LinkFault rows n = broken_none rows n
no_lines DiskFault rows n = broken_none rows n
no_lines OutOfMemory rows n = broken_none rows n

module _ {D : Type 0} (medium : Medium D) (book : Book) where
  -- nothing came
  pub from_none : (disk : D) (end : QueryEnd) (line : List ℕ) (n : ℕ) → ServesFrom medium book disk end [] [] line line n n
  from_none disk end line n begun held rows stands x told = record { answers = no_lines end rows n; held = λ _. held }

  -- bytes came that were answered, and then others
  pub from_joins : (disk later : D) (end : QueryEnd) (x y u v before now after : List ℕ) (a b c : ℕ) → Stays medium disk later
      → ServesFrom medium book disk Done x u before now a b → ServesFrom medium book later end y v now after b c
      → ServesFrom medium book disk end (x ++ y) (u ++ v) before after a c
  from_joins disk later end x y u v before now after a b c stays first second begun held rows stands image told =
      let one = first begun held rows stands image told in
      let two = second (rest_after begun x) (one.held refl) rows (to_read_stays medium book disk later rows stands stays) image (stays.reads ∙ told) in
      record {
        answers = subst (λ (lines : List (List ℕ)). AnswersLines end rows lines (u ++ v) a c) (sym (lines_join begun x y))
            (lines_answered end rows (lines_after begun x) (lines_after (rest_after begun x) y) u v a b c one.answers two.answers);
        held = λ e. two.held e ∙ ap (λ (l : List ℕ). take 65 l) (sym (rest_join begun x y));
      }

  -- bytes came where the service broke off, and others were not looked at
  pub from_cut : (disk : D) (end : QueryEnd) (x y u before after : List ℕ) (a b : ℕ) → end ≢ Done
      → ServesFrom medium book disk end x u before after a b → ServesFrom medium book disk end (x ++ y) u before after a b
  from_cut disk end x y u before after a b broke first begun held rows stands image told =
      let one = first begun held rows stands image told in
      record {
        answers = subst (λ (lines : List (List ℕ)). AnswersLines end rows lines u a b) (sym (lines_join begun x y))
            (lines_cut end rows (lines_after begun x) (lines_after (rest_after begun x) y) u a b broke one.answers);
        held = λ e. absurd (broke e);
      }
