-- Answers to what comes, and turns, one after another.
use Rattle.std.proofs.Common.{◌≡◌, ℕ, ◌+◌, ◌≤◌, ◌<◌, List, [], ◌∷◌, ◌++◌, length, map, take, drop, get_or, refl, sym, ap, subst, ◌∙◌, arith, append-nil}
use Rattle.std.proofs.lemmas.List.{map-append, take_more, take-append-drop}
use Rattle.causes.specs.Lists.{IsFrontOf}
use Rattle.console_model.specs.Console as model
use Rattle.console_model.specs.Hear.{hear}
use Rattle.console_model.specs.Standing.{ConsoleAnswers, ConsoleStandsFor}
use Rattle.console_model.specs.Tick.{tick}
use Rattle.console_model.specs.declared.console.Console.{Console}
use Rattle.console_model.specs.declared.reply.Reply.{Reply}
use Rattle.serial_link.specs.Talk.{message}
use Rattle.serial_link.specs.declared.talk.TalkItem.{TalkItem}
use Rattle.serial_link.specs.declared.talk.TalkItem.TheVariants.{Heard, Quiet}
use Rattle.serial_link.proofs.GrownTalk.{count_quiets-append}
use Rattle.serial_link.proofs.TurnsTaken.{one_turn, turns_and_one, breaks_unheard, breaks_first, breaks_then}
use Rattle.serial_link.specs.Turns.{AreTurns, CameOfOneReceive}
use Rattle.wake_retry.specs.Bounds.{said}
use Rattle.wake_retry.specs.Parts.{heard, count_met}
use Rattle.wake_retry.proofs.Endings.{heard_both}
use Rattle.console_server.specs.Replies.{said_items, console_after, replies}
use Rattle.console_server.specs.ServedTurns.{IsServedTurn, ServedTurnBreaksOff, serving_room}
use Rattle.console_server.specs.Serving.{AnswersAll, IsAnsweredInPart, IsBrokenOff, OnlySays, SaysReply, ServesTurns}
use Rattle.console_server.specs.declared.serving.Served.{Served}
use Rattle.console_server.specs.declared.serving.ServeEnd.{ServeEnd}
use Rattle.console_server.specs.declared.serving.ServeEnd.TheVariants as end
use Rattle.console_server.proofs.Talks.{said_items-append, said_both, after_both, replies_both, only_said, only_both, only_message, only_begun, message_said, front_behind, front_before, whole_front}

-- nothing came yet
pub answers_none : (console : Console) (count : Served) → AnswersAll end.Done [] console console count count []
answers_none console count = record { only = tt; replies = λ k stands. record { said = refl; stands = stands }; counted = omega arith }

-- What one more item makes of a console: these bytes are its reply, and the console in memory is the one after it.
abbrev pub Steps : TalkItem → List ℕ → Console → Console → Type 0
Steps item bytes before after = (k : model.Console) → ConsoleStandsFor before k
    → (replies k (item ∷ []) ≡ message bytes) × ConsoleStandsFor after (console_after k (item ∷ []))

-- one more item came and was answered
pub answers_more : (came s t : List TalkItem) (item : TalkItem) (bytes : List ℕ) (a b c : Console) (x y z : Served)
    → AnswersAll end.Done came a b x y s → Steps item bytes b c → SaysReply end.Done bytes y z t → AnswersAll end.Done (came ++ item ∷ []) a c x z (s ++ t)
answers_more came s t item bytes a b c x y z before steps says = record {
  only = only_both s t before.only (subst OnlySays (sym says.0) (only_message bytes));
  replies = λ k stands.
      let was = before.replies k stands in
      let now = steps (console_after k came) was.stands in
      record {
        said = ap (λ (l : List TalkItem). l ++ t) was.said ∙ ap (λ (l : List TalkItem). replies k came ++ l) (says.0 ∙ sym now.0) ∙ sym (replies_both k came (item ∷ []));
        stands = subst (ConsoleStandsFor c) (sym (after_both k came (item ∷ []))) now.1;
      };
  counted = omega (arith, before.counted, says.1, said_both s t, ap (λ (l : List TalkItem). length (said l)) says.0, message_said bytes);
}

-- one more item came, whose reply was cut off
pub answers_part : (came rest s t : List TalkItem) (item : TalkItem) (bytes : List ℕ) (a b c : Console) (x y : Served)
    → AnswersAll end.Done came a b x y s → Steps item bytes b c → IsFrontOf t (message bytes)
    → OnlySays (s ++ t) × ((k : model.Console) → ConsoleStandsFor a k → IsAnsweredInPart k c ((came ++ item ∷ []) ++ rest) (s ++ t))
answers_part came rest s t item bytes a b c x y before steps front = (
  only_both s t before.only (only_begun bytes t front),
  λ k stands.
      let was = before.replies k stands in
      let now = steps (console_after k came) was.stands in
      record {
        met = came ++ item ∷ [];
        front = whole_front (came ++ item ∷ []) rest;
        said = subst (IsFrontOf (s ++ t))
            (ap (λ (l : List TalkItem). l ++ message bytes) was.said ∙ ap (λ (l : List TalkItem). replies k came ++ l) (sym now.0) ∙ sym (replies_both k came (item ∷ [])))
            (front_behind s t (message bytes) front);
        stands = subst (ConsoleStandsFor c) (sym (after_both k came (item ∷ []))) now.1;
      },
)

-- a byte that is heard
pub hears_steps : (b : ℕ) (r : Reply) (before after : Console) → ((k : model.Console) → ConsoleStandsFor before k → ConsoleAnswers (hear k b) after r)
    → Steps (Heard b) r.bytes.items before after
hears_steps b r before after hears k stands =
    let a = hears k stands in (append-nil (message (hear k b).bytes) ∙ sym (ap message a.tells.bytes), a.stands)

-- a wait that passes
pub waits_steps : (r : Reply) (before after : Console) → ((k : model.Console) → ConsoleStandsFor before k → ConsoleAnswers (tick k) after r) → Steps Quiet r.bytes.items before after
waits_steps r before after ticks k stands =
    let a = ticks k stands in (append-nil (message (tick k).bytes) ∙ sym (ap message a.tells.bytes), a.stands)

-- one item alone came
pub answers_one : (end : ServeEnd) (t : List TalkItem) (item : TalkItem) (bytes : List ℕ) (b c : Console) (y z : Served)
    → Steps item bytes b c → SaysReply end bytes y z t → AnswersAll end (item ∷ []) b c y z t
answers_one end.Done t item bytes b c y z steps says = answers_more [] [] t item bytes b b c y y z (answers_none b y) steps says
answers_one end.LinkFault t item bytes b c y z steps says =
    let part = answers_part [] [] [] t item bytes b b c y y (answers_none b y) steps says in record { only = part.0; replies = part.1; counted = tt }
answers_one end.OutOfMemory t item bytes b c y z steps says =
    let part = answers_part [] [] [] t item bytes b b c y y (answers_none b y) steps says in record { only = part.0; replies = part.1; counted = tt }

-- one byte more that is heard
pub heard_more : (bytes : List ℕ) (n : ℕ) → n < length bytes → map Heard (take (n + 1) bytes) ≡ map Heard (take n bytes) ++ Heard (get_or bytes n 0) ∷ []
heard_more bytes n below = ap (λ (l : List ℕ). map Heard l) (take_more bytes n 0 below) ∙ map-append Heard (take n bytes) (get_or bytes n 0 ∷ [])

-- the bytes up to one, and those behind it, are all
pub heard_whole : (bytes : List ℕ) (n : ℕ) → n < length bytes
    → (map Heard (take n bytes) ++ Heard (get_or bytes n 0) ∷ []) ++ map Heard (drop (n + 1) bytes) ≡ map Heard bytes
heard_whole bytes n below =
    ap (λ (l : List TalkItem). l ++ map Heard (drop (n + 1) bytes)) (sym (heard_more bytes n below))
    ∙ sym (map-append Heard (take (n + 1) bytes) (drop (n + 1) bytes)) ∙ ap (λ (l : List ℕ). map Heard l) (take-append-drop (n + 1) bytes)

-- what came in one turn, of which nothing was said, and then the answers to it
pub turn_done : (came t : List TalkItem) (a b : Console) (x y z : Served) → CameOfOneReceive serving_room came → said_items came ≡ [] → length (said came) ≡ 0 → 1 ≤ count_met came → count_met came ≤ 256
    → z.heard ≡ x.heard + length (heard came) → y.said ≡ x.said → AnswersAll end.Done came a b y z t → ServesTurns end.Done 1 a b x z (came ++ t)
turn_done came t a b x y z receives silent none some few counts keeps answers =
    let mute = only_said t answers.only in (
      record {
        heard = omega (arith, counts, heard_both came t, mute.heard);
        said = omega (arith, keeps, answers.counted, said_both came t, none);
        least = omega (arith, some, heard_both came t, count_quiets-append came t);
        most = omega (arith, few, heard_both came t, mute.heard, mute.waits, count_quiets-append came t);
      },
      λ k stands.
          let is = answers.replies k stands in
          record {
            said = said_items-append came t ∙ ap (λ (l : List TalkItem). l ++ said_items t) silent ∙ mute.items ∙ is.said ∙ sym (append-nil (replies k came))
                ∙ ap (λ (l : List TalkItem). replies k came ++ l) (sym (mute.replies (console_after k came))) ∙ sym (replies_both k came t);
            turn_by_turn = one_turn IsServedTurn k (console_after k (came ++ t)) (came ++ t) (record {
              received = came;
              answered = t;
              whole = refl;
              receives = receives;
              says = is.said;
              next_is = after_both k came t ∙ mute.stays (console_after k came);
            });
            stands = subst (ConsoleStandsFor b) (sym (after_both k came t ∙ mute.stays (console_after k came))) is.stands;
          },
    )

-- the same where the answers were cut off
pub turn_cut : (came t : List TalkItem) (a b : Console) → CameOfOneReceive serving_room came → said_items came ≡ [] → count_met came ≤ 256 → OnlySays t
    → ((k : model.Console) → ConsoleStandsFor a k → IsAnsweredInPart k b came t) → IsBrokenOff 1 a b (came ++ t)
turn_cut came t a b receives silent few only part =
    let mute = only_said t only in (
      omega (arith, few, heard_both came t, mute.heard, mute.waits, count_quiets-append came t),
      λ k stands.
          let is = part k stands in
          record {
            met = is.met;
            came = front_before is.met came t is.front;
            said = subst (λ (l : List TalkItem). IsFrontOf l (replies k is.met))
                (sym (said_items-append came t ∙ ap (λ (l : List TalkItem). l ++ said_items t) silent ∙ mute.items)) is.said;
            turn_by_turn = breaks_first IsServedTurn ServedTurnBreaksOff 1 k (came ++ t) (omega arith) (record {
              received = came;
              answered = t;
              whole = refl;
              receives = receives;
              met = is.met;
              front = is.front;
              says = is.said;
            });
            stands = is.stands;
          },
    )

-- by how the answers ended
pub turn_by : (end : ServeEnd) (came t : List TalkItem) (a b : Console) (x y z : Served) → CameOfOneReceive serving_room came → said_items came ≡ [] → length (said came) ≡ 0 → 1 ≤ count_met came
    → count_met came ≤ 256 → z.heard ≡ x.heard + length (heard came) → y.said ≡ x.said → AnswersAll end came a b y z t → ServesTurns end 1 a b x z (came ++ t)
turn_by end.Done came t a b x y z receives silent none some few counts keeps answers = turn_done came t a b x y z receives silent none some few counts keeps answers
turn_by end.LinkFault came t a b x y z receives silent none some few counts keeps answers = turn_cut came t a b receives silent few answers.only answers.replies
turn_by end.OutOfMemory came t a b x y z receives silent none some few counts keeps answers = turn_cut came t a b receives silent few answers.only answers.replies

-- a turn in which nothing came
pub turn_none : (a : Console) → IsBrokenOff 1 a a []
turn_none a = (
  omega arith,
  λ k stands. record {
    met = [];
    came = ([], refl);
    said = ([], refl);
    turn_by_turn = breaks_unheard IsServedTurn ServedTurnBreaksOff 1 k (omega arith);
    stands = stands;
  },
)

-- no turn was taken
pub serves_none : (console : Console) (count : Served) → ServesTurns end.Done 0 console console count count []
serves_none console count = (
  record { heard = omega arith; said = omega arith; least = omega arith; most = omega arith },
  λ k stands. record { said = refl; turn_by_turn = (refl, refl); stands = stands },
)

-- one more turn was taken
pub serves_more : (turns : ℕ) (s t : List TalkItem) (a b c : Console) (x y z : Served) → ServesTurns end.Done turns a b x y s → ServesTurns end.Done 1 b c y z t
    → ServesTurns end.Done (turns + 1) a c x z (s ++ t)
serves_more turns s t a b c x y z before turn = (
  record {
    heard = omega (arith, before.0.heard, turn.0.heard, heard_both s t);
    said = omega (arith, before.0.said, turn.0.said, said_both s t);
    least = omega (arith, before.0.least, turn.0.least, heard_both s t, count_quiets-append s t);
    most = omega (arith, before.0.most, turn.0.most, heard_both s t, count_quiets-append s t);
  },
  λ k stands.
      let was = before.1 k stands in
      let now = turn.1 (console_after k s) was.stands in
      record {
        said = said_items-append s t ∙ ap (λ (l : List TalkItem). l ++ said_items t) was.said ∙ ap (λ (l : List TalkItem). replies k s ++ l) now.said ∙ sym (replies_both k s t);
        turn_by_turn = turns_and_one IsServedTurn turns (turns + 1) k (console_after k s) (console_after k (s ++ t)) s t refl was.turn_by_turn
            (subst (λ (next : model.Console). AreTurns IsServedTurn 1 (console_after k s) t next) (sym (after_both k s t)) now.turn_by_turn);
        stands = subst (ConsoleStandsFor c) (sym (after_both k s t)) now.stands;
      },
)

-- one more turn was cut off
pub serves_cut : (turns most : ℕ) (s t : List TalkItem) (a b c : Console) (x y : Served) → turns < most → ServesTurns end.Done turns a b x y s → IsBrokenOff 1 b c t
    → IsBrokenOff most a c (s ++ t)
serves_cut turns most s t a b c x y below before turn = (
  omega (arith, below, before.0.most, turn.0, heard_both s t, count_quiets-append s t),
  λ k stands.
      let was = before.1 k stands in
      let now = turn.1 (console_after k s) was.stands in
      record {
        met = s ++ now.met;
        came = front_behind s now.met t now.came;
        said = subst (λ (l : List TalkItem). IsFrontOf l (replies k (s ++ now.met)))
            (sym (said_items-append s t ∙ ap (λ (l : List TalkItem). l ++ said_items t) was.said))
            (subst (IsFrontOf (replies k s ++ said_items t)) (sym (replies_both k s now.met)) (front_behind (replies k s) (said_items t) (replies (console_after k s) now.met) now.said));
        turn_by_turn = breaks_then IsServedTurn ServedTurnBreaksOff turns most k (console_after k s) s t below was.turn_by_turn now.turn_by_turn;
        stands = subst (ConsoleStandsFor c) (sym (after_both k s now.met)) now.stands;
      },
)
