-- What ticks and records that fall due leave of the records, and what a dump keeps while it lasts.
use Rattle.std.proofs.Common.{◌≡◌, ℕ, ◌+◌, ◌-◌, List, [], ◌∷◌, ◌++◌, length, refl, sym, ap, ◌∙◌, Bool, true, false, Option, Some, None, append_assoc}
use Rattle.std.specs.Prelude.{if◌then◌else◌, nat_lt}
use Rattle.std.proofs.lemmas.List.{append-nil}
use Rattle.station_base.specs.CivilMinute.{CivilMinute}
use Rattle.console_ring.specs.declared.plan.Plan.{Plan}
use Rattle.console_model.specs.declared.signal.Signal.{Signal}
use Rattle.console_model.specs.declared.signal.Signal.TheVariants.{Lf, Next, Again, Stop, Other}
use Rattle.console_model.specs.declared.order.Order.{Order}
use Rattle.console_model.specs.Console.{ConsoleState, Console, Outcome, most_held}
use Rattle.console_model.specs.Console.ConsoleState.{Asleep, Command, Overlong, Frame, Dump, Looping}
use Rattle.console_model.specs.Due.{in_the_way, put, hold, due, due_by, due_in_state, due_told, told_by, due_with_room}
use Rattle.console_model.specs.Hear.{in_dump, heard_in, hear, sends_page, dump_ended}
use Rattle.console_model.specs.Laws.{records_of, AddsRecord, KeepsDump}
use Rattle.console_model.specs.Line.{to, silent, at_line}
use Rattle.console_model.specs.Reading.{signal}
use Rattle.console_model.specs.Tick.{ticked_in, tick, idled, turned}
use Rattle.console_model.specs.Valid.{IsTidy, IsValid}
use Rattle.console_model.proofs.Orders.{read_empty}

pub tick_records : (s : ConsoleState) (three much fifth : Bool) (c : Console) → records_of (ticked_in s three much fifth c).next ≡ records_of c
tick_records Asleep three much fifth c = refl
tick_records (Command []) three true fifth c = refl
tick_records (Command []) three false fifth c = refl
tick_records (Command (b ∷ line)) true much fifth c = refl
tick_records (Command (b ∷ line)) false much fifth c = refl
tick_records Overlong true much fifth c = refl
tick_records Overlong false much fifth c = refl
tick_records (Frame kind got) true much fifth c = refl
tick_records (Frame kind got) false much fifth c = refl
tick_records (Dump p sent) three true fifth c = append-nil (c.history ++ c.held)
tick_records (Dump p sent) three false fifth c = refl
tick_records (Looping n) three much true c = looping (nat_lt 1 n)
  where
    looping : (b : Bool) → records_of (if b then turned c (Looping (n - 1)) else to c (Command [])) ≡ records_of c
    looping true = refl
    looping false = refl
tick_records (Looping n) three much false c = refl

pub tick_keeps : (c : Console) → records_of (tick c).next ≡ records_of c
tick_keeps c = tick_records c.state _ _ _ (idled c)

outside : (r : List ℕ) (c : Console) → c.held ≡ [] → (c.history ++ r ∷ []) ++ c.held ≡ (c.history ++ c.held) ++ r ∷ []
outside r c none = rw none (append-nil (c.history ++ r ∷ []) ∙ ap (λ (h : List (List ℕ)). h ++ r ∷ []) (sym (append-nil c.history)))

-- a record that falls due comes behind those before it
pub due_records : (s : ConsoleState) (r : List ℕ) (c : Console) → IsTidy s c.held → records_of (due_in_state s r c) ≡ records_of c ++ r ∷ []
due_records Asleep r c none = outside r c none
due_records (Command line) r c none = outside r c none
due_records Overlong r c none = outside r c none
due_records (Frame kind got) r c none = outside r c none
due_records (Looping n) r c none = outside r c none
due_records (Dump p sent) r c none = room (nat_lt (length c.held) most_held)
  where
    room : (b : Bool) → records_of (if b then hold r c else put r (dump_ended c)) ≡ records_of c ++ r ∷ []
    room true = sym (append_assoc c.history c.held (r ∷ []))
    room false = append-nil ((c.history ++ c.held) ++ r ∷ [])

told_added : (s : ConsoleState) (room : Bool) (r : List ℕ) (old new : Console) → records_of new ≡ records_of old ++ r ∷ [] → AddsRecord old new r (due_with_room s room)
told_added Asleep room r old new is = is
told_added (Command line) room r old new is = is
told_added Overlong room r old new is = is
told_added (Frame kind got) room r old new is = is
told_added (Dump p sent) true r old new is = is
told_added (Dump p sent) false r old new is = is
told_added (Looping n) room r old new is = is

pub due_adds : (c : Console) (r : List ℕ) → IsValid c → AddsRecord c (due r c) r (due_told r c)
due_adds c r v = by_way (in_the_way r c)
  where
    by_way : (way : Option CivilMinute) → AddsRecord c (due_by way r c) r (told_by way c)
    by_way None = told_added c.state (nat_lt (length c.held) most_held) r c (due_in_state c.state r c) (due_records c.state r c v.tidy)
    by_way (Some newest) = refl

-- what follows a dump of this plan and history
abbrev Follows : ConsoleState → List (List ℕ) → Console → Type 0
Follows s history new = (p q : Plan) (m n : ℕ) → s ≡ Dump p m → new.state ≡ Dump q n → (q ≡ p) × (new.history ≡ history)

goes_on : (p : Plan) (m k : ℕ) (history : List (List ℕ)) (new : Console) → new.state ≡ Dump p k → new.history ≡ history → Follows (Dump p m) history new
goes_on p m k history new is same p' q m' n old there = (cc, same)

no_dump : (s : ConsoleState) (history : List (List ℕ)) (new : Console) → new.state ≡ Command [] → Follows s history new
no_dump s history new is p q m n old there = absurd (cc)

either_follows : (b : Bool) (x y : Outcome) (s : ConsoleState) (history : List (List ℕ)) → Follows s history x.next → Follows s history y.next → Follows s history (if b then x else y).next
either_follows true x y s history one other = one
either_follows false x y s history one other = other

dump_follows : (p : Plan) (sent : ℕ) (m : Signal) (b : ℕ) (c : Console) → Follows (Dump p sent) c.history (in_dump p sent m b c).next
dump_follows p sent Next b c =
    either_follows (nat_lt sent p.pages) (sends_page p sent c) (silent (to (dump_ended c) (Command []))) (Dump p sent) c.history
    (goes_on p sent (sent + 1) c.history (sends_page p sent c).next refl refl) (no_dump (Dump p sent) c.history (to (dump_ended c) (Command [])) refl)
dump_follows p sent Again b c = goes_on p sent (sent - 1 + 1) c.history (sends_page p (sent - 1) c).next refl refl
dump_follows p sent Stop b c = no_dump (Dump p sent) c.history (to (dump_ended c) (Command [])) refl
dump_follows p sent Lf b c = no_dump (Dump p sent) c.history (in_dump p sent Lf b c).next (ap (λ (o : Order). (at_line o (dump_ended c)).next.state) (read_empty [] refl))
dump_follows p sent Other b c = λ p' q m n old there. absurd (cc)

heard_follows : (s : ConsoleState) (m : Signal) (b : ℕ) (c : Console) → Follows s c.history (heard_in s m b c).next
heard_follows Asleep m b c = no_dump Asleep c.history (to c (Command [])) refl
heard_follows (Command line) m b c = λ p q k n old there. absurd (cc)
heard_follows Overlong m b c = λ p q k n old there. absurd (cc)
heard_follows (Frame kind got) m b c = λ p q k n old there. absurd (cc)
heard_follows (Dump p sent) m b c = dump_follows p sent m b c
heard_follows (Looping left) m b c = no_dump (Looping left) c.history (to c (Command [])) refl

pub hear_lasts : (c : Console) (b : ℕ) → KeepsDump c (hear c b).next
hear_lasts c b = heard_follows c.state (signal b) b c

tick_follows : (s : ConsoleState) (three much fifth : Bool) (c : Console) → c.state ≡ s → Follows s c.history (ticked_in s three much fifth c).next
tick_follows Asleep three much fifth c is = λ p q k n old there. absurd (cc)
tick_follows (Command line) three much fifth c is = λ p q k n old there. absurd (cc)
tick_follows Overlong three much fifth c is = λ p q k n old there. absurd (cc)
tick_follows (Frame kind got) three much fifth c is = λ p q k n old there. absurd (cc)
tick_follows (Dump p sent) three true fifth c is = λ p' q k n old there. absurd (cc)
tick_follows (Dump p sent) three false fifth c is = goes_on p sent sent c.history c is refl
tick_follows (Looping left) three much fifth c is = λ p q k n old there. absurd (cc)

pub tick_lasts : (c : Console) → KeepsDump c (tick c).next
tick_lasts c = tick_follows c.state _ _ _ (idled c) refl

due_follows : (s : ConsoleState) (r : List ℕ) (c : Console) → c.state ≡ s → Follows s c.history (due_in_state s r c)
due_follows Asleep r c is = λ p q k n old there. absurd (cc)
due_follows (Command line) r c is = λ p q k n old there. absurd (cc)
due_follows Overlong r c is = λ p q k n old there. absurd (cc)
due_follows (Frame kind got) r c is = λ p q k n old there. absurd (cc)
due_follows (Dump p sent) r c is = room (nat_lt (length c.held) most_held)
  where
    room : (b : Bool) → Follows (Dump p sent) c.history (if b then hold r c else put r (dump_ended c))
    room true = goes_on p sent sent c.history (hold r c) is refl
    room false = no_dump (Dump p sent) c.history (put r (dump_ended c)) refl
due_follows (Looping left) r c is = λ p q k n old there. absurd (cc)

pub due_lasts : (c : Console) (r : List ℕ) → KeepsDump c (due r c)
due_lasts c r = by_way (in_the_way r c)
  where
    by_way : (way : Option CivilMinute) → KeepsDump c (due_by way r c)
    by_way None = due_follows c.state r c refl
    by_way (Some newest) = λ p q k n old there. (cc, refl)
