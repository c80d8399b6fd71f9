-- From what a part of an event gives to what the event answers.
use Rattle.std.proofs.Common.{◌≡◌, ℕ, ◌+◌, ◌<◌, ◌≤◌, List, [], ◌∷◌, ◌++◌, length, refl, sym, ap, subst, ◌∙◌, arith, Bool, true, false, None, length-append}
use Rattle.std.specs.Prelude.{if◌then◌else◌, nat_lt, IsSome}
use Rattle.std.proofs.lemmas.Bool.Decides.{nat_tests}
use Rattle.archive_record.specs.Reading.{stamp_in}
use Rattle.console_model.specs.declared.console.Console.{Console}
use Rattle.console_model.specs.declared.due.Due.TheVariants.{Put}
use Rattle.console_model.specs.declared.frame.FrameKind.{FrameKind}
use Rattle.console_model.specs.declared.reply.Reply.{Reply}
use Rattle.console_model.specs.declared.state.State.{State}
use Rattle.console_model.specs.declared.state.Place.{Place}
use Rattle.console_model.specs.declared.state.State.TheVariants.{Asleep, Command, Overlong, Frame, Dump, Looping}
use Rattle.console_model.specs.Console as model
use Rattle.console_model.specs.Due.{in_the_way, due_by, due_in_state, due, hold, put, due_with_room}
use Rattle.console_model.specs.Frame.{in_frame, at_frame}
use Rattle.console_model.specs.FrameSize.{frame_size}
use Rattle.console_model.specs.Hear.{dump_ended}
use Rattle.console_model.specs.Line.{silent, to}
use Rattle.console_model.specs.Standing.{ConsoleShows, ConsoleStandsFor, ConsoleGives, ConsoleAnswers}
use Rattle.console_model.specs.States.{console_state_of}
use Rattle.console_model.specs.Valid.{IsValid, IsTidy}
use Rattle.console_model.proofs.ValidConsoles.{due_valid}
use Rattle.console_model.specs.Console.{most_held}

pub answered : (o : model.Outcome) (new : Console) (r : Reply) → ConsoleGives o new r → IsValid o.next → ConsoleAnswers o new r
answered o new r gives valid = record { tells = gives.tells; stands = record { shows = gives.shows; valid = valid } }

-- a byte that makes a frame whole
pub whole_frame : (kind : FrameKind) (got frame : List ℕ) (b : ℕ) (k : model.Console) → frame ≡ got ++ b ∷ [] → length frame ≡ frame_size kind → at_frame kind frame k ≡ in_frame kind got b k
whole_frame kind got frame b k is size =
    let long : length got + 1 ≡ frame_size kind = sym (length-append got (b ∷ [])) ∙ sym (ap (λ (f : List ℕ). length f) is) ∙ size in
    let full : nat_lt (length got + 1) (frame_size kind) ≡ false = grind (arith, nat_tests, long) in
    ap (λ (f : List ℕ). at_frame kind f k) is
    ∙ sym (ap (λ (t : Bool). if t then silent (to k (model.ConsoleState.Frame kind (got ++ b ∷ []))) else at_frame kind (got ++ b ∷ []) k) full)

-- a record that nothing stands in the way of
pub due_stands : (r : List ℕ) (k next : model.Console) (s : model.ConsoleState) (new : Console) → IsSome (stamp_in r) → IsValid k → in_the_way r k ≡ None → k.state ≡ s → due_in_state s r k ≡ next → ConsoleShows new next →
    ConsoleStandsFor new (due r k)
due_stands r k next s new stamped valid free state is shows =
    let same : due r k ≡ next = ap (λ way. due_by way r k) free ∙ ap (λ (s : model.ConsoleState). due_in_state s r k) state ∙ is in
    record { shows = subst (λ (x : model.Console). ConsoleShows new x) (sym same) shows; valid = due_valid r k stamped valid }

-- in a dump with room for it, and in one without
pub room_to_hold : (r : List ℕ) (k : model.Console) → length k.held < most_held → (if nat_lt (length k.held) most_held then hold r k else put r (dump_ended k)) ≡ hold r k
room_to_hold r k room =
    let less : nat_lt (length k.held) most_held ≡ true = grind (arith, nat_tests, room) in
    ap (λ (t : Bool). if t then hold r k else put r (dump_ended k)) less

pub no_room_to_hold : (r : List ℕ) (k : model.Console) → most_held ≤ length k.held → (if nat_lt (length k.held) most_held then hold r k else put r (dump_ended k)) ≡ put r (dump_ended k)
no_room_to_hold r k full =
    let less : nat_lt (length k.held) most_held ≡ false = grind (arith, nat_tests, full) in
    ap (λ (t : Bool). if t then hold r k else put r (dump_ended k)) less

-- in no dump it is put, and nothing is held
pub not_in_dump : (s : State) (r : List ℕ) (k : model.Console) → ((place : Place) → s ≡ Dump place → ⊥) → IsTidy (console_state_of s) k.held → (due_in_state (console_state_of s) r k ≡ put r k) × (k.held ≡ []) × ((room : Bool) → due_with_room (console_state_of s) room ≡ Put)
not_in_dump Asleep r k other tidy = (refl, tidy, λ room. refl)
not_in_dump (Command line) r k other tidy = (refl, tidy, λ room. refl)
not_in_dump Overlong r k other tidy = (refl, tidy, λ room. refl)
not_in_dump (Frame frame) r k other tidy = (refl, tidy, λ room. refl)
not_in_dump (Dump place) r k other tidy = absurd (other place refl)
not_in_dump (Looping left) r k other tidy = (refl, tidy, λ room. refl)
