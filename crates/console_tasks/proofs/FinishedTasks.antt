-- A task from the calls that make it.
use Rattle.std.proofs.Common.{◌≡◌, ℕ, List, [], ◌∷◌, length, refl, sym, ◌∙◌, ap, subst, inl, inr, Ok, Err}
use Rattle.std.specs.declared.result.Result.{Result}
use Rattle.serial_link.specs.declared.talk.TalkItem.{TalkItem}
use Rattle.serial_link.specs.Traffic.{Traffic}
use Rattle.serial_link.specs.Link.{Talks}
use Rattle.serial_link.proofs.JoinedCalls.{talks_then, talks_as}
use Rattle.console_tasks.specs.declared.end.TaskEnd.{TaskEnd}
use Rattle.console_tasks.specs.declared.end.TaskEnd.TheVariants as task_end
use Rattle.vantage_frames.specs.Ack.{ack}
use Rattle.console_tasks.specs.Exchange.{Exchange, answered_exchange, command}
use Rattle.console_tasks.specs.TaskTalk.{Grammar, Exchanges, TaskTalk, Fails, EndsSo}
use Rattle.console_tasks.specs.Parts.{Steps, Starts, MessageIsAnswered, EndsTask, Commands, TaskCompletes}
use Rattle.console_tasks.proofs.Troubles.{talks_shown}
use Rattle.console_tasks.proofs.Onward.{On, fails_on, finishes_on, start_on, answered_on, on_end}

-- the end of an error does not go by what would be given
pub same_end : {T U : Type 0} (r : Result T TaskEnd) (q : Result U TaskEnd) (end other : TaskEnd) → r ≡ Err end
    → q ≡ Err end → r ≡ Err other → q ≡ Err other
same_end r q end other e f g = f ∙ (let z : end ≡ other = cc in ap (λ (x : TaskEnd). Err x) z)

-- what failed, as a result that is an error
pub fails_as : {L : Type 0} {traffic : Traffic L} {a b : L} {T U : Type 0} (Talk : Grammar) (answers : T → List (List ℕ))
    (r : Result T TaskEnd) (q : Result U TaskEnd) (end : TaskEnd)
    → r ≡ Err end → q ≡ Err end → Talks traffic a (Fails Talk end) (q ≡ Err task_end.LinkFault) (q ≡ Err task_end.OutOfMemory) b
    → Steps traffic a (TaskCompletes Talk answers) r b
fails_as Talk answers r q end e f one =
    talks_as (TaskCompletes Talk answers r) one (same_end r q end task_end.LinkFault e f)
    (same_end r q end task_end.OutOfMemory e f) (λ t k. subst (λ x. TaskCompletes Talk answers x t) (sym e) k)

module _ {L : Type 0} {traffic : Traffic L} {a b c : L} {F S : Type 0} (xs : List Exchange) (done : Unit {0})
    (one : Talks traffic a (Starts (Ok done)) F S b) where
  -- a task whose exchanges fail
  pub task_err : {T U : Type 0} (answers : T → List (List ℕ)) (r : Result T TaskEnd) (q : Result U TaskEnd)
      (end : TaskEnd) → r ≡ Err end → q ≡ Err end
      → Talks traffic b (Fails (Exchanges xs) end) (q ≡ Err task_end.LinkFault) (q ≡ Err task_end.OutOfMemory) c
      → Steps traffic a (TaskCompletes (TaskTalk xs) answers) r c
  task_err answers r q end e f two =
      fails_as (TaskTalk xs) answers r q end e f
      (talks_then (Fails (TaskTalk xs) end) one two (λ s t k x. fails_on (start_on xs done s k) end t x))

  -- one whose last part answers for it
  pub task_tail : {T : Type 0} (answers : T → List (List ℕ)) (r : Result T TaskEnd)
      → Steps traffic b (TaskCompletes (Exchanges xs) answers) r c → Steps traffic a (TaskCompletes (TaskTalk xs) answers) r c
  task_tail answers r two = talks_then (TaskCompletes (TaskTalk xs) answers r) one two
      (λ s t k x. finishes_on (start_on xs done s k) answers r t x)

  -- one whose exchanges are well
  pub task_done : {T : Type 0} {G H : Type 0} (answers : T → List (List ℕ)) (given : T)
      → Talks traffic b (TaskCompletes (Exchanges xs) answers (Ok given)) G H c
      → Steps traffic a (TaskCompletes (TaskTalk xs) answers) (Ok given) c
  task_done answers given two =
      task_tail answers (Ok given) (talks_shown (Ok given) (TaskCompletes (Exchanges xs) answers (Ok given)) tt two (λ t k. k))

-- an exchange that ended the task, as the first of more
pub ends_here : {L : Type 0} {traffic : Traffic L} {a b : L} {F S : Type 0} (x : Exchange) (more : List Exchange) (end : TaskEnd)
    → Talks traffic a (EndsTask x end) F S b → Talks traffic a (Fails (Exchanges (x ∷ more)) end) F S b
ends_here x more end one = talks_as (Fails (Exchanges (x ∷ more)) end) one (λ f. f) (λ f. f) (λ t k. k more)

-- a message that was answered by 0x06 alone goes on
pub command_on : (said : List ℕ) (more : List Exchange) (done : Unit {0}) (t : List TalkItem) → Commands said (Ok done) t
    → On (Exchanges (command said ∷ more)) (Exchanges more) (ack ∷ []) t
command_on said more done t k = answered_on said ack (λ answer. task_end.Done) more t k refl

-- and then the task fails
pub command_fails : {L : Type 0} {traffic : Traffic L} {a b c : L} {F S G H : Type 0} (said : List ℕ) (x : Exchange)
    (more : List Exchange) (done : Unit {0}) (end : TaskEnd)
    → Talks traffic a (Commands said (Ok done)) F S b → Talks traffic b (EndsTask x end) G H c
    → Talks traffic a (Fails (Exchanges (command said ∷ x ∷ more)) end) G H c
command_fails said x more done end one two =
    talks_then (Fails (Exchanges (command said ∷ x ∷ more)) end) one (ends_here x more end two)
    (λ s t k y. fails_on (command_on said (x ∷ more) done s k) end t y)

-- and then the rest answers for it
pub command_finishes : {L : Type 0} {traffic : Traffic L} {a b c : L} {F S : Type 0} {T : Type 0} (said : List ℕ)
    (more : List Exchange) (done : Unit {0}) (answers : T → List (List ℕ)) (r : Result T TaskEnd)
    → Talks traffic a (Commands said (Ok done)) F S b → Steps traffic b (TaskCompletes (Exchanges more) answers) r c
    → Steps traffic a (TaskCompletes (Exchanges (command said ∷ more)) (λ given. ack ∷ answers given)) r c
command_finishes said more done answers r one two =
    talks_then (TaskCompletes (Exchanges (command said ∷ more)) (λ given. ack ∷ answers given) r) one two
    (λ s t k x. finishes_on (command_on said more done s k) answers r t x)

-- the last exchange, whose answer is well
pub last_done : (said answer : List ℕ) (judge : List ℕ → TaskEnd) (t : List TalkItem)
    → MessageIsAnswered said answer t → judge answer ≡ task_end.Done
    → Exchanges (answered_exchange said (length answer) judge ∷ []) t (answer ∷ []) task_end.Done
last_done said answer judge t k well = on_end (answered_on said answer judge [] t k well)

-- the last message that 0x06 alone answers
pub last_command : (said : List ℕ) (r : Result (Unit {0}) TaskEnd) (t : List TalkItem) → Commands said r t
    → TaskCompletes (Exchanges (command said ∷ [])) (λ done. ack ∷ []) r t
last_command said (Ok done) t k = last_done said ack (λ answer. task_end.Done) t k refl
last_command said (Err end) t k = k []

-- a task that is done, as it is answered
pub answer_done : {L : Type 0} {traffic : Traffic L} {a b : L} {F S : Type 0} {T : Type 0} (Talk : Grammar)
    (answers : T → List (List ℕ)) (given : T)
    → Talks traffic a (TaskCompletes Talk answers (Ok given)) F S b
    → Talks traffic a (EndsSo Talk (answers given) task_end.Done) (task_end.Done ≡ task_end.LinkFault)
    (task_end.Done ≡ task_end.OutOfMemory) b
answer_done Talk answers given one =
    talks_as (EndsSo Talk (answers given) task_end.Done) one
    (λ e. absurd (let z : task_end.Done ≡ task_end.LinkFault = e in cc))
    (λ e. absurd (let z : task_end.Done ≡ task_end.OutOfMemory = e in cc)) (λ t k. inl (refl, k))

-- one that is not
pub answer_err : {L : Type 0} {traffic : Traffic L} {a b : L} {T : Type 0} (Talk : Grammar) (answers : T → List (List ℕ))
    (end : TaskEnd) (done : List (List ℕ))
    → Steps traffic a (TaskCompletes Talk answers) (Err end) b → Talks traffic a (EndsSo Talk done end)
    (end ≡ task_end.LinkFault) (end ≡ task_end.OutOfMemory) b
answer_err Talk answers end done one =
    talks_as (EndsSo Talk done end) one (λ f. ap (λ (x : TaskEnd). Err x) f) (λ f. ap (λ (x : TaskEnd). Err x) f) (λ t k. inr k)
