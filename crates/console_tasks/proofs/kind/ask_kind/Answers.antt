use Rattle.std.proofs.Common.{◌≡◌, ℕ, false, List, [], ◌∷◌, length, refl, ap, subst, arith, rules, Ok, Err}
use Rattle.std.specs.Prelude.{slice_index_or}
use Rattle.vantage_frames.specs.declared.command.Command.TheVariants.{Kind}
use Rattle.serial_link.proofs.JoinedCalls.{talks_as}
use Rattle.console_tasks.specs.declared.end.TaskEnd.TheVariants as task_end
use Rattle.console_tasks.specs.Exchange.{answered_exchange, is_refusal}
use Rattle.console_tasks.specs.TaskTalk.{Exchanges, Fails}
use Rattle.console_tasks.specs.Tasks.{said_line, asking_kind}
use Rattle.console_tasks.specs.Parts.{TaskCompletes}
use Rattle.console_tasks.proofs.FinishedTasks.{task_err, task_done, last_done}
use Rattle.console_tasks.proofs.ExchangeReplies.{by_six}
use Rattle.console_tasks.proofs.kind.ask_kind.Goals as goal

pair : (answer : List ℕ) → length answer ≡ 2 → is_refusal answer ≡ false → answer ≡ 6 ∷ slice_index_or answer 1 0 ∷ []
pair [] l r = absurd (omega arith)
pair (a ∷ []) l r = absurd (omega arith)
pair (a ∷ b ∷ []) l r = ap (λ x. x ∷ b ∷ []) (by_six a r)
pair (a ∷ b ∷ d ∷ bs) l r = absurd (omega arith)

pub returns-in_err-exchange : goal.returns-in_err-exchange
returns-in_err-exchange g c =
    let end = c.in_err-exchange.field-0.0 in
    let r = c.from_residual-in_err-exchange.result in
    let e : r ≡ Err end = search rules in
    let said : c.deref.result.now ≡ said_line Kind = search rules in
    let two = talks_as (Fails (Exchanges asking_kind) end) c.in_err-exchange.ensures (λ f. f) (λ f. f)
    (λ t k. subst (λ (x : List ℕ). Fails (Exchanges (answered_exchange x 2 (λ answer. task_end.Done) ∷ [])) end t) said
    (k (λ answer. task_end.Done) [])) in
    task_err asking_kind c.in_ok-start.field-0 c.in_ok-start.ensures _ r (Err end) end e refl two

pub returns : goal.returns
returns g c =
    let answer = c.exchange.new.answer in
    let kind = slice_index_or answer 1 0 in
    let size : length answer ≡ 2 = omega (arith, c.exchange.auto.answer) in
    let said : c.deref.result.now ≡ said_line Kind = search rules in
    let answers = λ (kind : ℕ). (6 ∷ kind ∷ []) ∷ [] in
    let two = talks_as (TaskCompletes (Exchanges asking_kind) answers (Ok kind)) c.in_ok-exchange.ensures (λ f. f) (λ f. f)
    (λ t k. subst (λ (x : List ℕ). Exchanges (answered_exchange x 2 (λ answer. task_end.Done) ∷ []) t (answers kind) task_end.Done) said
    (subst (λ n. Exchanges (answered_exchange c.deref.result.now n (λ answer. task_end.Done) ∷ []) t (answers kind) task_end.Done) size
    (subst (λ (x : List ℕ). Exchanges (answered_exchange c.deref.result.now (length answer) (λ answer. task_end.Done) ∷ []) t
    (x ∷ []) task_end.Done) (pair answer size k.accepts)
    (last_done c.deref.result.now answer (λ answer. task_end.Done) t k refl)))) in
    task_done asking_kind c.in_ok-start.field-0 c.in_ok-start.ensures answers kind two
