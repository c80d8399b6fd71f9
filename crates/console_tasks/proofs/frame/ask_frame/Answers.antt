use Rattle.std.proofs.Common.{◌≡◌, ◌+◌, ◌-◌, ◌≤◌, ℕ, true, false, List, length, length-drop, take, drop, sym, ◌∙◌, ap, subst}
use Rattle.std.proofs.Common.{refl, arith, rules, Ok, Err}
use Rattle.std.specs.Prelude.{IsTrue}
use Rattle.crc_ccitt.specs.Check.{is_good, sealed}
use Rattle.serial_link.proofs.JoinedCalls.{talks_as}
use Rattle.console_tasks.specs.declared.end.TaskEnd.TheVariants as task_end
use Rattle.console_tasks.specs.Parts.{FrameReplies}
use Rattle.console_tasks.proofs.Troubles.{talks_shown}
use Rattle.console_tasks.proofs.FinishedTasks.{same_end}
use Rattle.console_tasks.proofs.ExchangeReplies.{replies_frame, bad_frame, sealed_answer, rest_is, seal_size}
use Rattle.console_tasks.proofs.frame.ask_frame.Goals as goal

pub returns-in_err-exchange : goal.returns-in_err-exchange
returns-in_err-exchange g c =
    let end = c.in_err-exchange.field-0.0 in
    let r = c.from_residual.result in
    let e : r ≡ Err end = search rules in
    let said = c.args.message.now in
    let answer = c.exchange.new.answer in
    let n = length c.args.answer.now - 3 in
    talks_as (FrameReplies said n answer r) c.in_err-exchange.ensures
    (same_end r (Err end) end task_end.LinkFault e refl) (same_end r (Err end) end task_end.OutOfMemory e refl)
    (λ t k. subst (λ x. FrameReplies said n answer x t) (sym e)
    (replies_frame said answer n (length c.args.answer.now) end t (omega (arith, c.requires.room)) k))

pub returns-then-is_good : goal.returns-then-is_good
returns-then-is_good g c =
    let said = c.args.message.now in
    let answer = c.exchange.new.answer in
    let n = length c.args.answer.now - 3 in
    let size : length answer ≡ n + 3 = omega (arith, c.exchange.auto.answer, c.requires.room) in
    let true_is : IsTrue c.is_good.result = search rules in
    let rest = rest_is answer in
    let long : 2 ≤ length (take (length answer - 1) (drop 1 answer)) = omega
    (arith, ap (λ (x : List ℕ). length x) rest, length-drop 1 answer) in
    let good : is_good (drop 1 answer) ≡ true = ap is_good (sym rest) ∙ sym c.is_good.ensures.exact ∙ c.if-is_good.true in
    let whole : drop 1 answer ≡ sealed (take (length (drop 1 answer) - 2) (drop 1 answer)) = subst
    (λ (x : List ℕ). x ≡ sealed (take (length x - 2) x)) rest (c.is_good.ensures.sealed true_is long) in
    let short : length (drop 1 answer) ≡ n + 2 = omega (arith, length-drop 1 answer) in
    talks_shown (Ok tt) (FrameReplies said n answer (Ok tt)) tt c.in_ok-exchange.ensures
    (λ t k. (k, good, sealed_answer answer n size k.accepts (seal_size n (drop 1 answer) short whole)))

pub returns-else-is_good : goal.returns-else-is_good
returns-else-is_good g c =
    let said = c.args.message.now in
    let answer = c.exchange.new.answer in
    let n = length c.args.answer.now - 3 in
    let size : length answer ≡ n + 3 = omega (arith, c.exchange.auto.answer, c.requires.room) in
    let bad : is_good (drop 1 answer) ≡ false = ap is_good (sym (rest_is answer)) ∙ sym c.is_good.ensures.exact
    ∙ c.if-is_good.false in
    talks_shown (Err task_end.BadCheck) (FrameReplies said n answer (Err task_end.BadCheck)) tt c.in_ok-exchange.ensures
    (λ t k. bad_frame said answer n t size k bad)
