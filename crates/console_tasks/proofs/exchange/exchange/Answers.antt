use Rattle.std.proofs.Common.{◌≡◌, length, take, refl, sym, subst, arith, length-take, Err}
use Rattle.wake_retry.specs.Parts.{FallsShort, IsCutOff, answer_waits}
use Rattle.wake_retry.specs.Asking.{Answered}
use Rattle.serial_link.proofs.JoinedCalls.{talks_as}
use Rattle.console_tasks.specs.declared.end.TaskEnd.TheVariants as task_end
use Rattle.console_tasks.specs.Exchange.{is_refusal}
use Rattle.console_tasks.specs.Parts.{ExchangeReplies}
use Rattle.console_tasks.proofs.Troubles.{IsTrouble, short_trouble, talks_shown, want_no_fault}
use Rattle.console_tasks.proofs.Onward.{asking_cut}
use Rattle.console_tasks.proofs.ExchangeReplies.{full_replies, judged_trouble, short_replies}
use Rattle.console_tasks.proofs.exchange.exchange.Goals as goal

pub returns-in-Full : goal.returns-in-Full
returns-in-Full g c =
    let said = c.args.message.now in
    let answer = c.ask.new.buf in
    let r = c.acknowledged.result in
    let size : length answer ≡ length c.args.answer.now = omega (arith, c.ask.auto.buf) in
    talks_shown r (ExchangeReplies said (length c.args.answer.now) answer r)
    (judged_trouble answer r c.acknowledged.ensures) c.in-Full.ensures
    (λ t k. subst (λ n. ExchangeReplies said n answer r t) size (full_replies said answer r t k.answer k.split k.is.0 k.is.1 c.acknowledged.ensures))

pub returns-in-Short : goal.returns-in-Short
returns-in-Short g c =
    let said = c.args.message.now in
    let answer = take c.in-Short.count c.ask.new.buf in
    let end = c.short_end.result in
    let size : length c.ask.new.buf ≡ length c.args.answer.now = omega (arith, c.ask.auto.buf) in
    let is = c.short_end.ensures in
    talks_shown (Err end) (ExchangeReplies said (length c.args.answer.now) c.ask.new.buf (Err end))
    (subst IsTrouble (sym is) (short_trouble (is_refusal answer) answer task_end.Done)) c.in-Short.ensures
    (λ t k. short_replies said answer (length c.args.answer.now) end t k.answer k.split k.is.0 k.is.2
    (omega (arith, k.is.1, size, length-take c.in-Short.count c.ask.new.buf)) is)

pub returns-in-LinkFault : goal.returns-in-LinkFault
returns-in-LinkFault g c =
    let said = c.args.message.now in
    let size : length c.ask.new.buf ≡ length c.args.answer.now = omega (arith, c.ask.auto.buf) in
    talks_as (ExchangeReplies said (length c.args.answer.now) c.ask.new.buf (Err task_end.LinkFault)) c.in-LinkFault.ensures
    (λ e. refl) (λ e. absurd (want_no_fault _ e refl))
    (λ t k judge more. asking_cut said (length c.args.answer.now) judge more t
    (subst (λ n. IsCutOff (Answered said (FallsShort answer_waits n)) t) size k))

pub returns-in-OutOfMemory : goal.returns-in-OutOfMemory
returns-in-OutOfMemory g c =
    let said = c.args.message.now in
    let size : length c.ask.new.buf ≡ length c.args.answer.now = omega (arith, c.ask.auto.buf) in
    talks_as (ExchangeReplies said (length c.args.answer.now) c.ask.new.buf (Err task_end.OutOfMemory)) c.in-OutOfMemory.ensures
    (λ e. absurd (want_no_fault _ refl e)) (λ e. refl)
    (λ t k judge more. asking_cut said (length c.args.answer.now) judge more t
    (subst (λ n. IsCutOff (Answered said (FallsShort answer_waits n)) t) size k))
