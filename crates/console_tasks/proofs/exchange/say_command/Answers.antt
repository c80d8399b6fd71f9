use Rattle.std.proofs.Common.{◌≡◌, List, ℕ, length, subst, arith, rules}
use Rattle.serial_link.proofs.JoinedCalls.{talks_as}
use Rattle.console_tasks.specs.Tasks.{said_line}
use Rattle.console_tasks.specs.Parts.{ExchangeReplies, Commands}
use Rattle.console_tasks.proofs.ExchangeReplies.{replies_command}
use Rattle.console_tasks.proofs.exchange.say_command.Goals as goal

pub returns : goal.returns
returns g c =
    let r = c.exchange.result in
    let answer = c.exchange.new.answer in
    let line = said_line c.args.command.now in
    let said : c.deref.result.now ≡ line = search rules in
    let size : length answer ≡ 1 = omega (arith, c.exchange.auto.answer) in
    talks_as (Commands line r) c.exchange.ensures (λ f. f) (λ f. f)
    (λ t k. replies_command line answer r t size (subst (λ (x : List ℕ). ExchangeReplies x 1 answer r t) said k))
