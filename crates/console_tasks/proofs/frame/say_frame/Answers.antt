use Rattle.std.proofs.Common.{◌≡◌, List, ℕ, length, subst, arith, rules}
use Rattle.crc_ccitt.specs.Check.{sealed}
use Rattle.serial_link.proofs.JoinedCalls.{talks_as}
use Rattle.console_tasks.specs.Parts.{ExchangeReplies, Commands}
use Rattle.console_tasks.proofs.ExchangeReplies.{replies_command}
use Rattle.console_tasks.proofs.frame.say_frame.Goals as goal

pub returns : goal.returns
returns g c =
    let r = c.exchange.result in
    let answer = c.exchange.new.answer in
    let frame = sealed c.args.bytes.now in
    let said : c.deref.result.now ≡ frame = search rules in
    let size : length answer ≡ 1 = omega (arith, c.exchange.auto.answer) in
    talks_as (Commands frame r) c.exchange.ensures (λ f. f) (λ f. f)
    (λ t k. replies_command frame answer r t size (subst (λ (x : List ℕ). ExchangeReplies x 1 answer r t) said k))
