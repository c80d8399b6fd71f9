use Rattle.std.proofs.Common.{◌≡◌, ◌-◌, ℕ, List, length, subst, arith, rules}
use Rattle.vantage_frames.specs.declared.command.Command.TheVariants.{EepromRead}
use Rattle.serial_link.proofs.JoinedCalls.{talks_as}
use Rattle.console_tasks.specs.Tasks.{said_line}
use Rattle.console_tasks.specs.Parts.{FrameReplies}
use Rattle.console_tasks.proofs.memory.ask_bytes.Goals as goal

pub returns-clause-talk : goal.returns-clause-talk
returns-clause-talk g c =
    let r = c.ask_frame.result in
    let answer = c.ask_frame.new.answer in
    let n = c.args.count in
    let size : length c.args.answer.now - 3 ≡ n = omega (arith, c.requires.room) in
    let said : c.deref.result.now ≡ said_line (EepromRead c.args.at n) = search rules in
    talks_as (FrameReplies (said_line (EepromRead c.args.at n)) n answer r) c.ask_frame.ensures (λ f. f) (λ f. f)
    (λ t k. subst (λ (x : List ℕ). FrameReplies x n answer r t) said
    (subst (λ m. FrameReplies c.deref.result.now m answer r t) size k))
