use Rattle.std.proofs.Common.{◌≡◌, ◌+◌, ◌++◌, sym, ◌∙◌, append_assoc, rules}
use Rattle.commands.specs.StationRun.{end_output, round_lines}
use Rattle.commands.specs.StayRun.{stayed_line}
use Rattle.commands.proofs.RoundTold.{given, written}
use Rattle.commands.proofs.staying.tell_round.Goals as goal

pub returns-then-round_may_follow : goal.returns-then-round_may_follow
returns-then-round_may_follow g c =
    written g.K.Sink.outlet c.args.end c.args.give_ups c.args.report.now c.args.made c.args.out.now c.put_lines.new.out _ c.put_lines.result
    (sym c.round_may_follow.ensures ∙ c.if-round_may_follow.true) (search rules) c.put_lines.ensures

pub returns : goal.returns
returns g c =
    given g.K.Sink.outlet c.args.end c.args.give_ups c.args.report.now c.args.made c.args.out.now _ _ c.new.result
    (sym c.round_may_follow.ensures ∙ c.if-round_may_follow.false) c.requires.fresh c.in_default.not-OutOfMemory
    (let both : c.push_bytes.new.text.items ≡ (round_lines c.args.end c.args.report.now ++ stayed_line (c.args.made + 1)) ++ (end_output c.args.end).text = search rules in
    both ∙ append_assoc (round_lines c.args.end c.args.report.now) (stayed_line (c.args.made + 1)) (end_output c.args.end).text)
    c.ending-status.ensures.status c.new.ensures
