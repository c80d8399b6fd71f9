use Rattle.std.proofs.Common.{◌≡◌, ◌<◌, Bool, true, false, refl, ap, arith}
use Rattle.packed_rows.specs.Closing.{begins_day}
use Rattle.daily_summary.specs.declared.running.RunningSummary.{RunningSummary}
use Rattle.packed_rows.proofs.TailLaws.{ends_more, few_more, none_running, into_small}
use Rattle.packed_rows.proofs.tail.Tail.push.Goals as goal
use Rattle.station_base.specs.Limits.{most_rows}

pub add-requires-clause-fewer : goal.add-requires-clause-fewer
add-requires-clause-fewer c = by (begins_day c.args.self.now.last c.args.row.now.stamp) refl
  where
    by : (b : Bool) → begins_day c.args.self.now.last c.args.row.now.stamp ≡ b → c.turn_to.new.self.running.rows < most_rows
    by true is = omega (arith, none_running c.turn_to.new.self.running (c.turn_to.ensures.later is))
    by false is = omega (arith, ap (λ (s : RunningSummary). s.rows) (c.turn_to.ensures.same is), c.args.self.now.few, into_small c.args.self.now.last)

pub returns-clause-ends : goal.returns-clause-ends
returns-clause-ends c rows ends =
    ends_more c.args.self.now _ c.turn_to.new.self.running c.args.row.now rows ends c.requires.rises c.turn_to.ensures.same c.turn_to.ensures.later
    c.add.ensures.summary refl

pub invariant_of-self : goal.invariant_of-self
invariant_of-self c =
    let t = c.args.self.now in
    let e = c.turn_to.ensures in
    record { bounds = c.add.ensures.running; few = few_more t.last t.running c.turn_to.new.self.running c.add.new.self c.args.row.now c.requires.rises t.few e.some e.same e.later c.add.ensures.rows }
