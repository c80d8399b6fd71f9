use Rattle.packed_rows.proofs.tail.Tail.judge.Goals as goal

pub returns-then-may_follow-clause-printable : goal.returns-then-may_follow-clause-printable
returns-then-may_follow-clause-printable c = c.read_into.ensures.printable c.if-read_into.true
