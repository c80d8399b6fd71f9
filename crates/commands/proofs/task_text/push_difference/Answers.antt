use Rattle.std.proofs.Common.{append_assoc}
use Rattle.commands.proofs.task_text.push_difference.Goals as goal

pub returns : goal.returns
returns c =
    rw (
      c.push_bytes.ensures.bytes,
      c.push_named-3.ensures.text,
      c.from-2.ensures,
      c.push_named-2.ensures.text,
      c.from.ensures,
      c.push_named.ensures.text,
    )
    (simp append_assoc)
