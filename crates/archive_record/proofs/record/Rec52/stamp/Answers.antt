use Rattle.archive_record.proofs.Rows.{stamp_some}
use Rattle.archive_record.proofs.record.Rec52.stamp.Goals as goal

pub unwrap-requires : goal.unwrap-requires
unwrap-requires c =
    rw (c.from_words.ensures.exact, c.word_at.ensures, c.word_at-2.ensures) (stamp_some c.self.inside.bytes c.self.invariant.1)
