use Rattle.std.proofs.Common.{rules}
use Rattle.archive_record.proofs.Rows.{row_known, row_with, stamp_some}
use Rattle.archive_record.proofs.record.Rec52.of.Goals as goal

pub returns-then-bytes-ne0 : goal.returns-then-bytes-ne0
returns-then-bytes-ne0 c row = let known = row_known c.args.bytes row in search rules

pub returns-in_err-from_words : goal.returns-in_err-from_words
returns-in_err-from_words c = let some = stamp_some c.args.bytes in search rules

pub new-requires : goal.new-requires
new-requires c = row_with c.args.bytes c.in_ok-from_words.field-0 (search rules) (search rules) (search rules)
