use Rattle.std.proofs.Common.{◌≡◌, true, Some, is_some, slice_index, ◌∙◌, ap, sym, inr, arith, rules}
use Rattle.std.proofs.lemmas.Bool.{false≢true}
use Rattle.archive_record.specs.Writing.{TellsRow}
use Rattle.archive_record.proofs.Back.{told_can_all}
use Rattle.archive_record.proofs.HeldValues.{can_hold_all-decides, can_tell-holds}
use Rattle.archive_record.proofs.Rows.{reads_this_row, row_parts}
use Rattle.archive_record.proofs.Written.{tells_made, tells_read, read_tells, tells_once}
use Rattle.archive_record.proofs.record_write.write.Goals as goal

pub returns-then-row-ne0-clause-written_back : goal.returns-then-row-ne0-clause-written_back
returns-then-row-ne0-clause-written_back c bytes is_record read = absurd (c.if-row-ne0.true (row_parts bytes c.args.row.now read).unlimited)

pub returns-in_err-put_values-clause-written_back : goal.returns-in_err-put_values-clause-written_back
returns-in_err-put_values-clause-written_back c bytes is_record read =
    let yes = c.put_values.ensures.can.1 (told_can_all bytes c.args.row.now.values is_record (read_tells bytes c.args.row.now read).values) in
    let no = rw c.in_err-put_values.was at yes in
    absurd (false≢true no)

pub returns-in_err-put_values-clause-test : goal.returns-in_err-put_values-clause-test
returns-in_err-put_values-clause-test c =
    let unlimited : c.args.row.now.limited ≡ 0 = search rules in
    can_hold_all-decides c.args.row.now.values (is_some c.from_residual.result) (search rules) ∙ sym (can_tell-holds c.args.row.now unlimited)

pub returns-clause-test : goal.returns-clause-test
returns-clause-test c =
    let unlimited : c.args.row.now.limited ≡ 0 = search rules in
    can_hold_all-decides c.args.row.now.values true (search rules) ∙ sym (can_tell-holds c.args.row.now unlimited)

pub new-requires : goal.new-requires
new-requires c =
    let row = c.args.row.now in
    let revision : slice_index c.put_word.new.bytes 42 ≡ 0 = c.put_word.ensures.others 42 (inr (omega arith)) in
    let tells : TellsRow c.put_values.new.bytes row =
    tells_made c.put_word.new.bytes c.put_word-2.new.bytes c.put_values.new.bytes row c.date_word.result c.time_word.result
    c.date_word.ensures.word c.time_word.ensures revision c.put_word.ensures.word c.put_word-2.ensures.word c.put_word-2.ensures.others
    c.in_ok-put_values.ensures.others c.in_ok-put_values.ensures.values in
    reads_this_row c.put_values.new.bytes row (tells_read c.put_values.new.bytes row c.put_values.array_long c.date_word.ensures.civil (search rules) tells)

pub returns-clause-read_back : goal.returns-clause-read_back
returns-clause-read_back c =
    let row = c.args.row.now in
    let revision : slice_index c.put_word.new.bytes 42 ≡ 0 = c.put_word.ensures.others 42 (inr (omega arith)) in
    let tells : TellsRow c.put_values.new.bytes row =
    tells_made c.put_word.new.bytes c.put_word-2.new.bytes c.put_values.new.bytes row c.date_word.result c.time_word.result
    c.date_word.ensures.word c.time_word.ensures revision c.put_word.ensures.word c.put_word-2.ensures.word c.put_word-2.ensures.others
    c.in_ok-put_values.ensures.others c.in_ok-put_values.ensures.values in
    rw c.new.ensures.bytes (tells_read c.put_values.new.bytes row c.put_values.array_long c.date_word.ensures.civil (search rules) tells)

pub returns-clause-written_back : goal.returns-clause-written_back
returns-clause-written_back c bytes is_record read =
    let row = c.args.row.now in
    let revision : slice_index c.put_word.new.bytes 42 ≡ 0 = c.put_word.ensures.others 42 (inr (omega arith)) in
    let tells : TellsRow c.put_values.new.bytes row =
    tells_made c.put_word.new.bytes c.put_word-2.new.bytes c.put_values.new.bytes row c.date_word.result c.time_word.result
    c.date_word.ensures.word c.time_word.ensures revision c.put_word.ensures.word c.put_word-2.ensures.word c.put_word-2.ensures.others
    c.in_ok-put_values.ensures.others c.in_ok-put_values.ensures.values in
    ap Some (c.new.ensures.bytes ∙ tells_once c.put_values.new.bytes bytes row c.new.ensures.size is_record tells (read_tells bytes row read))
