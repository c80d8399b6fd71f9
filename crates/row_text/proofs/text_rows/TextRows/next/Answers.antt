use Rattle.std.proofs.Common.{◌≡◌, length, rules}
use Rattle.row_text.proofs.TextLines.{no_lines}
use Rattle.row_text.proofs.text_rows.TextRows.next.Goals as goal

pub returns-then-is_empty-clause-rows : goal.returns-then-is_empty-clause-rows
returns-then-is_empty-clause-rows c =
    let none : length c.args.self.now.rest.now ≡ 0 = search rules in
    no_lines c.args.self.now.last c.args.self.now.line c.args.self.now.rest.now none
