use Rattle.std.proofs.Common.{◌≡◌, [], Some, None, sym, ◌∙◌, rules}
use Rattle.std.proofs.lemmas.Str.{IsUtf8-nil}
use Rattle.toml.specs.Errors.{IsMemory}
use Rattle.toml.specs.View.{table_view}
use Rattle.toml.specs.Data.{no_members}
use Rattle.toml.specs.Parse.{parse_document}
use Rattle.settings_file.specs.Reading.{settings_of}
use Rattle.settings_file.proofs.Documents.{settings_of-document, settings_of-refused, settings_of-blank, parse_document-blank, IsBlank-empty}
use Rattle.settings_file.proofs.settings.Settings.read.Goals as goal
use Rattle.settings_file.proofs.settings.Settings.read.Goals.{After-drop-table}

-- the walk over the table is what the file says
walked : (c : After-drop-table) → c.read_table.result ≡ settings_of c.args.bytes.now
walked c =
    let (utf8, parsed) = c.in-Ok.ensures.ok in
    let all = settings_of-document c.args.bytes.now (table_view c.in-Ok.table) utf8 parsed in
    rw c.plain.ensures at c.read_table.ensures.exact ∙ sym all

pub returns-in-Ok-clause-exact : goal.returns-in-Ok-clause-exact
returns-in-Ok-clause-exact c _ = walked c

pub returns-in-Ok-clause-blank : goal.returns-in-Ok-clause-blank
returns-in-Ok-clause-blank c utf8 blank = walked c ∙ settings_of-blank c.args.bytes.now utf8 blank

pub returns-in-Ok-clause-empty : goal.returns-in-Ok-clause-empty
returns-in-Ok-clause-empty c empty = walked c ∙ rw empty (settings_of-blank [] IsUtf8-nil IsBlank-empty)

pub returns-in-Err-clause-blank : goal.returns-in-Err-clause-blank
returns-in-Err-clause-blank c utf8 blank =
    let memory : IsMemory c.in-Err.error = search rules in absurd (c.in-Err.ensures.memory memory blank)

pub returns-in-Err-clause-empty : goal.returns-in-Err-clause-empty
returns-in-Err-clause-empty c empty =
    let memory : IsMemory c.in-Err.error = search rules in absurd (c.in-Err.ensures.memory memory (rw empty IsBlank-empty))

pub returns-in-Err-2-clause-exact : goal.returns-in-Err-2-clause-exact
returns-in-Err-2-clause-exact c _ =
    let other : IsMemory c.in-Err-2.field-0 → ⊥ = search rules in
    sym (settings_of-refused c.args.bytes.now (c.in-Err-2.ensures.refused other))

pub returns-in-Err-2-clause-blank : goal.returns-in-Err-2-clause-blank
returns-in-Err-2-clause-blank c utf8 blank =
    let other : IsMemory c.in-Err-2.field-0 → ⊥ = search rules in
    let none : parse_document c.args.bytes.now ≡ None = c.in-Err-2.ensures.refused other utf8 in
    let some : parse_document c.args.bytes.now ≡ Some no_members = parse_document-blank c.args.bytes.now blank in
    cc

pub returns-in-Err-2-clause-empty : goal.returns-in-Err-2-clause-empty
returns-in-Err-2-clause-empty c empty =
    returns-in-Err-2-clause-blank c (rw empty IsUtf8-nil) (rw empty IsBlank-empty)
