-- What a file is of which the document is known.
use Rattle.std.proofs.Common.{◌≡◌, ℕ, List, [], Some, None, Bool, true, false, refl, Ok, Err}
use Rattle.std.specs.Prelude.{IsUtf8}
use Rattle.std.specs.Str.{is_utf8}
use Rattle.std.proofs.lemmas.Str.{is_utf8-from_IsUtf8, IsUtf8-from_is_utf8}
use Rattle.toml.specs.Data.{Members, no_members}
use Rattle.toml.specs.Parse.{parse_document, lines}
use Rattle.toml.specs.Errors.{IsBlank}
use Rattle.toml.proofs.OnLiterals.{toml_on_literals}
use Rattle.settings_file.specs.declared.fault.SettingsFault.TheVariants.{Syntax}
use Rattle.settings_file.specs.declared.fault.Section.TheVariants as section
use Rattle.settings_file.specs.StationSettings.{plain_settings}
use Rattle.settings_file.specs.Walk.{walk}
use Rattle.settings_file.specs.Reading.{settings_of, settings_key}

-- a document is walked
pub settings_of-document : (text : List ℕ) (keys : Members) → IsUtf8 text → parse_document text ≡ Some keys
    → settings_of text ≡ walk settings_key section.Top None 0 keys plain_settings
unfolding settings_of
settings_of-document text keys utf8 parsed = rw (is_utf8-from_IsUtf8 text utf8, parsed)

-- bytes that are no document are a fault of syntax
refused_by : (text : List ℕ) (b : Bool) → is_utf8 text ≡ b → (IsUtf8 text → parse_document text ≡ None) → settings_of text ≡ Err Syntax
unfolding settings_of
refused_by text true utf8 refused = rw (utf8, refused (IsUtf8-from_is_utf8 text utf8))
refused_by text false utf8 refused = rw utf8

pub settings_of-refused : (text : List ℕ) → (IsUtf8 text → parse_document text ≡ None) → settings_of text ≡ Err Syntax
settings_of-refused text refused = refused_by text (is_utf8 text) refl refused

-- white space and comments are a document with no member
pub parse_document-blank : (text : List ℕ) → IsBlank text → parse_document text ≡ Some no_members
unfolding parse_document lines
parse_document-blank text blank = rw blank

-- and settle nothing
pub settings_of-blank : (text : List ℕ) → IsUtf8 text → IsBlank text → settings_of text ≡ Ok plain_settings
settings_of-blank text utf8 blank = settings_of-document text no_members utf8 (parse_document-blank text blank)

pub IsBlank-empty : IsBlank []
unfolding toml_on_literals
IsBlank-empty = refl
