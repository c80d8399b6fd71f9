-- The version of an archive file.
use Rattle.std.specs.Prelude.{Bool, true, false, List, ℕ, length, nat_lt, if◌then◌else◌, ◌+◌}
use Rattle.gated_log.specs.declared.version.Version.{Version}
use Rattle.gated_log.specs.declared.version.Version.TheVariants.{First, Second}
use Rattle.gated_log.specs.declared.start.Purpose.{Purpose}
use Rattle.gated_log.specs.declared.start.Purpose.TheVariants.{Read, Write}
use Rattle.gated_log.specs.Log.{begins_first}
use Rattle.gated_log.specs.Layout.{empty_size}

-- the version of an archive that begins so
abbrev pub version_in : List ℕ → Version
version_in bytes = if begins_first bytes then First else Second

-- the version of an image: by the last digit of its head, and the second where it has no more bytes than an archive
-- without slots
unfoldable pub version_of : List ℕ → Version
version_of image = if nat_lt (length image) (empty_size + 1) then Second else version_in image

-- an archive of the first version, which is not to be written
abbrev pub is_refused : Purpose → Version → Bool
is_refused Write First = true
is_refused Write Second = false
is_refused Read version = false
