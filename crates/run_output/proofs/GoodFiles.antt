-- Over a good file that is told, only a read fault or want of memory ends a run.
use Rattle.std.proofs.Common.{◌≡◌, ◌⊎◌, ℕ, ◌≤◌, List, length, Some, None, Ok, Err, true, false, inl, inr, refl, sym, ap, ◌∙◌, subst, arith}
use Rattle.std.specs.Global.{Vec}
use Rattle.std.specs.Prelude.{IsOk, IsOkAnd, IsSomeAnd, MatchResult}
use Rattle.std.specs.declared.option.Option.{Option}
use Rattle.std.specs.declared.result.Result.{Result}
use Rattle.causes.specs.Told.{WhereTold}
use Rattle.settings_file.specs.Reading.{settings_of}
use Rattle.settings_file.specs.StationSettings.{StationSettings}
use Rattle.settings_file.specs.declared.fault.SettingsFault.{SettingsFault}
use Rattle.station_io.specs.Files.{ReadingGives, Shelf, most_bytes}
use Rattle.station_io.specs.declared.files.TextRead.{TextRead}
use Rattle.station_io.specs.declared.files.TextRead.TheVariants as reading
use Rattle.run_output.specs.Ended.{Lines, output_of}
use Rattle.run_output.specs.Output.{Output}
use Rattle.run_output.specs.Reading.{SettingsAreAccepted, ReadAs, SaysSettings, reads, says_settings, settles}
use Rattle.run_output.specs.Steps.{Behind, CommandStep}
use Rattle.run_output.specs.declared.status.Status.{Status}
use Rattle.run_output.specs.declared.status.Status.TheVariants.{OutOfMemory, ReadFault}

-- a file could not be read, or there was no memory
abbrev pub IsHindrance : Status → Type 0
IsHindrance status = (status ≡ ReadFault) ⊎ (status ≡ OutOfMemory)

-- a step gave such a value, unless it was hindered
abbrev pub GivesUnlessHindered : {A : Type 0} → (A → Type 0) → Result A Output → Type 0
GivesUnlessHindered Good result = MatchResult result Good (λ output. IsHindrance output.status)

-- where a step was not hindered the run ends as the next one has it
pub good_behind : {W A : Type 0} (Good : A → Type 0) (Ends : Status → Type 0) (next : A → CommandStep W Lines) (mid new : W) (answer : Result A Output)
    (ended : Result Lines Output) → GivesUnlessHindered Good answer → ((a : A) → Good a → next a mid ended new → Ends (output_of ended).status)
    → ((status : Status) → IsHindrance status → Ends status) → Behind answer next mid ended new → Ends (output_of ended).status
good_behind Good Ends next mid new (Ok a) ended good goes_on hindered behind = goes_on a good behind
good_behind Good Ends next mid new (Err output) ended hindrance goes_on hindered behind =
    subst (λ (r : Result Lines Output). Ends (output_of r).status) (sym behind.0) (hindered output.status hindrance)

good_read : (Good : List ℕ → Type 0) (file : List ℕ) (answer : TextRead) (bytes : List ℕ) (result : Result (Vec ℕ) Output) → length file ≤ most_bytes
    → Good file → ReadingGives file answer bytes → ReadAs answer bytes result → GivesUnlessHindered (λ read. Good read.items) result
good_read Good file reading.Done bytes (Ok read) short good gives is = subst Good (sym (is ∙ gives.0)) good
good_read Good file reading.Done bytes (Err output) short good gives is = absurd is
good_read Good file reading.Failed bytes result short good gives is =
    subst (λ (r : Result (Vec ℕ) Output). GivesUnlessHindered (λ read. Good read.items) r) (sym is) (inl refl)
good_read Good file reading.TooLong bytes result short good gives is = absurd (omega (arith, short, gives.1))
good_read Good file reading.OutOfMemory bytes result short good gives is =
    subst (λ (r : Result (Vec ℕ) Output). GivesUnlessHindered (λ read. Good read.items) r) (sym is) (inr refl)

told_read : (Good : List ℕ → Type 0) (told : Option (List ℕ)) (answer : TextRead) (bytes : List ℕ) (result : Result (Vec ℕ) Output)
    → ((file : List ℕ) → Good file → length file ≤ most_bytes) → IsSomeAnd told Good → WhereTold told (λ file. ReadingGives file answer bytes)
    → ReadAs answer bytes result → GivesUnlessHindered (λ read. Good read.items) result
told_read Good None answer bytes result short good gives is = absurd good
told_read Good (Some file) answer bytes result short good gives is = good_read Good file answer bytes result (short file good) good (gives file refl) is

-- a good file that is told and is not too long is read whole
pub good-reads : {F : Type 0} (shelf : Shelf F) (Good : List ℕ → Type 0) (name : List ℕ) (old new : F) (result : Result (Vec ℕ) Output)
    → ((file : List ℕ) → Good file → length file ≤ most_bytes) → IsSomeAnd (shelf.held old name) Good → reads shelf name old result new
    → GivesUnlessHindered (λ read. Good read.items) result
good-reads shelf Good name old new result short good did =
    told_read Good (shelf.held old name) did.answer did.bytes result short good did.did.gives did.given

-- not too long, and its settings are such
abbrev pub HasSettings : (StationSettings → Type 0) → List ℕ → Type 0
HasSettings Good text = (length text ≤ most_bytes) × IsOkAnd (settings_of text) Good

good_says : (Good : StationSettings → Type 0) (text : List ℕ) (result : Result StationSettings Output) → HasSettings Good text
    → SaysSettings text result → GivesUnlessHindered Good result
good_says Good text (Ok settings) is says = rw says at is.1
good_says Good text (Err output) is (inl none) = inr (ap (λ (o : Output). o.status) none)
good_says Good text (Err output) is (inr (fault, has, line)) = absurd (rw has at is.1)

good_settings : {F : Type 0} (Good : StationSettings → Type 0) (mid new : F) (answer : Result (Vec ℕ) Output) (result : Result StationSettings Output)
    → GivesUnlessHindered (λ read. HasSettings Good read.items) answer → Behind answer (λ text. says_settings {F = F} text.items) mid result new
    → GivesUnlessHindered Good result
good_settings Good mid new (Ok text) result good behind = good_says Good text.items result good behind.0
good_settings Good mid new (Err output) result hindrance behind =
    subst (λ (r : Result StationSettings Output). GivesUnlessHindered Good r) (sym behind.0) hindrance

-- settings that are told are given
pub good-settles : {F : Type 0} (shelf : Shelf F) (Good : StationSettings → Type 0) (name : List ℕ) (old new : F)
    (result : Result StationSettings Output) → IsSomeAnd (shelf.held old name) (HasSettings Good) → settles shelf name old result new
    → GivesUnlessHindered Good result
good-settles shelf Good name old new result good did =
    good_settings Good did.mid new did.answer result
    (good-reads shelf (HasSettings Good) name old did.mid did.answer (λ file is. is.0) good did.first) did.behind

some_settings : (result : Result StationSettings SettingsFault) → IsOk result → IsOkAnd result (λ settings. Unit {0})
some_settings (Ok settings) is = tt
some_settings (Err fault) is = absurd (let no : false ≡ true = is in cc)

are_accepted : (told : Option (List ℕ)) → IsSomeAnd told SettingsAreAccepted → IsSomeAnd told (HasSettings (λ settings. Unit {0}))
are_accepted None is = is
are_accepted (Some text) is = (is.0, some_settings (settings_of text) is.1)

-- so are accepted ones
pub accepted-settles : {F : Type 0} (shelf : Shelf F) (name : List ℕ) (old new : F) (result : Result StationSettings Output)
    → IsSomeAnd (shelf.held old name) SettingsAreAccepted → settles shelf name old result new → GivesUnlessHindered (λ settings. Unit {0}) result
accepted-settles shelf name old new result good did =
    good-settles shelf (λ settings. Unit {0}) name old new result (are_accepted (shelf.held old name) good) did

stays_behind : {F : Type 0} (mid new : F) (answer : Result (Vec ℕ) Output) (result : Result StationSettings Output)
    → Behind answer (λ text. says_settings {F = F} text.items) mid result new → new ≡ mid
stays_behind mid new (Ok text) result behind = behind.1
stays_behind mid new (Err output) result behind = behind.1

-- what every name holds stays
pub settles-stay : {F : Type 0} (shelf : Shelf F) (name other : List ℕ) (old new : F) (result : Result StationSettings Output)
    → settles shelf name old result new → shelf.held new other ≡ shelf.held old other
settles-stay {F} shelf name other old new result did =
    ap (λ (f : F). shelf.held f other) (stays_behind did.mid new did.answer result did.behind) ∙ did.first.did.stay other
