-- Over good files only a read fault, or want of memory, keeps a run from what follows both readings.
use Rattle.std.proofs.Common.{◌≡◌, ℕ, List, Ok, Err, true, false, sym, ap, subst, ◌∙◌, inl, inr}
use Rattle.std.specs.Global.{Vec}
use Rattle.std.specs.Prelude.{IsOk, IsSomeAnd, MatchResult}
use Rattle.std.specs.declared.option.Option.{Option}
use Rattle.std.specs.declared.result.Result.{Result}
use Rattle.run_output.specs.Ended.{Lines, output_of}
use Rattle.run_output.specs.Output.{Output}
use Rattle.run_output.specs.Outside.{Meanings, over_files}
use Rattle.run_output.specs.Reading.{settles}
use Rattle.run_output.specs.Steps.{Behind, CommandStep, then}
use Rattle.run_output.specs.declared.outside.Outside.{Outside}
use Rattle.run_output.specs.declared.status.Status.{Status}
use Rattle.run_output.proofs.GoodFiles.{GivesUnlessHindered, IsHindrance, good-reads, good-settles, settles-stay}
use Rattle.schedule_file.specs.Reading.{said_by_text}
use Rattle.schedule_file.specs.declared.schedule.Schedule.{Schedule}
use Rattle.settings_file.specs.StationSettings.{StationSettings}
use Rattle.station_io.specs.Files.{Shelf}
use Rattle.model_commands.specs.ReplayRun.{HasGoodFiles, IsGoodSchedule}
use Rattle.model_commands.specs.ScheduleReading.{SaysSchedule, reads_schedule, says_schedule}

behind_ends : {W A B : Type 0} (P : A → Type 0) (R : Output → Type 0) (Q : Result B Output → Type 0) (next : A → CommandStep W B) (mid new : W)
    (answer : Result A Output) (result : Result B Output) → ((output : Output) → R output → Q (Err output)) → MatchResult answer P R
    → ((a : A) → P a → next a mid result new → Q result) → Behind answer next mid result new → Q result
behind_ends P R Q next mid new (Ok a) result last first more behind = more a first behind
behind_ends P R Q next mid new (Err output) result last first more behind = subst Q (sym behind.0) (last output first)

-- two steps end so if the first one does, and the second one behind what the first one gives
pub then_ends : {W A B : Type 0} {one : CommandStep W A} {next : A → CommandStep W B} {old new : W} {result : Result B Output} (P : A → Type 0)
    (R : Output → Type 0) (Q : Result B Output → Type 0) → ((output : Output) → R output → Q (Err output)) → (did : then one next old result new)
    → MatchResult did.answer P R → ((a : A) → P a → next a did.mid result new → Q result) → Q result
then_ends {next = next} {new = new} {result = result} P R Q last did first more =
    behind_ends P R Q next did.mid new did.answer result last first more did.behind

schedule_said : (period : ℕ) (text : List ℕ) (result : Result Schedule Output) → IsOk (said_by_text text period)
    → SaysSchedule text period result → GivesUnlessHindered (λ schedule. Unit {0}) result
schedule_said period text (Ok schedule) ok says = tt
schedule_said period text (Err output) ok (inl none) = inr (ap (λ (o : Output). o.status) none)
schedule_said period text (Err output) ok (inr (fault, is, line)) = absurd (let no : false ≡ true = rw is at ok in cc)

-- a good schedule is given
pub good-reads_schedule : {F : Type 0} (shelf : Shelf F) (name : List ℕ) (period : ℕ) (old new : F) (result : Result Schedule Output)
    → IsSomeAnd (shelf.held old name) (IsGoodSchedule period) → reads_schedule shelf name period old result new
    → GivesUnlessHindered (λ schedule. Unit {0}) result
good-reads_schedule shelf name period old new result good did =
    then_ends (λ (text : Vec ℕ). IsGoodSchedule period text.items) (λ output. IsHindrance output.status)
    (λ (r : Result Schedule Output). GivesUnlessHindered (λ schedule. Unit {0}) r) (λ output is. is) did
    (good-reads shelf (IsGoodSchedule period) name old did.mid did.answer (λ file is. is.0) good did.first)
    (λ text is says. schedule_said period text.items result is.1 says.0)

schedule_stays : {F : Type 0} (period : ℕ) (mid new : F) (answer : Result (Vec ℕ) Output) (result : Result Schedule Output)
    → Behind answer (λ text. says_schedule {F = F} text.items period) mid result new → new ≡ mid
schedule_stays period mid new (Ok text) result behind = behind.1
schedule_stays period mid new (Err output) result behind = behind.1

-- what every name holds stays
pub reads_schedule-stays : {F : Type 0} (shelf : Shelf F) (name other : List ℕ) (period : ℕ) (old new : F) (result : Result Schedule Output)
    → reads_schedule shelf name period old result new → shelf.held new other ≡ shelf.held old other
reads_schedule-stays {F} shelf name other period old new result did =
    ap (λ (f : F). shelf.held f other) (schedule_stays period did.mid new did.answer result did.behind) ∙ did.first.did.stay other

-- a run ends so if a read fault and want of memory do, and what follows both readings
pub good_files_read : {F K L D : Type 0} {old new : Outside F K L D} {ended : Result Lines Output} (m : Meanings F K L D)
    (settings schedule : List ℕ) (next : StationSettings → Schedule → CommandStep (Outside F K L D) Lines) (Ends : Status → Type 0)
    → ((status : Status) → IsHindrance status → Ends status) → HasGoodFiles m.shelf settings schedule old.files
    → then (over_files (settles m.shelf settings)) (λ s. then (over_files (reads_schedule m.shelf schedule s.period)) (next s)) old ended new
    → ((s : StationSettings) (steps : Schedule) (mid : Outside F K L D) → next s steps mid ended new → Ends (output_of ended).status)
    → Ends (output_of ended).status
good_files_read {old = old} {ended = ended} m settings schedule next Ends hindered good did more =
    let Q : Result Lines Output → Type 0 = λ r. Ends (output_of r).status in
    let R : Output → Type 0 = λ output. IsHindrance output.status in
    let Has : Option (List ℕ) → StationSettings → Type 0 = λ told s. IsSomeAnd told (IsGoodSchedule s.period) in
    let stays = settles-stay m.shelf settings schedule old.files did.mid.files did.answer did.first.0 in
    then_ends (Has (m.shelf.held old.files schedule)) R Q (λ output. hindered output.status) did
    (good-settles m.shelf (Has (m.shelf.held old.files schedule)) settings old.files did.mid.files did.answer good did.first.0)
    (λ s has behind. then_ends (λ (steps : Schedule). Unit {0}) R Q (λ output. hindered output.status) behind
    (good-reads_schedule m.shelf schedule s.period did.mid.files behind.mid.files behind.answer
    (subst (λ (told : Option (List ℕ)). Has told s) (sym stays) has) behind.first.0)
    (λ steps is. more s steps behind.mid))
