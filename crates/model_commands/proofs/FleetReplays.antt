-- What the command `fleet` prints, by its clause.
use Rattle.std.proofs.Common.{◌≡◌, ◌≢◌, ◌⊎◌, ℕ, List, [], ◌∷◌, ◌++◌, Ok, Err, refl, sym, ap, subst, ◌∙◌, inl, inr}
use Rattle.std.specs.Global.{Vec}
use Rattle.std.specs.Prelude.{All, IfErr, IsOkAnd}
use Rattle.std.specs.declared.result.Result.{Result}
use Rattle.std.proofs.lemmas.List.Elements.{All-nil, All-push}
use Rattle.command_words.specs.Command.{FleetNames}
use Rattle.run_output.specs.Ended.{IsOneOf, Lines}
use Rattle.run_output.specs.Output.{Output, no_memory, read_fault, too_long}
use Rattle.run_output.specs.Outside.{Meanings, over_files}
use Rattle.run_output.specs.Reading.{ReadAs, SaysSettings, bad_settings, reads, says_settings, settles}
use Rattle.run_output.specs.Steps.{Behind, CommandStep, then}
use Rattle.run_output.specs.declared.outside.Outside.{Outside}
use Rattle.run_output.specs.declared.status.Status.TheVariants as ends
use Rattle.run_output.proofs.Behind.{then_has}
use Rattle.schedule_file.specs.declared.schedule.Schedule.{Schedule}
use Rattle.settings_file.specs.StationSettings.{StationSettings}
use Rattle.station_io.specs.Files.{Shelf}
use Rattle.station_io.specs.Sink.{Outlet}
use Rattle.station_io.specs.declared.files.TextRead.{TextRead}
use Rattle.station_io.specs.declared.files.TextRead.TheVariants as reading
use Rattle.model_commands.specs.FleetPrints.{BeginsReplays, IsToldToEnd, PrintsReplays, ReadsFleet, told_to_end}
use Rattle.model_commands.specs.FleetRun.{finds_memory, fleets, makes_stations, reads_schedules}
use Rattle.model_commands.specs.ScheduleReading.{SaysSchedule, bad_schedule, reads_schedule, says_schedule}
use Rattle.model_commands.proofs.FleetTexts.{begins, prints}
use Rattle.model_commands.proofs.OneReplay.{never}

-- a step that ended the run did not tell it to its end
abbrev NotToEnd : {A : Type 0} → Result A Output → Type 0
NotToEnd (Ok a) = Unit {0}
NotToEnd (Err output) = IsOneOf told_to_end output.status → ⊥

not_so : (output other : Output) → output ≡ other → other.status ≢ ends.Done → other.status ≢ ends.Unseen
    → IsOneOf told_to_end output.status → ⊥
not_so output other is done unseen told = never other.status done unseen (subst (λ (o : Output). IsOneOf told_to_end o.status) is told)

err_not : {A : Type 0} (result : Result A Output) (other : Output) → result ≡ Err other → other.status ≢ ends.Done → other.status ≢ ends.Unseen
    → NotToEnd result
err_not {A} result other is done unseen =
    subst (λ (r : Result A Output). NotToEnd r) (sym is) (not_so other other refl done unseen)

no_memory_not : {A : Type 0} (result : Result A Output) → IfErr result (λ output. output ≡ no_memory) → NotToEnd result
no_memory_not (Ok a) none = tt
no_memory_not (Err output) none = not_so output no_memory none (λ is. cc) (λ is. cc)

given_not : {A : Type 0} (result : Result A Output) (P : A → Type 0) → IsOkAnd result P → NotToEnd result
given_not (Ok a) P is = tt
given_not (Err output) P is = absurd is

then_not : {W A B : Type 0} (one : CommandStep W A) (next : A → CommandStep W B)
    → ((old new : W) (result : Result A Output) → one old result new → NotToEnd result)
    → ((a : A) (old new : W) (result : Result B Output) → next a old result new → NotToEnd result)
    → (old new : W) (result : Result B Output) → then one next old result new → NotToEnd result
then_not {W} {A} {B} one next first behind old new result did =
    then_has (λ (r : Result B Output). NotToEnd r) one next old new result (λ output mid was. first old mid (Err output) was)
    (λ a mid was more. behind a mid new result more) did

read_not : {F : Type 0} (shelf : Shelf F) (name : List ℕ) (old new : F) (result : Result (Vec ℕ) Output) → reads shelf name old result new → NotToEnd result
read_not shelf name old new result did = go did.answer did.given
  where
    go : (answer : TextRead) → ReadAs answer did.bytes result → NotToEnd result
    go reading.Done given = given_not result (λ file. file.items ≡ did.bytes) given
    go reading.Failed given = err_not result read_fault given (λ is. cc) (λ is. cc)
    go reading.TooLong given = err_not result too_long given (λ is. cc) (λ is. cc)
    go reading.OutOfMemory given = err_not result no_memory given (λ is. cc) (λ is. cc)

settings_not : (text : List ℕ) (result : Result StationSettings Output) → SaysSettings text result → NotToEnd result
settings_not text (Ok settings) says = tt
settings_not text (Err output) (inl none) = not_so output no_memory none (λ is. cc) (λ is. cc)
settings_not text (Err output) (inr (fault, has, line)) = not_so output (bad_settings fault) line (λ is. cc) (λ is. cc)

schedule_not : (text : List ℕ) (period : ℕ) (result : Result Schedule Output) → SaysSchedule text period result → NotToEnd result
schedule_not text period (Ok schedule) says = tt
schedule_not text period (Err output) (inl none) = not_so output no_memory none (λ is. cc) (λ is. cc)
schedule_not text period (Err output) (inr (fault, has, line)) = not_so output (bad_schedule fault) line (λ is. cc) (λ is. cc)

settles_not : {F : Type 0} (shelf : Shelf F) (name : List ℕ) (old new : F) (result : Result StationSettings Output)
    → settles shelf name old result new → NotToEnd result
settles_not {F} shelf name old new result did = then_not (reads shelf name) (λ text. says_settings {F = F} text.items) (read_not shelf name)
    (λ text before after answer said. settings_not text.items answer said.0) old new result did

reads_schedule_not : {F : Type 0} (shelf : Shelf F) (name : List ℕ) (period : ℕ) (old new : F) (result : Result Schedule Output)
    → reads_schedule shelf name period old result new → NotToEnd result
reads_schedule_not {F} shelf name period old new result did =
    then_not (reads shelf name) (λ text. says_schedule {F = F} text.items period) (read_not shelf name)
    (λ text before after answer said. schedule_not text.items period answer said.0) old new result did

module _ {F K L D : Type 0} (m : Meanings F K L D) (period : ℕ) where
  reads_schedules_not : (given : List Schedule) (names : List (List ℕ)) (old new : Outside F K L D) (result : Result (Vec Schedule) Output)
      → reads_schedules m period given names old result new → NotToEnd result
  reads_schedules_not given [] old new result did = given_not result (λ schedules. schedules.items ≡ given) did.0
  reads_schedules_not given (name ∷ names) old new result did =
      then_not (over_files (reads_schedule m.shelf name period))
      (λ schedule. then (finds_memory {W = Outside F K L D}) (λ _. reads_schedules m period (given ++ schedule ∷ []) names))
      (λ before after answer was. reads_schedule_not m.shelf name period before.files after.files answer was.0)
      (λ schedule. then_not (finds_memory {W = Outside F K L D}) (λ _. reads_schedules m period (given ++ schedule ∷ []) names)
      (λ before after answer found. no_memory_not answer found.0)
      (λ _ before after answer more. reads_schedules_not (given ++ schedule ∷ []) names before after answer more)) old new result did

  -- each schedule that is given has the period for which it was read
  abbrev HavePeriod : Result (Vec Schedule) Output → Type 0
  HavePeriod (Ok schedules) = All (λ x. x.period ≡ period) schedules.items
  HavePeriod (Err output) = Unit {0}

  abbrev HasPeriod : Result Schedule Output → Type 0
  HasPeriod (Ok schedule) = schedule.period ≡ period
  HasPeriod (Err output) = Unit {0}

  period_given : (given : List Schedule) (result : Result (Vec Schedule) Output) → All (λ x. x.period ≡ period) given
      → IsOkAnd result (λ schedules. schedules.items ≡ given) → HavePeriod result
  period_given given (Ok schedules) all is = subst (λ (xs : List Schedule). All (λ x. x.period ≡ period) xs) (sym is) all
  period_given given (Err output) all is = tt

  said_for : (text : List ℕ) (result : Result Schedule Output) → SaysSchedule text period result → HasPeriod result
  said_for text (Ok schedule) says = says.1
  said_for text (Err output) says = tt

  read_for : (name : List ℕ) (old new : F) (result : Result Schedule Output) → reads_schedule m.shelf name period old result new → HasPeriod result
  read_for name old new result did =
      then_has (λ (r : Result Schedule Output). HasPeriod r) (reads m.shelf name) (λ text. says_schedule {F = F} text.items period) old new result
      (λ output mid was. tt) (λ text mid was says. said_for text.items result says.0) did

  all_read_for : (given : List Schedule) (names : List (List ℕ)) (old new : Outside F K L D) (result : Result (Vec Schedule) Output)
      → All (λ x. x.period ≡ period) given → reads_schedules m period given names old result new → HavePeriod result
  all_read_for given [] old new result all did = period_given given result all did.0
  all_read_for given (name ∷ names) old new result all did =
      then_has (λ (r : Result (Vec Schedule) Output). HavePeriod r) (over_files (reads_schedule m.shelf name period))
      (λ schedule. then (finds_memory {W = Outside F K L D}) (λ _. reads_schedules m period (given ++ schedule ∷ []) names)) old new result
      (λ output mid was. tt)
      (λ schedule mid was more. then_has (λ (r : Result (Vec Schedule) Output). HavePeriod r) (finds_memory {W = Outside F K L D})
      (λ _. reads_schedules m period (given ++ schedule ∷ []) names) mid new result
      (λ output last none. tt)
      (λ _ last found rest. all_read_for (given ++ schedule ∷ []) names last new result
      (All-push (λ (x : Schedule). x.period ≡ period) given schedule all (read_for name old.files mid.files (Ok schedule) was.0)) rest) more) did

-- the sink stays in what follows a step
rest_stays : {F K L D A B : Type 0} (next : A → CommandStep (Outside F K L D) B) (mid new : Outside F K L D) (answer : Result A Output)
    (result : Result B Output) → Behind answer next mid result new → ((a : A) → next a mid result new → new.out ≡ mid.out)
    → new.out ≡ mid.out
rest_stays next mid new (Ok a) result behind more = more a behind
rest_stays {F} {K} {L} {D} next mid new (Err output) result behind more = ap (λ (w : Outside F K L D). w.out) behind.1

-- and as the schedules are read
out_stays : {F K L D : Type 0} (m : Meanings F K L D) (period : ℕ) (given : List Schedule) (names : List (List ℕ)) (old new : Outside F K L D)
    (result : Result (Vec Schedule) Output) → reads_schedules m period given names old result new → new.out ≡ old.out
out_stays {F} {K} {L} {D} m period given [] old new result did = ap (λ (w : Outside F K L D). w.out) did.1
out_stays {F} {K} {L} {D} m period given (name ∷ names) old new result did =
    rest_stays (λ schedule. then (finds_memory {W = Outside F K L D}) (λ _. reads_schedules m period (given ++ schedule ∷ []) names))
    did.mid new did.answer result did.behind (λ schedule kept.
    rest_stays (λ _. reads_schedules m period (given ++ schedule ∷ []) names) kept.mid new kept.answer result kept.behind
    (λ _ more. out_stays m period (given ++ schedule ∷ []) names kept.mid new result more)
    ∙ ap (λ (w : Outside F K L D). w.out) kept.first.1)
    ∙ ap (λ (w : Outside F K L D). w.out) did.first.1

module _ {F K L D S : Type 0} (m : Meanings F K L D) (other : Outlet S) (names : FleetNames) where
  -- what the command prints that is told to its end
  abbrev Printed : Outside F K L D → Outside F K L D → Type 0
  Printed old new = (settings : StationSettings) × (schedules : Vec Schedule) × ReadsFleet m names settings schedules old
      × PrintsReplays m.outlet other settings schedules.items old.out new.out

  pub fleet_prints : (old new : Outside F K L D) (ended : Result Lines Output) → fleets m names old ended new → IsToldToEnd ended
      → Printed old new
  fleet_prints old new ended did =
      let Q : Result Lines Output → Type 0 = λ result. IsToldToEnd result → Printed old new in
      then_has Q (over_files (settles m.shelf names.settings)) _ old new ended
      (λ output mid was told. absurd (settles_not m.shelf names.settings old.files mid.files (Err output) was.0 told))
      (λ settings mid was more. then_has Q (reads_schedules m settings.period [] names.schedules) _ mid new ended
      (λ output at read told. absurd (reads_schedules_not m settings.period [] names.schedules mid at (Err output) read told))
      (λ schedules at read make. then_has Q (makes_stations settings schedules.items) _ at new ended
      (λ output last none told. absurd (not_so output no_memory none.1 (λ is. cc) (λ is. cc) told))
      (λ stations last made turns told. (
        settings,
        schedules,
        record { settled = mid; read = at; settles_so = was; reads_so = read },
        subst (λ (out : K). PrintsReplays m.outlet other settings schedules.items out new.out)
            (ap (λ (w : Outside F K L D). w.out) made.2
            ∙ (out_stays m settings.period [] names.schedules mid at (Ok schedules) read ∙ ap (λ (w : Outside F K L D). w.out) was.1))
            (prints m.outlet other settings names.seed schedules.items stations.items last.out new.out ended
            (all_read_for m settings.period [] names.schedules mid at (Ok schedules) (All-nil (λ (x : Schedule). x.period ≡ settings.period)) read)
            made.0 turns.0 told),
      )) make) more) did

-- by whether the first of two steps ended the run
by_step : {W A B P : Type 0} (one : CommandStep W A) (next : A → CommandStep W B) (old new : W) (result : Result B Output)
    → ((output : Output) (mid : W) → one old (Err output) mid → new ≡ mid → P)
    → ((a : A) (mid : W) → one old (Ok a) mid → next a mid result new → P) → then one next old result new → P
by_step {W} {A} {B} {P} one next old new result ended further did = go did.answer did.first did.behind
  where
    go : (answer : Result A Output) → one old answer did.mid → Behind answer next did.mid result new → P
    go (Ok a) was more = further a did.mid was more
    go (Err output) was none = ended output did.mid was none.1

module _ {F K L D : Type 0} (m : Meanings F K L D) (names : FleetNames) where
  -- what the command prints, however it ended: nothing before its stations take turns
  abbrev Begun : Outside F K L D → Outside F K L D → Type 0
  Begun old new = (settings : StationSettings) × (schedules : Vec Schedule) × ReadsFleet m names settings schedules old
      × BeginsReplays m.outlet settings schedules.items old.out new.out

  pub fleet_begins : (old new : Outside F K L D) (ended : Result Lines Output) → fleets m names old ended new
      → (new.out ≡ old.out) ⊎ Begun old new
  fleet_begins old new ended did =
      let out : Outside F K L D → K = λ w. w.out in
      by_step (over_files (settles m.shelf names.settings)) _ old new ended
      (λ output mid was same. inl (ap out same ∙ ap out was.1))
      (λ settings mid was more. by_step (reads_schedules m settings.period [] names.schedules) _ mid new ended
      (λ output at read same. inl (ap out same
      ∙ (out_stays m settings.period [] names.schedules mid at (Err output) read ∙ ap out was.1)))
      (λ schedules at read make.
      let kept : at.out ≡ old.out = out_stays m settings.period [] names.schedules mid at (Ok schedules) read ∙ ap out was.1 in
      by_step (makes_stations settings schedules.items) _ at new ended
      (λ output last none same. inl (ap out same ∙ (ap out none.2 ∙ kept)))
      (λ stations last made turns. inr (
        settings,
        schedules,
        record { settled = mid; read = at; settles_so = was; reads_so = read },
        subst (λ (k : K). BeginsReplays m.outlet settings schedules.items k new.out) (ap out made.2 ∙ kept)
            (begins m.outlet settings names.seed schedules.items stations.items last.out new.out ended
            (all_read_for m settings.period [] names.schedules mid at (Ok schedules) (All-nil (λ (x : Schedule). x.period ≡ settings.period)) read)
            made.0 turns.0),
      )) make) more) did
