-- A console that is served: its causes, and how it ends.
use Rattle.std.proofs.Common.{◌≡◌, ◌⊎◌, ℕ, List, [], ◌∷◌, Ok, Err, refl, sym, ap, ◌∙◌, subst, arith, inl, inr}
use Rattle.std.specs.Prelude.{IfErr}
use Rattle.std.specs.declared.result.Result.{Result}
use Rattle.causes.specs.Cause.{Cause, Rose}
use Rattle.command_words.specs.Command.{ConsoleNames}
use Rattle.console_model.specs.declared.console.Console.{Console}
use Rattle.console_server.specs.declared.serving.ServeEnd.{ServeEnd}
use Rattle.console_server.specs.declared.serving.ServeEnd.TheVariants as serve_end
use Rattle.console_server.specs.declared.serving.Served.{Served}
use Rattle.run_output.specs.Calls.{by_call, calls}
use Rattle.run_output.specs.Ended.{EndsBy, IsOneOf, Lines, output_of}
use Rattle.run_output.specs.Output.{Output, link_fault, no_memory}
use Rattle.run_output.specs.Outside.{Meanings, over_link}
use Rattle.run_output.specs.Steps.{Behind, CommandStep, then}
use Rattle.run_output.specs.declared.outside.Outside.{Outside}
use Rattle.run_output.specs.declared.status.Status.{Status}
use Rattle.run_output.specs.declared.status.Status.TheVariants as ends
use Rattle.run_output.proofs.CallCauses.{LinkCauses, by_link, calls_causes, memory_quiet, quiet_causes, settles_causes}
use Rattle.run_output.proofs.Causes.{Causes, then_causes}
use Rattle.run_output.proofs.Statuses.{has_status}
use Rattle.schedule_replay.specs.Replayed.{steps_in}
use Rattle.serial_link.specs.Traffic.{Traffic}
use Rattle.serial_link.specs.declared.link.Connected.{Connected}
use Rattle.serial_link.specs.declared.link.Connected.TheVariants as connected
use Rattle.serial_link.specs.declared.link.Side.TheVariants.{Serve}
use Rattle.replay_laws.specs.Schedule.{ReplayStep}
use Rattle.model_commands.specs.ConsoleRun.{IsUntouchedOrShort, readies, served_output, serves, serves_files}
use Rattle.model_commands.specs.ReplayRun.{HasGoodFiles}
use Rattle.model_commands.proofs.GoodSchedule.{good_files_read, then_ends}
use Rattle.model_commands.proofs.ReplayLaws.{reads_schedule_causes}

-- served for all turns, unless a link fault, a read fault, a write fault or want of memory kept the command from that
abbrev pub served : List Status
served = ends.Done ∷ ends.LinkFault ∷ ends.ReadFault ∷ ends.WriteFault ∷ ends.OutOfMemory ∷ []

abbrev pub IsServedOrHindered : Status → Type 0
IsServedOrHindered = IsOneOf served

readies_causes : {F K L D : Type 0} (m : Meanings F K L D) (period : ℕ) (steps : List ReplayStep) → Causes m (readies period steps)
readies_causes m period steps old new result did = quiet_causes m old new result (memory_quiet result did.1) did.2

-- how a serving ends, by the status of its output
served_as : (end : ServeEnd) (count : Served) (status : Status) → (served_output end count).status ≡ status
    → (status ≡ ends.Done) ⊎ ((status ≡ ends.LinkFault) × (end ≡ serve_end.LinkFault))
    ⊎ ((status ≡ ends.OutOfMemory) × (end ≡ serve_end.OutOfMemory))
served_as serve_end.Done count status is = inl (sym is)
served_as serve_end.LinkFault count status is = inr (inl (sym is, refl))
served_as serve_end.OutOfMemory count status is = inr (inr (sym is, refl))

served_causes : {L : Type 0} (traffic : Traffic L) (old new : L) (end : ServeEnd) (count : Served) (ended : Result Lines Output)
    → Cause (traffic.faults old) (traffic.faults new) (end ≡ serve_end.LinkFault) → output_of ended ≡ served_output end count
    → LinkCauses traffic old ended new
served_causes traffic old new end count ended fault given =
    let so = λ (status : Status) (is : EndsBy status ended). served_as end count status (has_status status ended _ given is) in
    record {
      fault = record { never_falls = fault.never_falls; rose = λ is. fault.rose (let e = so ends.LinkFault is in grind arith) };
      others = (
        λ is. let e = so ends.ReadFault is in grind arith,
        λ is. let e = so ends.WriteFault is in grind arith,
        λ is. let e = so ends.DiskFault is in grind arith,
      );
    }

pub serves_files_causes : {F K L D : Type 0} (m : Meanings F K L D) (names : ConsoleNames) → Causes m (serves_files m names)
serves_files_causes m names =
    then_causes m _ _ (settles_causes m names.settings) (λ settings.
    then_causes m _ _ (reads_schedule_causes m names.schedule settings.period) (λ schedule.
    then_causes m _ _ (readies_causes m schedule.period (steps_in schedule)) (λ console.
    then_causes m _ _ (calls_causes m Serve names.address) (λ _.
    by_link m (serves m.traffic console names.turns) (λ old new ended did.
    served_causes m.traffic old new did.end did.count ended did.talks.fault did.given)))))

call_ended : (answer : Connected) (result : Result (Unit {0}) Output) → result ≡ by_call answer → IfErr result (λ output. output ≡ link_fault)
call_ended connected.Done result given = subst (λ (r : Result (Unit {0}) Output). IfErr r (λ output. output ≡ link_fault)) (sym given) tt
call_ended connected.Failed result given = subst (λ (r : Result (Unit {0}) Output). IfErr r (λ output. output ≡ link_fault)) (sym given) refl

-- under good files a console is served for all turns, unless the outside or the memory fails
pub serves_files_complete : {F K L D : Type 0} (m : Meanings F K L D) (names : ConsoleNames) (old new : Outside F K L D)
    (ended : Result Lines Output) → HasGoodFiles m.shelf names.settings names.schedule old.files → serves_files m names old ended new
    → IsServedOrHindered (output_of ended).status
serves_files_complete m names old new ended good did =
    let Q : Result Lines Output → Type 0 = λ r. IsServedOrHindered (output_of r).status in
    let status = λ (o : Output). o.status in
    good_files_read m names.settings names.schedule _ IsServedOrHindered (λ status is. grind arith) good did (λ settings schedule mid ready.
    then_ends (λ (console : Console). Unit {0}) (λ output. output ≡ no_memory) Q (λ output is. inr (inr (inr (inr (ap status is)))))
    ready ready.first.1 (λ console _ call.
    then_ends (λ (called : Unit {0}). Unit {0}) (λ output. output ≡ link_fault) Q (λ output is. inr (inl (ap status is)))
    call (call_ended call.first.0.answer call.answer call.first.0.given) (λ called _ last.
    let e = served_as last.0.end last.0.count (output_of ended).status (ap status (sym last.0.given)) in grind arith)))

-- what follows a step that left the link untouched, or ended the run
behind_untouched : {F K L D A : Type 0} (traffic : Traffic L) (next : A → CommandStep (Outside F K L D) Lines) (old mid new : Outside F K L D)
    (answer : Result A Output) (ended : Result Lines Output) → mid.link ≡ old.link
    → ((a : A) → next a mid ended new → IsUntouchedOrShort traffic mid.link new.link) → Behind answer next mid ended new
    → IsUntouchedOrShort traffic old.link new.link
behind_untouched {L = L} traffic next old mid new (Ok a) ended same more behind =
    subst (λ (l : L). IsUntouchedOrShort traffic l new.link) same (more a behind)
behind_untouched {F} {K} {L} {D} traffic next old mid new (Err output) ended same more behind =
    inl (ap (λ (w : Outside F K L D). w.link) behind.1 ∙ same)

-- a call that came took no memory but the link's
called_short : {F K L D : Type 0} (m : Meanings F K L D) (console : Console) (names : ConsoleNames) (old new : Outside F K L D)
    (ended : Result Lines Output) → EndsBy ends.OutOfMemory ended
    → then (over_link (calls m.traffic Serve names.address)) (λ _. over_link (serves m.traffic console names.turns)) old ended new
    → IsUntouchedOrShort m.traffic old.link new.link
called_short m console names old new ended short call =
    then_ends (λ (called : Unit {0}). Unit {0}) (λ output. output ≡ link_fault)
    (λ (r : Result Lines Output). EndsBy ends.OutOfMemory r → IsUntouchedOrShort m.traffic old.link new.link)
    (λ output is by. absurd cc) call (call_ended call.first.0.answer call.answer call.first.0.given)
    (λ called _ last by. inr (subst (λ (n : ℕ). Rose n (m.traffic.shortages new.link)) (call.first.0.did.still.shortages (λ no. no))
    (last.0.talks.shortage.rose
    (let e = served_as last.0.end last.0.count ends.OutOfMemory (has_status ends.OutOfMemory ended _ last.0.given by) in grind arith)))) short

-- for want of memory it ends with an untouched link, or with one that was short of memory
pub serves_files_shortage : {F K L D : Type 0} (m : Meanings F K L D) (names : ConsoleNames) (old new : Outside F K L D)
    (ended : Result Lines Output) → serves_files m names old ended new → EndsBy ends.OutOfMemory ended
    → IsUntouchedOrShort m.traffic old.link new.link
serves_files_shortage {F} {K} {L} {D} m names old new ended settled short =
    let link = λ (w : Outside F K L D). w.link in
    behind_untouched m.traffic _ old settled.mid new settled.answer ended (ap link settled.first.1) (λ settings read.
    behind_untouched m.traffic _ settled.mid read.mid new read.answer ended (ap link read.first.1) (λ schedule ready.
    behind_untouched m.traffic _ read.mid ready.mid new ready.answer ended (ap link ready.first.2) (λ console call.
    called_short m console names ready.mid new ended short call) ready.behind) read.behind) settled.behind
