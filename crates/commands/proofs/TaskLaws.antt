-- A command that makes a task: its faults have causes, it wants memory only where the link did, and it ends as its talk shows.
use Rattle.std.proofs.Common.{◌≡◌, ◌∙◌, ℕ, List, Ok, Err, ap, subst, arith}
use Rattle.std.specs.declared.result.Result.{Result}
use Rattle.causes.specs.Cause.{Cause}
use Rattle.command_words.specs.declared.task.Task.{Task}
use Rattle.console_tasks.specs.declared.end.TaskEnd.{TaskEnd}
use Rattle.run_output.specs.Calls.{by_call}
use Rattle.run_output.specs.Ended.{EndsBy, Lines, output_of}
use Rattle.run_output.specs.Output.{Output}
use Rattle.run_output.specs.Outside.{Meanings, over_link}
use Rattle.run_output.specs.Steps.{Behind}
use Rattle.run_output.specs.declared.outside.Outside.{Outside}
use Rattle.run_output.specs.declared.status.Status.{Status}
use Rattle.run_output.specs.declared.status.Status.TheVariants.{DiskFault, Done, LinkFault, OutOfMemory, ReadFault, WriteFault}
use Rattle.run_output.proofs.CallCauses.{by_link, calls_causes}
use Rattle.run_output.proofs.Causes.{Causes, then_causes}
use Rattle.run_output.proofs.Statuses.{has_status}
use Rattle.serial_link.specs.Traffic.{Traffic}
use Rattle.serial_link.specs.declared.link.Connected.{Connected}
use Rattle.serial_link.specs.declared.link.Connected.TheVariants as connected
use Rattle.serial_link.specs.declared.link.Side.TheVariants.{Call}
use Rattle.commands.specs.TaskRun.{ShowsDone, calls_for, makes_task, output_at}
use Rattle.commands.specs.TaskText.{task_text}
use Rattle.commands.proofs.TaskEnds.{link_fault_of, none_reads, none_stores, none_writes, not_silent, shortage_of, shown_done, shown_since}

-- the status that ends the run is that of the task's end
end_shown : {L : Type 0} (traffic : Traffic L) (task : Task) (old new : L) (result : Result Lines Output) (did : makes_task traffic task old result new)
    (status : Status) → EndsBy status result → (output_at (task_text task did.answers) did.end).status ≡ status
end_shown traffic task old new result did status is = has_status status result (output_at (task_text task did.answers) did.end) did.given is

made_causes : {F K L D : Type 0} (m : Meanings F K L D) (task : Task) → Causes m (over_link (makes_task m.traffic task))
made_causes m task = by_link m (makes_task m.traffic task) (λ old new result did.
    let text = task_text task did.answers in
    let shown = end_shown m.traffic task old new result did in
    record {
      fault = record { never_falls = did.talks.fault.never_falls; rose = λ is. did.talks.fault.rose (link_fault_of text did.end (shown LinkFault is)) };
      others = (
        λ is. none_reads text did.end (shown ReadFault is),
        λ is. none_writes text did.end (shown WriteFault is),
        λ is. none_stores text did.end (shown DiskFault is),
      );
    })

pub calls_for_causes : {F K L D : Type 0} (m : Meanings F K L D) (address : List ℕ) (task : Task) → Causes m (calls_for m address task)
calls_for_causes m address task = then_causes m _ _ (calls_causes m Call address) (λ called. made_causes m task)

call_wants_none : (answer : Connected) (result : Result (Unit {0}) Output) → result ≡ by_call answer → ¬ (EndsBy OutOfMemory result)
call_wants_none connected.Done (Ok called) given is = is
call_wants_none connected.Done (Err output) given is = cc
call_wants_none connected.Failed (Ok called) given is = is
call_wants_none connected.Failed (Err output) given is = cc

shortage_behind : {F K L D : Type 0} (m : Meanings F K L D) (task : Task) (mid new : Outside F K L D) (answer : Result (Unit {0}) Output)
    (ended : Result Lines Output) → ¬ (EndsBy OutOfMemory answer) → Behind answer (λ called. over_link (makes_task m.traffic task)) mid ended new
    → Cause (m.traffic.shortages mid.link) (m.traffic.shortages new.link) (EndsBy OutOfMemory ended)
shortage_behind m task mid new (Ok called) ended none behind = record {
  never_falls = behind.0.talks.shortage.never_falls;
  rose = λ is. behind.0.talks.shortage.rose
      (shortage_of (task_text task behind.0.answers) behind.0.end (end_shown m.traffic task mid.link new.link ended behind.0 OutOfMemory is));
}
shortage_behind {F} {K} {L} {D} m task mid new (Err output) ended none behind = record {
  never_falls = rw behind.1 (omega arith);
  rose = λ is. absurd (none (rw behind.0 at is));
}

-- it ends for want of memory only where the link had none
pub calls_for_shortage : {F K L D : Type 0} (m : Meanings F K L D) (address : List ℕ) (task : Task) (old new : Outside F K L D)
    (ended : Result Lines Output) → calls_for m address task old ended new
    → Cause (m.traffic.shortages old.link) (m.traffic.shortages new.link) (EndsBy OutOfMemory ended)
calls_for_shortage m address task old new ended did =
    let call = did.first.0 in
    subst (λ (count : ℕ). Cause count (m.traffic.shortages new.link) (EndsBy OutOfMemory ended)) (call.did.still.shortages (λ no. no))
    (shortage_behind m task did.mid new did.answer ended (call_wants_none call.answer did.answer call.given) did.behind)

done_behind : {F K L D : Type 0} (m : Meanings F K L D) (task : Task) (old mid new : Outside F K L D) (answer : Result (Unit {0}) Output)
    (ended : Result Lines Output) → m.traffic.talk mid.link ≡ m.traffic.talk old.link → ShowsDone m.traffic task old.link new.link
    → Behind answer (λ called. over_link (makes_task m.traffic task)) mid ended new → (output_of ended).status ≡ Done
done_behind m task old mid new (Ok called) ended silent shown behind =
    let made = behind.0 in
    let since = shown_since m.traffic task old.link mid.link new.link silent shown in
    let done = shown_done m.traffic task mid.link new.link made.answers made.end made.talks since in
    ap (λ (output : Output). output.status) made.given ∙ ap (λ (end : TaskEnd). (output_at (task_text task made.answers) end).status) done
done_behind {F} {K} {L} {D} m task old mid new (Err output) ended silent shown behind =
    absurd (not_silent m.traffic task old.link new.link (ap (λ (w : Outside F K L D). m.traffic.talk w.link) behind.1 ∙ silent) shown)

-- a task that what was said and heard shows as done ends so
pub calls_for_done : {F K L D : Type 0} (m : Meanings F K L D) (address : List ℕ) (task : Task) (old new : Outside F K L D) (ended : Result Lines Output)
    → ShowsDone m.traffic task old.link new.link → calls_for m address task old ended new → (output_of ended).status ≡ Done
calls_for_done m address task old new ended shown did =
    done_behind m task old did.mid new did.answer ended did.first.0.did.talk shown did.behind
