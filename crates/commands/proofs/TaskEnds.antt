-- What the end of a task gives, and what shows it.
use Rattle.std.proofs.Common.{◌≡◌, ◌≢◌, Some, List, [], ◌++◌, ℕ, refl, sym, ap, ◌∙◌, append-nil}
use Rattle.std.proofs.lemmas.List.{append_cancel_left}
use Rattle.console_tasks.specs.TaskTalk.{DoesTask}
use Rattle.console_tasks.specs.declared.end.TaskEnd.{TaskEnd}
use Rattle.console_tasks.specs.declared.end.TaskEnd.TheVariants as task_end
use Rattle.console_tasks.proofs.Done.{ends_done, not_begun}
use Rattle.serial_link.specs.Traffic.{Traffic}
use Rattle.serial_link.specs.declared.talk.TalkItem.{TalkItem}
use Rattle.run_output.specs.declared.status.Status.TheVariants as ends
use Rattle.command_words.specs.declared.task.Task.{Task}
use Rattle.commands.specs.TaskRun.{ShowsDone, exchanges_of, output_at}

-- the text counts only where the task is done
pub text_where_done : (text same : List ℕ) (end : TaskEnd) → (end ≡ task_end.Done → text ≡ same) → output_at text end ≡ output_at same end
text_where_done text same task_end.Done h = ap (λ (t : List ℕ). output_at t task_end.Done) (h refl)
text_where_done text same other h = refl

-- which end gives the status
pub link_fault_of : (text : List ℕ) (end : TaskEnd) → (output_at text end).status ≡ ends.LinkFault → end ≡ task_end.LinkFault
link_fault_of text task_end.LinkFault is = refl
link_fault_of text other is = absurd cc

pub shortage_of : (text : List ℕ) (end : TaskEnd) → (output_at text end).status ≡ ends.OutOfMemory → end ≡ task_end.OutOfMemory
shortage_of text task_end.OutOfMemory is = refl
shortage_of text other is = absurd cc

-- no end of a task is a fault of files, sink or disk
pub none_reads : (text : List ℕ) (end : TaskEnd) → (output_at text end).status ≢ ends.ReadFault
none_reads text task_end.Done = λ is. cc
none_reads text other = λ is. cc

pub none_writes : (text : List ℕ) (end : TaskEnd) → (output_at text end).status ≢ ends.WriteFault
none_writes text task_end.Done = λ is. cc
none_writes text other = λ is. cc

pub none_stores : (text : List ℕ) (end : TaskEnd) → (output_at text end).status ≢ ends.DiskFault
none_stores text task_end.Done = λ is. cc
none_stores text other = λ is. cc

some_inner : (xs ys : List TalkItem) → Some xs ≡ Some ys → xs ≡ ys
some_inner xs ys e = cc

-- what a link gained shows how its task ended
pub shown_done : {L : Type 0} (traffic : Traffic L) (task : Task) (old new : L) (answers : List (List ℕ)) (end : TaskEnd) →
    DoesTask traffic old (exchanges_of task) answers end new → ShowsDone traffic task old new → end ≡ task_end.Done
shown_done {L} traffic task old new answers end does shown =
    let t = does.talk.items in
    let grown : Some (shown.before ++ t) ≡ Some (shown.before ++ shown.gained) = sym (rw shown.told at does.talk.adds.told) ∙ shown.grown in
    let same : t ≡ shown.gained = append_cancel_left shown.before t shown.gained (some_inner (shown.before ++ t) (shown.before ++ shown.gained) grown) in
    ends_done (exchanges_of task) t answers shown.done.0 end does.talk.are (rw same shown.done.1)

-- a task of a link that gained nothing is not done
pub not_silent : {L : Type 0} (traffic : Traffic L) (task : Task) (old new : L) → traffic.talk new ≡ traffic.talk old → ShowsDone traffic task old new → ⊥
not_silent {L} traffic task old new silent shown =
    let same : Some (shown.before ++ shown.gained) ≡ Some shown.before = sym shown.grown ∙ silent ∙ shown.told in
    let none : shown.gained ≡ [] = append_cancel_left shown.before shown.gained []
    (some_inner (shown.before ++ shown.gained) shown.before same ∙ sym (append-nil shown.before)) in
    not_begun (exchanges_of task) shown.done.0 (rw none at shown.done.1)

-- what a link gained since it was connected is what it gained since before
pub shown_since : {L : Type 0} (traffic : Traffic L) (task : Task) (old middle new : L) → traffic.talk middle ≡ traffic.talk old →
    ShowsDone traffic task old new → ShowsDone traffic task middle new
shown_since {L} traffic task old middle new silent shown = record {
  before = shown.before;
  gained = shown.gained;
  told = silent ∙ shown.told;
  grown = shown.grown;
  done = shown.done;
}
