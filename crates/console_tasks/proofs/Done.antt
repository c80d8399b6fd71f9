-- What a talk shows that is the talk of a task that is done.
use Rattle.std.proofs.Common.{◌≡◌, List, [], ◌∷◌, ℕ, refl, sym, inl, inr, arith}
use Rattle.serial_link.specs.declared.talk.TalkItem.{TalkItem}
use Rattle.console_tasks.specs.Exchange.{Exchange}
use Rattle.console_tasks.specs.TaskTalk.{EndsSo, Fails, HasEnd, TaskTalk}
use Rattle.console_tasks.specs.declared.end.TaskEnd.{TaskEnd}
use Rattle.console_tasks.specs.declared.end.TaskEnd.TheVariants as task_end
use Rattle.console_tasks.proofs.Endings.{ends_once}

-- a talk that shows a task as done has no other end
other_end : (xs : List Exchange) (t : List TalkItem) (answers : List (List ℕ)) (end : TaskEnd) → TaskTalk xs t answers task_end.Done
    → HasEnd (TaskTalk xs) end t → end ≡ task_end.Done
other_end xs t answers end done (others, talk) = sym ((ends_once xs).once t answers others task_end.Done end done talk).1

not_failed : (xs : List Exchange) (t : List TalkItem) (answers : List (List ℕ)) (end : TaskEnd) → TaskTalk xs t answers task_end.Done
    → Fails (TaskTalk xs) end t → end ≡ task_end.Done
not_failed xs t answers task_end.Done done failed = refl
not_failed xs t answers task_end.LinkFault done cut = absurd ((ends_once xs).cut t answers task_end.Done cut done)
not_failed xs t answers task_end.OutOfMemory done cut = absurd ((ends_once xs).cut t answers task_end.Done cut done)
not_failed xs t answers other done failed = other_end xs t answers other done failed

pub ends_done : (xs : List Exchange) (t : List TalkItem) (answers shown : List (List ℕ)) (end : TaskEnd) → EndsSo (TaskTalk xs) answers end t
    → TaskTalk xs t shown task_end.Done → end ≡ task_end.Done
ends_done xs t answers shown end (inl so) done = so.0
ends_done xs t answers shown end (inr failed) done = not_failed xs t shown end done failed

-- a task whose talk has not begun is not done
pub not_begun : (xs : List Exchange) (answers : List (List ℕ)) → TaskTalk xs [] answers task_end.Done → ⊥
not_begun xs answers (inl ([], w, rest, awake, whole, still, wakes, more)) = omega (arith, still.0)
not_begun xs answers (inl (i ∷ s, w, rest, awake, whole, still, wakes, more)) = cc
not_begun xs answers (inr (floods, none, end)) = cc
