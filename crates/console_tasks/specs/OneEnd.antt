-- What was said and heard tells where a task ends, and how.
use Rattle.std.specs.Prelude.{◌≡◌, ℕ, List, ◌++◌}
use Rattle.serial_link.specs.declared.talk.TalkItem.{TalkItem}
use Rattle.console_tasks.specs.declared.end.TaskEnd.{TaskEnd}
use Rattle.console_tasks.specs.TaskTalk.{Grammar, IsCutTalk}

-- Of one talk one prefix at most is of this grammar, with one list of answers and one end; and a talk that was cut
-- off has none.
pub record EndsOnce (Talk : Grammar) : Type 0 where
  pub once : (t : List TalkItem) (a b : List (List ℕ)) (e f : TaskEnd)
      → Talk t a e → Talk t b f → (a ≡ b) × (e ≡ f)
  pub front : (s t x y : List TalkItem) (a b : List (List ℕ)) (e f : TaskEnd)
      → Talk s a e → Talk t b f → s ++ x ≡ t ++ y → s ≡ t
  pub cut : (t : List TalkItem) (a : List (List ℕ)) (e : TaskEnd) → IsCutTalk Talk t → ¬ Talk t a e
