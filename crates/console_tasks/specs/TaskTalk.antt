-- The talk of a task: one grammar for all of them, in which a task is a list of exchanges.
use Rattle.std.specs.Prelude.{◌≡◌, ◌≢◌, ℕ, ◌⊎◌, Bool, true, false, List, [], ◌∷◌, ◌++◌}
use Rattle.serial_link.specs.declared.talk.TalkItem.{TalkItem}
use Rattle.serial_link.specs.Talk.{message}
use Rattle.serial_link.specs.Traffic.{Traffic}
use Rattle.serial_link.specs.Link.{Talks}
use Rattle.wake_retry.specs.Parts.{heard, Still, Flooding, Awaits, Wakes, WakeFloods, IsCutOff}
use Rattle.wake_retry.specs.Parts.{wake_tries, settled_waits}
use Rattle.console_tasks.specs.declared.end.TaskEnd.{TaskEnd}
use Rattle.console_tasks.specs.declared.end.TaskEnd.TheVariants as task_end
use Rattle.console_tasks.specs.Exchange.{Exchange, quiets_for, shows}

-- a grammar of talks that have answers and an end
abbrev pub Grammar : Type 1
Grammar = List TalkItem → List (List ℕ) → TaskEnd → Type 0

-- these exchanges, the next one only after an answer without trouble; the answers are those before the first trouble
abbrev pub Exchanges : List Exchange → Grammar
Exchanges [] talk answers end = (talk ≡ []) × (answers ≡ []) × (end ≡ task_end.Done)
Exchanges (x ∷ more) talk answers end =
    (t : List TalkItem) × (rest : List TalkItem) × (talk ≡ message x.said ++ (t ++ rest))
    × Awaits (quiets_for x.begins) x.size t
    × (((shows x (heard t) ≡ task_end.Done)
    × (later : List (List ℕ)) × (answers ≡ heard t ∷ later) × Exchanges more rest later end)
    ⊎ ((shows x (heard t) ≢ task_end.Done) × (rest ≡ []) × (answers ≡ []) × (end ≡ shows x (heard t))))

-- the first settling floods, or one of the wake behind it
abbrev pub Floods : List TalkItem → Type 0
Floods talk =
    Flooding settled_waits talk
    ⊎ ((s : List TalkItem) × (w : List TalkItem) × (talk ≡ s ++ w) × Still settled_waits s × WakeFloods wake_tries w)

-- the talk of a task of these exchanges: a settling, a wake, and the exchanges where the console is awake
abbrev pub TaskTalk : List Exchange → Grammar
TaskTalk exchanges talk answers end =
    ((s : List TalkItem) × (w : List TalkItem) × (rest : List TalkItem) × (awake : Bool)
    × (talk ≡ s ++ (w ++ rest)) × Still settled_waits s × Wakes wake_tries w awake
    × (((awake ≡ true) × Exchanges exchanges rest answers end)
    ⊎ ((awake ≡ false) × (rest ≡ []) × (answers ≡ []) × (end ≡ task_end.Asleep))))
    ⊎ (Floods talk × (answers ≡ []) × (end ≡ task_end.Flood))

-- such a talk was cut off: it is a prefix of one, and not the whole
abbrev pub IsCutTalk : Grammar → List TalkItem → Type 0
IsCutTalk Talk t = IsCutOff (λ u. (answers : List (List ℕ)) × (end : TaskEnd) × Talk u answers end) t

-- such a talk ends so
abbrev pub HasEnd : Grammar → TaskEnd → List TalkItem → Type 0
HasEnd Talk end t = (answers : List (List ℕ)) × Talk t answers end

-- the talk of what ended so, and not well; a fault of the link, or its want of memory, cuts a talk off
abbrev pub Fails : Grammar → TaskEnd → List TalkItem → Type 0
Fails Talk task_end.Done t = ⊥
Fails Talk task_end.Asleep t = HasEnd Talk task_end.Asleep t
Fails Talk (task_end.Refused b) t = HasEnd Talk (task_end.Refused b) t
Fails Talk (task_end.Short n) t = HasEnd Talk (task_end.Short n) t
Fails Talk task_end.BadCheck t = HasEnd Talk task_end.BadCheck t
Fails Talk task_end.BadValue t = HasEnd Talk task_end.BadValue t
Fails Talk (task_end.Differs at sent read) t = HasEnd Talk (task_end.Differs at sent read) t
Fails Talk task_end.Flood t = HasEnd Talk task_end.Flood t
Fails Talk task_end.LinkFault t = IsCutTalk Talk t
Fails Talk task_end.OutOfMemory t = IsCutTalk Talk t

-- the talk of what ended so: it is done with these answers, or it ended so and not well
abbrev pub EndsSo : Grammar → List (List ℕ) → TaskEnd → List TalkItem → Type 0
EndsSo Talk answers end t = ((end ≡ task_end.Done) × Talk t answers task_end.Done) ⊎ Fails Talk end t

-- What a task of these exchanges did over a link, by its end: where it is done, these were the answers. A fault of the
-- link, or its want of memory, is answered only where the link's own count rose.
abbrev pub DoesTask : {L : Type 0} → Traffic L → L → List Exchange → List (List ℕ) → TaskEnd → L → Type 0
DoesTask traffic old exchanges answers end new =
    Talks traffic old (EndsSo (TaskTalk exchanges) answers end)
    (end ≡ task_end.LinkFault) (end ≡ task_end.OutOfMemory) new
