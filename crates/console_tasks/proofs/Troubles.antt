-- Ends that an answer shows, and that no fault of the link does.
use Rattle.std.proofs.Common.{◌≡◌, ◌≢◌, ℕ, Bool, true, false, List, subst, Ok, Err}
use Rattle.std.specs.declared.result.Result.{Result}
use Rattle.serial_link.specs.declared.talk.TalkItem.{TalkItem}
use Rattle.serial_link.specs.Traffic.{Traffic}
use Rattle.serial_link.specs.Link.{Talks}
use Rattle.serial_link.proofs.JoinedCalls.{talks_as}
use Rattle.console_tasks.specs.declared.end.TaskEnd.{TaskEnd}
use Rattle.console_tasks.specs.declared.end.TaskEnd.TheVariants as task_end
use Rattle.console_tasks.specs.Exchange.{end_by}

-- an end that an answer with trouble shows, or that is known before there is one
abbrev pub IsTrouble : TaskEnd → Type 0
IsTrouble task_end.Done = ⊥
IsTrouble task_end.Asleep = Unit {0}
IsTrouble (task_end.Refused b) = Unit {0}
IsTrouble (task_end.Short n) = Unit {0}
IsTrouble task_end.BadCheck = Unit {0}
IsTrouble task_end.BadValue = Unit {0}
IsTrouble (task_end.Differs at sent read) = Unit {0}
IsTrouble task_end.Flood = Unit {0}
IsTrouble task_end.LinkFault = ⊥
IsTrouble task_end.OutOfMemory = ⊥

-- it is no other end
pub not_other : (end other : TaskEnd) → IsTrouble end → (IsTrouble other → ⊥) → end ≢ other
not_other end other trouble never e = never (subst IsTrouble e trouble)

pub not_done : (end : TaskEnd) → IsTrouble end → end ≢ task_end.Done
not_done end trouble = not_other end task_end.Done trouble (λ k. k)

-- an error is such an end
abbrev pub TellsTrouble : {T : Type 0} → Result T TaskEnd → Type 0
TellsTrouble (Ok given) = Unit {0}
TellsTrouble (Err end) = IsTrouble end

-- it is no error by another end
pub no_error : {T : Type 0} (r : Result T TaskEnd) (other : TaskEnd) → TellsTrouble r → (IsTrouble other → ⊥) → r ≢ Err other
no_error {T} (Ok given) other trouble never e = (let z : Ok given ≡ Err other = e in cc)
no_error {T} (Err end) other trouble never e = not_other end other trouble never (let z : end ≡ other = cc in z)

-- a call that is no fault of the link
pub talks_shown : {L T : Type 0} {traffic : Traffic L} {a b : L} {P : List TalkItem → Type 0} {F S : Type 0}
    (r : Result T TaskEnd) (R : List TalkItem → Type 0)
    → TellsTrouble r → Talks traffic a P F S b → ((t : List TalkItem) → P t → R t)
    → Talks traffic a R (r ≡ Err task_end.LinkFault) (r ≡ Err task_end.OutOfMemory) b
talks_shown r R trouble one h =
    talks_as R one (λ e. absurd (no_error r task_end.LinkFault trouble (λ k. k) e))
    (λ e. absurd (no_error r task_end.OutOfMemory trouble (λ k. k) e)) h

-- a refusal, or a short answer, is such an end
pub refusal_trouble : (short : Bool) (answer : List ℕ) (whole : TaskEnd) → IsTrouble (end_by true short answer whole)
refusal_trouble short answer whole = tt

pub short_trouble : (refusal : Bool) (answer : List ℕ) (whole : TaskEnd) → IsTrouble (end_by refusal true answer whole)
short_trouble true answer whole = tt
short_trouble false answer whole = tt

-- want of memory is no fault
pub want_no_fault : {T : Type 0} (r : Result T TaskEnd) → r ≡ Err task_end.OutOfMemory → r ≢ Err task_end.LinkFault
want_no_fault r w f = (let z : task_end.OutOfMemory ≡ task_end.LinkFault = cc in cc)
