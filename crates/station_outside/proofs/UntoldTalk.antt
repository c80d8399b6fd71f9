-- What a link adds that tells nothing of its talk.
use Rattle.std.proofs.Common.{◌≡◌, ◌≢◌, ℕ, List, [], refl, map, take, sym, subst}
use Rattle.std.specs.Prelude.{◌↔◌, Result, Ok, IfOk}
use Rattle.causes.specs.Cause.{RoseBy, Rose, rose_none}
use Rattle.serial_link.specs.declared.talk.TalkItem.{TalkItem}
use Rattle.serial_link.specs.declared.talk.TalkItem.TheVariants.{Heard}
use Rattle.serial_link.specs.Talk.{message, count_quiets, Adds}
use Rattle.serial_link.specs.Link.{received}
use Rattle.serial_link.specs.Link as link
use Rattle.station_outside.specs.Outcome.{OutcomeIsWithin}
use Rattle.station_outside.specs.Untold.{untold_traffic}
use Rattle.station_outside.specs.declared.outcome.Outcome.{Outcome}
use Rattle.station_outside.specs.declared.outcome.Outcome.TheVariants.{Moved}
use Rattle.serial_link.specs.declared.link.Recv.{Recv}
use Rattle.serial_link.specs.declared.link.Recv.TheVariants as recv
use Rattle.serial_link.proofs.GrownTalk.{message_waits, heard_waits}

-- items without a wait
adds_loud : {L : Type 0} (faults quiets : L → ℕ) (l m : L) (t : List TalkItem) → count_quiets t ≡ 0 → quiets m ≡ quiets l
    → Adds (untold_traffic faults quiets) l t m
adds_loud faults quiets l m t none same = record {
  told = refl;
  went = tt;
  waits = subst (λ n. RoseBy n (quiets l) (quiets m)) (sym none) (subst (λ q. RoseBy 0 (quiets l) q) (sym same) (rose_none (quiets l)));
}

-- bytes were heard
adds_heard : {L : Type 0} (faults quiets : L → ℕ) (l m : L) (bytes : List ℕ) → quiets m ≡ quiets l
    → Adds (untold_traffic faults quiets) l (map Heard bytes) m
adds_heard faults quiets l m bytes same = adds_loud faults quiets l m (map Heard bytes) (heard_waits bytes) same

-- a message was said
pub adds_said : {L : Type 0} (faults quiets : L → ℕ) (l m : L) (bytes : List ℕ) → quiets m ≡ quiets l
    → Adds (untold_traffic faults quiets) l (message bytes) m
adds_said faults quiets l m bytes same = adds_loud faults quiets l m (message bytes) (message_waits bytes) same

-- nothing was
pub adds_nothing : {L : Type 0} (faults quiets : L → ℕ) (l m : L) → quiets m ≡ quiets l → Adds (untold_traffic faults quiets) l [] m
adds_nothing faults quiets l m same = adds_loud faults quiets l m [] refl same

got_is_loud : (n : ℕ) → recv.Got n ≢ recv.Quiet
got_is_loud n e = cc

failed_is_loud : recv.Failed ≢ recv.Quiet
failed_is_loud e = cc

shortage_is_loud : recv.OutOfMemory ≢ recv.Quiet
shortage_is_loud e = cc

-- a receive adds what it heard, or its wait, where that alone is counted
pub adds_received : {L : Type 0} (faults quiets : L → ℕ) (l m : L) (answer : Recv) (buf : List ℕ)
    → (answer ≡ recv.Quiet → Rose (quiets l) (quiets m)) → (answer ≢ recv.Quiet → quiets m ≡ quiets l)
    → Adds (untold_traffic faults quiets) l (received answer buf) m
adds_received faults quiets l m (recv.Got n) buf rose same = adds_heard faults quiets l m (take n buf) (same (got_is_loud n))
adds_received faults quiets l m recv.Quiet buf rose same = record { told = refl; went = tt; waits = rose refl }
adds_received faults quiets l m recv.Failed buf rose same = adds_nothing faults quiets l m (same failed_is_loud)
adds_received faults quiets l m recv.OutOfMemory buf rose same = adds_nothing faults quiets l m (same shortage_is_loud)

-- a receive that answers bytes heard them, within the buffer
pub heard_within : {E : Type 0} (answer : Recv) (heard : Result Outcome E) (size : ℕ)
    → ((n : ℕ) → (answer ≡ recv.Got n) ↔ (heard ≡ Ok (Moved n))) → IfOk heard (λ outcome. OutcomeIsWithin outcome size)
    → link.ReceiveIsWithin answer size
heard_within (recv.Got n) heard size got within = subst (λ h. IfOk h (λ outcome. OutcomeIsWithin outcome size)) ((got n).0 refl) within
heard_within recv.Quiet heard size got within = tt
heard_within recv.Failed heard size got within = tt
heard_within recv.OutOfMemory heard size got within = tt
