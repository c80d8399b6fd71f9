-- What passes between two rounds over one line: nothing is said, and what is heard is dropped.
use Rattle.std.specs.Prelude.{ℕ, zero, suc, ◌≡◌, ◌⊎◌, ◌*◌, ◌≤◌, ⊤, List, [], ◌∷◌, Ok, length, IfErr, IsOk}
use Rattle.std.specs.declared.result.Result.{Result}
use Rattle.serial_link.specs.Link.{AreStill, Talks}
use Rattle.serial_link.specs.Talk.{count_quiets}
use Rattle.serial_link.specs.Traffic.{Traffic}
use Rattle.serial_link.specs.declared.talk.TalkItem.{TalkItem}
use Rattle.wake_retry.specs.Bounds.{said}
use Rattle.wake_retry.specs.Parts.{heard}
use Rattle.run_output.specs.Ended.{EndsBy, IsOneOf}
use Rattle.run_output.specs.Output.{Output, led_by, link_fault, no_memory}
use Rattle.run_output.specs.Steps.{CommandStep}
use Rattle.run_output.specs.declared.status.Status.TheVariants as ends

-- so many bytes are heard at once in a pause
abbrev pub heard_at_once : ℕ
heard_at_once = 64

-- so often a line that talks is heard in a pause
abbrev pub most_hearings : ℕ
most_hearings = 65536

-- In a pause nothing is said. It is whole once so many quiet waits have passed, or a line that talks has been heard so
-- often, by one byte at least each time.
pub record IsPause (waits : ℕ) (whole : Type 0) (t : List TalkItem) : Type 0 where
  pub silent : said t ≡ []
  pub quiets : count_quiets t ≤ waits
  pub hears : length (heard t) ≤ heard_at_once * most_hearings
  pub over : whole → (count_quiets t ≡ waits) ⊎ (most_hearings ≤ length (heard t))

-- A pause of so many waits was whole, or the link or the memory failed meanwhile: the run then ends with these lines
-- in front.
pub record pauses {L : Type 0} (traffic : Traffic L) (waits : ℕ) (lines : List ℕ) (old : L)
    (result : Result (Unit {0}) Output) (new : L) : Type 0 where
  pub talks : Talks traffic old (IsPause waits (IsOk result)) (EndsBy ends.LinkFault result)
      (EndsBy ends.OutOfMemory result) new
  pub still : AreStill traffic old (EndsBy ends.LinkFault result) ⊤ (EndsBy ends.OutOfMemory result) new
  pub ends_by : IfErr result (λ output. IsOneOf (led_by lines link_fault ∷ led_by lines no_memory ∷ []) output)

-- where other rounds are left there is a pause, and else nothing is done
abbrev pub pauses_between : {L : Type 0} → Traffic L → ℕ → ℕ → List ℕ → CommandStep L (Unit {0})
pauses_between traffic waits zero lines = λ old result new. (result ≡ Ok tt) × (new ≡ old)
pauses_between traffic waits (suc left) lines = pauses traffic waits lines
