-- A message and the listening after it.
use Rattle.std.proofs.Common.{◌≡◌, ◌≢◌, ℕ, ◌<◌, List, [], ◌∷◌, ◌++◌, length, sym, ◌∙◌, ap, arith, append_assoc}
use Rattle.serial_link.specs.declared.talk.TalkItem.{TalkItem}
use Rattle.serial_link.specs.Talk.{message}
use Rattle.wake_retry.specs.Parts.{FallsShort, IsCutOff, answer_waits}
use Rattle.wake_retry.specs.Asking.{Listens, Answered, Asks}
use Rattle.wake_retry.specs.declared.asking.Asked.{Asked}
use Rattle.wake_retry.specs.declared.asking.Asked.TheVariants as asked
use Rattle.wake_retry.proofs.ListeningSoFar.{silence, short_silence, heard_silence}

behind : (said : List ℕ) (s t : List TalkItem) → s ≡ message said → s ++ t ≡ message said ++ t
behind said s t e = ap (λ (x : List TalkItem). x ++ t) e

-- an answer that is cut off, after its message
cut_after : (said : List ℕ) (n : ℕ) (s t : List TalkItem) → s ≡ message said → IsCutOff (FallsShort answer_waits n) t → IsCutOff (Answered said (FallsShort answer_waits n)) (s ++ t)
cut_after said n s t e k = record {
  rest = k.rest;
  some = k.some;
  whole = record { answer = t ++ k.rest; split = append_assoc s t k.rest ∙ behind said s (t ++ k.rest) e; is = k.whole };
}

-- an answer after its message
pub asks_after : (answer : Asked) (said buf : List ℕ) (s t : List TalkItem) → s ≡ message said → Listens answer_waits answer buf t → Asks answer said buf (s ++ t)
asks_after asked.Full said buf s t e k = record { answer = t; split = behind said s t e; is = k }
asks_after (asked.Short n) said buf s t e k = record { answer = t; split = behind said s t e; is = k }
asks_after asked.LinkFault said buf s t e k = cut_after said (length buf) s t e k
asks_after asked.OutOfMemory said buf s t e k = cut_after said (length buf) s t e k

-- what follows something is something
pub not_over : (a b : List TalkItem) → b ≢ [] → a ++ b ≢ []
not_over [] b some e = some e
not_over (i ∷ a) b some e = cc

-- a message that is cut off, or of which nothing was answered yet
pub cut_saying : (said : List ℕ) (n : ℕ) (s rest : List TalkItem) → 0 < n → s ++ rest ≡ message said → IsCutOff (Answered said (FallsShort answer_waits n)) s
cut_saying said n s rest some e = record {
  rest = rest ++ silence answer_waits;
  some = not_over rest (silence answer_waits) (λ x. cc);
  whole = record {
    answer = silence answer_waits;
    split = sym (append_assoc s rest (silence answer_waits)) ∙ behind said (s ++ rest) (silence answer_waits) e;
    is = (short_silence answer_waits, omega (arith, ap length (heard_silence answer_waits)));
  };
}
