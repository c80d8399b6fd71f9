-- What a link that plays a script adds to its talk.
use Rattle.std.proofs.Common.{◌≡◌, ℕ, ◌++◌, List, Some, map, sym, ap, subst}
use Rattle.causes.specs.Cause.{RoseBy, rose_none}
use Rattle.serial_link.specs.declared.talk.TalkItem.{TalkItem}
use Rattle.serial_link.specs.declared.talk.TalkItem.TheVariants.{Heard}
use Rattle.serial_link.specs.Talk.{message, count_quiets, Adds}
use Rattle.serial_link.specs.Script.{Play, played}
use Rattle.serial_link.proofs.GrownTalk.{message_waits, heard_waits}

plays : (l : Play) (t : List TalkItem) (m : Play) → m.talk ≡ l.talk ++ t → m.quiets ≡ l.quiets → count_quiets t ≡ 0 → Adds played l t m
plays l t m grew same none = record {
  told = ap (λ (s : List TalkItem). Some s) grew;
  went = grew;
  waits = subst (λ n. RoseBy n l.quiets m.quiets) (sym none) (subst (λ q. RoseBy 0 l.quiets q) (sym same) (rose_none l.quiets));
}

-- bytes were heard
pub plays_heard : (l : Play) (bytes : List ℕ) (m : Play) → m.talk ≡ l.talk ++ map Heard bytes → m.quiets ≡ l.quiets → Adds played l (map Heard bytes) m
plays_heard l bytes m grew same = plays l (map Heard bytes) m grew same (heard_waits bytes)

-- a message was said
pub plays_said : (l : Play) (bytes : List ℕ) (m : Play) → m.talk ≡ l.talk ++ message bytes → m.quiets ≡ l.quiets → Adds played l (message bytes) m
plays_said l bytes m grew same = plays l (message bytes) m grew same (message_waits bytes)
