-- What two calls over a link did, one after the other.
use Rattle.std.proofs.Common.{◌≡◌, ℕ, ◌≤◌, List, ◌++◌, arith}
use Rattle.causes.specs.Cause.{Cause}
use Rattle.serial_link.specs.declared.talk.TalkItem.{TalkItem}
use Rattle.serial_link.specs.Traffic.{Traffic}
use Rattle.serial_link.specs.declared.link.Sent.{Sent}
use Rattle.serial_link.specs.declared.link.Sent.TheVariants as sent
use Rattle.serial_link.specs.Link.{Talks, Says, Speaks}
use Rattle.serial_link.proofs.GrownTalk.{adds_joins}

-- a fault of the second call came only where the count rose since the first
cause_later : {a b c : ℕ} {F G : Type 0} → Cause a b F → Cause b c G → Cause a c G
cause_later {a} {b} {c} one two = record {
  never_falls = omega (arith, one.never_falls, two.never_falls);
  rose = λ f. (let r = two.rose f in omega (arith, one.never_falls, r));
}

-- a cause is one of what it comes from
cause_as : {a b : ℕ} {F G : Type 0} → Cause a b F → (G → F) → Cause a b G
cause_as one f = record { never_falls = one.never_falls; rose = λ g. one.rose (f g) }

-- the talks of both are one talk
pub talks_then : {L : Type 0} {traffic : Traffic L} {a b c : L} {P Q : List TalkItem → Type 0} {F G S T : Type 0} (R : List TalkItem → Type 0)
    → Talks traffic a P F S b → Talks traffic b Q G T c → ((s t : List TalkItem) → P s → Q t → R (s ++ t)) → Talks traffic a R G T c
talks_then R one two h = record {
  talk = record {
    items = one.talk.items ++ two.talk.items;
    are = h one.talk.items two.talk.items one.talk.are two.talk.are;
    adds = adds_joins one.talk.adds two.talk.adds;
  };
  fault = cause_later one.fault two.fault;
  shortage = cause_later one.shortage two.shortage;
}

-- the same said otherwise
pub talks_as : {L : Type 0} {traffic : Traffic L} {a b : L} {P : List TalkItem → Type 0} {F G S T : Type 0} (R : List TalkItem → Type 0)
    → Talks traffic a P F S b → (G → F) → (T → S) → ((t : List TalkItem) → P t → R t) → Talks traffic a R G T b
talks_as R one f s h = record {
  talk = record {
    items = one.talk.items;
    are = h one.talk.items one.talk.are;
    adds = one.talk.adds;
  };
  fault = cause_as one.fault f;
  shortage = cause_as one.shortage s;
}

-- a fault of a later call, for a count that did not fall before it
pub cause_since : {a b c : ℕ} {F G : Type 0} → a ≤ b → Cause b c F → (G → F) → Cause a c G
cause_since {a} {b} {c} before one f = record {
  never_falls = omega (arith, before, one.never_falls);
  rose = λ g. (let r = one.rose (f g) in omega (arith, before, r));
}

-- a send is a call over the link
pub speaks_talks : {L : Type 0} {traffic : Traffic L} {a b : L} {bytes : List ℕ} {answer : Sent} → Speaks traffic a bytes answer b
    → Talks traffic a (Says answer bytes) (answer ≡ sent.Failed) (answer ≡ sent.OutOfMemory) b
speaks_talks one = record { talk = one.talk; fault = one.fault; shortage = one.shortage }
