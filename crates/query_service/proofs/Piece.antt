-- What one piece that is said over a link does.
use Rattle.std.proofs.Common.{ℕ, ◌≡◌, List, [], ◌∷◌, ◌++◌, Option, Some, None, refl, sym, ap, subst, ◌∙◌, arith}
use Rattle.causes.specs.Cause.{Cause}
use Rattle.causes.specs.Lists.{IsFrontOf}
use Rattle.causes.proofs.WritesInTurn.{writes_nothing}
use Rattle.station_io.specs.declared.sink.Put.TheVariants as put
use Rattle.station_io.specs.Sink.{Emits, WroteBy}
use Rattle.serial_link.specs.declared.talk.TalkItem.{TalkItem}
use Rattle.serial_link.specs.declared.link.Sent.TheVariants as sent
use Rattle.serial_link.specs.Traffic.{Traffic}
use Rattle.serial_link.specs.Talk.{Adds, count_quiets, message}
use Rattle.serial_link.specs.Link.{Speaks}
use Rattle.serial_link.proofs.GrownTalk.{count_quiets-append, message_waits}
use Rattle.wake_retry.specs.Bounds.{said}
use Rattle.wake_retry.specs.Parts.{heard}
use Rattle.wake_retry.proofs.Endings.{heard-append}
use Rattle.query_service.specs.declared.link_sink.Refusal.{Refusal}
use Rattle.query_service.specs.declared.link_sink.Refusal.TheVariants.{LinkFault, OutOfMemory}
use Rattle.query_service.specs.declared.link_sink.LinkSink.{LinkSink}
use Rattle.query_service.specs.Refused.{Refuses, refused}
use Rattle.query_service.specs.SaidOver.{saying_outlet, says_none}
use Rattle.query_service.specs.Talk.{TalkOnlySays, said_joins}

message_bytes : (bytes : List ℕ) → said (message bytes) ≡ bytes
message_bytes [] = refl
message_bytes (b ∷ []) = refl
message_bytes (b ∷ c ∷ bytes) = ap (λ (x : List ℕ). b ∷ x) (message_bytes (c ∷ bytes))

message_heard : (bytes : List ℕ) → heard (message bytes) ≡ []
message_heard [] = refl
message_heard (b ∷ []) = refl
message_heard (b ∷ c ∷ bytes) = message_heard (c ∷ bytes)

message_only : (bytes : List ℕ) → TalkOnlySays (message bytes)
message_only bytes = (message_heard bytes, message_waits bytes)

none_before : (xs ys : List ℕ) → xs ++ ys ≡ [] → xs ≡ []
none_before [] ys e = refl
none_before (x ∷ xs) ys e = absurd cc

-- a front of a message is only said
front_only : (t rest : List TalkItem) (bytes : List ℕ) → t ++ rest ≡ message bytes → TalkOnlySays t
front_only t rest bytes whole = (
  none_before (heard t) (heard rest) (sym (heard-append t rest) ∙ (ap heard whole ∙ message_heard bytes)),
  omega (arith, count_quiets-append t rest, ap count_quiets whole, message_waits bytes),
)

-- and its bytes are a front of the message's
front_bytes : (t rest : List TalkItem) (bytes : List ℕ) → t ++ rest ≡ message bytes → IsFrontOf (said t) bytes
front_bytes t rest bytes whole = (said rest, sym (said_joins t rest) ∙ (ap said whole ∙ message_bytes bytes))

-- the count of refused pieces goes up by the first
first_refused : (o p : Option Refusal) (r : Refusal) → o ≡ None → p ≡ Some r → Cause (refused o) (refused p) (put.Failed ≡ put.Failed)
first_refused o p r none some =
    subst (λ (x : Option Refusal). Cause (refused x) (refused p) (put.Failed ≡ put.Failed)) (sym none)
    (subst (λ (y : Option Refusal). Cause 0 (refused y) (put.Failed ≡ put.Failed)) (sym some)
    (record { never_falls = omega arith; rose = λ _. omega arith }))

-- what follows where no piece was refused before
refuses_by : (o p q : Option Refusal) (a b c d : ℕ) → o ≡ None → p ≡ q → Refuses None q a b c d → Refuses o p a b c d
refuses_by o p q a b c d none is holds =
    subst (λ (x : Option Refusal). Refuses x p a b c d) (sym none) (subst (λ (y : Option Refusal). Refuses None y a b c d) (sym is) holds)

module _ {L : Type 0} (traffic : Traffic L) (old new : LinkSink L) (bytes : List ℕ)
    (same : new.link.ghost_name ≡ old.link.ghost_name) (free : old.refusal ≡ None) where
  pub all_said : Speaks traffic old.link.now bytes sent.Done new.link.now → new.refusal ≡ old.refusal
      → Emits (saying_outlet traffic) old bytes put.Done new
  all_said speaks is = record {
    done = λ _. tt;
    failed = λ e. absurd (let bad : put.Done ≡ put.Failed = e in cc);
    call =
        let talk = speaks.talk in
        record {
          written = bytes;
          writes = refl;
          wrote = record {
            same = same;
            talk = talk.items;
            said_is = ap said talk.are ∙ message_bytes bytes;
            only = subst TalkOnlySays (sym talk.are) (message_only bytes);
            adds = talk.adds;
            refuses = refuses_by _ _ None _ _ _ _ free (is ∙ free) (record {
              same = refl;
              faults = speaks.still.faults (λ e. absurd (let bad : sent.Done ≡ sent.Failed = e in cc));
              shortages = speaks.still.shortages (λ e. absurd (let bad : sent.Done ≡ sent.OutOfMemory = e in cc));
            });
          };
        };
    cause = record {
      never_falls = let e : refused new.refusal ≡ refused old.refusal = ap refused is in omega (arith, e);
      rose = λ e. absurd (let bad : put.Done ≡ put.Failed = e in cc);
    };
    still = λ _. ap refused is;
  }

  -- of a message that broke off a front was said
  front_said : (t rest : List TalkItem) → t ++ rest ≡ message bytes → Adds traffic old.link.now t new.link.now
      → Refuses old.refusal new.refusal (traffic.faults old.link.now) (traffic.faults new.link.now)
      (traffic.shortages old.link.now) (traffic.shortages new.link.now)
      → WroteBy (saying_outlet traffic) old bytes put.Failed new
  front_said t rest whole adds refuses = record {
    written = said t;
    writes = front_bytes t rest bytes whole;
    wrote = record {
      same = same;
      talk = t;
      said_is = refl;
      only = front_only t rest bytes whole;
      adds = adds;
      refuses = refuses;
    };
  }

  pub fails : Speaks traffic old.link.now bytes sent.Failed new.link.now → new.refusal ≡ Some LinkFault
      → Emits (saying_outlet traffic) old bytes put.Failed new
  fails speaks is = record {
    done = λ e. absurd (let bad : put.Failed ≡ put.Done = e in cc);
    failed = λ _. writes_nothing None bytes;
    call =
        let talk = speaks.talk in
        let (rest, whole) = talk.are in
        front_said talk.items rest whole talk.adds (refuses_by _ _ (Some LinkFault) _ _ _ _ free is (record {
          never_falls = speaks.fault.never_falls;
          rose = speaks.fault.rose refl;
          stands = speaks.still.shortages (λ e. absurd (let bad : sent.Failed ≡ sent.OutOfMemory = e in cc));
        }));
    cause = first_refused old.refusal new.refusal LinkFault free is;
    still = λ apart. absurd (apart refl);
  }

  pub finds_no_memory : Speaks traffic old.link.now bytes sent.OutOfMemory new.link.now → new.refusal ≡ Some OutOfMemory
      → Emits (saying_outlet traffic) old bytes put.Failed new
  finds_no_memory speaks is = record {
    done = λ e. absurd (let bad : put.Failed ≡ put.Done = e in cc);
    failed = λ _. writes_nothing None bytes;
    call =
        let talk = speaks.talk in
        let (rest, whole) = talk.are in
        front_said talk.items rest whole talk.adds (refuses_by _ _ (Some OutOfMemory) _ _ _ _ free is (record {
          never_falls = speaks.shortage.never_falls;
          rose = speaks.shortage.rose refl;
          stands = speaks.still.faults (λ e. absurd (let bad : sent.OutOfMemory ≡ sent.Failed = e in cc));
        }));
    cause = first_refused old.refusal new.refusal OutOfMemory free is;
    still = λ apart. absurd (apart refl);
  }

again_refused : (o : Option Refusal) (r : Refusal) → o ≡ Some r → Cause (refused o) (refused o) (put.Failed ≡ put.Failed)
again_refused o r some =
    subst (λ (x : Option Refusal). Cause (refused x) (refused x) (put.Failed ≡ put.Failed)) (sym some)
    (record { never_falls = omega arith; rose = λ _. omega arith })

-- behind a refusal nothing is said
pub stays_refused : {L : Type 0} (traffic : Traffic L) (s : LinkSink L) (bytes : List ℕ) (r : Refusal) → s.refusal ≡ Some r
    → Emits (saying_outlet traffic) s bytes put.Failed s
stays_refused traffic s bytes r some = record {
  done = λ e. absurd (let bad : put.Failed ≡ put.Done = e in cc);
  failed = λ _. writes_nothing None bytes;
  call = record { written = []; writes = (bytes, refl); wrote = says_none traffic s };
  cause = again_refused s.refusal r some;
  still = λ apart. absurd (apart refl);
}
