-- What is heard in a pause, receive by receive.
use Rattle.std.proofs.Common.{◌≡◌, ℕ, zero, suc, ◌+◌, ◌*◌, ◌<◌, ◌≤◌, ◌⊎◌, false, true, List, [], ◌∷◌, ◌++◌, Ok, Err, inl, inr, length, map, take, refl, sym, ap, subst, ◌∙◌, arith}
use Rattle.std.proofs.lemmas.List.{length-append, length-take}
use Rattle.std.specs.declared.result.Result.{Result}
use Rattle.serial_link.specs.Link.{Hears, TalkOf}
use Rattle.serial_link.specs.Talk.{count_quiets}
use Rattle.serial_link.specs.Traffic.{Traffic}
use Rattle.serial_link.specs.declared.link.Recv.TheVariants as recv
use Rattle.serial_link.specs.declared.talk.TalkItem.{TalkItem}
use Rattle.serial_link.specs.declared.talk.TalkItem.TheVariants.{Heard, Quiet}
use Rattle.serial_link.proofs.GrownTalk.{adds_joins, adds_none, adds_stay, count_quiets-append, heard_waits}
use Rattle.wake_retry.specs.Bounds.{said}
use Rattle.wake_retry.specs.Parts.{heard}
use Rattle.wake_retry.proofs.Endings.{heard-append}
use Rattle.query_service.specs.Talk.{said_joins}
use Rattle.run_output.specs.Output.{Output, led_by, link_fault, no_memory}
use Rattle.commands.specs.Pause.{IsPause, heard_at_once, most_hearings, pauses, pauses_between}

heard_said : (bytes : List ℕ) → said (map Heard bytes) ≡ []
heard_said [] = refl
heard_said (b ∷ bytes) = heard_said bytes

heard_bytes : (bytes : List ℕ) → heard (map Heard bytes) ≡ bytes
heard_bytes [] = refl
heard_bytes (b ∷ bytes) = ap (λ (l : List ℕ). b ∷ l) (heard_bytes bytes)

not_true : false ≡ true → ⊥
not_true is = cc

-- So many quiet waits passed, and so often something was heard.
pub record HeardSoOften (quiets hearings : ℕ) (t : List TalkItem) : Type 0 where
  pub silent : said t ≡ []
  pub quiets_are : count_quiets t ≡ quiets
  pub most : length (heard t) ≤ heard_at_once * hearings
  pub least : hearings ≤ length (heard t)

-- So far no receive failed.
pub record Listened {L : Type 0} (traffic : Traffic L) (quiets hearings : ℕ) (old new : L) : Type 0 where
  pub talk : TalkOf traffic old (HeardSoOften quiets hearings) new
  pub faults : traffic.faults new ≡ traffic.faults old
  pub shortages : traffic.shortages new ≡ traffic.shortages old

joins : (q r h k : ℕ) (s t : List TalkItem) → HeardSoOften q h s → HeardSoOften r k t → HeardSoOften (q + r) (h + k) (s ++ t)
joins q r h k s t one two =
    let long : length (heard (s ++ t)) ≡ length (heard s) + length (heard t) = ap length (heard-append s t) ∙ length-append (heard s) (heard t) in
    record {
      silent = said_joins s t ∙ (ap (λ (l : List ℕ). l ++ said t) one.silent ∙ two.silent);
      quiets_are = omega (arith, count_quiets-append s t, one.quiets_are, two.quiets_are);
      most = omega (arith, long, one.most, two.most);
      least = omega (arith, long, one.least, two.least);
    }

-- a pause is over as its waits have passed, or as it was heard most often
is_pause : (q h waits : ℕ) (whole : Type 0) (t : List TalkItem) → q ≤ waits → h ≤ most_hearings → (whole → (q ≡ waits) ⊎ (h ≡ most_hearings))
    → HeardSoOften q h t → IsPause waits whole t
is_pause q h waits whole t few seldom over so = record {
  silent = so.silent;
  quiets = omega (arith, so.quiets_are, few);
  hears = omega (arith, so.most, seldom);
  over = λ w. elim (over w) [
    | inl all ↦ inl (so.quiets_are ∙ all)
    | inr most ↦ inr (omega (arith, so.least, most))
  ];
}

module _ {L : Type 0} (traffic : Traffic L) where
  pub listened_none : (link : L) → Listened traffic 0 0 link link
  listened_none link = record {
    talk = record { items = []; are = record { silent = refl; quiets_are = refl; most = omega arith; least = omega arith }; adds = adds_none traffic link };
    faults = refl;
    shortages = refl;
  }

  -- a quiet wait
  pub listened_quiet : (q h : ℕ) (a b c : L) (buf : List ℕ) → Listened traffic q h a b → Hears traffic b recv.Quiet buf c → Listened traffic (q + 1) h a c
  listened_quiet q h a b c buf so did =
      let quiet : HeardSoOften 1 0 (Quiet ∷ []) = record { silent = refl; quiets_are = refl; most = omega arith; least = omega arith } in
      let both = joins q 1 h 0 so.talk.items (Quiet ∷ []) so.talk.are quiet in
      record {
        talk = record {
          items = so.talk.items ++ Quiet ∷ [];
          are = subst (λ (n : ℕ). HeardSoOften (q + 1) n (so.talk.items ++ Quiet ∷ [])) (let same : h + 0 ≡ h = omega arith in same) both;
          adds = adds_joins so.talk.adds did.talk;
        };
        faults = did.still.faults (λ is. cc) ∙ so.faults;
        shortages = did.still.shortages (λ is. cc) ∙ so.shortages;
      }

  -- some bytes
  pub listened_got : (q h n : ℕ) (a b c : L) (buf : List ℕ) → length buf ≡ heard_at_once → Listened traffic q h a b → Hears traffic b (recv.Got n) buf c
      → Listened traffic q (h + 1) a c
  listened_got q h n a b c buf size so did =
      let long : length (heard (map Heard (take n buf))) ≡ n = ap length (heard_bytes (take n buf)) ∙ omega (arith, length-take n buf, did.within.1) in
      let got : HeardSoOften 0 1 (map Heard (take n buf)) = record {
        silent = heard_said (take n buf);
        quiets_are = heard_waits (take n buf);
        most = omega (arith, long, did.within.1, size);
        least = omega (arith, long, did.within.0);
      } in
      let both = joins q 0 h 1 so.talk.items (map Heard (take n buf)) so.talk.are got in
      record {
        talk = record {
          items = so.talk.items ++ map Heard (take n buf);
          are = subst (λ (r : ℕ). HeardSoOften r (h + 1) (so.talk.items ++ map Heard (take n buf))) (let same : q + 0 ≡ q = omega arith in same) both;
          adds = adds_joins so.talk.adds did.talk;
        };
        faults = did.still.faults (λ is. cc) ∙ so.faults;
        shortages = did.still.shortages (λ is. cc) ∙ so.shortages;
      }

  -- the pause is over
  pub paused : (q h waits : ℕ) (lines : List ℕ) (a b : L) → q ≤ waits → h ≤ most_hearings → (q ≡ waits) ⊎ (h ≡ most_hearings) → Listened traffic q h a b
      → pauses traffic waits lines a (Ok tt) b
  paused q h waits lines a b few seldom over so = record {
    talks = record {
      talk = record {
        items = so.talk.items;
        are = is_pause q h waits _ so.talk.items few seldom (λ _. over) so.talk.are;
        adds = so.talk.adds;
      };
      fault = record { never_falls = omega (arith, so.faults); rose = λ no. absurd no };
      shortage = record { never_falls = omega (arith, so.shortages); rose = λ no. absurd no };
    };
    still = record { faults = λ _. so.faults; quiets = λ no. absurd (no tt); shortages = λ _. so.shortages };
    ends_by = tt;
  }

  -- the line failed meanwhile
  pub pause_failed : (q h waits : ℕ) (lines : List ℕ) (a b c : L) (buf : List ℕ) → q ≤ waits → h ≤ most_hearings → Listened traffic q h a b
      → Hears traffic b recv.Failed buf c → pauses traffic waits lines a (Err (led_by lines link_fault)) c
  pause_failed q h waits lines a b c buf few seldom so did =
      let cause = rw so.faults at did.fault in
      record {
        talks = record {
          talk = record {
            items = so.talk.items;
            are = is_pause q h waits _ so.talk.items few seldom (λ no. absurd (not_true no)) so.talk.are;
            adds = adds_stay so.talk.adds did.talk;
          };
          fault = record { never_falls = cause.never_falls; rose = λ _. cause.rose refl };
          shortage = record { never_falls = omega (arith, did.shortage.never_falls, so.shortages); rose = λ no. absurd cc };
        };
        still = record { faults = λ no. absurd (no refl); quiets = λ no. absurd (no tt); shortages = λ _. did.still.shortages (λ is. cc) ∙ so.shortages };
        ends_by = inl refl;
      }

  -- there was no memory for what came
  pub pause_short : (q h waits : ℕ) (lines : List ℕ) (a b c : L) (buf : List ℕ) → q ≤ waits → h ≤ most_hearings → Listened traffic q h a b
      → Hears traffic b recv.OutOfMemory buf c → pauses traffic waits lines a (Err (led_by lines no_memory)) c
  pause_short q h waits lines a b c buf few seldom so did =
      let cause = rw so.shortages at did.shortage in
      record {
        talks = record {
          talk = record {
            items = so.talk.items;
            are = is_pause q h waits _ so.talk.items few seldom (λ no. absurd (not_true no)) so.talk.are;
            adds = adds_stay so.talk.adds did.talk;
          };
          fault = record { never_falls = omega (arith, did.fault.never_falls, so.faults); rose = λ no. absurd cc };
          shortage = record { never_falls = cause.never_falls; rose = λ _. cause.rose refl };
        };
        still = record { faults = λ _. did.still.faults (λ is. cc) ∙ so.faults; quiets = λ no. absurd (no tt); shortages = λ no. absurd (no refl) };
        ends_by = inr refl;
      }

  -- no pause behind the last round
  pub pause_left_out : (waits left : ℕ) (lines : List ℕ) (link : L) → left ≡ 0 → pauses_between traffic waits left lines link (Ok tt) link
  pause_left_out waits left lines link none = subst (λ (n : ℕ). pauses_between traffic waits n lines link (Ok tt) link) (sym none) (refl, refl)

  -- and one behind each other
  pub pause_made : (waits left : ℕ) (lines : List ℕ) (old new : L) (result : Result (Unit {0}) Output) → 0 < left → pauses traffic waits lines old result new
      → pauses_between traffic waits left lines old result new
  pause_made waits zero lines old new result some did = absurd (omega (arith, some))
  pause_made waits (suc left) lines old new result some did = did
