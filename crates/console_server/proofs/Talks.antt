-- Talks after one another, and what a console makes of them.
use Rattle.std.proofs.Common.{◌≡◌, ℕ, ◌+◌, List, [], ◌∷◌, ◌++◌, length, map, refl, sym, ap, subst, ◌∙◌, arith, append_assoc}
use Rattle.causes.specs.Lists.{IsFrontOf}
use Rattle.console_model.specs.Console.{Console}
use Rattle.console_model.specs.Hear.{hear}
use Rattle.console_model.specs.Tick.{tick}
use Rattle.serial_link.specs.Talk.{message, count_quiets}
use Rattle.serial_link.specs.declared.talk.TalkItem.{TalkItem}
use Rattle.serial_link.specs.declared.talk.TalkItem.TheVariants.{Said, Heard, Quiet}
use Rattle.wake_retry.specs.Bounds.{said}
use Rattle.wake_retry.specs.Parts.{heard}
use Rattle.console_server.specs.Replies.{said_items, console_after, replies}
use Rattle.console_server.specs.Serving.{OnlySays}

pub said_items-append : (s t : List TalkItem) → said_items (s ++ t) ≡ said_items s ++ said_items t
said_items-append [] t = refl
said_items-append (Said b ends ∷ s) t = ap (λ (x : List TalkItem). Said b ends ∷ x) (said_items-append s t)
said_items-append (Heard b ∷ s) t = said_items-append s t
said_items-append (Quiet ∷ s) t = said_items-append s t

pub said_both : (s t : List TalkItem) → length (said (s ++ t)) ≡ length (said s) + length (said t)
said_both [] t = omega arith
said_both (Said b ends ∷ s) t = omega (arith, said_both s t)
said_both (Heard b ∷ s) t = said_both s t
said_both (Quiet ∷ s) t = said_both s t

-- the console after two talks is that after the second, from that after the first
pub after_both : (k : Console) (s t : List TalkItem) → console_after k (s ++ t) ≡ console_after (console_after k s) t
after_both k [] t = refl
after_both k (Said b ends ∷ s) t = after_both k s t
after_both k (Heard b ∷ s) t = after_both (hear k b).next s t
after_both k (Quiet ∷ s) t = after_both (tick k).next s t

-- its replies to the second come behind those to the first
pub replies_both : (k : Console) (s t : List TalkItem) → replies k (s ++ t) ≡ replies k s ++ replies (console_after k s) t
replies_both k [] t = refl
replies_both k (Said b ends ∷ s) t = replies_both k s t
replies_both k (Heard b ∷ s) t =
    ap (λ (x : List TalkItem). message (hear k b).bytes ++ x) (replies_both (hear k b).next s t)
    ∙ sym (append_assoc (message (hear k b).bytes) (replies (hear k b).next s) (replies (console_after (hear k b).next s) t))
replies_both k (Quiet ∷ s) t =
    ap (λ (x : List TalkItem). message (tick k).bytes ++ x) (replies_both (tick k).next s t)
    ∙ sym (append_assoc (message (tick k).bytes) (replies (tick k).next s) (replies (console_after (tick k).next s) t))

-- What is only said: all of it is said, nothing comes, and a console is not moved by it.
pub record IsMute (t : List TalkItem) : Type 0 where
  pub items : said_items t ≡ t
  pub heard : length (heard t) ≡ 0
  pub waits : count_quiets t ≡ 0
  pub replies : (k : Console) → replies k t ≡ []
  pub stays : (k : Console) → console_after k t ≡ k

pub only_said : (t : List TalkItem) → OnlySays t → IsMute t
only_said [] only = record { items = refl; heard = refl; waits = refl; replies = λ k. refl; stays = λ k. refl }
only_said (Said b ends ∷ t) only =
    let rest = only_said t only in
    record {
      items = ap (λ (x : List TalkItem). Said b ends ∷ x) rest.items;
      heard = rest.heard;
      waits = rest.waits;
      replies = rest.replies;
      stays = rest.stays;
    }
only_said (Heard b ∷ t) only = absurd only
only_said (Quiet ∷ t) only = absurd only

pub only_both : (s t : List TalkItem) → OnlySays s → OnlySays t → OnlySays (s ++ t)
only_both [] t one two = two
only_both (Said b ends ∷ s) t one two = only_both s t one two
only_both (Heard b ∷ s) t one two = absurd one
only_both (Quiet ∷ s) t one two = absurd one

only_front : (s t : List TalkItem) → OnlySays (s ++ t) → OnlySays s
only_front [] t only = tt
only_front (Said b ends ∷ s) t only = only_front s t only
only_front (Heard b ∷ s) t only = absurd only
only_front (Quiet ∷ s) t only = absurd only

pub only_message : (bytes : List ℕ) → OnlySays (message bytes)
only_message [] = tt
only_message (b ∷ []) = tt
only_message (b ∷ c ∷ bytes) = only_message (c ∷ bytes)

-- a front of a message is only said
pub only_begun : (bytes : List ℕ) (t : List TalkItem) → IsFrontOf t (message bytes) → OnlySays t
only_begun bytes t front = only_front t front.0 (subst OnlySays (sym front.1) (only_message bytes))

pub message_said : (bytes : List ℕ) → length (said (message bytes)) ≡ length bytes
message_said [] = refl
message_said (b ∷ []) = refl
message_said (b ∷ c ∷ bytes) = omega (arith, message_said (c ∷ bytes))

-- of bytes that are heard nothing is said
pub heard_items : (bytes : List ℕ) → said_items (map Heard bytes) ≡ []
heard_items [] = refl
heard_items (b ∷ bytes) = heard_items bytes

pub heard_bytes : (bytes : List ℕ) → heard (map Heard bytes) ≡ bytes
heard_bytes [] = refl
heard_bytes (b ∷ bytes) = ap (λ (x : List ℕ). b ∷ x) (heard_bytes bytes)

pub heard_said : (bytes : List ℕ) → length (said (map Heard bytes)) ≡ 0
heard_said [] = refl
heard_said (b ∷ bytes) = heard_said bytes

-- a front of the second behind the first is a front of both
pub front_behind : (s t u : List TalkItem) → IsFrontOf t u → IsFrontOf (s ++ t) (s ++ u)
front_behind s t u front = (front.0, append_assoc s t front.0 ∙ ap (λ (x : List TalkItem). s ++ x) front.1)

-- a front of the first is a front of both
pub front_before : (s t u : List TalkItem) → IsFrontOf s t → IsFrontOf s (t ++ u)
front_before s t u front = (front.0 ++ u, sym (append_assoc s front.0 u) ∙ ap (λ (x : List TalkItem). x ++ u) front.1)

pub whole_front : (s t : List TalkItem) → IsFrontOf s (s ++ t)
whole_front s t = (t, refl)
