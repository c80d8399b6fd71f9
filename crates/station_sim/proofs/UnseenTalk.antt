-- What is unseen in a talk, and what it names.
use Rattle.std.proofs.Common.{◌≡◌, ℕ, ◌+◌, ◌==◌, Bool, true, false, if◌then◌else◌, inl, inr, List, [], ◌∷◌, ◌++◌, Option, Some, None, sym, ap, subst, ◌∙◌}
use Rattle.std.proofs.lemmas.Option.{same_Some}
use Rattle.console_model.specs.Console.{Outcome}
use Rattle.console_model.specs.Tick.{tick}
use Rattle.serial_link.specs.declared.talk.TalkItem.{TalkItem}
use Rattle.serial_link.specs.declared.talk.TalkItem.TheVariants.{Said, Heard, Quiet}
use Rattle.station_sim.specs.declared.part.Part.{Part}
use Rattle.station_sim.specs.declared.part.Part.TheVariants.{Byte, Wait}
use Rattle.station_sim.specs.declared.unseen.Unseen.{Unseen}
use Rattle.schedule_file.specs.Fates.{FatesByNumber}
use Rattle.station_sim.specs.Delivery.{delivered}
use Rattle.station_sim.specs.Joining.{and_then_some}
use Rattle.station_sim.specs.Line.{Line, message_counted, flies, happens, hears, says_byte, sends_message}
use Rattle.station_sim.specs.Talk.{ConsoleTalk, console_talk, hearing, line_step, waiting}
use Rattle.station_sim.specs.UnseenTalk.{HasUnseen, IsAtItem, IsAtMessage, IsNextMessage, IsNextReply}
use Rattle.station_sim.proofs.UnseenCounts.{NamesReply, counted_names, first_is, first_stays, happens_names, here_or_later, hears_names, hears_none, hears_stays, none_named}

-- What an item of a talk makes of the first unseen delivery, so many of which are unseen in it.
record Tells (At : Unseen → Type 0) (before after : Option Unseen) : Type 0 where
  named : (which : Unseen) → before ≡ None → after ≡ Some which → At which
  none : after ≡ None → (before ≡ None) × ((which : Unseen) → ¬ (At which))
  stays : (which : Unseen) → before ≡ Some which → after ≡ Some which

tells_nothing : (before : Option Unseen) → Tells (λ which. ⊥) before before
tells_nothing before = record {
  named = λ which none is. let wrong : None ≡ Some which = sym none ∙ is in cc;
  none = λ none. (none, λ which h. h);
  stays = λ which is. is;
}

tells_reply : (f : FatesByNumber) (o : Outcome) (w : Line) (after : Option Unseen) → NamesReply f o w after → Tells (IsNextReply f o w) w.unseen after
tells_reply f o w after names = record {
  named = λ which none is. let so = first_is _ _ w.unseen after which names none is in record { named = so.1; unseen = so.0 };
  none = λ none. let not_so = none_named _ _ w.unseen after names none in (not_so.0, λ which h. not_so.1 h.unseen);
  stays = λ which is. first_stays _ _ w.unseen after which names is;
}

tells_message : (f : FatesByNumber) (message : List ℕ) (w : Line) → Tells (IsAtMessage f message w) w.unseen (sends_message f message w).unseen
tells_message f message w =
    let got = delivered (f.host (w.messages + 1)) message in
    let x = message_counted f message w in
    record {
      named = λ which none is.
          let here : x.unseen ≡ Some which → IsNextMessage f message w which = λ named.
          let so = first_is _ _ w.unseen x.unseen which (counted_names f message w) none named in
          record { named = so.1; unseen = so.0 } in
          here_or_later x.unseen (hears f got x).unseen which (λ y named. hears_stays f got x y named) here (λ later. hears_names f got x which later is) is;
      none = λ none.
          let later = hears_none f got x none in
          let here = none_named _ _ w.unseen x.unseen (counted_names f message w) later.0 in
          (here.0, λ which h. elim h [ inl at ↦ here.1 at.unseen | inr behind ↦ later.1 which behind ]);
      stays = λ which is. hears_stays f got x which (first_stays _ _ w.unseen x.unseen which (counted_names f message w) is);
    }

tells_hearing : (l : List Part) (b : ℕ) (w v : Line) → hearing l b w ≡ Some v → Tells (λ which. ⊥) w.unseen v.unseen
tells_hearing [] b w v is = absurd cc
tells_hearing (Wait ∷ l) b w v is = absurd cc
tells_hearing (Byte x ∷ l) b w v is = by (x == b) is
  where
    by : (t : Bool) → (if t then Some (flies w l) else None) ≡ Some v → Tells (λ which. ⊥) w.unseen v.unseen
    by true is = subst (λ (u : Line). Tells (λ which. ⊥) w.unseen u.unseen) (same_Some (flies w l) v is) (tells_nothing w.unseen)
    by false is = absurd cc

tells_waiting : (l : List Part) (f : FatesByNumber) (w v : Line) → waiting l f w ≡ Some v → Tells (IsNextReply f (tick w.console) w) w.unseen v.unseen
tells_waiting [] f w v is =
    subst (λ (u : Line). Tells (IsNextReply f (tick w.console) w) w.unseen u.unseen) (same_Some (happens f (tick w.console) w) v is)
    (tells_reply f (tick w.console) w _ (happens_names f (tick w.console) w))
tells_waiting (Wait ∷ l) f w v is =
    subst (λ (u : Line). Tells (IsNextReply f (tick w.console) w) w.unseen u.unseen) (same_Some (happens f (tick w.console) (flies w l)) v is)
    (tells_reply f (tick w.console) w _ (happens_names f (tick w.console) (flies w l)))
tells_waiting (Byte x ∷ l) f w v is = absurd cc

tells_item : (f : FatesByNumber) (i : TalkItem) (w v : Line) → line_step f i w ≡ Some v → Tells (IsAtItem f i w) w.unseen v.unseen
tells_item f (Said b false) w v is = subst (λ (u : Line). Tells (λ which. ⊥) w.unseen u.unseen) (same_Some (says_byte f b false w) v is) (tells_nothing w.unseen)
tells_item f (Said b true) w v is =
    subst (λ (u : Line). Tells (IsAtMessage f (w.begun ++ b ∷ []) w) w.unseen u.unseen) (same_Some (sends_message f (w.begun ++ b ∷ []) w) v is)
    (tells_message f (w.begun ++ b ∷ []) w)
tells_item f (Heard b) w v is = tells_hearing w.flight b w v is
tells_item f Quiet w v is = tells_waiting w.flight f w v is

-- what was named stays named in a talk
pub talk_stays : (f : FatesByNumber) (t : List TalkItem) (w v : Line) (which : Unseen) → ConsoleTalk f t w v → w.unseen ≡ Some which → v.unseen ≡ Some which
talk_stays f [] w v which talk is = ap (λ (u : Line). u.unseen) (sym (same_Some w v talk)) ∙ is
talk_stays f (i ∷ t) w v which talk is =
    let g = and_then_some (line_step f i w) (console_talk f t) v talk in
    talk_stays f t g.0 v which g.2 ((tells_item f i w g.0 g.1).stays which is)

-- a talk names what is unseen in it
pub talk_names : (f : FatesByNumber) (t : List TalkItem) (w v : Line) (which : Unseen) → w.unseen ≡ None → ConsoleTalk f t w v → v.unseen ≡ Some which → HasUnseen f t w which
talk_names f [] w v which none talk is =
    let wrong : None ≡ Some which = sym none ∙ ap (λ (u : Line). u.unseen) (same_Some w v talk) ∙ is in
    absurd cc
talk_names f (i ∷ t) w v which none talk is =
    let g = and_then_some (line_step f i w) (console_talk f t) v talk in
    here_or_later g.0.unseen v.unseen which (λ y named. talk_stays f t g.0 v y g.2 named)
    (λ named. (tells_item f i w g.0 g.1).named which none named)
    (λ later. (g.0, g.1, talk_names f t g.0 v which later g.2 is)) is

unseen_before : (f : FatesByNumber) (t : List TalkItem) (w v : Line) → ConsoleTalk f t w v → v.unseen ≡ None → w.unseen ≡ None
unseen_before f [] w v talk none = ap (λ (u : Line). u.unseen) (same_Some w v talk) ∙ none
unseen_before f (i ∷ t) w v talk none =
    let g = and_then_some (line_step f i w) (console_talk f t) v talk in
    ((tells_item f i w g.0 g.1).none (unseen_before f t g.0 v g.2 none)).0

-- a talk that names none has none
pub talk_none : (f : FatesByNumber) (t : List TalkItem) (w v : Line) → ConsoleTalk f t w v → v.unseen ≡ None → (which : Unseen) → ¬ (HasUnseen f t w which)
talk_none f [] w v talk none which h = h
talk_none f (i ∷ t) w v talk none which h =
    let g = and_then_some (line_step f i w) (console_talk f t) v talk in
    elim h [
      | inl at ↦ ((tells_item f i w g.0 g.1).none (unseen_before f t g.0 v g.2 none)).1 which at
      | inr later ↦ (let same : g.0 ≡ later.0 = same_Some g.0 later.0 (sym g.1 ∙ later.1) in
          talk_none f t g.0 v g.2 none which (subst (λ (u : Line). HasUnseen f t u which) (sym same) later.2))
    ]
