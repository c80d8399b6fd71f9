-- What a sink tells whose pieces are said over a link.
use Rattle.std.specs.Prelude.{ℕ, ◌≡◌, List, [], ◌++◌, None}
use Rattle.std.proofs.Common.{refl, ap, ◌∙◌}
use Rattle.station_io.specs.Sink.{Outlet}
use Rattle.serial_link.specs.declared.talk.TalkItem.{TalkItem}
use Rattle.serial_link.specs.Traffic.{Traffic}
use Rattle.serial_link.specs.Talk.{Adds}
use Rattle.serial_link.proofs.GrownTalk.{adds_none, adds_joins}
use Rattle.wake_retry.specs.Bounds.{said}
use Rattle.query_service.specs.declared.link_sink.LinkSink.{LinkSink}
use Rattle.query_service.specs.Talk.{TalkOnlySays, only_none, only_joins, said_joins}
use Rattle.query_service.specs.Refused.{Refuses, refused, refuses_none, refuses_joins}

-- The same link is spoken over, and just these bytes are said.
pub record SaysOver {L : Type 0} (traffic : Traffic L) (old : LinkSink L) (bytes : List ℕ)
    (new : LinkSink L) : Type 0 where
  pub same : new.link.ghost_name ≡ old.link.ghost_name
  pub talk : List TalkItem
  pub said_is : said talk ≡ bytes
  pub only : TalkOnlySays talk
  pub adds : Adds traffic old.link.now talk new.link.now
  pub refuses : Refuses old.refusal new.refusal (traffic.faults old.link.now) (traffic.faults new.link.now)
      (traffic.shortages old.link.now) (traffic.shortages new.link.now)

pub says_none : {L : Type 0} (traffic : Traffic L) (s : LinkSink L) → SaysOver traffic s [] s
says_none traffic s = record {
  same = refl;
  talk = [];
  said_is = refl;
  only = only_none;
  adds = adds_none traffic s.link.now;
  refuses = refuses_none s.refusal (traffic.faults s.link.now) (traffic.shortages s.link.now);
}

pub says_joins : {L : Type 0} (traffic : Traffic L) (s t u : LinkSink L) (xs ys : List ℕ) → SaysOver traffic s xs t
    → SaysOver traffic t ys u → SaysOver traffic s (xs ++ ys) u
says_joins traffic s t u xs ys one two = record {
  same = two.same ∙ one.same;
  talk = one.talk ++ two.talk;
  said_is = said_joins one.talk two.talk ∙ (ap (λ (x : List ℕ). x ++ said two.talk) one.said_is
      ∙ ap (λ (y : List ℕ). xs ++ y) two.said_is);
  only = only_joins one.talk two.talk one.only two.only;
  adds = adds_joins one.adds two.adds;
  refuses = refuses_joins s.refusal t.refusal u.refusal (traffic.faults s.link.now) (traffic.faults t.link.now)
      (traffic.faults u.link.now) (traffic.shortages s.link.now) (traffic.shortages t.link.now)
      (traffic.shortages u.link.now) one.refuses two.refuses;
}

-- what it tells: a relation over calls, and a count that stands at its end once a piece was refused
abbrev pub saying_outlet : {L : Type 0} → Traffic L → Outlet (LinkSink L)
saying_outlet traffic = record {
  taken = λ _. None;
  faults = λ s. refused s.refusal;
  wrote = SaysOver traffic;
  wrote_none = says_none traffic;
  wrote_joins = says_joins traffic;
}
