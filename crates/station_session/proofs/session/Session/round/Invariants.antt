use Rattle.std.proofs.Common.{ℕ, List}
use Rattle.disk_model.specs.Disk.{MayBegin}
use Rattle.serial_link.specs.declared.talk.TalkItem.{TalkItem}
use Rattle.station_session.specs.Fits.{RoundFits, changes_left}
use Rattle.station_session.specs.Round.{round_host}
use Rattle.station_session.specs.RoundAt.{round_turns_left}
use Rattle.station_session.specs.Turning.{round_desk}
use Rattle.station_session.specs.UnderWay.{UnderWay}
use Rattle.station_session.proofs.session.Session.round.Given as goal

abbrev pub invariant-turns : goal.invariant-turns
invariant-turns g l = record {
  fits : RoundFits l.self l.round l.report;
  room : MayBegin g.D.Disk.medium (changes_left l.report) l.disk;
  under_way : (talk : List TalkItem) × (kept : List (List (List ℕ)))
      × UnderWay g.L.Link.traffic g.D.Disk.medium (round_host l.initial.self l.initial.link l.initial.disk) talk kept (round_desk l.self l.link l.disk l.round l.report);
}

abbrev pub decreases-turns : goal.decreases-turns
decreases-turns g l = round_turns_left l.round
