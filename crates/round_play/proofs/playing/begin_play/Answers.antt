use Rattle.std.proofs.Common.{◌≡◌, [], true, false, refl, sym, ap, ◌∙◌, arith}
use Rattle.schedule_file.specs.Lists.{fates_of}
use Rattle.station_session.specs.Round.{round_host}
use Rattle.station_session.proofs.BegunRounds.{under_way}
use Rattle.station_sim.specs.declared.sim.Sim.{Sim}
use Rattle.round_play.proofs.RoundPlayed.{same_fates}
use Rattle.round_play.proofs.playing.begin_play.Goals as goal

pub returns-in-Ready : goal.returns-in-Ready
returns-in-Ready c =
    let b = c.in-Ready.ensures.begins in
    record {
      begins = record {
        began = round_host c.begin.new.self c.start.new.self c.arm.new.disk;
        begins = record {
          starts = c.start.ensures.stands;
          fates_are = ap (λ (s : Sim). fates_of s.fates) c.start.ensures.others ∙ same_fates c.in_ok-copy.field-0 c.args.fates.now c.in_ok-copy.ensures.host c.in_ok-copy.ensures.replies c.in_ok-copy.ensures.lates c.in_ok-copy.ensures.mids;
          mids_are = ap (λ (s : Sim). s.fates.mids.items) c.start.ensures.others ∙ c.in_ok-copy.ensures.mids;
          said = ap (λ (s : Sim). s.talk.items) c.start.ensures.others;
          armed = c.arm.ensures.state;
          stays = c.arm.ensures.stays;
          is_a_stop = c.requires.stop;
          same = b.same;
          settings = b.settings;
        };
        talk = [];
        kept = [];
        way = under_way c.in-Ready.round c.start.new.self c.arm.new.disk b;
      };
      may = record { fits = b.is_begun.0; room = omega (arith, c.requires.room, c.arm.ensures.stays.at) };
      left = b.is_begun.2;
      stop_is = refl;
      still = (ap (λ (s : Sim). s.talk.items) c.start.ensures.others, c.arm.ensures.stays.at);
    }

pub unreachable-requires : goal.unreachable-requires
unreachable-requires c = let b = c.in-Stale.ensures.begins in let e : true ≡ false = sym (b.stale.0 refl) ∙ c.requires.fresh in cc
