use Rattle.std.proofs.Common.{ap}
use Rattle.station_sim.specs.declared.sim.Sim.{Sim}
use Rattle.round_play.proofs.RoundPlayed.{plays}
use Rattle.round_play.proofs.TurnPlayed.{rest_still}
use Rattle.round_play.proofs.playing.end_play.Goals as goal

pub returns-in_default : goal.returns-in_default
returns-in_default c = record {
  played = λ records openings settings s fates stop old session over may.
      plays fates stop old.session session old.link over.began.link c.args.line.now c.finish.new.self old.disk over.began.disk c.args.disk.now c.rest.new.disk c.args.end c.args.report c.harmed.result c.unseen.result (record {
        starts = over.begins.starts;
        fates_are = over.begins.fates_are;
        mids_are = over.begins.mids_are;
        said_before = over.begins.said;
        armed = over.begins.armed;
        stays = over.begins.stays;
        is_a_stop = over.begins.is_a_stop;
        serves = over.makes.serves;
        before = over.before;
        answers = over.makes.answers;
        leaves = over.makes.leaves;
        memory = c.in_default.not-OutOfMemory;
        went_on = c.rest.ensures.went_on;
        stopped = c.rest.ensures.stopped;
        harmed_is = c.harmed.ensures;
        unseen_is = c.unseen.ensures;
        finishes = c.finish.ensures.stands;
        said_after = ap (λ (s : Sim). s.talk.items) c.finish.ensures.others;
      }) records openings settings s may;
  fates = c.finish.ensures.fates;
  is_still = (ap (λ (s : Sim). s.talk.items) c.finish.ensures.others, rest_still c.args.disk.now c.rest.new.disk c.rest.ensures.went_on c.rest.ensures.stopped);
}
