use Rattle.std.proofs.Common.{refl, sym, ap, ◌∙◌, Some}
use Rattle.disk_model.specs.Stopping.{restart_image, stopping_medium}
use Rattle.round_play.proofs.resting.rest.Goals as goal

pub returns-then-stopped-clause-stopped : goal.returns-then-stopped-clause-stopped
returns-then-stopped-clause-stopped c stop = record {
  image = restart_image c.args.disk.now;
  seen = c.restart.ensures.reads;
  restart = record { size = c.restart.ensures.length; told = (_, refl); byte = c.restart.ensures.byte };
  left = c.restart.ensures.was_left;
  durable = λ x now. c.restart.ensures.reads ∙ ap Some (sym (c.restart.ensures.images.nothing_else (stopping_medium.moment c.restart.new.self) x now));
  moment = c.restart.ensures.moment;
  state = c.restart.ensures.state;
}
