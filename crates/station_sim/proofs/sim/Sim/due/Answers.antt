use Rattle.std.proofs.Common.{rules}
use Rattle.archive_record.specs.Record.{IsRecord, ReadsAsRow}
use Rattle.station_sim.proofs.SoundBetweenMessages.{due_sound}
use Rattle.station_sim.proofs.sim.Sim.due.Goals as goal

pub returns-clause-stands : goal.returns-clause-stands
returns-clause-stands c w stands =
    let size : IsRecord c.args.rec = search rules in
    let row : ReadsAsRow c.args.rec = search rules in
    let has = stands.shows.has in
    record {
      shows = record {
        has = record {
          begun = has.begun;
          parts = has.parts;
          messages = has.messages;
          replies = has.replies;
          dumps = has.dumps;
          harmed = has.harmed;
          unseen = has.unseen;
        };
        console = c.due.ensures.stands w.console stands.shows.console;
      };
      sound = due_sound c.args.rec w size row stands.sound;
    }
