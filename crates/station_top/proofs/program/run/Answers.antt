use Rattle.std.proofs.Common.{refl, subst}
use Rattle.std.specs.declared.option.Option.{Option}
use Rattle.command_words.specs.Command.{CommandLine, command_of_words, texts}
use Rattle.run_output.specs.Outside.{means}
use Rattle.station_top.specs.Run.{performs_words}
use Rattle.station_top.proofs.Runs as runs
use Rattle.station_top.proofs.program.run.Goals as goal

pub returns : goal.returns
returns g c =
    let m = means g.F.Files.shelf g.K.Sink.outlet g.L.Link.traffic g.D.Disk.medium in
    let words = command_of_words (texts c.args.words.now) in
    let old = c.args.outside.now in
    let e = c.perform-ended in
    let new = record e.new.outside { out = c.finish.new.out } in
    let result = c.number.result in
    let ran : runs.Ran m words old new result = record {
      mid = e.new.outside;
      ended = e.result;
      status = c.finish.result;
      is = c.number.ensures;
      did = subst (λ (w : Option CommandLine). performs_words m w old e.result e.new.outside) c.read.ensures.command e.ensures;
      alone = refl;
      finishes = c.finish.ensures.ends;
      cause = c.finish.ensures.cause;
      sink = c.finish.ensures.still;
    } in
    let causes = runs.causes m words old new result ran in
    record {
      usage = runs.if_outside words _ (runs.outside_words m words old new result ran);
      command = runs.if_spelled words _ (runs.done m words old new result ran);
      read_fault = causes.files.cause;
      write_fault = causes.sink.cause;
      link_fault = causes.link;
      disk_fault = causes.disks.rose;
      disk_never_falls = causes.disks.disk_never_falls;
      second_never_falls = causes.disks.second_never_falls;
      files_still = causes.files.still;
      sink_still = λ write. causes.sink.still write write;
      disk_well = causes.disks.disk_well;
      second_well = causes.disks.second_well;
      promised = runs.if_spelled words _ (runs.keeps m words old new result ran);
    }
