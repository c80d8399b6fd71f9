use Rattle.std.proofs.Common.{◌≡◌, Err, sym, subst, arith}
use Rattle.run_output.specs.Output.{Output, led_by, link_fault, no_memory}
use Rattle.commands.specs.Pause.{pauses}
use Rattle.commands.specs.StayRun.{stayed_line}
use Rattle.commands.proofs.Pauses.{listened_got, listened_quiet, pause_failed, pause_short}
use Rattle.commands.proofs.pausing.pause.Goals as goal

pub pause-preserved-in-Quiet : goal.pause-preserved-in-Quiet
pause-preserved-in-Quiet g c = record {
  listened = listened_quiet g.L.Link.traffic c.pause.quiets c.pause.hearings c.args.link.now c.pause.link c.recv.new.self c.recv.new.buf
      c.pause.invariant.listened c.in-Quiet.ensures;
  few = omega (arith, c.pause-test.true);
  seldom = c.pause.invariant.seldom;
}

pub pause-preserved : goal.pause-preserved
pause-preserved g c = record {
  listened = listened_got g.L.Link.traffic c.pause.quiets c.pause.hearings c.in-Got.field-0 c.args.link.now c.pause.link c.recv.new.self c.recv.new.buf
      (omega (arith, c.recv.auto.buf)) c.pause.invariant.listened c.in-Got.ensures;
  few = c.pause.invariant.few;
  seldom = omega (arith, c.if-hearings-lt-MOST_HEARINGS.true);
}

pub returns-in-Failed : goal.returns-in-Failed
returns-in-Failed g c =
    let lines = stayed_line c.args.made in
    let is : c.ended_after.result ≡ led_by lines link_fault = c.ended_after.ensures in
    subst (λ (o : Output). pauses g.L.Link.traffic c.args.waits lines c.args.link.now (Err o) c.recv.new.self) (sym is)
    (pause_failed g.L.Link.traffic c.pause.quiets c.pause.hearings c.args.waits lines c.args.link.now c.pause.link c.recv.new.self c.recv.new.buf
    c.pause.invariant.few c.pause.invariant.seldom c.pause.invariant.listened c.in-Failed.ensures)

pub returns-in-OutOfMemory : goal.returns-in-OutOfMemory
returns-in-OutOfMemory g c =
    let lines = stayed_line c.args.made in
    let is : c.ended_after-in-OutOfMemory.result ≡ led_by lines no_memory = c.ended_after-in-OutOfMemory.ensures in
    subst (λ (o : Output). pauses g.L.Link.traffic c.args.waits lines c.args.link.now (Err o) c.recv.new.self) (sym is)
    (pause_short g.L.Link.traffic c.pause.quiets c.pause.hearings c.args.waits lines c.args.link.now c.pause.link c.recv.new.self c.recv.new.buf
    c.pause.invariant.few c.pause.invariant.seldom c.pause.invariant.listened c.in-OutOfMemory.ensures)
