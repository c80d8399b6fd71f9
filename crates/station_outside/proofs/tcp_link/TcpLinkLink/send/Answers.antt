use Rattle.std.proofs.Common.{refl, rules}
use Rattle.serial_link.specs.Talk.{message}
use Rattle.station_outside.proofs.UntoldTalk.{adds_said}
use Rattle.station_outside.proofs.tcp_link.TcpLinkLink.send.Goals as goal

pub returns-in-Ok : goal.returns-in-Ok
returns-in-Ok g c = record {
  talk = record {
    items = message c.args.bytes.now;
    are = refl;
    adds = adds_said (λ link. link.faults) (λ link. link.quiets) c.args.self.now _ c.args.bytes.now refl;
  };
  fault = search rules;
  shortage = search rules;
  still = search rules;
}
