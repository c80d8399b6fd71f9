use Rattle.std.proofs.Common.{length, refl, arith}
use Rattle.station_outside.proofs.UntoldTalk.{adds_received, heard_within}
use Rattle.station_outside.proofs.tcp_link.TcpLinkLink.recv.Goals as goal

pub returns : goal.returns
returns g c = record {
  within = heard_within c.answer.result c.hear-heard.result (length c.hear-heard.new.buf) c.answer.ensures.got c.hear-heard.ensures;
  talk = adds_received (λ link. link.faults) (λ link. link.quiets) c.args.self.now c.answer.new.self c.answer.result c.hear-heard.new.buf
      c.answer.ensures.quiets.rose c.answer.ensures.unless_quiet;
  fault = c.answer.ensures.fault;
  quiet = c.answer.ensures.quiets;
  shortage = record { never_falls = omega arith; rose = λ short. absurd (c.answer.ensures.no_shortage short) };
  still = record {
    faults = c.answer.ensures.unless_failed;
    quiets = c.answer.ensures.unless_quiet;
    shortages = λ loud. refl;
  };
}
