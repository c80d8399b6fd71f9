use Rattle.std.proofs.Common.{◌≡◌, ◌≤◌, ◌-◌, ◌∙◌, length, take, arith, rules, refl, ap}
use Rattle.std.specs.Prelude.{Ok}
use Rattle.crc_ccitt.specs.Check.{sealed}
use Rattle.loop_packet.specs.Reading.{TellsPacket}
use Rattle.loop_packet.proofs.Inverse.{tells_one, written_again}
use Rattle.loop_packet.proofs.reading.read.Goals as goal

pub returns-clause-only : goal.returns-clause-only
returns-clause-only c packet asked =
    let told : TellsPacket c.args.bytes.now (Ok c.fields.result) = search rules in
    tells_one c.args.bytes.now (Ok c.fields.result) packet told asked

pub returns-clause-again : goal.returns-clause-again
returns-clause-again c =
    let told : TellsPacket c.args.bytes.now (Ok c.fields.result) = search rules in
    let long : length c.args.bytes.now ≡ 99 = search rules in
    let two : 2 ≤ length c.args.bytes.now = omega arith in
    let body : length c.args.bytes.now - 2 ≡ 97 = omega arith in
    let whole : c.args.bytes.now ≡ sealed (take 97 c.args.bytes.now) =
    c.if-not-is_good.ensures.sealed refl two ∙ ap (λ n. sealed (take n c.args.bytes.now)) body in
    written_again c.fields.result c.args.bytes.now long c.fits-bytes told.0 told.1 told.2 whole told.4
