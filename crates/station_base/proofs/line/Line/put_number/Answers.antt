use Rattle.std.proofs.Common.{◌≡◌, ◌∙◌, ◌+◌, ◌++◌, ℕ, ap, arith, length, take}
use Rattle.std.specs.Fmt.{decimal}
use Rattle.station_base.specs.NumberText.{number_text}
use Rattle.station_base.proofs.Lines.{put_digits}
use Rattle.station_base.proofs.line.Line.put_number.Goals as goal

pub write_digits-requires : goal.write_digits-requires
unfolding number_text
write_digits-requires c =
    let same : length (decimal c.from.result) ≡ length (decimal c.args.number) = ap (λ (n : ℕ). length (decimal n)) c.from.ensures in
    let counted : c.digit_count.result ≡ length (decimal c.args.number) = c.digit_count.ensures in
    (omega arith, omega arith)

pub returns-clause-text : goal.returns-clause-text
unfolding number_text
returns-clause-text c =
    let same : length (decimal c.from.result) ≡ length (decimal c.args.number) = ap (λ (n : ℕ). length (decimal n)) c.from.ensures in
    let counted : c.digit_count.result ≡ length (decimal c.args.number) = c.digit_count.ensures in
    let start : c.write_digits.result ≡ c.args.self.now.end = omega (arith, c.write_digits.ensures.start) in
    put_digits c.write_digits.result (c.args.self.now.end + c.digit_count.result) c.args.self.now.bytes c.write_digits.new.buf (decimal c.from.result) c.write_digits.ensures.start (omega arith) c.write_digits.ensures.written c.write_digits.ensures.before
    ∙ ap (λ (n : ℕ). take n c.args.self.now.bytes ++ decimal c.from.result) start
    ∙ ap (λ (n : ℕ). take c.args.self.now.end c.args.self.now.bytes ++ decimal n) c.from.ensures
