use Rattle.std.proofs.Common.{◌≡◌, ◌-◌, ℕ, List, drop, ◌∙◌, ap, subst}
use Rattle.crc_ccitt.specs.Check.{check}
use Rattle.vantage_frames.specs.HeaderReading.{HasNumbers}
use Rattle.dmpaft_pump.proofs.header.read_answer.Goals as goal

pub returns-in-Good : goal.returns-in-Good
returns-in-Good c =
    let split = rw c.unwrap.ensures at c.split_last_chunk.ensures.cases in
    let e : c.unwrap.result.1.now ≡ drop 1 c.args.bytes.now = split.1 ∙ ap (λ n. drop (n - 6) c.args.bytes.now) c.told-bytes in
    record {
      whole = c.told-bytes;
      acked = c.if-first-ne-ACK.false;
      numbers = subst (λ (x : List ℕ). HasNumbers x c.in-Good.pages c.in-Good.place) e c.in-Good.ensures.0;
      possible = c.in-Good.ensures.1;
    }

pub returns-in-BadCheck : goal.returns-in-BadCheck
returns-in-BadCheck c =
    let split = rw c.unwrap.ensures at c.split_last_chunk.ensures.cases in
    let e : c.unwrap.result.1.now ≡ drop 1 c.args.bytes.now = split.1 ∙ ap (λ n. drop (n - 6) c.args.bytes.now) c.told-bytes in
    (c.told-bytes, c.if-first-ne-ACK.false, λ z. c.in-BadCheck.ensures (ap check e ∙ z))

pub returns-in-BadNumbers : goal.returns-in-BadNumbers
returns-in-BadNumbers c =
    let split = rw c.unwrap.ensures at c.split_last_chunk.ensures.cases in
    let e : c.unwrap.result.1.now ≡ drop 1 c.args.bytes.now = split.1 ∙ ap (λ n. drop (n - 6) c.args.bytes.now) c.told-bytes in
    (c.told-bytes, c.if-first-ne-ACK.false, subst (λ (x : List ℕ). HasNumbers x c.in-BadNumbers.pages c.in-BadNumbers.place) e c.in-BadNumbers.ensures.0, c.in-BadNumbers.ensures.1)
