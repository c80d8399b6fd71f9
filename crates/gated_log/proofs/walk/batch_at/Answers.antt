use Rattle.std.proofs.Common.{◌≡◌, ◌+◌, ◌-◌, ◌*◌, ℕ, length, drop, refl, sym, ◌∙◌, ap, arith, get_or}
use Rattle.gated_log.specs.Log.{breaks, batch_size}
use Rattle.gated_log.proofs.LogLooks.{gate_alone, gate_and_more}
use Rattle.gated_log.proofs.Walks.{gate_read, size_read, short_breaks}
use Rattle.gated_log.proofs.walk.batch_at.Goals as goal

pub returns-in-Failed-clause-went : goal.returns-in-Failed-clause-went
returns-in-Failed-clause-went g c = gate_alone g.D.Disk.medium (omega (arith, c.read.auto.buf)) c.requires c.in-Failed.ensures.went

pub returns-then-gate-eq0-clause-went : goal.returns-then-gate-eq0-clause-went
returns-then-gate-eq0-clause-went g c = gate_alone g.D.Disk.medium (omega (arith, c.read.auto.buf)) c.requires c.in-Done.ensures.went

pub returns-then-len-place-clause-went : goal.returns-then-len-place-clause-went
returns-then-len-place-clause-went g c = gate_alone g.D.Disk.medium (omega (arith, c.read.auto.buf)) c.requires c.in-Done.ensures.went

pub returns-then-len-place-clause-none : goal.returns-then-len-place-clause-none
returns-then-len-place-clause-none g c x told long =
    let p = c.args.place in let size = batch_size (drop p x) in
    let gate = gate_read x c.read.new.buf p (length c.read.new.buf) (c.in-Done.ensures.bytes x told) (omega (arith, c.read.auto.buf)) in (
      size,
      record {
        gate = omega (arith, gate, c.if-gate-eq0.false);
        size_is = refl;
        breaks_or_not = short_breaks size (length x - p) (omega (arith, c.if-len-place.true, long));
      },
    )

pub returns-in-Failed-read-clause-went : goal.returns-in-Failed-read-clause-went
returns-in-Failed-read-clause-went g c =
    gate_and_more g.D.Disk.medium (omega (arith, c.read.auto.buf)) c.requires c.in-Done.ensures.went
    (omega (arith, c.read-2.auto.buf, c.if-len-place.false)) c.in-Failed-read.ensures.went

pub returns-then-broken-clause-went : goal.returns-then-broken-clause-went
returns-then-broken-clause-went g c =
    gate_and_more g.D.Disk.medium (omega (arith, c.read.auto.buf)) c.requires c.in-Done.ensures.went
    (omega (arith, c.read-2.auto.buf, c.if-len-place.false)) c.in-Done-read.ensures.went

pub returns-clause-went : goal.returns-clause-went
returns-clause-went g c =
    gate_and_more g.D.Disk.medium (omega (arith, c.read.auto.buf)) c.requires c.in-Done.ensures.went
    (omega (arith, c.read-2.auto.buf, c.if-len-place.false)) c.in-Done-read.ensures.went

pub returns-then-broken-clause-none : goal.returns-then-broken-clause-none
returns-then-broken-clause-none g c x told long =
    let p = c.args.place in let n = c.from-n.result in
    let gate = gate_read x c.read.new.buf p (length c.read.new.buf) (c.in-Done.ensures.bytes x told) (omega (arith, c.read.auto.buf)) in
    let w = c.read-2.new.buf in
    let size = size_read x w p (length w) (c.in-Done-read.ensures.bytes x (c.read.ensures.stays.reads ∙ told)) (omega (arith, c.read-2.auto.buf)) in
    let n_is : n ≡ get_or w 0 0 + 256 * get_or w 1 0 = omega (arith, c.from-n.ensures, c.read_u16.ensures) in (
      n,
      record {
        gate = omega (arith, gate, c.if-gate-eq0.false);
        size_is = n_is ∙ size;
        breaks_or_not = ap (λ (k : ℕ). breaks n (k - p)) long ∙ sym c.is_broken-broken.ensures ∙ c.if-broken.true;
      },
    )

pub returns-clause-batch : goal.returns-clause-batch
returns-clause-batch g c x told long =
    let p = c.args.place in let n = c.from-n.result in
    let gate = gate_read x c.read.new.buf p (length c.read.new.buf) (c.in-Done.ensures.bytes x told) (omega (arith, c.read.auto.buf)) in
    let w = c.read-2.new.buf in
    let size = size_read x w p (length w) (c.in-Done-read.ensures.bytes x (c.read.ensures.stays.reads ∙ told)) (omega (arith, c.read-2.auto.buf)) in
    let n_is : n ≡ get_or w 0 0 + 256 * get_or w 1 0 = omega (arith, c.from-n.ensures, c.read_u16.ensures) in
    record {
      gate = omega (arith, gate, c.if-gate-eq0.false);
      size_is = n_is ∙ size;
      breaks_or_not = ap (λ (k : ℕ). breaks n (k - p)) long ∙ sym c.is_broken-broken.ensures ∙ c.if-broken.false;
    }
