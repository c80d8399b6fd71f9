use Rattle.std.proofs.Common.{◌≡◌, ℕ, length, ◌∙◌, subst, arith}
use Rattle.causes.specs.Told.{WhereTold}
use Rattle.gated_log.specs.Calls.{GateRead}
use Rattle.gated_log.specs.Visits.{IsShown}
use Rattle.gated_log.specs.Walk.{WalksOn, find_failed}
use Rattle.gated_log.specs.declared.walk.Found.{Found}
use Rattle.gated_log.proofs.LogLooks.{gate_look, looked_joins}
use Rattle.gated_log.proofs.SlotsShown.{behind_none, no_batches, none_found, shown_more}
use Rattle.gated_log.proofs.walk.batches_at.Goals as goal

pub returns-in-Ok-show_batch-clause-shown : goal.returns-in-Ok-show_batch-clause-shown
returns-in-Ok-show_batch-clause-shown g c =
    shown_more g.V.Visitor.visits c.args.version c.in-Ok-eq0.ensures.shown _ c.in-Ok-show_batch.ensures.shown (omega (arith, c.in-Ok-eq0.field-0-is)) (λ xs ys none some before now x told long.
    let back = now x (c.batch_at.ensures.stays.reads ∙ c.show_piece.ensures.stays.reads ∙ told) (omega (arith, c.requires.within, long)) (c.in-Batches.ensures.batch x (c.show_piece.ensures.stays.reads ∙ told) long) in
    behind_none x c.args.place xs ys (omega (arith, none, c.in-Ok-eq0.field-0-is)) back)

pub returns-in-Ok-show_batch-clause-went : goal.returns-in-Ok-show_batch-clause-went
returns-in-Ok-show_batch-clause-went g c =
    let m = g.D.Disk.medium in let fits = c.in-Batches.ensures.fits in
    looked_joins m c.in-Ok-eq0.ensures.went (looked_joins m (gate_look m c.in-Batches.ensures.went) (c.in-Ok-show_batch.ensures.went c.args.len (omega (arith, fits.2))))

pub returns-in-Err-show_batch-clause-went : goal.returns-in-Err-show_batch-clause-went
returns-in-Err-show_batch-clause-went g c =
    let m = g.D.Disk.medium in let fits = c.in-Batches.ensures.fits in
    looked_joins m c.in-Ok-eq0.ensures.went (looked_joins m (gate_look m c.in-Batches.ensures.went) (c.in-Err-show_batch.ensures.went c.args.len (omega (arith, fits.2))))

pub returns-in_default-clause-shown : goal.returns-in_default-clause-shown
returns-in_default-clause-shown g c =
    none_found c.batch_at.result _ c.in_default.not-Batches
    (subst (λ (n : ℕ). IsShown g.V.Visitor.visits c.args.version c.args.visitor.now n
    (λ slots. WhereTold (g.D.Disk.medium.seen c.args.disk.now) (λ x. length x ≡ c.args.len → WalksOn x c.args.place slots)) c.show_piece.new.visitor) (let e : c.in-Ok-eq0.field-0 ≡ 0 = omega (arith, c.in-Ok-eq0.field-0-is) in e) c.in-Ok-eq0.ensures.shown)

pub returns-in_default-clause-fits : goal.returns-in_default-clause-fits
returns-in_default-clause-fits g c = no_batches c.batch_at.result _ c.in_default.not-Batches

pub returns-in_default-clause-went : goal.returns-in_default-clause-went
returns-in_default-clause-went g c =
    let m = g.D.Disk.medium in
    looked_joins m c.in-Ok-eq0.ensures.went (gate_look m c.batch_at.ensures.went)

pub returns-in_default-clause-gate : goal.returns-in_default-clause-gate
returns-in_default-clause-gate g c none =
    let m = g.D.Disk.medium in
    record {
      between = c.show_piece.new.disk;
      first = c.in-Ok-eq0.ensures.went;
      gate = subst (λ (f : Found). GateRead m c.args.len c.args.place (find_failed f) c.show_piece.new.disk c.batch_at.new.disk) none c.batch_at.ensures.went;
    }
