use Rattle.std.proofs.Common.{ℕ, List, ◌≡◌, ◌++◌, ◌∙◌, sym, ap, subst, take}
use Rattle.std.proofs.lemmas.List.{take-append-drop}
use Rattle.fleet.proofs.PutPieces.{IsLeft, left_all, left_less, left_cut, emits_stuck, free_of}
use Rattle.fleet.proofs.numbered.NumberedSink.put.Goals as goal

pub returns-in-Stuck : goal.returns-in-Stuck
returns-in-Stuck g c = emits_stuck g.K.Sink.outlet c.args.self.now c.args.bytes.now c.in-Stuck.is

pub loop-rest-init : goal.loop-rest-init
loop-rest-init g c = left_all g.K.Sink.outlet c.args.self.now c.args.bytes.now (free_of c.args.self.now.pen c.in_default.not-Stuck)

pub loop-rest-preserved : goal.loop-rest-preserved
loop-rest-preserved g c =
    let piece = c.split_at.result.0.now in
    let more = c.split_at.result.1.now in
    let n = c.min.result in
    let rest = c.loop-rest.rest.now in
    let whole : rest ≡ piece ++ more = sym (ap (λ (p : List ℕ). p ++ more) c.split_at.ensures.front
    ∙ (ap (λ (m : List ℕ). take n rest ++ m) c.split_at.ensures.back ∙ take-append-drop n rest)) in
    let P : List ℕ → Type 0 = λ (r : List ℕ). IsLeft g.K.Sink.outlet c.args.self.now c.args.bytes.now c.loop-rest.self r in
    left_less g.K.Sink.outlet c.args.self.now c.loop-rest.self c.put_piece.new.self c.args.bytes.now piece more
    (subst P whole c.loop-rest.invariant) c.in-Done.ensures

pub returns-in-Failed : goal.returns-in-Failed
returns-in-Failed g c =
    let piece = c.split_at.result.0.now in
    let more = c.split_at.result.1.now in
    let n = c.min.result in
    let rest = c.loop-rest.rest.now in
    let whole : rest ≡ piece ++ more = sym (ap (λ (p : List ℕ). p ++ more) c.split_at.ensures.front
    ∙ (ap (λ (m : List ℕ). take n rest ++ m) c.split_at.ensures.back ∙ take-append-drop n rest)) in
    let P : List ℕ → Type 0 = λ (r : List ℕ). IsLeft g.K.Sink.outlet c.args.self.now c.args.bytes.now c.loop-rest.self r in
    left_cut g.K.Sink.outlet c.args.self.now c.loop-rest.self c.put_piece.new.self c.args.bytes.now piece more
    (subst P whole c.loop-rest.invariant) c.in-Failed.ensures
