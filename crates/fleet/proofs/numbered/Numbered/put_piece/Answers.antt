use Rattle.std.proofs.Common.{ℕ, List, ◌<◌, ◌≡◌, ◌∙◌, sym, subst, ap, length, refl}
use Rattle.station_io.specs.declared.sink.Put.{Put}
use Rattle.fleet.specs.Lines.{numbered_lines, pen_after}
use Rattle.fleet.proofs.Fronts.{numbered_some}
use Rattle.fleet.proofs.PutPieces.{puts, pen_by}
use Rattle.fleet.proofs.numbered.Numbered.put_piece.Goals as goal
use Rattle.fleet.proofs.numbered.Numbered.put_piece.Goals.{in-Done, in-Failed}

pub put-answer-requires : goal.put-answer-requires
put-answer-requires g c =
    let self = c.args.self.now in
    let is : c.deref.result.now ≡ numbered_lines self.digit self.pen c.args.piece.now = c.deref.ensures.0 ∙ c.write_heads-text.ensures.text in
    let P : List ℕ → Type 0 = λ (t : List ℕ). 0 < length t in
    subst P (sym is) (numbered_some self.digit self.pen c.args.piece.now c.requires.some)

pub returns : goal.returns
returns g c =
    let self = c.args.self.now in
    let is : c.deref.result.now ≡ numbered_lines self.digit self.pen c.args.piece.now = c.deref.ensures.0 ∙ c.write_heads-text.ensures.text in
    let pen : c.match-answer.self ≡ pen_by c.put-answer.result (pen_after self.pen c.args.piece.now) =
    elim c.match-answer.branch [
      | in-Done w ↦ w.self-is ∙ (c.write_heads-text.ensures.pen ∙ ap (λ (x : Put). pen_by x (pen_after self.pen c.args.piece.now)) (sym w.in-Done.is))
      | in-Failed w ↦ w.self-is ∙ ap (λ (x : Put). pen_by x (pen_after self.pen c.args.piece.now)) (sym w.in-Failed.is)
    ] in
    puts g.K.Sink.outlet self _ c.args.piece.now c.deref.result.now c.put-answer.result refl refl c.requires.free is
    c.put-answer.ensures pen
