use Rattle.std.proofs.Common.{◌≡◌, ◌<◌, ◌++◌, ◌∷◌, [], ap, sym, ◌∙◌, arith, length, false, Ok}
use Rattle.std.specs.Result.{is_err}
use Rattle.std.proofs.lemmas.List.{length-map}
use Rattle.schedule_file.specs.Steps.{mid_seen, details_seen}
use Rattle.schedule_file.specs.Reader.{said_by}
use Rattle.schedule_file.proofs.Lines.{mid_accepted, details_with, said_with, on_ok}
use Rattle.schedule_file.proofs.schedule.reader.Reader.mid.Goals as goal
use Rattle.schedule_file.specs.Limits.{most_mids}

pub returns-clause-said : goal.returns-clause-said
returns-clause-said c =
    let right : is_err c.mid.result ≡ false = sym c.is_err.ensures.value ∙ c.if-is_err.false in
    let mids = on_ok c.mid.result right (c.mid.ensures.ok c.args.self.now.period) in
    let few : length (details_seen c.args.self.now.period c.args.self.now.fates).mids < most_mids = rw (length-map c.args.self.now.fates.mids.items (mid_seen c.args.self.now.period)) (omega (arith, c.len.ensures)) in
    mid_accepted c.args.self.now.period c.args.number (said_by c.args.self.now) c.args.told.now c.in-Ok.ensures.0 (sym c.is_in_round.ensures ∙ c.if-not-is_in_round.false)
    (sym c.was_due.ensures ∙ c.if-was_due.false) (omega arith) (sym (c.is_below_last.ensures.seen c.args.self.now.period) ∙ c.if-is_below_last.false) few
    ∙ ap Ok (said_with (said_by c.args.self.now) _ _ _ _
    (details_with c.args.self.now.period c.args.self.now.fates c.mid.new.self _ c.mid.ensures.host c.mid.ensures.replies c.mid.ensures.lates
    (mids ∙ ap (λ r. (details_seen c.args.self.now.period c.args.self.now.fates).mids ++ (record { number = c.args.number; record_read = r }) ∷ []) c.in-Ok.ensures.1))
    (sym c.newest_of-self.ensures))
