use Rattle.std.proofs.Common.{subst}
use Rattle.disk_model.specs.Stopping.{stopping_medium}
use Rattle.weather_book.specs.Book.{last_stamp_of}
use Rattle.station_session.specs.declared.round.Turn.{Turn}
use Rattle.station_session.specs.Turning.{AnswersTurn, LeavesTurn, RoundTakesTurn}
use Rattle.station_session.specs.UnderWay.{GoesOnFrom}
use Rattle.station_sim.specs.Telling.{sim_traffic}
use Rattle.round_play.specs.declared.playing.Playing.{Playing}
use Rattle.round_play.proofs.TurnPlayed.{desk_of, goes_on, is_over, one_call, says_or_stores}
use Rattle.round_play.proofs.playing.Playing.turn.Goals as goal

pub turn-requires-clause-fits : goal.turn-requires-clause-fits
turn-requires-clause-fits c = c.requires.may.fits

pub turn-requires-clause-room : goal.turn-requires-clause-room
turn-requires-clause-room c = c.requires.may.room

pub returns-clause-may : goal.returns-clause-may
returns-clause-may c more = record { fits = c.turn.ensures.fits more; room = c.turn.ensures.room more }

pub returns-clause-more : goal.returns-clause-more
returns-clause-more c more fates stop old u =
    let now : Playing = record { session = c.turn.new.self; round = c.turn.new.round; report = c.turn.new.report; stop = c.args.self.now.stop } in
    goes_on fates stop old c.args.self.now now c.args.line.now c.turn.new.link c.args.disk.now c.turn.new.disk u
    (subst (λ (r : Turn). GoesOnFrom sim_traffic stopping_medium r u.began u.talk u.kept (desk_of now c.turn.new.link c.turn.new.disk)) more (c.turn.ensures.goes_on u.began u.talk u.kept u.way))

pub returns-clause-ended : goal.returns-clause-ended
returns-clause-ended c end is fates stop old u =
    let now : Playing = record { session = c.turn.new.self; round = c.turn.new.round; report = c.turn.new.report; stop = c.args.self.now.stop } in
    let before = desk_of c.args.self.now c.args.line.now c.args.disk.now in
    let after = desk_of now c.turn.new.link c.turn.new.disk in
    is_over fates stop old end c.args.self.now now c.args.line.now c.turn.new.link c.args.disk.now c.turn.new.disk u
    (subst (λ (r : Turn). RoundTakesTurn sim_traffic stopping_medium r (last_stamp_of u.began.session.book) u.talk u.kept before after) is (c.turn.ensures.takes (last_stamp_of u.began.session.book) u.talk u.kept u.way.at))
    (subst (λ (r : Turn). AnswersTurn sim_traffic stopping_medium r before after) is c.turn.ensures.answers)
    (subst (λ (r : Turn). LeavesTurn stopping_medium r before after) is c.turn.ensures.leaves)

pub returns-clause-left : goal.returns-clause-left
returns-clause-left c more = c.turn.ensures.left more

pub returns-clause-one_call : goal.returns-clause-one_call
returns-clause-one_call c more =
    let now : Playing = record { session = c.turn.new.self; round = c.turn.new.round; report = c.turn.new.report; stop = c.args.self.now.stop } in
    let before = desk_of c.args.self.now c.args.line.now c.args.disk.now in
    let after = desk_of now c.turn.new.link c.turn.new.disk in
    let m = c.requires.may.fits.marked in
    one_call m.last m.talk m.kept c.args.self.now now c.args.line.now c.turn.new.link c.args.disk.now c.turn.new.disk
    (subst (λ (r : Turn). RoundTakesTurn sim_traffic stopping_medium r m.last m.talk m.kept before after) more (c.turn.ensures.takes m.last m.talk m.kept m.at))

pub returns-clause-says_or_stores : goal.returns-clause-says_or_stores
returns-clause-says_or_stores c =
    let now : Playing = record { session = c.turn.new.self; round = c.turn.new.round; report = c.turn.new.report; stop = c.args.self.now.stop } in
    let m = c.requires.may.fits.marked in
    says_or_stores c.turn.result m.last m.talk m.kept c.args.self.now now c.args.line.now c.turn.new.link c.args.disk.now c.turn.new.disk (c.turn.ensures.takes m.last m.talk m.kept m.at)
