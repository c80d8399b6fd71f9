use Rattle.std.proofs.Common.{◌-◌, List, length, vec_len, vec_capacity, refl, ap, arith}
use Rattle.weather_book.specs.Book.{spare}
use Rattle.dmpaft_pump.specs.declared.outcome.Trouble.{Trouble}
use Rattle.station_session.specs.Attempts.{stamp_behind}
use Rattle.station_session.specs.RoundAt.{tally_of}
use Rattle.station_session.specs.Turning.{round_desk}
use Rattle.station_session.proofs.OneTurn.{turned, takes, fits_then, room_then, goes_on, answers, leaves}
use Rattle.station_session.proofs.Rounds.{few_troubles}
use Rattle.station_session.proofs.SoFar.{suits, pump_stands, room_least, few_then}
use Rattle.station_session.proofs.session.Session.turn.Goals as goal
use Rattle.station_session.specs.declared.limits.TheConstants.{MOST_BATCHES}

pub step-end-requires-clause-stands : goal.step-end-requires-clause-stands
step-end-requires-clause-stands g c = pump_stands c.requires.fits.marked.at

pub step-end-requires-clause-suits : goal.step-end-requires-clause-suits
step-end-requires-clause-suits g c =
    let f = c.requires.fits in
    let marks = c.args.report.now.marks in
    let room = room_least (spare c.args.self.now.book) (g.D.Disk.medium.moment c.args.disk.now) (vec_capacity marks) (vec_len marks) (MOST_BATCHES - vec_len marks) f.rows c.requires.room (omega (arith, f.marks)) in
    suits f.marked.at _ _ f.last (omega (arith, room, f.marked.count_is))

pub go_on-turn-requires-clause-pages : goal.go_on-turn-requires-clause-pages
go_on-turn-requires-clause-pages g c =
    let m = c.requires.fits.marked in
    let few = few_then m.at refl (c.step-end.ensures.steps (tally_of m.last m.at.tries) (stamp_behind m.last m.at.tries) m.at.state m.at.shows) in
    omega (arith, few.0)

pub go_on-turn-requires-clause-skipped : goal.go_on-turn-requires-clause-skipped
go_on-turn-requires-clause-skipped g c =
    let m = c.requires.fits.marked in
    let few = few_then m.at refl (c.step-end.ensures.steps (tally_of m.last m.at.tries) (stamp_behind m.last m.at.tries) m.at.state m.at.shows) in
    omega (arith, few.1)

pub go_on-turn-requires-clause-room : goal.go_on-turn-requires-clause-room
go_on-turn-requires-clause-room g c =
    let at = c.requires.fits.marked.at in
    omega (arith, few_troubles at.tries, at.few, ap (λ (x : List Trouble). length x) at.troubles)

pub returns-clause-takes : goal.returns-clause-takes
returns-clause-takes g c last talk kept r =
    takes (turned g.L.Link.traffic g.D.Disk.medium _ _ c.step-end.result c.go_on-turn.result (record { pump = c.step-end.new.pump; more = c.args.round.now.more; troubles = c.args.round.now.troubles }) c.last.result c.requires.fits c.step-end.ensures.steps refl refl c.last.ensures.last
    c.go_on-turn.ensures.goes c.attempts-report.ensures c.tally-report.ensures c.troubles-report.ensures c.step-end.ensures.capacity refl refl) r

pub returns-clause-fits : goal.returns-clause-fits
returns-clause-fits g c =
    fits_then (turned g.L.Link.traffic g.D.Disk.medium _ _ c.step-end.result c.go_on-turn.result (record { pump = c.step-end.new.pump; more = c.args.round.now.more; troubles = c.args.round.now.troubles }) c.last.result c.requires.fits c.step-end.ensures.steps refl refl c.last.ensures.last
    c.go_on-turn.ensures.goes c.attempts-report.ensures c.tally-report.ensures c.troubles-report.ensures c.step-end.ensures.capacity refl refl)

pub returns-clause-room : goal.returns-clause-room
returns-clause-room g c more =
    room_then (turned g.L.Link.traffic g.D.Disk.medium (round_desk c.args.self.now c.args.link.now c.args.disk.now c.args.round.now c.args.report.now)
    (round_desk (record { book = c.step-end.new.book; settings = c.args.self.now.settings }) c.step-end.new.link c.step-end.new.disk c.go_on-turn.new.self
    (record { rows_before = c.args.report.now.rows_before; rows_after = c.len-report.result; attempts = c.attempts-report.result; tally = c.tally-report.result; marks = c.step-end.new.marks; troubles = c.troubles-report.result }))
    c.step-end.result c.go_on-turn.result (record { pump = c.step-end.new.pump; more = c.args.round.now.more; troubles = c.args.round.now.troubles }) c.last.result c.requires.fits c.step-end.ensures.steps refl refl c.last.ensures.last
    c.go_on-turn.ensures.goes c.attempts-report.ensures c.tally-report.ensures c.troubles-report.ensures c.step-end.ensures.capacity refl refl) more c.requires.room

pub returns-clause-goes_on : goal.returns-clause-goes_on
returns-clause-goes_on g c began talk kept u =
    goes_on (turned g.L.Link.traffic g.D.Disk.medium _ _ c.step-end.result c.go_on-turn.result (record { pump = c.step-end.new.pump; more = c.args.round.now.more; troubles = c.args.round.now.troubles }) c.last.result c.requires.fits c.step-end.ensures.steps refl refl c.last.ensures.last
    c.go_on-turn.ensures.goes c.attempts-report.ensures c.tally-report.ensures c.troubles-report.ensures c.step-end.ensures.capacity refl refl)
    c.len-report.ensures.len c.step-end.ensures.fault c.step-end.ensures.shortage began talk kept u

pub returns-clause-answers : goal.returns-clause-answers
returns-clause-answers g c =
    answers (turned g.L.Link.traffic g.D.Disk.medium _ _ c.step-end.result c.go_on-turn.result (record { pump = c.step-end.new.pump; more = c.args.round.now.more; troubles = c.args.round.now.troubles }) c.last.result c.requires.fits c.step-end.ensures.steps refl refl c.last.ensures.last
    c.go_on-turn.ensures.goes c.attempts-report.ensures c.tally-report.ensures c.troubles-report.ensures c.step-end.ensures.capacity refl refl)
    c.step-end.ensures.fault c.step-end.ensures.shortage

pub returns-clause-leaves : goal.returns-clause-leaves
returns-clause-leaves g c =
    leaves (turned g.L.Link.traffic g.D.Disk.medium _ _ c.step-end.result c.go_on-turn.result (record { pump = c.step-end.new.pump; more = c.args.round.now.more; troubles = c.args.round.now.troubles }) c.last.result c.requires.fits c.step-end.ensures.steps refl refl c.last.ensures.last
    c.go_on-turn.ensures.goes c.attempts-report.ensures c.tally-report.ensures c.troubles-report.ensures c.step-end.ensures.capacity refl refl)
    c.len-report.ensures.len
