use Rattle.std.proofs.Common.{◌<◌, arith, ◌≡◌, ◌-◌, length, Some, sym, refl}
use Rattle.std.proofs.lemmas.Option.{slice_get_read}
use Rattle.std.specs.Prelude.{slice_get}
use Rattle.fleet.proofs.OneStation.{member_took, one_turn, ready_of_turn}
use Rattle.fleet.proofs.fleet.Fleet.turn.Goals as goal

pub returns-clause-turn : goal.returns-clause-turn
returns-clause-turn g c =
    let self = c.args.self.now in
    let took = c.turn-answer.ensures in
    let here : c.from-place.result ≡ c.args.station - 1 = c.from-place.ensures in
    let within : c.from-place.result < length self.members.items = omega (arith, here, c.requires.not_ended.from, c.requires.not_ended.to) in
    let was : slice_get self.members.items c.from-place.result ≡ Some c.index_mut.result.now =
    slice_get_read self.members.items _ c.from-place.result c.index_mut.result.now refl within c.index_mut.ensures.value in
    one_turn g.M.Member.turning g.K.Sink.outlet self.members.items self.last _ c.from-place.result c.index_mut.result.now
    c.turn-answer.new.self here c.requires.not_ended c.requires.ready.size c.requires.ready.few was
    (member_took g.M.Member.turning g.K.Sink.outlet _ c.turn-answer.new.out _ c.index_mut.result.now c.turn-answer.new.self
    refl refl refl (c.out-1.given.1 (sym took.writes.wrote.same)) took)

pub returns-clause-ready : goal.returns-clause-ready
returns-clause-ready g c =
    let self = c.args.self.now in
    let took = c.turn-answer.ensures in
    let here : c.from-place.result ≡ c.args.station - 1 = c.from-place.ensures in
    let within : c.from-place.result < length self.members.items = omega (arith, here, c.requires.not_ended.from, c.requires.not_ended.to) in
    let was : slice_get self.members.items c.from-place.result ≡ Some c.index_mut.result.now =
    slice_get_read self.members.items _ c.from-place.result c.index_mut.result.now refl within c.index_mut.ensures.value in
    ready_of_turn g.M.Member.turning g.K.Sink.outlet self.members.items self.last
    (record { station = c.args.station; answer = c.turn-answer.result; before = c.args.out.now; after = _ })
    c.from-place.result c.index_mut.result.now c.turn-answer.new.self here c.requires.ready c.requires.not_ended was
    (member_took g.M.Member.turning g.K.Sink.outlet _ c.turn-answer.new.out _ c.index_mut.result.now c.turn-answer.new.self
    refl refl refl (c.out-1.given.1 (sym took.writes.wrote.same)) took)
