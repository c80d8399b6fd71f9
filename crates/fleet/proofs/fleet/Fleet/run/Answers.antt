use Rattle.std.proofs.Common.{ℕ, ◌≡◌, ◌≤◌, ◌+◌, Bool, true, false, None, refl, sym, ap, ◌∙◌, arith, if◌then◌else◌}
use Rattle.std.specs.Int.{from_bool}
use Rattle.fleet.specs.Crew.{crew_of}
use Rattle.fleet.specs.Log.{is_switch}
use Rattle.fleet.proofs.FleetEnded.{all_done, cut_by_fault, cut_by_memory, one_unseen}
use Rattle.fleet.proofs.LogSteps.{left_less, so_far_more, switches_few}
use Rattle.fleet.proofs.fleet.Fleet.run.Goals as goal

-- a test as a number
as_number : (test : Bool) → from_bool test ≡ (if test then 1 else 0)
as_number true = refl
as_number false = refl

one_at_most : (test : Bool) → from_bool test ≤ 1
one_at_most true = omega arith
one_at_most false = omega arith

pub returns-in-WriteFault : goal.returns-in-WriteFault
returns-in-WriteFault g c =
    let l = c.loop-station in
    cut_by_fault g.M.Member.turning g.K.Sink.outlet c.args.seed (crew_of c.args.self.now) c.args.out.now l.draws.number l.turns
    l.switches l.before (crew_of l.self) l.out l.invariant _ (crew_of c.turn.new.self) c.turn.ensures.turn refl
    c.in-Some.ensures.some.1 c.in-WriteFault.is

pub returns-in-OutOfMemory : goal.returns-in-OutOfMemory
returns-in-OutOfMemory g c =
    let l = c.loop-station in
    cut_by_memory g.M.Member.turning g.K.Sink.outlet c.args.seed (crew_of c.args.self.now) c.args.out.now l.draws.number l.turns
    l.switches l.before (crew_of l.self) l.out l.invariant _ (crew_of c.turn.new.self) c.turn.ensures.turn refl
    c.in-Some.ensures.some.1 c.in-OutOfMemory.is

pub overflow_add-switches : goal.overflow_add-switches
overflow_add-switches g c =
    let l = c.loop-station in
    let so = l.invariant in
    let more : c.from-switches.result ≤ 1 = omega (arith, c.from-switches.ensures, one_at_most c.is_switch.result) in
    omega (arith, more, switches_few None so.log, so.switches_are, so.turns_are, so.few, c.requires.few)

pub loop-station-smaller : goal.loop-station-smaller
loop-station-smaller g c = left_less g.M.Member.turning g.K.Sink.outlet (crew_of c.loop-station.self)
    (crew_of c.turn.new.self) _ c.turn.ensures.turn

pub loop-station-preserved : goal.loop-station-preserved
loop-station-preserved g c =
    let l = c.loop-station in
    let some = c.in-Some.ensures.some in
    let counted : c.from-switches.result ≡ (if is_switch l.before c.in-Some.station then 1 else 0) =
    c.from-switches.ensures ∙ (as_number c.is_switch.result ∙ ap (λ (b : Bool). if b then 1 else 0) c.is_switch.ensures) in
    so_far_more g.M.Member.turning g.K.Sink.outlet c.args.seed (crew_of c.args.self.now) c.args.out.now l.draws.number l.turns
    l.switches l.before (crew_of l.self) l.out _ (crew_of c.turn.new.self) c.next_station.new.draws.number _ l.invariant
    c.turn.ensures.turn refl c.in_default-turn.not-WriteFault c.in_default-turn.not-OutOfMemory some.1 some.2
    c.in-Some.ensures.below c.turn.ensures.ready (ap (λ (n : ℕ). l.switches + n) counted)

pub returns-in-Some-first_unseen : goal.returns-in-Some-first_unseen
returns-in-Some-first_unseen g c =
    let l = c.loop-station in
    one_unseen g.M.Member.turning g.K.Sink.outlet c.args.seed (crew_of c.args.self.now) c.args.out.now l.draws.number l.turns
    l.switches l.before (crew_of l.self) l.out l.invariant c.in-Some-first_unseen.station
    (c.next_station.ensures.none c.in_default.is).0 (sym c.first_unseen.ensures ∙ c.in-Some-first_unseen.is)

pub returns-in-None : goal.returns-in-None
returns-in-None g c =
    let l = c.loop-station in
    all_done g.M.Member.turning g.K.Sink.outlet c.args.seed (crew_of c.args.self.now) c.args.out.now l.draws.number l.turns
    l.switches l.before (crew_of l.self) l.out l.invariant
    (c.next_station.ensures.none c.in_default.is).0 (sym c.first_unseen.ensures ∙ c.in-None.is)
