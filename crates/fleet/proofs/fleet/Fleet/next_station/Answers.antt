use Rattle.std.proofs.Common.{ℕ, List, ◌≡◌, ◌<◌, ◌%◌, ◌∙◌, length, sym, ap, subst, arith}
use Rattle.std.specs.Prelude.{slice_index_or}
use Rattle.std.proofs.Math.Nat.{mod-lt}
use Rattle.fleet.specs.Crew.{StationIsOpen, crew_of}
use Rattle.draws.specs.Draws.{drawn, next_draw}
use Rattle.fleet.specs.OpenStations.{open_from}
use Rattle.fleet.proofs.Stations.{open_at, is_open_at, some_of}
use Rattle.fleet.proofs.fleet.Fleet.next_station.Goals as goal

pub returns-clause-some : goal.returns-clause-some
returns-clause-some g c =
    let last = c.args.self.now.last in
    let open_now = open_from 1 last in
    let is : c.deref.result.now ≡ open_now = c.deref.ensures.0 ∙ c.open_stations-open.ensures in
    let size : c.len.result ≡ length open_now = c.len.ensures.value ∙ ap length c.open_stations-open.ensures in
    let place = c.draw.result % c.len.result in
    let some : 0 < c.len.result = omega (arith, c.len.ensures.value, some_of _ c.if-is_empty.ensures) in
    let within : place < length open_now = omega (arith, size, mod-lt c.draw.result some) in
    let drawn_is : c.draw.result ≡ drawn (next_draw c.args.draws.now.number) = c.draw.ensures.drawn ∙ ap drawn c.draw.ensures.next in
    let P : List ℕ → Type 0 = λ (xs : List ℕ). StationIsOpen (crew_of c.args.self.now) (slice_index_or xs place 0) in (
      subst P (sym is) (is_open_at g.M.Member.turning (crew_of c.args.self.now) (slice_index_or open_now place 0) c.requires.ready
          (open_at 1 last place within)),
      ap (λ (xs : List ℕ). slice_index_or xs place 0) is
          ∙ (ap (λ (n : ℕ). slice_index_or open_now (c.draw.result % n) 0) size
          ∙ ap (λ (n : ℕ). slice_index_or open_now (n % length open_now) 0) drawn_is),
      c.draw.ensures.next,
    )
