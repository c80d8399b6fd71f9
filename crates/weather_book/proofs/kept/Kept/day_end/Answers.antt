use Rattle.std.proofs.Common.{rules, ◌≡◌, true, false, List, length, sym, ap, subst, arith}
use Rattle.std.specs.Prelude.{nat_le}
use Rattle.std.specs.List.Sorted.{IsPartitionedBy, IsPartitionPoint}
use Rattle.std.proofs.lemmas.List.Sorted.{IsPartitionPoint-from_clause}
use Rattle.weather_book.specs.declared.kept.DayEntry.{DayEntry}
use Rattle.std.proofs.Math.Logic.{∥∥₁_elim}
use Rattle.std.proofs.Props.{props}
use Rattle.weather_book.proofs.EntryLaws.{rest_le, front_some}
use Rattle.weather_book.proofs.Search.{parted_firsts, later_found}
use Rattle.weather_book.proofs.kept.Kept.day_end.Goals as goal

pub returns-clause-rest : goal.returns-clause-rest
returns-clause-rest c rows keeps =
    let self = c.args.self.now in let n = c.args.n in let index = c.partition_point-index.result in
    let same = c.deref.ensures.value in
    let parted = parted_firsts n self.days.items self.count self.tail rows keeps in
    let point = IsPartitionPoint-from_clause (λ (e : DayEntry). nat_le e.first n) c.deref.result.now index c.partition_point-index.ensures.partitioned
    (subst (IsPartitionedBy (λ (e : DayEntry). nat_le e.first n)) (sym same) parted) (λ a r q k. search rules) in
    let here = subst (λ (xs : List DayEntry). IsPartitionPoint (λ (e : DayEntry). nat_le e.first n ≡ true) (λ (e : DayEntry). nat_le e.first n ≡ false) xs index) same point in
    later_found self.days.items self.count self.tail rows index n c.first_at.result keeps (omega (arith, c.partition_point-index.ensures.bound, ap length same)) c.requires here
    (λ d lt. c.first_at.ensures.there d (omega (arith, lt, self.days.ok.0))) (λ le. c.first_at.ensures.past (omega (arith, le, self.days.ok.0)))

pub returns-clause-within : goal.returns-clause-within
returns-clause-within c =
    ∥∥₁_elim c.args.self.now.some (hlevel props) (λ p.
    let e = returns-clause-rest c p.0 p.1 in
    let f = rest_le c.args.self.now.days.items c.args.self.now.count c.args.self.now.tail p.0 p.1 c.args.n c.requires in
    let g = front_some c.args.self.now.days.items c.args.self.now.count c.args.self.now.tail p.0 p.1 c.args.n c.requires in
    (omega (arith, e, g), omega (arith, e, f)))
