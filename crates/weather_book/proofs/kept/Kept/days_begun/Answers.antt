use Rattle.std.proofs.Common.{rules, ◌≡◌, true, false, List, length, sym, ap, subst, arith}
use Rattle.std.specs.Prelude.{nat_le}
use Rattle.std.specs.List.Sorted.{IsPartitionedBy, IsPartitionPoint}
use Rattle.std.proofs.lemmas.List.Sorted.{IsPartitionPoint-from_clause}
use Rattle.weather_book.specs.declared.kept.DayEntry.{DayEntry}
use Rattle.weather_book.proofs.Search.{parted_firsts, begun_found}
use Rattle.weather_book.proofs.kept.Kept.days_begun.Goals as goal

pub returns-clause-rows : goal.returns-clause-rows
returns-clause-rows c rows keeps =
    let self = c.args.self.now in let n = c.args.n in let index = c.partition_point.result in
    let same = c.deref.ensures.value in
    let parted = parted_firsts n self.days.items self.count self.tail rows keeps in
    let point = IsPartitionPoint-from_clause (λ (e : DayEntry). nat_le e.first n) c.deref.result.now index c.partition_point.ensures.partitioned
    (subst (IsPartitionedBy (λ (e : DayEntry). nat_le e.first n)) (sym same) parted) (λ a r q k. search rules) in
    let here = subst (λ (xs : List DayEntry). IsPartitionPoint (λ (e : DayEntry). nat_le e.first n ≡ true) (λ (e : DayEntry). nat_le e.first n ≡ false) xs index) same point in
    begun_found self.days.items self.count self.tail rows index n keeps (omega (arith, c.partition_point.ensures.bound, ap length same)) c.requires here

pub returns-clause-most : goal.returns-clause-most
returns-clause-most c = let same = ap length c.deref.ensures.value in omega (arith, same, c.partition_point.ensures.bound, c.args.self.now.days.ok.0)
