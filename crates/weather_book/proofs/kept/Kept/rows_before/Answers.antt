use Rattle.std.proofs.Common.{rules, ◌≡◌, true, false, List, length, sym, ap, subst, arith}
use Rattle.std.specs.Prelude.{int_lt, count_by}
use Rattle.std.specs.List.Sorted.{IsPartitionedBy, IsPartitionPoint}
use Rattle.std.proofs.lemmas.List.Sorted.{IsPartitionPoint-from_clause}
use Rattle.weather_book.specs.declared.kept.DayEntry.{DayEntry}
use Rattle.packed_rows.specs.Days.{is_before}
use Rattle.packed_rows.proofs.DayLaws.{still_not}
use Rattle.weather_book.proofs.EntryLaws.{before_rows}
use Rattle.weather_book.proofs.Search.{parted_days, first_found}
use Rattle.weather_book.proofs.kept.Kept.rows_before.Goals as goal

pub returns : goal.returns
returns c rows keeps =
    let self = c.args.self.now in let day = c.args.day in let index = c.partition_point-index.result in
    let same = c.deref.ensures.value in
    let parted = parted_days (λ x. int_lt x day.0) (λ a b le e. still_not a b day.0 le e) self.days.items self.count self.tail rows keeps in
    let point = IsPartitionPoint-from_clause (λ (e : DayEntry). int_lt e.day.0 day.0) c.deref.result.now index c.partition_point-index.ensures.partitioned
    (subst (IsPartitionedBy (λ (e : DayEntry). int_lt e.day.0 day.0)) (sym same) parted) (λ a r q k. search rules) in
    let here = subst (λ (xs : List DayEntry). IsPartitionPoint (λ (e : DayEntry). int_lt e.day.0 day.0 ≡ true) (λ (e : DayEntry). int_lt e.day.0 day.0 ≡ false) xs index) same point in
    first_found (λ x. int_lt x day.0) self.days.items self.count self.tail rows index (count_by (is_before day) rows) c.first_at.result keeps (omega (arith, c.partition_point-index.ensures.bound, ap length same)) here
    (before_rows day rows keeps.ends.rising) (λ d lt. c.first_at.ensures.there d (omega (arith, lt, self.days.ok.0))) (λ le. c.first_at.ensures.past (omega (arith, le, self.days.ok.0)))
