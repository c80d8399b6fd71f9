use Rattle.std.proofs.Common.{◌≡◌, ℤ, ◌++◌, ◌∷◌, [], List, true, false, refl, sym, ap, subst, ◌∙◌, arith}
use Rattle.std.proofs.Math.Logic.{∥∥₁_map}
use Rattle.std.proofs.lemmas.Int.{ints}
use Rattle.station_base.specs.declared.row.Row.{Row}
use Rattle.weather_book.specs.declared.kept.DayEntry.{DayEntry}
use Rattle.weather_book.specs.Kept.{KeepsOf}
use Rattle.weather_book.proofs.KeptLaws.{keeps_more}
use Rattle.weather_book.proofs.kept.Kept.push.Goals as goal
use Rattle.weather_book.proofs.kept.Kept.push.Goals.{then-begins+in-Ok, else-begins}

pub returns-clause-keeps : goal.returns-clause-keeps
returns-clause-keeps c rows keeps =
    let self = c.args.self.now in let row = c.args.row.now in
    keeps_more self.days.items self.count self.tail c.push-2.new.self rows row c.if-begins.self.1.0.items c.begins_entry-begins.result keeps c.requires.back (c.push-2.ensures.ends rows keeps.ends) c.begins_entry-begins.ensures.begins
    (elim c.if-begins.branch [
      | then-begins+in-Ok w ↦ λ test. rw w.self-is
          (w.in-Ok.ensures.items ∙ ap (λ (d : ℤ). self.days.items ++ record { day = record { 0 = d }; first = self.count } ∷ []) w.archive_day.ensures.day)
      | else-begins w ↦ λ test. absurd (let e : true ≡ false = sym test ∙ w.if-begins.false in cc e)
    ])
    (elim c.if-begins.branch [
      | then-begins+in-Ok w ↦ λ test. absurd (let e : true ≡ false = sym w.if-begins.true ∙ test in cc e)
      | else-begins w ↦ λ test. rw w.self-is refl
    ]) c.requires.rises (omega (arith, ints, c.begins_entry-begins.ensures.range)) (omega (arith, ints, c.begins_entry-begins.ensures.range)) c.push-2.ensures.last c.begins_entry-begins.ensures.range

pub invariant_of-self-2 : goal.invariant_of-self-2
invariant_of-self-2 c =
    let self = c.args.self.now in let row = c.args.row.now in
    record {
      some = ∥∥₁_map self.some (λ p. (
        p.0 ++ row ∷ [],
        keeps_more self.days.items self.count self.tail c.push-2.new.self p.0 row c.if-begins.self.1.0.items c.begins_entry-begins.result p.1 c.requires.back
            (c.push-2.ensures.ends p.0 p.1.ends) c.begins_entry-begins.ensures.begins
            (elim c.if-begins.branch [
              | then-begins+in-Ok w ↦ λ test. rw w.self-is
                  (w.in-Ok.ensures.items ∙ ap (λ (d : ℤ). self.days.items ++ record { day = record { 0 = d }; first = self.count } ∷ []) w.archive_day.ensures.day)
              | else-begins w ↦ λ test. absurd (let e : true ≡ false = sym test ∙ w.if-begins.false in cc e)
            ])
            (elim c.if-begins.branch [
              | then-begins+in-Ok w ↦ λ test. absurd (let e : true ≡ false = sym w.if-begins.true ∙ test in cc e)
              | else-begins w ↦ λ test. rw w.self-is refl
            ]) c.requires.rises (omega (arith, ints, c.begins_entry-begins.ensures.range)) (omega (arith, ints, c.begins_entry-begins.ensures.range)) c.push-2.ensures.last c.begins_entry-begins.ensures.range,
      ));
    }

pub invariant_of-self : goal.invariant_of-self
invariant_of-self c = record { some = subst (λ (xs : List DayEntry). ∥ ((rows : List Row) × KeepsOf xs c.args.self.now.count c.args.self.now.tail rows) ∥₁) (sym c.in-Err.ensures.items) c.args.self.now.some }
