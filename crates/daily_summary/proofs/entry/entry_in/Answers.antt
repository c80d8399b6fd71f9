use Rattle.std.proofs.Common.{refl, sym, subst, Some, None, ◌≡◌, ℕ, arith, Option, Bool, true, false, replicate, List}
use Rattle.daily_summary.specs.declared.field_sum.FieldSum.{FieldSum}
use Rattle.daily_summary.specs.Bounds.{IsSumOf}
use Rattle.std.specs.Prelude.{IfSome}
use Rattle.std.proofs.lemmas.Bool.{false≢true}
use Rattle.daily_summary.specs.Parts.{field_entry, sum_in, IsTyped, entry_size}
use Rattle.daily_summary.specs.WellFormed.{BytesAreBlank}
use Rattle.daily_summary.proofs.Entries.{zeros, all_zeros, count_read, blank_entry, filled_entry, no_entry, read_by, read_of, sum_read, entry_again}
use Rattle.daily_summary.proofs.entry.entry_in.Goals as goal

pub returns-then-is_blank-clause-well_formed : goal.returns-then-is_blank-clause-well_formed
returns-then-is_blank-clause-well_formed c =
    let blank : BytesAreBlank c.args.bytes.now = c.is_blank.ensures.0 c.if-is_blank.true in
    (λ some. blank_entry c.args.rows c.args.bytes.now (zeros c.args.bytes.now entry_size c.requires.long blank) blank, λ entry. refl)

pub returns-then-is_blank-clause-found : goal.returns-then-is_blank-clause-found
returns-then-is_blank-clause-found c = (sym (zeros c.args.bytes.now entry_size c.requires.long (c.is_blank.ensures.0 c.if-is_blank.true)), tt)

none_only : (rows : ℕ) (b : List ℕ) (sum : Option FieldSum) → b ≡ replicate entry_size 0 → IfSome sum IsTyped → IfSome sum (IsSumOf rows) → field_entry sum ≡ b → (let none : Option (Option FieldSum) = Some None in none ≡ Some sum)
none_only rows b None blank typed within same = refl
none_only rows b (Some s) blank typed within same = let none = count_read s b typed same blank in let some = within.sum_is.some in absurd (omega arith)

pub returns-then-is_blank-clause-only : goal.returns-then-is_blank-clause-only
returns-then-is_blank-clause-only c sum typed within same =
    none_only c.args.rows c.args.bytes.now sum (zeros c.args.bytes.now entry_size c.requires.long (c.is_blank.ensures.0 c.if-is_blank.true)) typed within same

not_blank : (b : List ℕ) (test : Bool) → (BytesAreBlank b → test ≡ true) → test ≡ false → BytesAreBlank b → ⊥
not_blank b test is off blank = let on : test ≡ true = is blank in cc

pub returns-in_err-sum-clause-well_formed : goal.returns-in_err-sum-clause-well_formed
returns-in_err-sum-clause-well_formed c =
    let none : c.sum_in.result ≡ None = c.in_err-sum.was in
    let bad = no_entry c.args.rows c.args.bytes.now None (c.in_err-sum.ensures) (not_blank c.args.bytes.now c.is_blank.result c.is_blank.ensures.1 c.if-is_blank.false) tt in
    rw c.from_residual.ensures ((λ some. absurd (false≢true some)), λ entry. absurd (bad entry))

err_only : (b : List ℕ) (sum : Option FieldSum) (read : Option FieldSum) → (BytesAreBlank b → ⊥) → read ≡ None → read ≡ sum_in b → IfSome sum IsTyped → field_entry sum ≡ b → ⊥
err_only b None read filled none is typed same = filled (subst BytesAreBlank same (all_zeros entry_size))
err_only b (Some s) read filled none is typed same = let e = sum_read s b (read_of s b typed same) in cc

pub returns-in_err-sum-clause-only : goal.returns-in_err-sum-clause-only
returns-in_err-sum-clause-only c sum typed within same =
    absurd (err_only c.args.bytes.now sum c.sum_in.result (not_blank c.args.bytes.now c.is_blank.result c.is_blank.ensures.1 c.if-is_blank.false) c.in_err-sum.was c.sum_in.ensures typed same)

out_of_bounds : (rows : ℕ) (s : FieldSum) (test : Bool) → (IsSumOf rows s → test ≡ true) → test ≡ false → IsSumOf rows s → ⊥
out_of_bounds rows s test is off within = let on : test ≡ true = is within in cc

pub returns-then-not-is_sum_of-clause-well_formed : goal.returns-then-not-is_sum_of-clause-well_formed
returns-then-not-is_sum_of-clause-well_formed c = (
  (λ some. absurd (false≢true some)),
  (λ entry. absurd (no_entry c.args.rows c.args.bytes.now (Some c.in_ok-sum.sum) c.in_ok-sum.ensures (not_blank c.args.bytes.now c.is_blank.result c.is_blank.ensures.1 c.if-is_blank.false)
      (out_of_bounds c.args.rows c.in_ok-sum.sum c.is_sum_of.result c.is_sum_of.ensures.1 c.if-not-is_sum_of.true) entry)),
)

beyond_only : (rows : ℕ) (b : List ℕ) (sum : Option FieldSum) (s : FieldSum) → (BytesAreBlank b → ⊥) → (IsSumOf rows s → ⊥) → Some s ≡ sum_in b → IfSome sum IsTyped → IfSome sum (IsSumOf rows) → field_entry sum ≡ b → ⊥
beyond_only rows b None s filled bad is typed within same = filled (subst BytesAreBlank same (all_zeros entry_size))
beyond_only rows b (Some t) s filled bad is typed within same =
    let e = sum_read t b (read_of t b typed same) in let f : t ≡ s = cc in bad (subst (IsSumOf rows) f within)

pub returns-then-not-is_sum_of-clause-only : goal.returns-then-not-is_sum_of-clause-only
returns-then-not-is_sum_of-clause-only c sum typed within same =
    absurd (beyond_only c.args.rows c.args.bytes.now sum c.in_ok-sum.sum (not_blank c.args.bytes.now c.is_blank.result c.is_blank.ensures.1 c.if-is_blank.false)
    (out_of_bounds c.args.rows c.in_ok-sum.sum c.is_sum_of.result c.is_sum_of.ensures.1 c.if-not-is_sum_of.true) c.in_ok-sum.ensures typed within same)

pub returns-clause-well_formed : goal.returns-clause-well_formed
returns-clause-well_formed c =
    let within : IsSumOf c.args.rows c.in_ok-sum.sum = c.is_sum_of.ensures.0 c.if-not-is_sum_of.false in
    let is : Some c.in_ok-sum.sum ≡ sum_in c.args.bytes.now = c.in_ok-sum.ensures in
    ((λ some. filled_entry c.args.rows c.args.bytes.now c.in_ok-sum.sum (sym is) within), (λ entry. refl))

pub returns-clause-found : goal.returns-clause-found
returns-clause-found c =
    let is : Some c.in_ok-sum.sum ≡ sum_in c.args.bytes.now = c.in_ok-sum.ensures in
    (entry_again c.in_ok-sum.sum c.args.bytes.now c.requires.long (λ i. omega (arith, c.type_inv.bytes i)) (read_by c.in_ok-sum.sum c.args.bytes.now (sym is)), c.is_sum_of.ensures.0 c.if-not-is_sum_of.false)

found_only : (b : List ℕ) (sum : Option FieldSum) (s : FieldSum) → (BytesAreBlank b → ⊥) → Some s ≡ sum_in b → IfSome sum IsTyped → field_entry sum ≡ b → (let it : Option (Option FieldSum) = Some (Some s) in it ≡ Some sum)
found_only b None s filled is typed same = absurd (filled (subst BytesAreBlank same (all_zeros entry_size)))
found_only b (Some t) s filled is typed same = let e = sum_read t b (read_of t b typed same) in cc

pub returns-clause-only : goal.returns-clause-only
returns-clause-only c sum typed within same =
    found_only c.args.bytes.now sum c.in_ok-sum.sum (not_blank c.args.bytes.now c.is_blank.result c.is_blank.ensures.1 c.if-is_blank.false) c.in_ok-sum.ensures typed same
