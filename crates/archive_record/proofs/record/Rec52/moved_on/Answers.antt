use Rattle.std.proofs.Common.{◌≡◌, ℕ, List, ◌++◌, drop, refl, sym, ap, ◌∙◌, subst, Option, Some, None}
use Rattle.std.specs.Option.{SomeIff}
use Rattle.archive_record.specs.Record.{ReadsAsRow}
use Rattle.archive_record.specs.MovedOn.{with_stamp}
use Rattle.archive_record.proofs.MovedStamps.{is_last, is_moved, row_given}
use Rattle.archive_record.proofs.record.Rec52.moved_on.Goals as goal

is_some : (o : Option (List ℕ)) (P : Type 0) (bytes : List ℕ) → SomeIff o P bytes → P → o ≡ Some bytes
is_some None P bytes made p = absurd (made p)
is_some (Some later) P bytes made p = ap (λ (r : List ℕ). Some r) made.1

-- what the bytes are in the end
given : (c : goal.After-of) → c.copy_from_slice.new.self ++ drop 4 c.bytes.result.now ≡ with_stamp c.in_ok-stamp.stamp c.args.self.now
given c =
    rw (c.copy_from_slice.ensures.after, c.to_le_bytes.ensures, c.to_le_bytes-2.ensures, c.date_word.ensures.word, c.time_word.ensures, c.bytes.ensures.bytes) refl

pub returns-in_err-stamp : goal.returns-in_err-stamp
returns-in_err-stamp c =
    let beyond = is_last c.args.period c.args.self.now c.stamp.result c.stamp.ensures
    (λ within. (let none = c.in_err-stamp.ensures.last.1 within in let wrong : ⊥ = cc in wrong)) in
    rw beyond c.from_residual.ensures

pub returns : goal.returns
returns c =
    let bytes = c.copy_from_slice.new.self ++ drop 4 c.bytes.result.now in
    let moved = is_moved c.args.period c.args.self.now c.stamp.result c.in_ok-stamp.stamp c.stamp.ensures c.in_ok-stamp.ensures.civil c.in_ok-stamp.ensures.later in
    let row : ReadsAsRow bytes =
    subst ReadsAsRow (sym (given c)) (row_given c.in_ok-stamp.stamp c.args.self.now c.in_ok-stamp.ensures.civil c.bytes.ensures.size c.bytes.ensures.row) in
    is_some c.of.result (ReadsAsRow bytes) bytes c.of.ensures row ∙ ap (λ (r : List ℕ). Some r) (given c) ∙ sym moved
