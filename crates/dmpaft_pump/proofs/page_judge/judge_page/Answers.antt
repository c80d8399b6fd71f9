use Rattle.std.proofs.Common.{◌≡◌, ℕ, ◌-◌, ◌<◌, ◌%◌, List, sym, ◌∙◌, ap, arith}
use Rattle.std.specs.Prelude.{slice_index}
use Rattle.dmpaft_pump.proofs.PageJudgements.{is_for, not_for, before, not_before, again, ahead, no_page, not_checked}
use Rattle.dmpaft_pump.proofs.page_judge.judge_page.Goals as goal
use Rattle.dmpaft_pump.proofs.page_judge.judge_page.Goals.{else-k-gt0-via-then-k-gt0+else-sequence-sequence_of-2, else-k-gt0-via-else-k-gt0}

pub returns-then-sequence-sequence_of : goal.returns-then-sequence-sequence_of
returns-then-sequence-sequence_of c = (
  is_for c.args.k c.args.bytes.now c.told-bytes c.in-Good.ensures.1
      (ap (λ (x : List ℕ). slice_index x 0) (sym c.in-Good.ensures.0) ∙ sym c.sequence-sequence.ensures ∙ c.if-sequence-sequence_of.true ∙ c.sequence_of.ensures),
  c.in-Good.ensures.0,
)

pub returns-then-sequence-sequence_of-2 : goal.returns-then-sequence-sequence_of-2
returns-then-sequence-sequence_of-2 c =
    let e : slice_index c.args.bytes.now 0 ≡ c.sequence-sequence.result = ap (λ (x : List ℕ). slice_index x 0) (sym c.in-Good.ensures.0) ∙ sym c.sequence-sequence.ensures in
    again c.args.k c.args.bytes.now c.told-bytes c.in-Good.ensures.1 (λ q. c.if-sequence-sequence_of.false (sym e ∙ q ∙ sym c.sequence_of.ensures))
    (before c.args.k c.args.bytes.now c.told-bytes c.in-Good.ensures.1 c.if-k-gt0.true (e ∙ c.if-sequence-sequence_of-2.true ∙ c.sequence_of-then-k-gt0.ensures))

pub returns-in-BadCheck : goal.returns-in-BadCheck
returns-in-BadCheck c = no_page c.args.k c.args.bytes.now (not_checked c.args.bytes.now c.told-bytes c.in-BadCheck.ensures)

pub returns-else-k-gt0 : goal.returns-else-k-gt0
returns-else-k-gt0 c =
    let e : slice_index c.args.bytes.now 0 ≡ c.sequence-sequence.result = ap (λ (x : List ℕ). slice_index x 0) (sym c.in-Good.ensures.0) ∙ sym c.sequence-sequence.ensures in
    let other : slice_index c.args.bytes.now 0 ≡ c.args.k % 256 → ⊥ = λ q. c.if-sequence-sequence_of.false (sym e ∙ q ∙ sym c.sequence_of.ensures) in
    let nb : 0 < c.args.k → slice_index c.args.bytes.now 0 ≡ (c.args.k - 1) % 256 → ⊥ =
    elim c.else-k-gt0.branch [ else-k-gt0-via-then-k-gt0+else-sequence-sequence_of-2 w ↦ λ p q. w.if-sequence-sequence_of-2.false (sym e ∙ q ∙ sym w.sequence_of-then-k-gt0.ensures) | else-k-gt0-via-else-k-gt0 w ↦ λ p q. absurd (omega (arith, p, w.if-k-gt0.false)) ] in (
      not_for c.args.k c.args.bytes.now c.told-bytes c.in-Good.ensures.1 other,
      ahead c.args.k c.args.bytes.now c.told-bytes c.in-Good.ensures.1 other (not_before c.args.k c.args.bytes.now c.told-bytes c.in-Good.ensures.1 nb),
      sym e,
    )
