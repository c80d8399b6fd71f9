-- One round of a stay, and those behind it.
use Rattle.std.proofs.Common.{◌≡◌, ℕ, suc, ◌+◌, Ok, Err, refl, sym, subst}
use Rattle.std.specs.declared.result.Result.{Result}
use Rattle.run_output.specs.Ended.{Lines}
use Rattle.run_output.specs.Output.{Output, led_by, no_memory}
use Rattle.run_output.specs.Outside.{Meanings, over_link}
use Rattle.run_output.specs.declared.outside.Outside.{Outside}
use Rattle.run_output.proofs.Behind.{ended, went_on}
use Rattle.commands.specs.Pause.{pauses_between}
use Rattle.commands.specs.StayRun.{Standing, stay_round, stayed_line, stays}

module _ {F K L D : Type 0} (m : Meanings F K L D) (waits : ℕ) where
  -- rounds of which the first went on
  pub further : (all left made : ℕ) (began later : Standing) (old mid rested new : Outside F K L D) (result : Result Lines Output) → all ≡ suc left
      → stay_round m made began old (Ok later) mid → over_link (pauses_between m.traffic waits left (stayed_line (made + 1))) mid (Ok tt) rested
      → stays m waits left (made + 1) later rested result new → stays m waits all made began old result new
  further all left made began later old mid rested new result is round rest more =
      subst (λ (n : ℕ). stays m waits n made began old result new) (sym is)
      (went_on _ _ old old new (Ok tt) result tt (tt, refl) refl
      (went_on _ _ old mid new (Ok later) result later round refl
      (went_on _ _ mid rested new (Ok tt) result tt rest refl more)))

  -- the pause behind the first failed
  pub pause_ends : (all left made : ℕ) (began later : Standing) (old mid new : Outside F K L D) (result : Result Lines Output) (output : Output) → all ≡ suc left
      → stay_round m made began old (Ok later) mid → over_link (pauses_between m.traffic waits left (stayed_line (made + 1))) mid (Err output) new → result ≡ Err output
      → stays m waits all made began old result new
  pause_ends all left made began later old mid new result output is round rest given =
      subst (λ (n : ℕ). stays m waits n made began old result new) (sym is)
      (went_on _ _ old old new (Ok tt) result tt (tt, refl) refl
      (went_on _ _ old mid new (Ok later) result later round refl
      (ended _ _ mid new (Err output) result output rest refl given)))

  -- the first ended the run
  pub round_ends : (all left made : ℕ) (began : Standing) (old new : Outside F K L D) (result : Result Lines Output) (output : Output) → all ≡ suc left
      → stay_round m made began old (Err output) new → result ≡ Err output → stays m waits all made began old result new
  round_ends all left made began old new result output is round given =
      subst (λ (n : ℕ). stays m waits n made began old result new) (sym is)
      (went_on _ _ old old new (Ok tt) result tt (tt, refl) refl
      (ended _ _ old new (Err output) result output round refl given))

  -- there was no memory for a report
  pub report_ends : (all left made : ℕ) (began : Standing) (old : Outside F K L D) (result : Result Lines Output) (output : Output) → all ≡ suc left
      → output ≡ led_by (stayed_line made) no_memory → result ≡ Err output → stays m waits all made began old result old
  report_ends all left made began old result output is none given =
      subst (λ (n : ℕ). stays m waits n made began old result old) (sym is)
      (ended _ _ old old (Err output) result output (none, refl) refl given)
