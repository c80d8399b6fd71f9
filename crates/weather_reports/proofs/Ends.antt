-- How a report ends, by what came of the text that waited.
use Rattle.std.proofs.Common.{◌≡◌, ◌≢◌, ◌⊎◌, ℕ, true, false, List, [], ◌++◌, Some, refl, sym, ap, subst, ⊎_elim}
use Rattle.std.specs.declared.option.Option.{Option}
use Rattle.std.specs.Io.KnownBytes.{Appends}
use Rattle.causes.specs.Lists.{IsFrontOf}
use Rattle.causes.specs.Written.{WritesPart}
use Rattle.weather_reports.specs.declared.end.ReportEnd.{ReportEnd}
use Rattle.weather_reports.specs.declared.end.ReportEnd.TheVariants.{Done, DiskFault, WriteFault}
use Rattle.weather_reports.specs.Reported.{AsFailed, Reports}
use Rattle.weather_reports.proofs.Behind.{part_behind}
use Rattle.weather_reports.proofs.Progress.{Comes, comes_front, comes_short, comes_whole}

-- what came of the writing of a text before an end
pub record Finishes (old new : Option (List ℕ)) (pending : List ℕ) (end result : ReportEnd) : Type 0 where
  pub done : result ≢ WriteFault → Appends old new pending
  pub failed : result ≡ WriteFault → WritesPart old new pending
  pub kind : (result ≡ end) ⊎ (result ≡ WriteFault)

-- what waited was written behind other bytes
pub finishes_behind : (before pending written : List ℕ) (end result : ReportEnd) → IsFrontOf written pending → (result ≢ WriteFault → written ≡ pending)
    → (result ≡ end) ⊎ (result ≡ WriteFault) → Finishes (Some before) (Some (before ++ written)) pending end result
finishes_behind before pending written end result front whole kind = record {
  done = λ no. ap (λ (text : List ℕ). before ++ text) (whole no);
  failed = λ _. part_behind before written pending front;
  kind = kind;
}

-- no lines were ahead
pub ends_whole : (old now new : Option (List ℕ)) (lines : List (List ℕ)) (pending : List ℕ) (result : ReportEnd) →
    Comes old now lines [] pending → Finishes now new pending Done result → Reports old new lines result
ends_whole old now new lines pending result before last =
    ⊎_elim (λ is. subst (λ (end : ReportEnd). Reports old new lines end) (sym is)
    (comes_whole old now new lines pending before (last.done (λ w. absurd cc))))
    (λ is. subst (λ (end : ReportEnd). Reports old new lines end) (sym is) (comes_short old now new lines [] pending before (last.failed is)))
    last.kind

-- a call of the disk failed
pub ends_early : (old now new : Option (List ℕ)) (lines ahead : List (List ℕ)) (pending : List ℕ) (result : ReportEnd) →
    Comes old now lines ahead pending → Finishes now new pending DiskFault result → Reports old new lines result
ends_early old now new lines ahead pending result before last =
    ⊎_elim (λ is. subst (λ (end : ReportEnd). Reports old new lines end) (sym is)
    (comes_front old now new lines ahead pending before (last.done (λ w. absurd cc))))
    (λ is. subst (λ (end : ReportEnd). Reports old new lines end) (sym is) (comes_short old now new lines ahead pending before (last.failed is)))
    last.kind

-- no read failed
pub none_failed : (result : ReportEnd) → (result ≡ Done) ⊎ (result ≡ WriteFault) → AsFailed result false
none_failed result kind =
    ⊎_elim (λ is. subst (λ (end : ReportEnd). AsFailed end false) (sym is) refl) (λ is. subst (λ (end : ReportEnd). AsFailed end false) (sym is) tt) kind

-- the last one failed
pub one_failed : (result : ReportEnd) → (result ≡ DiskFault) ⊎ (result ≡ WriteFault) → AsFailed result true
one_failed result kind =
    ⊎_elim (λ is. subst (λ (end : ReportEnd). AsFailed end true) (sym is) refl) (λ is. subst (λ (end : ReportEnd). AsFailed end true) (sym is) tt) kind
