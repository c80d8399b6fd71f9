-- The causes of a run: those of its command, and of the write of its last lines.
use Rattle.std.proofs.Common.{◌≡◌, ◌≢◌, ◌⊎◌, ℕ, List, [], ◌∷◌, map, Ok, Err, inl, inr, refl, sym, ap, subst, ◌∙◌, arith}
use Rattle.std.specs.Prelude.{◌==◌, if◌then◌else◌}
use Rattle.std.specs.declared.result.Result.{Result}
use Rattle.causes.specs.Cause.{Cause, Rose}
use Rattle.run_output.specs.Causes.{FaultCauses, HasCausesBut}
use Rattle.run_output.specs.Ended.{EndsAmong, EndsBy, IsOneOf, Lines, output_of}
use Rattle.run_output.specs.Output.{RunFinishes, Output, code}
use Rattle.run_output.specs.Outside.{Meanings}
use Rattle.station_io.specs.Sink.{Outlet}
use Rattle.run_output.specs.declared.outside.Outside.{Outside}
use Rattle.run_output.specs.declared.status.Status.{Status}
use Rattle.run_output.specs.declared.status.Status.TheVariants as ends
use Rattle.run_output.proofs.Causes.{rose_before, rose_later}
use Rattle.run_output.proofs.Statuses.{ends_so, has_status}

-- What a run says of the outside, by the number that it ends with, where these statuses cut it off.
abbrev pub RunCauses : {F K L D : Type 0} → Meanings F K L D → List Status → Outside F K L D → Outside F K L D → ℕ → Type 0
RunCauses m cuts old new result =
    FaultCauses m old new (result ≡ 8) (result ≡ 9) (result ≡ 6) (result ≡ 7) (IsOneOf (map code cuts) result)

-- the status of a number
abbrev at : ℕ → Status
at n =
    if n == 1 then ends.Usage else
    if n == 2 then ends.BadSettings else
    if n == 3 then ends.BadSchedule else
    if n == 4 then ends.Trouble else
    if n == 5 then ends.Unseen else
    if n == 6 then ends.LinkFault else
    if n == 7 then ends.DiskFault else
    if n == 8 then ends.ReadFault else
    if n == 9 then ends.WriteFault else
    if n == 10 then ends.ArchiveFull else
    if n == 11 then ends.BadArchive else
    if n == 12 then ends.OutOfMemory else
    if n == 13 then ends.Flood else
    if n == 14 then ends.BadPage else
    if n == 15 then ends.TooLong else
    if n == 16 then ends.OldArchive else
    if n == 17 then ends.NotPrefix else
    if n == 18 then ends.BadEntry else
    if n == 19 then ends.BadRows else
    ends.Done

at_code : (status : Status) → at (code status) ≡ status
at_code ends.Done = refl
at_code other = refl

-- statuses of one number are one
pub same_code : (one other : Status) → code one ≡ code other → one ≡ other
same_code one other is = sym (at_code one) ∙ ap at is ∙ at_code other

is_write : (status : Status) → (status ≡ ends.WriteFault) ⊎ (status ≢ ends.WriteFault)
is_write ends.WriteFault = inl refl
is_write other = inr (λ e. cc)

-- a run that ends with another number than that of a write fault ends with the status of its output
pub same_status : {S : Type 0} (outlet : Outlet S) (old new : S) (output : Output) (status : Status) → RunFinishes (outlet.taken old) (outlet.taken new) output status
    → code status ≢ 9 → output.status ≡ status
same_status outlet old new output status (inl whole) other = sym whole.0
same_status outlet old new output status (inr part) other = absurd (other (ap code part.0))

-- what holds of the number of an output's status, and of that of a write fault, holds of the number that a run ends with
pub ends_within : {S : Type 0} (outlet : Outlet S) (old new : S) (output : Output) (status : Status) (P : ℕ → Type 0)
    → RunFinishes (outlet.taken old) (outlet.taken new) output status → P (code output.status) → P 9 → P (code status)
ends_within outlet old new output status P (inl whole) is nine = subst P (ap code (sym whole.0)) is
ends_within outlet old new output status P (inr part) is nine = subst P (ap code (sym part.0)) nine

-- so have the numbers of statuses
pub numbered : (statuses : List Status) (status : Status) → IsOneOf statuses status → IsOneOf (map code statuses) (code status)
numbered [] status is = is
numbered (one ∷ []) status is = ap code is
numbered (one ∷ next ∷ more) status (inl is) = inl (ap code is)
numbered (one ∷ next ∷ more) status (inr is) = inr (numbered (next ∷ more) status is)

among_status : (statuses : List Status) (ended : Result Lines Output) → EndsAmong statuses ended → IsOneOf statuses (output_of ended).status
among_status statuses (Ok text) is = absurd is
among_status statuses (Err output) is = is

module _ {F K L D : Type 0} (m : Meanings F K L D) (old mid new : Outside F K L D) (ended : Result Lines Output) (status : Status)
    (cuts : List Status) (nine : IsOneOf (map code cuts) 9) (has : HasCausesBut m (EndsAmong cuts ended) old ended mid) (alone : new ≡ record mid { out = new.out })
    (finishes : RunFinishes (m.outlet.taken mid.out) (m.outlet.taken new.out) (output_of ended) status)
    (cause : Cause (m.outlet.faults mid.out) (m.outlet.faults new.out) (status ≢ (output_of ended).status))
    (still : status ≢ ends.WriteFault → m.outlet.faults new.out ≡ m.outlet.faults mid.out) where
  -- the run ended with the number of this status, so the command was ended by it
  pub by : (fault : Status) → fault ≢ ends.Done → code fault ≢ 9 → code status ≡ code fault → EndsBy fault ended
  by fault other write is = ends_so fault ended (output_of ended) refl other
      (same_status m.outlet mid.out new.out (output_of ended) status finishes (λ nine. write (sym is ∙ nine)) ∙ same_code status fault is)

  -- it did not, nor with that of a write fault, so the command was not
  not_by : (fault : Status) → code status ≢ code fault → code status ≢ 9 → ¬ (EndsBy fault ended)
  not_by fault other write is =
      other (ap code (sym (same_status m.outlet mid.out new.out (output_of ended) status finishes write) ∙ has_status fault ended (output_of ended) refl is))

  written : (status ≡ ends.WriteFault) → Rose (m.outlet.faults old.out) (m.outlet.faults new.out)
  written is = elim (is_write (output_of ended).status) [
    | inl by ↦ rose_before _ _ _ (has.sink.cause.rose (ends_so ends.WriteFault ended (output_of ended) refl (λ e. cc) by)) cause.never_falls
    | inr other ↦ rose_later _ _ _ has.sink.cause.never_falls (cause.rose (λ same. other (sym same ∙ is)))
  ]

  uncut : ¬ (IsOneOf (map code cuts) (code status)) → ¬ (EndsAmong cuts ended)
  uncut never is = never (ends_within m.outlet mid.out new.out (output_of ended) status (IsOneOf (map code cuts)) finishes
      (numbered cuts (output_of ended).status (among_status cuts ended is)) nine)

  not_nine : ¬ (IsOneOf (map code cuts) (code status)) → code status ≢ 9
  not_nine never is = never (subst (IsOneOf (map code cuts)) (sym is) nine)

  run_causes_mid : RunCauses m cuts old (record mid { out = new.out }) (code status)
  run_causes_mid = record {
    files = record {
      cause = record { never_falls = has.files.cause.never_falls; rose = λ is. has.files.cause.rose (by ends.ReadFault (λ e. cc) (λ e. cc) is) };
      still = λ read write. has.files.still (not_by ends.ReadFault read write) (not_by ends.WriteFault write write);
    };
    sink = record {
      cause = record {
        never_falls = omega (arith, has.sink.cause.never_falls, cause.never_falls);
        rose = λ is. written (same_code status ends.WriteFault is);
      };
      still = λ write _. still (λ is. write (ap code is)) ∙ has.sink.still (not_by ends.WriteFault write write) (not_by ends.WriteFault write write);
    };
    link = record { never_falls = has.link.never_falls; rose = λ is. has.link.rose (by ends.LinkFault (λ e. cc) (λ e. cc) is) };
    disks = record {
      rose = λ is. has.disks.rose (by ends.DiskFault (λ e. cc) (λ e. cc) is);
      disk_never_falls = has.disks.disk_never_falls;
      second_never_falls = has.disks.second_never_falls;
      disk_well = λ fault never. has.disks.disk_well (not_by ends.DiskFault fault (not_nine never)) (uncut never);
      second_well = λ fault never. has.disks.second_well (not_by ends.DiskFault fault (not_nine never)) (uncut never);
    };
  }

  -- the causes of a run whose command has causes
  pub run_causes : RunCauses m cuts old new (code status)
  run_causes = subst (λ (w : Outside F K L D). RunCauses m cuts old w (code status)) (sym alone) run_causes_mid
