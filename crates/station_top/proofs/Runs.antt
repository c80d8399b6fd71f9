-- What a run of the program comes to, by what its command did and the write of its last lines.
use Rattle.std.proofs.Common.{◌≡◌, ◌≢◌, ℕ, List, [], ◌∷◌, Some, None, Err, inl, inr, refl, sym, ap, subst, map, ◌∙◌}
use Rattle.std.specs.Prelude.{IfNone, IfSome}
use Rattle.std.specs.declared.option.Option.{Option}
use Rattle.std.specs.declared.result.Result.{Result}
use Rattle.causes.specs.Cause.{Cause}
use Rattle.command_words.specs.Command.{CommandLine, pages, corrected_pages, soft, task, report, climate, serve, replay, copy, import, station, stay, console, fleet, make}
use Rattle.commands.specs.StationRun.{ShowsCaughtUp}
use Rattle.commands.specs.Style.{short}
use Rattle.commands.specs.TaskRun.{ShowsDone}
use Rattle.commands.proofs.CaughtUp.{settled}
use Rattle.commands.proofs.AnswerLaws.{answered_all, answers_over_complete}
use Rattle.commands.proofs.ClimateLaws.{tells_climate_complete}
use Rattle.commands.proofs.CopyLaws.{copies_on_complete}
use Rattle.commands.proofs.ImportLaws.{import_ends, imports_on_complete}
use Rattle.commands.proofs.PageLaws.{done_or_hindered, prints_corrected_complete, prints_file_complete}
use Rattle.commands.proofs.ReportLaws.{reported, reports_on_complete}
use Rattle.commands.proofs.SoftLaws.{prints_soft_complete}
use Rattle.commands.proofs.StationLaws.{catches_up_complete}
use Rattle.commands.proofs.StayEnds.{stay_ends, stays_over_ends}
use Rattle.commands.proofs.TaskLaws.{calls_for_done, calls_for_shortage}
use Rattle.model_commands.specs.ConsoleRun.{IsUntouchedOrShort}
use Rattle.model_commands.proofs.ConsoleLaws.{served, serves_files_complete, serves_files_shortage}
use Rattle.model_commands.proofs.FleetLaws.{fleets_complete}
use Rattle.model_commands.proofs.MakeLaws.{made, makes_run_complete}
use Rattle.model_commands.proofs.ReplayLaws.{replayed, replays_files_complete}
use Rattle.run_output.specs.Causes.{HasCauses, HasCausesBut}
use Rattle.run_output.specs.Ended.{EndsAmong, EndsBy, IsOneOf, Lines, output_of}
use Rattle.run_output.specs.Output.{RunEndsWith, RunFinishes, Output, code}
use Rattle.run_output.specs.Outside.{Meanings}
use Rattle.run_output.specs.declared.outside.Outside.{Outside}
use Rattle.run_output.specs.declared.status.Status.{Status}
use Rattle.run_output.specs.declared.status.Status.TheVariants as ends
use Rattle.run_output.proofs.Causes.{Causes, CausesBut, among, still}
use Rattle.run_output.proofs.RunCauses.{RunCauses, by, ends_within, numbered, run_causes}
use Rattle.station_top.specs.Run.{IsUsage, Performs, Promises, may_be_hidden, performs, performs_words, usage}
use Rattle.station_top.proofs.Commands.{performs_causes}

-- what is so of the command that the words spell is so if they spell one
pub if_spelled : (words : Option CommandLine) (P : CommandLine → Type 0) → ((command : CommandLine) → words ≡ Some command → P command) → IfSome words P
if_spelled None P each = tt
if_spelled (Some command) P each = each command refl

pub if_outside : (words : Option CommandLine) (P : Type 0) → (words ≡ None → P) → IfNone words P
if_outside None P none = none refl
if_outside (Some command) P none = tt

usage_causes : {F K L D : Type 0} (m : Meanings F K L D) → Causes m (performs_words m None)
usage_causes {F} {K} {L} {D} m old new result did =
    subst (λ (r : Result Lines Output). HasCauses m old r new) (sym did.0)
    (subst (λ (w : Outside F K L D). HasCauses m old (let r : Result Lines Output = Err usage in r) w) (sym did.1)
    (still {A = Lines} m old (Err usage) (λ e. cc) (λ e. cc) (λ e. cc) (λ e. cc)))

words_causes : {F K L D : Type 0} (m : Meanings F K L D) (words : Option CommandLine) → CausesBut m (EndsAmong (may_be_hidden words)) (performs_words m words)
words_causes m None = among m (ends.WriteFault ∷ []) _ refl (usage_causes m)
words_causes m (Some command) = performs_causes m command

-- a write fault may always hide one of a disk
hides_nine : (words : Option CommandLine) → IsOneOf (map code (may_be_hidden words)) 9
hides_nine None = refl
hides_nine (Some (serve archive address turns)) = inr (inl refl)
hides_nine (Some other) = refl

-- What the words did, and how their last lines were written.
pub record Ran {F K L D : Type 0} (m : Meanings F K L D) (words : Option CommandLine) (old new : Outside F K L D) (result : ℕ) : Type 0 where
  pub mid : Outside F K L D
  pub ended : Result Lines Output
  pub status : Status
  pub is : result ≡ code status
  pub did : performs_words m words old ended mid
  pub alone : new ≡ record mid { out = new.out }
  pub finishes : RunFinishes (m.outlet.taken mid.out) (m.outlet.taken new.out) (output_of ended) status
  pub cause : Cause (m.outlet.faults mid.out) (m.outlet.faults new.out) (status ≢ (output_of ended).status)
  pub sink : status ≢ ends.WriteFault → m.outlet.faults new.out ≡ m.outlet.faults mid.out

module _ {F K L D : Type 0} (m : Meanings F K L D) (words : Option CommandLine) (old new : Outside F K L D) (result : ℕ)
    (ran : Ran m words old new result) where
  has : HasCausesBut m (EndsAmong (may_be_hidden words) ran.ended) old ran.ended ran.mid
  has = words_causes m words old ran.mid ran.ended ran.did

  pub causes : RunCauses m (may_be_hidden words) old new result
  causes = subst (λ (n : ℕ). RunCauses m (may_be_hidden words) old new n) (sym ran.is)
      (run_causes m old ran.mid new ran.ended ran.status (may_be_hidden words) (hides_nine words) has ran.alone ran.finishes ran.cause ran.sink)

  link : new.link ≡ ran.mid.link
  link = ap (λ (w : Outside F K L D). w.link) ran.alone

  within : (statuses : List Status) → IsOneOf (map code statuses) 9 → IsOneOf statuses (output_of ran.ended).status → IsOneOf (map code statuses) result
  within statuses nine is = subst (IsOneOf (map code statuses)) (sym ran.is) (ends_within m.outlet ran.mid.out new.out (output_of ran.ended) ran.status
      (IsOneOf (map code statuses)) ran.finishes (numbered statuses (output_of ran.ended).status is) nine)

  short_of : result ≡ 12 → EndsBy ends.OutOfMemory ran.ended
  short_of twelve = by m old ran.mid new ran.ended ran.status (may_be_hidden words) (hides_nine words) has ran.alone ran.finishes ran.cause ran.sink ends.OutOfMemory (λ e. cc) (λ e. cc) (sym ran.is ∙ twelve)

  written : RunEndsWith m.outlet (output_of ran.ended) ran.mid.out new.out result
  written = record { status = ran.status; coded = sym ran.is; ends = ran.finishes }

  pub outside_words : words ≡ None → IsUsage m.outlet old new result
  outside_words none =
      let none_did = subst (λ (w : Option CommandLine). performs_words m w old ran.ended ran.mid) none ran.did in
      subst (λ (w : Outside F K L D). IsUsage m.outlet w new result) none_did.1
      (record { alone = ran.alone; written = subst (λ (r : Result Lines Output). RunEndsWith m.outlet (output_of r) ran.mid.out new.out result) none_did.0 written })

  promised : (command : CommandLine) → performs m command old ran.ended ran.mid → Promises m command old new result
  promised (pages file) did = λ good. within done_or_hindered (inr (inr (inl refl))) (prints_file_complete m short file old ran.mid ran.ended good did)
  promised (corrected_pages settings file) did = λ accepted good.
      within done_or_hindered (inr (inr (inl refl))) (prints_corrected_complete m settings file old ran.mid ran.ended accepted good did)
  promised (soft settings file) did = λ good.
      within done_or_hindered (inr (inr (inl refl))) (prints_soft_complete m settings file old ran.mid ran.ended good did)
  promised (task address asked) did =
      let cause = calls_for_shortage m address asked old ran.mid ran.ended did in
      record {
        done = λ shown. within (ends.Done ∷ ends.WriteFault ∷ []) (inr refl)
            (inl (calls_for_done m address asked old ran.mid ran.ended (subst (λ (l : L). ShowsDone m.traffic asked old.link l) link shown) did));
        shortage = subst (λ (l : L). Cause (m.traffic.shortages old.link) (m.traffic.shortages l) (result ≡ 12)) (sym link)
            (record { never_falls = cause.never_falls; rose = λ twelve. cause.rose (short_of twelve) });
      }
  promised (report archive wanted) did = λ good.
      within reported (inr (inr (inl refl))) (reports_on_complete m archive wanted old ran.mid ran.ended good did)
  promised (climate archive year) did = λ good.
      within reported (inr (inr (inl refl))) (tells_climate_complete m archive year old ran.mid ran.ended good did)
  promised (serve archive address turns) did = λ good.
      within answered_all (inr (inr (inr (inl refl)))) (answers_over_complete m archive address turns old ran.mid ran.ended good did)
  promised (replay settings schedule) did = λ good.
      within replayed (inr (inr (inr (inl refl)))) (replays_files_complete m settings schedule old ran.mid ran.ended good did)
  promised (copy from to) did = λ good. within reported (inr (inr (inl refl))) (copies_on_complete m from to old ran.mid ran.ended good did)
  promised (import rows archive) did = λ good grows. within import_ends (inr (inr (inr (inl refl))))
      (imports_on_complete m rows archive old ran.mid ran.ended good grows did)
  promised (station names) did = λ accepted shown. within settled (inr (inr (inr (inr (inl refl))))) (catches_up_complete m names old ran.mid ran.ended
      accepted (subst (λ (l : L). ShowsCaughtUp m.traffic m.medium old.disk old.link l) link shown) did)
  promised (stay names rounds waits) did = λ accepted grows. within stay_ends (inr (inr (inr (inr (inr (inl refl))))))
      (stays_over_ends m names rounds waits old ran.mid ran.ended accepted grows did)
  promised (console names) did = record {
    served = λ good. within served (inr (inr (inr (inl refl)))) (serves_files_complete m names old ran.mid ran.ended good did);
    shortage = λ twelve. subst (λ (l : L). IsUntouchedOrShort m.traffic old.link l) (sym link)
        (serves_files_shortage m names old ran.mid ran.ended did (short_of twelve));
  }
  promised (fleet names) did = λ good.
      within replayed (inr (inr (inr (inl refl)))) (fleets_complete m names old ran.mid ran.ended good did)
  promised (make seed records) did = within made (inr (inl refl)) (makes_run_complete m seed records old ran.mid ran.ended did)

  module _ (command : CommandLine) (spelled : words ≡ Some command) where
    performed : performs m command old ran.ended ran.mid
    performed = subst (λ (w : Option CommandLine). performs_words m w old ran.ended ran.mid) spelled ran.did

    pub done : Performs m command old new result
    done = record { ended = ran.ended; mid = ran.mid; did = performed; alone = ran.alone; written = written }

    pub keeps : Promises m command old new result
    keeps = promised command performed
