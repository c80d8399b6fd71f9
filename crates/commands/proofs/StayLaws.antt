-- Why `stay` ends.
use Rattle.std.proofs.Common.{◌≡◌, ◌≢◌, ℕ, zero, suc, ◌+◌, Bool, true, false, List, [], ◌∷◌, Ok, Err, inl, inr, refl, sym, ap, subst, ◌∙◌, arith}
use Rattle.std.specs.Prelude.{IfErr}
use Rattle.std.specs.declared.result.Result.{Result}
use Rattle.causes.specs.Cause.{Cause}
use Rattle.gated_log.specs.declared.start.Purpose.TheVariants.{Write}
use Rattle.serial_link.specs.Traffic.{Traffic}
use Rattle.serial_link.specs.declared.link.Side.TheVariants.{Call}
use Rattle.station_io.specs.Sink.{Outlet}
use Rattle.station_session.specs.declared.report.Report.{Report}
use Rattle.station_session.specs.declared.round_end.RoundEnd.{RoundEnd}
use Rattle.station_session.specs.declared.round_end.RoundEnd.TheVariants as round
use Rattle.command_words.specs.Command.{StationNames}
use Rattle.run_output.specs.Causes.{HasCauses}
use Rattle.run_output.specs.Ended.{EndsBy, IsOneOf, Lines, output_of}
use Rattle.run_output.specs.Output.{Output, led_by, link_fault, no_memory, write_fault}
use Rattle.run_output.specs.Outside.{Meanings, over_link}
use Rattle.run_output.specs.declared.outside.Outside.{Outside}
use Rattle.run_output.specs.declared.status.Status.{Status}
use Rattle.run_output.specs.declared.status.Status.TheVariants as ends
use Rattle.run_output.proofs.CallCauses.{IsQuiet, LinkCauses, attaches_causes, by_link, calls_causes, quiet_causes, settles_causes}
use Rattle.run_output.proofs.Causes.{Causes, none_well, same_count, then_causes}
use Rattle.commands.specs.Pause.{pauses_between}
use Rattle.commands.specs.StayRun.{Standing, give_ups_after, round_may_follow, puts, standing, stay_round, stayed, stayed_line, stays, stays_over, tells_round, where_done}
use Rattle.commands.proofs.RecoveryLaws.{recovers_causes}
use Rattle.commands.proofs.Rounds.{round_well}

-- what the telling of a round says of its faults
record TellsAs {S : Type 0} (outlet : Outlet S) (end : RoundEnd) (old : S) (answer : Result (Unit {0}) Output) (new : S) : Type 0 where
  no_read : ¬ (EndsBy ends.ReadFault answer)
  link : EndsBy ends.LinkFault answer → end ≡ round.LinkFault
  disk : EndsBy ends.DiskFault answer → end ≡ round.DiskFault
  no_disk : ¬ (EndsBy ends.DiskFault answer) → end ≢ round.DiskFault
  cause : Cause (outlet.faults old) (outlet.faults new) (EndsBy ends.WriteFault answer)
  still : ¬ (EndsBy ends.WriteFault answer) → outlet.faults new ≡ outlet.faults old

-- a write of lines tells no fault but its own
put_as : {S : Type 0} (outlet : Outlet S) (end : RoundEnd) (text : List ℕ) (old : S) (answer : Result (Unit {0}) Output) (new : S) → end ≢ round.DiskFault
    → puts outlet text old answer new → TellsAs outlet end old answer new
put_as {S} outlet end text old answer new other did =
    let none : (by : Result (Unit {0}) Output → Type 0) → ¬ (by (Ok tt)) → ¬ (by (Err write_fault)) → ¬ (by answer) =
    (λ by never nor is. elim did.written [
      | inl done ↦ never (subst by done.0 is)
      | inr fault ↦ nor (subst by fault.0 is)
    ]) in
    record {
      no_read = none (λ r. EndsBy ends.ReadFault r) (λ no. no) (λ is. cc);
      link = λ is. absurd (none (λ r. EndsBy ends.LinkFault r) (λ no. no) (λ is. cc) is);
      disk = λ is. absurd (none (λ r. EndsBy ends.DiskFault r) (λ no. no) (λ is. cc) is);
      no_disk = λ _. other;
      cause = did.cause;
      still = did.still;
    }

-- a last output that is given writes nothing
given_as : {S : Type 0} (outlet : Outlet S) (end : RoundEnd) (output : Output) (old : S) (answer : Result (Unit {0}) Output) (new : S)
    → output.status ≢ ends.ReadFault → output.status ≢ ends.WriteFault → (output.status ≡ ends.LinkFault → end ≡ round.LinkFault)
    → (output.status ≡ ends.DiskFault → end ≡ round.DiskFault) → (output.status ≢ ends.DiskFault → end ≢ round.DiskFault)
    → (answer ≡ Err output) × (new ≡ old) → TellsAs outlet end old answer new
given_as {S} outlet end output old answer new no_read no_write link disk no_disk did =
    subst (λ (n : S). TellsAs outlet end old answer n) (sym did.1) (subst (λ (r : Result (Unit {0}) Output). TellsAs outlet end old r old) (sym did.0) (record {
      no_read = no_read;
      link = link;
      disk = disk;
      no_disk = no_disk;
      cause = record { never_falls = omega arith; rose = λ is. absurd (no_write is) };
      still = λ _. refl;
    }))

-- the lines that are given of a round say of its faults what its end says
last_as : {S : Type 0} (outlet : Outlet S) (end : RoundEnd) (report : Report) (made : ℕ) (old : S) (answer : Result (Unit {0}) Output) (new : S)
    → tells_round false outlet end report made old answer new → TellsAs outlet end old answer new
last_as outlet round.LinkFault report made old answer new did =
    given_as outlet round.LinkFault _ old answer new (λ is. cc) (λ is. cc) (λ _. refl) (λ is. absurd cc) (λ _ is. cc) did
last_as outlet round.DiskFault report made old answer new did =
    given_as outlet round.DiskFault _ old answer new (λ is. cc) (λ is. cc) (λ is. absurd cc) (λ _. refl) (λ no _. no refl) did
last_as outlet end report made old answer new did =
    given_as outlet end _ old answer new (λ is. cc) (λ is. cc) (λ is. absurd cc) (λ is. absurd cc) (λ _ is. cc) did

none_on_disk : (end : RoundEnd) (give_ups : ℕ) → round_may_follow end give_ups ≡ true → end ≢ round.DiskFault
none_on_disk round.DiskFault give_ups follows = absurd cc
none_on_disk other give_ups follows = λ is. cc

told_as : {S : Type 0} (outlet : Outlet S) (follows : Bool) (end : RoundEnd) (give_ups : ℕ) (report : Report) (made : ℕ) (old : S) (answer : Result (Unit {0}) Output)
    (new : S) → round_may_follow end give_ups ≡ follows → tells_round follows outlet end report made old answer new → TellsAs outlet end old answer new
told_as outlet true end give_ups report made old answer new follows did = put_as outlet end _ old answer new (none_on_disk end give_ups follows) did
told_as outlet false end give_ups report made old answer new follows did = last_as outlet end report made old answer new did

-- what is given where the step was done ends the run as the step does
as_step : {A : Type 0} (a : A) (status : Status) (answer : Result (Unit {0}) Output) → EndsBy status (where_done a answer) → EndsBy status answer
as_step a status (Ok done) is = is
as_step a status (Err output) is = is

of_step : {A : Type 0} (a : A) (status : Status) (answer : Result (Unit {0}) Output) → EndsBy status answer → EndsBy status (where_done a answer)
of_step a status (Ok done) is = is
of_step a status (Err output) is = is

-- a round of a stay
pub stay_round_causes : {F K L D : Type 0} (m : Meanings F K L D) (made : ℕ) (began : Standing) → Causes m (stay_round m made began)
stay_round_causes {F} {K} {L} {D} m made began old new result did =
    let says = told_as m.outlet (round_may_follow did.end (give_ups_after did.end began.give_ups)) did.end (give_ups_after did.end began.give_ups) did.report made old.out
    did.answer new.out refl did.told in
    let to = λ (status : Status) (by : EndsBy status result). as_step _ status did.answer (subst (λ (r : Result Standing Output). EndsBy status r) did.given by) in
    let from = λ (status : Status) (by : EndsBy status did.answer). subst (λ (r : Result Standing Output). EndsBy status r) (sym did.given) (of_step _ status did.answer by) in
    subst (λ (w : Outside F K L D). HasCauses m old result w) (sym did.alone) (record {
      files = same_count (m.shelf.faults old.files) (λ by. says.no_read (to ends.ReadFault by));
      sink = record {
        cause = record { never_falls = says.cause.never_falls; rose = λ by. says.cause.rose (to ends.WriteFault by) };
        still = λ no _. says.still (λ by. no (from ends.WriteFault by));
      };
      link = record {
        never_falls = did.answers.fault.never_falls;
        rose = λ by. did.answers.fault.rose (says.link (to ends.LinkFault by));
      };
      disks = record {
        rose = λ by. inl (did.answers.disk_fault.rose (says.disk (to ends.DiskFault by)));
        disk_never_falls = did.answers.disk_fault.never_falls;
        second_never_falls = omega arith;
        disk_well = λ no _. round_well (says.no_disk (λ by. no (from ends.DiskFault by))) did.serves;
        second_well = λ _ _. none_well m.medium old.second;
      };
    })

-- what a pause ends with
pause_quiet : (lines : List ℕ) (output : Output) → IsOneOf (led_by lines link_fault ∷ led_by lines no_memory ∷ []) output
    → (output.status ≢ ends.ReadFault) × (output.status ≢ ends.WriteFault) × (output.status ≢ ends.DiskFault)
pause_quiet lines output is = elim is [
  | inl link ↦ (
    λ by. (let both : ends.LinkFault ≡ ends.ReadFault = sym (ap (λ (o : Output). o.status) link) ∙ by in cc),
    λ by. (let both : ends.LinkFault ≡ ends.WriteFault = sym (ap (λ (o : Output). o.status) link) ∙ by in cc),
    λ by. (let both : ends.LinkFault ≡ ends.DiskFault = sym (ap (λ (o : Output). o.status) link) ∙ by in cc),
  )
  | inr none ↦ (
    λ by. (let both : ends.OutOfMemory ≡ ends.ReadFault = sym (ap (λ (o : Output). o.status) none) ∙ by in cc),
    λ by. (let both : ends.OutOfMemory ≡ ends.WriteFault = sym (ap (λ (o : Output). o.status) none) ∙ by in cc),
    λ by. (let both : ends.OutOfMemory ≡ ends.DiskFault = sym (ap (λ (o : Output). o.status) none) ∙ by in cc),
  )
]

others_of : (lines : List ℕ) (result : Result (Unit {0}) Output) → IfErr result (λ output. IsOneOf (led_by lines link_fault ∷ led_by lines no_memory ∷ []) output)
    → ¬ (EndsBy ends.ReadFault result) × ¬ (EndsBy ends.WriteFault result) × ¬ (EndsBy ends.DiskFault result)
others_of lines (Ok done) is = (λ no. no, λ no. no, λ no. no)
others_of lines (Err output) is = pause_quiet lines output is

pause_fault : {L : Type 0} (traffic : Traffic L) (waits left : ℕ) (lines : List ℕ) (old new : L) (result : Result (Unit {0}) Output)
    → pauses_between traffic waits left lines old result new → LinkCauses traffic old result new
pause_fault {L} traffic waits zero lines old new result did =
    subst (λ (n : L). LinkCauses traffic old result n) (sym did.1) (subst (λ (r : Result (Unit {0}) Output). LinkCauses traffic old r old) (sym did.0) (record {
      fault = record { never_falls = omega arith; rose = λ no. absurd no };
      others = (λ no. no, λ no. no, λ no. no);
    }))
pause_fault traffic waits (suc left) lines old new result did = record { fault = did.talks.fault; others = others_of lines result did.ends_by }

pause_causes : {F K L D : Type 0} (m : Meanings F K L D) (waits left : ℕ) (lines : List ℕ) → Causes m (over_link (pauses_between m.traffic waits left lines))
pause_causes m waits left lines = by_link m (pauses_between m.traffic waits left lines) (λ old new result did. pause_fault m.traffic waits left lines old new result did)

want_quiet : {A : Type 0} (made : ℕ) (result : Result A Output) → IfErr result (λ output. output ≡ led_by (stayed_line made) no_memory) → IsQuiet result
want_quiet made (Ok a) is = record { no_read = λ no. no; no_write = λ no. no; no_link = λ no. no; no_disk = λ no. no }
want_quiet made (Err output) is = let status = ap (λ (o : Output). o.status) is in record {
  no_read = λ by. (let both : ends.OutOfMemory ≡ ends.ReadFault = sym status ∙ by in cc);
  no_write = λ by. (let both : ends.OutOfMemory ≡ ends.WriteFault = sym status ∙ by in cc);
  no_link = λ by. (let both : ends.OutOfMemory ≡ ends.LinkFault = sym status ∙ by in cc);
  no_disk = λ by. (let both : ends.OutOfMemory ≡ ends.DiskFault = sym status ∙ by in cc);
}

done_quiet : (made : ℕ) (result : Result Lines Output) → output_of result ≡ stayed made → IsQuiet result
done_quiet made (Ok text) is = record { no_read = λ no. no; no_write = λ no. no; no_link = λ no. no; no_disk = λ no. no }
done_quiet made (Err output) is = let status = ap (λ (o : Output). o.status) is in record {
  no_read = λ by. (let both : ends.Done ≡ ends.ReadFault = sym status ∙ by in cc);
  no_write = λ by. (let both : ends.Done ≡ ends.WriteFault = sym status ∙ by in cc);
  no_link = λ by. (let both : ends.Done ≡ ends.LinkFault = sym status ∙ by in cc);
  no_disk = λ by. (let both : ends.Done ≡ ends.DiskFault = sym status ∙ by in cc);
}

-- all rounds
pub stays_causes : {F K L D : Type 0} (m : Meanings F K L D) (waits left made : ℕ) (began : Standing) → Causes m (stays m waits left made began)
stays_causes m waits zero made began = λ old new result did. quiet_causes m old new result (done_quiet made result did.0) did.1
stays_causes m waits (suc left) made began =
    then_causes m _ _ (λ old new result did. quiet_causes m old new result (want_quiet made result did.0) did.1) (λ _.
    then_causes m _ _ (stay_round_causes m made began) (λ ended.
    then_causes m _ _ (pause_causes m waits left (stayed_line (made + 1))) (λ _.
    stays_causes m waits left (made + 1) ended)))

-- each fault that ends the command has a cause
pub stays_over_causes : {F K L D : Type 0} (m : Meanings F K L D) (names : StationNames) (rounds waits : ℕ) → Causes m (stays_over m names rounds waits)
stays_over_causes m names rounds waits =
    then_causes m _ _ (settles_causes m names.settings) (λ settings.
    then_causes m _ _ (attaches_causes m names.archive true) (λ _.
    then_causes m _ _ (recovers_causes m settings.most Write) (λ book.
    then_causes m _ _ (calls_causes m Call names.address) (λ _.
    λ old new result did. stays_causes m waits rounds 0 (standing did.session 0 did.rows) old new result did.goes))))
