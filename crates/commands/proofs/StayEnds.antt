-- What `stay` comes to by good input: under accepted settings an archive that may grow ends it by few statuses.
use Rattle.std.proofs.Common.{◌≡◌, ℕ, zero, suc, ◌+◌, Bool, true, false, List, [], ◌∷◌, Ok, Err, inl, inr, refl, ap, subst, ◌∙◌}
use Rattle.std.specs.Option.{IsSomeAnd}
use Rattle.std.specs.Prelude.{IfErr}
use Rattle.std.specs.declared.result.Result.{Result}
use Rattle.serial_link.specs.Traffic.{Traffic}
use Rattle.station_io.specs.Sink.{Outlet}
use Rattle.station_session.specs.declared.report.Report.{Report}
use Rattle.station_session.specs.declared.round_end.RoundEnd.{RoundEnd}
use Rattle.station_session.specs.declared.round_end.RoundEnd.TheVariants as round
use Rattle.command_words.specs.Command.{StationNames}
use Rattle.run_output.specs.Ended.{IsOneOf, Lines, output_of}
use Rattle.run_output.specs.Output.{Output}
use Rattle.run_output.specs.Outside.{Meanings}
use Rattle.run_output.specs.Reading.{SettingsAreAccepted}
use Rattle.run_output.specs.declared.outside.Outside.{Outside}
use Rattle.run_output.specs.declared.status.Status.{Status}
use Rattle.run_output.specs.declared.status.Status.TheVariants as ends
use Rattle.run_output.proofs.Behind.{then_has}
use Rattle.run_output.proofs.GoodFiles.{IsHindrance, accepted-settles}
use Rattle.run_output.proofs.Statuses.{attach_ends, call_ends}
use Rattle.commands.specs.Pause.{pauses_between}
use Rattle.commands.specs.StayRun.{MayGrow, Standing, give_ups_after, last_output, round_may_follow, standing, stays, stays_over, tells_round, where_done}
use Rattle.commands.proofs.CaughtUp.{IsSettled, recovers_rows}

-- all rounds were made, the line was dead, or the archive is full; or else a fault of the outside or want of memory ended it
abbrev pub stay_ends : List Status
stay_ends = ends.Done ∷ ends.Trouble ∷ ends.LinkFault ∷ ends.DiskFault ∷ ends.ReadFault ∷ ends.WriteFault ∷ ends.ArchiveFull ∷ ends.OutOfMemory ∷ []

abbrev pub IsStayEnd : Status → Type 0
IsStayEnd = IsOneOf stay_ends

settled_ends : (status : Status) → IsSettled status → IsStayEnd status
settled_ends status (inl done) = inl done
settled_ends status (inr (inl link)) = inr (inr (inl link))
settled_ends status (inr (inr (inl disk))) = inr (inr (inr (inl disk)))
settled_ends status (inr (inr (inr (inl read)))) = inr (inr (inr (inr (inl read))))
settled_ends status (inr (inr (inr (inr (inl write))))) = inr (inr (inr (inr (inr (inl write)))))
settled_ends status (inr (inr (inr (inr (inr short))))) = inr (inr (inr (inr (inr (inr (inr short))))))

short_ends : (status : Status) → status ≡ ends.OutOfMemory → IsStayEnd status
short_ends status is = inr (inr (inr (inr (inr (inr (inr is))))))

link_ends : (status : Status) → status ≡ ends.LinkFault → IsStayEnd status
link_ends status is = inr (inr (inl is))

hindered : (status : Status) → IsHindrance status → IsStayEnd status
hindered status (inl fault) = inr (inr (inr (inr (inl fault))))
hindered status (inr none) = short_ends status none

-- what is given of a round that no other follows
last_ends : (end : RoundEnd) (give_ups : ℕ) (report : Report) (made : ℕ) → round_may_follow end give_ups ≡ false → IsStayEnd (last_output end report made).status
last_ends round.Done give_ups report made last = absurd (let never : true ≡ false = last in cc)
last_ends round.Flood give_ups report made last = absurd (let never : true ≡ false = last in cc)
last_ends round.GaveUp give_ups report made last = inr (inl refl)
last_ends round.LinkFault give_ups report made last = link_ends ends.LinkFault refl
last_ends round.DiskFault give_ups report made last = inr (inr (inr (inl refl)))
last_ends round.ArchiveFull give_ups report made last = inr (inr (inr (inr (inr (inr (inl refl))))))
last_ends round.Stale give_ups report made last = short_ends ends.OutOfMemory refl
last_ends round.OutOfMemory give_ups report made last = short_ends ends.OutOfMemory refl

told_ends : {S : Type 0} (outlet : Outlet S) (follows : Bool) (end : RoundEnd) (give_ups : ℕ) (report : Report) (made : ℕ) (old : S) (answer : Result (Unit {0}) Output)
    (new : S) → round_may_follow end give_ups ≡ follows → tells_round follows outlet end report made old answer new → IfErr answer (λ output. IsStayEnd output.status)
told_ends outlet true end give_ups report made old answer new is did = elim did.written [
  | inl done ↦ rw done.0 tt
  | inr fault ↦ rw fault.0 (inr (inr (inr (inr (inr (inl refl))))))
]
told_ends outlet false end give_ups report made old answer new is did = rw did.0 (last_ends end give_ups report made is)

given_ends : {A : Type 0} (a : A) (output : Output) (answer : Result (Unit {0}) Output) → ◌≡◌ {A = Result A Output} (Err output) (where_done a answer)
    → IfErr answer (λ o. IsStayEnd o.status) → IsStayEnd output.status
given_ends a output (Ok done) is end = cc
given_ends a output (Err other) is end = subst (λ (o : Output). IsStayEnd o.status) (let same : other ≡ output = cc in same) end

pause_ends : {L : Type 0} (traffic : Traffic L) (waits left : ℕ) (lines : List ℕ) (old new : L) (output : Output) → pauses_between traffic waits left lines old (Err output) new
    → IsStayEnd output.status
pause_ends traffic waits zero lines old new output did = cc
pause_ends traffic waits (suc left) lines old new output did = elim did.ends_by [
  | inl link ↦ link_ends output.status (ap (λ (o : Output). o.status) link)
  | inr none ↦ short_ends output.status (ap (λ (o : Output). o.status) none)
]

rounds_end : {F K L D : Type 0} (m : Meanings F K L D) (waits left made : ℕ) (began : Standing) (old new : Outside F K L D) (result : Result Lines Output)
    → stays m waits left made began old result new → IsStayEnd (output_of result).status
rounds_end m waits zero made began old new result did = rw did.0 (inl refl)
rounds_end {F} {K} {L} {D} m waits (suc left) made began old new result did =
    let Q : Result Lines Output → Type 0 = λ result. IsStayEnd (output_of result).status in
    then_has Q _ _ old new result
    (λ output w one. short_ends output.status (ap (λ (o : Output). o.status) one.0))
    (λ _ ready one. then_has Q _ _ ready new result
    (λ output w two. given_ends _ output two.answer two.given
    (told_ends m.outlet (round_may_follow two.end (give_ups_after two.end began.give_ups)) two.end (give_ups_after two.end began.give_ups) two.report made ready.out two.answer w.out
    refl two.told))
    (λ later told two. then_has Q _ _ told new result
    (λ output w three. pause_ends m.traffic waits left _ told.link w.link output three.0)
    (λ _ paused three more. rounds_end m waits left (made + 1) later paused new result more)))
    did

-- Under accepted settings, over an archive that may grow, a stay ends by one of these statuses, whatever its line brings.
pub stays_over_ends : {F K L D : Type 0} (m : Meanings F K L D) (names : StationNames) (rounds waits : ℕ) (old new : Outside F K L D) (ended : Result Lines Output)
    → IsSomeAnd (m.shelf.held old.files names.settings) SettingsAreAccepted → MayGrow m.medium old.disk
    → stays_over m names rounds waits old ended new → IsStayEnd (output_of ended).status
stays_over_ends {F} {K} {L} {D} m names rounds waits old new ended good grows did =
    let Q : Result Lines Output → Type 0 = λ result. IsStayEnd (output_of result).status in
    then_has Q _ _ old new ended
    (λ output w one. hindered output.status (accepted-settles m.shelf names.settings old.files w.files (Err output) good one.0))
    (λ settings settled one. then_has Q _ _ settled new ended
    (λ output w two. inr (inr (inr (inl (attach_ends m.medium names.archive true settled.disk w.disk output two.0)))))
    (λ _ attached two. let seen = two.0.did.stays.reads ∙ ap (λ (w : Outside F K L D). m.medium.seen w.disk) one.1 in
    then_has Q _ _ attached new ended
    (λ output w three. settled_ends output.status (recovers_rows grows.0 (m.medium.seen old.disk) seen grows.1 three.0))
    (λ book opened three. then_has Q _ _ opened new ended
    (λ output w four. link_ends output.status (call_ends _ _ _ _ _ output four.0))
    (λ _ called four five. rounds_end m waits rounds 0 (standing five.session 0 five.rows) called new ended five.goes))))
    did
