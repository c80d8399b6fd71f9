-- Why `station` ends, and what good input comes to.
use Rattle.std.proofs.Common.{true, Err, ap, ◌∙◌, inl, inr}
use Rattle.std.specs.Option.{IsSomeAnd}
use Rattle.std.specs.declared.result.Result.{Result}
use Rattle.gated_log.specs.declared.start.Purpose.TheVariants.{Write}
use Rattle.serial_link.specs.declared.link.Side.TheVariants.{Call}
use Rattle.command_words.specs.Command.{StationNames}
use Rattle.run_output.specs.Ended.{Lines, output_of}
use Rattle.run_output.specs.Output.{Output}
use Rattle.run_output.specs.Outside.{Meanings}
use Rattle.run_output.specs.Reading.{SettingsAreAccepted}
use Rattle.run_output.specs.declared.outside.Outside.{Outside}
use Rattle.run_output.specs.declared.status.Status.{Status}
use Rattle.run_output.proofs.Behind.{then_has}
use Rattle.run_output.proofs.CallCauses.{attaches_causes, calls_causes, memory_quiet, quiet_causes, settles_causes}
use Rattle.run_output.proofs.Causes.{Causes, then_causes}
use Rattle.run_output.proofs.GoodFiles.{IsHindrance, accepted-settles}
use Rattle.run_output.proofs.Statuses.{attach_ends, call_ends}
use Rattle.commands.specs.StationRun.{ShowsCaughtUp, catches_up, has_report}
use Rattle.commands.proofs.CaughtUp.{IsSettled, recovers_rows, rounds_settled}
use Rattle.commands.proofs.RecoveryLaws.{recovers_causes}
use Rattle.commands.proofs.Rounds.{rounds_causes}

report_causes : {F K L D : Type 0} (m : Meanings F K L D) → Causes m has_report
report_causes m old new result did = quiet_causes m old new result (memory_quiet result did.1) did.2

hindered : (status : Status) → IsHindrance status → IsSettled status
hindered status (inl fault) = inr (inr (inr (inl fault)))
hindered status (inr none) = inr (inr (inr (inr (inr none))))

-- each fault that ends the command has a cause
pub catches_up_causes : {F K L D : Type 0} (m : Meanings F K L D) (names : StationNames) → Causes m (catches_up m names)
catches_up_causes m names =
    then_causes m _ _ (settles_causes m names.settings) (λ settings.
    then_causes m _ _ (attaches_causes m names.archive true) (λ _.
    then_causes m _ _ (recovers_causes m settings.most Write) (λ book.
    then_causes m _ _ (report_causes m) (λ _.
    then_causes m _ _ (calls_causes m Call names.address) (λ _.
    rounds_causes m settings book)))))

-- Under accepted settings an archive that may grow is brought up to date by a talk that shows it. Only a fault of the outside or want
-- of memory keeps it from that.
pub catches_up_complete : {F K L D : Type 0} (m : Meanings F K L D) (names : StationNames) (old new : Outside F K L D) (ended : Result Lines Output)
    → IsSomeAnd (m.shelf.held old.files names.settings) SettingsAreAccepted → ShowsCaughtUp m.traffic m.medium old.disk old.link new.link
    → catches_up m names old ended new → IsSettled (output_of ended).status
catches_up_complete {F} {K} {L} {D} m names old new ended good shown did =
    let Q : Result Lines Output → Type 0 = λ result. IsSettled (output_of result).status in
    then_has Q _ _ old new ended
    (λ output w one. hindered output.status (accepted-settles m.shelf names.settings old.files w.files (Err output) good one.0))
    (λ settings settled one. then_has Q _ _ settled new ended
    (λ output w two. inr (inr (inl (attach_ends m.medium names.archive true settled.disk w.disk output two.0))))
    (λ _ attached two. let seen = two.0.did.stays.reads ∙ ap (λ (w : Outside F K L D). m.medium.seen w.disk) one.1 in
    then_has Q _ _ attached new ended
    (λ output w three. recovers_rows shown.rows (m.medium.seen old.disk) seen shown.archive three.0)
    (λ book opened three. then_has Q _ _ opened new ended
    (λ output w four. inr (inr (inr (inr (inr (ap (λ (o : Output). o.status) four.1))))))
    (λ _ ready four. then_has Q _ _ ready new ended
    (λ output w five. inr (inl (call_ends _ _ _ _ _ output five.0)))
    (λ _ called five round.
    let talk = λ (w : Outside F K L D). m.traffic.talk w.link in
    rounds_settled (recovers_rows shown.rows (m.medium.seen old.disk) seen shown.archive three.0)
    (five.0.did.talk ∙ ap talk four.2 ∙ ap talk three.1 ∙ ap talk two.1 ∙ ap talk one.1) shown.talk round)))))
    did
