-- What the telling of a round says of its end.
use Rattle.std.proofs.Common.{◌≡◌, ◌≢◌, ℕ, ◌+◌, ◌<◌, ◌++◌, Bool, true, false, List, Ok, Err, refl, sym, subst, ◌∙◌, arith, nat_lt}
use Rattle.std.proofs.lemmas.Bool.Decides.{nat_tests}
use Rattle.std.specs.declared.result.Result.{Result}
use Rattle.causes.specs.declared.stored.Stored.TheVariants as stored
use Rattle.station_io.specs.Sink.{Outlet}
use Rattle.station_session.specs.Round.{answer_by}
use Rattle.station_session.specs.declared.report.Report.{Report}
use Rattle.station_session.specs.declared.round_end.RoundEnd.{RoundEnd}
use Rattle.station_session.specs.declared.round_end.RoundEnd.TheVariants as round
use Rattle.run_output.specs.Output.{Output}
use Rattle.run_output.specs.declared.status.Status.{Status}
use Rattle.commands.specs.StationRun.{end_output, round_lines}
use Rattle.commands.specs.StayRun.{give_ups_after, last_output, round_may_follow, most_give_ups, puts, stayed_line, tells_round}

-- the lines of a round that another may follow are written
pub written : {S : Type 0} (outlet : Outlet S) (end : RoundEnd) (give_ups : ℕ) (report : Report) (made : ℕ) (old new : S) (text : List ℕ)
    (result : Result (Unit {0}) Output) → round_may_follow end give_ups ≡ true → text ≡ round_lines end report → puts outlet text old result new
    → tells_round (round_may_follow end give_ups) outlet end report made old result new
written outlet end give_ups report made old new text result follows is did =
    subst (λ (b : Bool). tells_round b outlet end report made old result new) (sym follows)
    (subst (λ (t : List ℕ). puts outlet t old result new) is did)

told_last : (end : RoundEnd) (report : Report) (made : ℕ) (text : List ℕ) (status : Status) → end ≢ round.Stale → end ≢ round.OutOfMemory
    → text ≡ round_lines end report ++ (stayed_line (made + 1) ++ (end_output end).text) → status ≡ (end_output end).status
    → ◌≡◌ {A = Output} (record { text = text; status = status }) (last_output end report made)
told_last round.Stale report made text status fresh memory text_is status_is = absurd (fresh refl)
told_last round.OutOfMemory report made text status fresh memory text_is status_is = absurd (memory refl)
told_last end report made text status fresh memory text_is status_is = rw text_is (rw status_is refl)

-- those of another round are given
pub given : {S : Type 0} (outlet : Outlet S) (end : RoundEnd) (give_ups : ℕ) (report : Report) (made : ℕ) (out : S) (text : List ℕ) (status : Status)
    (output : Output) → round_may_follow end give_ups ≡ false → end ≢ round.Stale → end ≢ round.OutOfMemory
    → text ≡ round_lines end report ++ (stayed_line (made + 1) ++ (end_output end).text) → status ≡ (end_output end).status
    → output ≡ record { text = text; status = status } → tells_round (round_may_follow end give_ups) outlet end report made out (Err output) out
given outlet end give_ups report made out text status output ends fresh memory text_is status_is is =
    subst (λ (b : Bool). tells_round b outlet end report made out (Err output) out) (sym ends)
    (let same : output ≡ last_output end report made = is ∙ told_last end report made text status fresh memory text_is status_is in
    (subst (λ (o : Output). ◌≡◌ {A = Result (Unit {0}) Output} (Err output) (Err o)) same refl, refl))

-- a round whose lines were written is one that another may follow
pub followed : {S : Type 0} (outlet : Outlet S) (follows : Bool) (end : RoundEnd) (report : Report) (made : ℕ) (old new : S) (result : Result (Unit {0}) Output)
    → tells_round follows outlet end report made old result new → result ≡ Ok tt → follows ≡ true
followed outlet true end report made old new result did is = refl
followed outlet false end report made old new result did is = absurd (let bad : Ok tt ≡ Err (last_output end report made) = sym is ∙ did.0 in cc)

lt_of : (m n : ℕ) → nat_lt m n ≡ true → m < n
lt_of m n test = grind (arith, nat_tests)

-- fewer rounds in a row gave up than end a stay
pub few_followed : (end : RoundEnd) (before give_ups : ℕ) → give_ups ≡ give_ups_after end before → round_may_follow end give_ups ≡ true → give_ups < most_give_ups
few_followed round.Done before give_ups is follows = omega (arith, is)
few_followed round.GaveUp before give_ups is follows = (let few : nat_lt give_ups most_give_ups ≡ true = follows in lt_of give_ups most_give_ups few)
few_followed round.Flood before give_ups is follows = omega (arith, is)
few_followed other before give_ups is follows = omega (arith, is)

-- it met no fault of the disk
pub none_met : (end : RoundEnd) (give_ups : ℕ) → round_may_follow end give_ups ≡ true → answer_by end ≡ stored.Done
none_met round.Done give_ups follows = refl
none_met round.GaveUp give_ups follows = refl
none_met round.Flood give_ups follows = refl
none_met round.ArchiveFull give_ups follows = absurd cc
none_met round.LinkFault give_ups follows = refl
none_met round.DiskFault give_ups follows = absurd cc
none_met round.Stale give_ups follows = refl
none_met round.OutOfMemory give_ups follows = refl
