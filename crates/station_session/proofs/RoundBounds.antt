-- How many bytes a round hears and says.
use Rattle.std.proofs.Common.{◌≡◌, ℕ, ◌+◌, ◌-◌, ◌*◌, ◌≤◌, inl, inr, List, [], ◌∷◌, ◌++◌, sym, ◌∙◌, ap, subst, arith, Option}
use Rattle.disk_model.specs.Medium.{Medium}
use Rattle.serial_link.specs.Traffic.{Traffic}
use Rattle.serial_link.specs.Talk.{with_items}
use Rattle.serial_link.specs.declared.talk.TalkItem.{TalkItem}
use Rattle.station_base.specs.CivilMinute.{CivilMinute}
use Rattle.station_base.specs.declared.row.Row.{Row}
use Rattle.wake_retry.specs.Bounds.{IsBounded}
use Rattle.wake_retry.proofs.TalkBounds.{bounded_joins, bounded_within}
use Rattle.dmpaft_driver.proofs.AttemptBounds.{attempts_are_bounded}
use Rattle.station_session.specs.declared.report.Report.{Report}
use Rattle.station_session.specs.declared.round_end.RoundEnd.{RoundEnd}
use Rattle.station_session.specs.Attempts.{MadeAttempt, IsMadeAfter, AreAttempts, all_said, stamp_after, most_attempts}
use Rattle.station_session.specs.Bounds.{GrowsWithin}
use Rattle.station_session.specs.Round.{RoundHost, ServesRound}
use Rattle.dmpaft_driver.specs.Bounds.{most_heard, most_said}

-- the talk of so many attempts
abbrev AreBounded : ℕ → List TalkItem → Type 0
AreBounded count talk = IsBounded (most_heard * count) (most_said * count) talk

one_attempt : (last : Option CivilMinute) (t : MadeAttempt) → IsMadeAfter last t → IsBounded most_heard most_said t.said
one_attempt last t h = attempts_are_bounded last t.said t.place t.taken t.end h

none_after : (count : ℕ) → AreBounded count []
none_after count = record { hears = omega arith; says = omega arith }

-- one attempt before others
one_before : (count : ℕ) (s t : List TalkItem) → IsBounded most_heard most_said s → AreBounded count t → (more : ℕ) → count + 1 ≤ more → AreBounded more (s ++ t)
one_before count s t one others more few =
    bounded_within (most_heard + most_heard * count) (most_said + most_said * count) (most_heard * more) (most_said * more) (s ++ t) (omega (arith, few)) (omega (arith, few))
    (bounded_joins most_heard most_said (most_heard * count) (most_said * count) s t one others)

-- the attempts of a round from here, so many being made and so many left
attempts_bounded : (made left : ℕ) (last : Option CivilMinute) (tries : List MadeAttempt) (end : RoundEnd) → made + left ≡ most_attempts → AreAttempts made last tries end → AreBounded left (all_said tries)
attempts_bounded made left last [] end three h = none_after left
attempts_bounded made left last (t ∷ ts) end three (less, tried, inl (failed, more)) =
    let n : ℕ = left - 1 in
    one_before n t.said (all_said ts) (one_attempt last t tried) (attempts_bounded (made + 1) n (stamp_after last t) ts end (omega (arith, three, less)) more) left (omega (arith, three, less))
attempts_bounded made left last (t ∷ ts) end three (less, tried, inr (ends, none)) =
    subst (λ (x : List MadeAttempt). AreBounded left (t.said ++ all_said x)) (sym none)
    (one_before 0 t.said [] (one_attempt last t tried) (none_after 0) left (omega (arith, three, less)))

-- what one round adds to its link's talk
pub round_is_bounded : {L D : Type 0} (traffic : Traffic L) (medium : Medium D) (rows : List Row) (end : RoundEnd) (old new : RoundHost L D) (report : Report) → ServesRound traffic medium rows end old new report
    → GrowsWithin traffic (most_attempts * most_heard) (most_attempts * most_said) old.link new.link
round_is_bounded traffic medium rows end old new report s before told =
    (all_said s.tries, s.adds.told ∙ ap (with_items (all_said s.tries)) told, attempts_bounded 0 most_attempts _ s.tries end (omega arith) s.attempts)
