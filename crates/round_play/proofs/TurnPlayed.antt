-- What one turn of a round of a run comes to.
use Rattle.std.proofs.Common.{◌≡◌, ℕ, inl, inr, Bool, true, false, List, [], ◌++◌, Option, Some, refl, ◌∙◌, ap, subst, append-nil}
use Rattle.disk_model.specs.Stopping.{stopping_medium, stopping_state_of}
use Rattle.disk_model.specs.declared.mem_disk.MemDisk.{MemDisk}
use Rattle.disk_model.specs.declared.stopping.Stopping.{Stopping}
use Rattle.serial_link.specs.declared.talk.TalkItem.{TalkItem}
use Rattle.station_base.specs.CivilMinute.{CivilMinute}
use Rattle.dmpaft_pump.specs.Keeper.{Handed, kept_all}
use Rattle.weather_book.specs.Book.{last_stamp_of}
use Rattle.station_session.specs.declared.round.Turn.{Turn}
use Rattle.station_session.specs.declared.round.Turn.TheVariants as turn
use Rattle.station_session.specs.declared.round_end.RoundEnd.{RoundEnd}
use Rattle.station_session.specs.Holding.{Holding, holding}
use Rattle.station_session.specs.OneBatch.{AddsBatch, Chain}
use Rattle.station_session.specs.Session.{session_settings}
use Rattle.station_session.specs.Turning.{AnswersTurn, RoundDesk, IsOneAtMost, IsOneCallOrBatch, LeavesTurn, RoundTakesTurn, round_desk}
use Rattle.station_session.specs.UnderWay.{GoesOnFrom}
use Rattle.station_session.proofs.LastTurn.{makes_round}
use Rattle.schedule_file.specs.declared.fates.Fates as code_fates
use Rattle.station_sim.specs.declared.sim.Sim.{Sim}
use Rattle.station_sim.specs.Telling.{sim_traffic}
use Rattle.schedule_file.specs.declared.schedule.step.Stop.{Stop}
use Rattle.round_play.specs.declared.playing.Playing.{Playing}
use Rattle.round_play.specs.Played.{PlayedHost}
use Rattle.round_play.specs.Restarting.{IsBegunAgain, IsDisarmed}
use Rattle.round_play.specs.Playing.{RoundIsOver, IsStill, RoundIsUnderWay, MakesOneCall, SaysOrStores}

abbrev pub desk_of : Playing → Sim → Stopping MemDisk → RoundDesk Sim (Stopping MemDisk)
desk_of playing line disk = round_desk playing.session line disk playing.round playing.report

-- it goes on
pub goes_on : (fates : code_fates.Fates) (stop : Option Stop) (old : PlayedHost) (playing now : Playing) (line line' : Sim) (disk disk' : Stopping MemDisk) (u : RoundIsUnderWay fates stop old playing line disk)
    → GoesOnFrom sim_traffic stopping_medium turn.More u.began u.talk u.kept (desk_of now line' disk') → RoundIsUnderWay fates stop old now line' disk'
goes_on fates stop old playing now line line' disk disk' u g = record {
  began = u.began;
  begins = u.begins;
  talk = u.talk ++ g.0;
  kept = u.kept ++ g.1;
  way = g.3;
}

-- it is over
pub is_over : (fates : code_fates.Fates) (stop : Option Stop) (old : PlayedHost) (end : RoundEnd) (playing now : Playing) (line line' : Sim) (disk disk' : Stopping MemDisk) (u : RoundIsUnderWay fates stop old playing line disk)
    → RoundTakesTurn sim_traffic stopping_medium (turn.Ended end) (last_stamp_of u.began.session.book) u.talk u.kept (desk_of playing line disk) (desk_of now line' disk')
    → AnswersTurn sim_traffic stopping_medium (turn.Ended end) (desk_of playing line disk) (desk_of now line' disk')
    → LeavesTurn stopping_medium (turn.Ended end) (desk_of playing line disk) (desk_of now line' disk')
    → RoundIsOver fates stop old end now.session now.report line' disk'
is_over fates stop old end playing now line line' disk disk' u t a l = record {
  began = u.began;
  begins = u.begins;
  makes = makes_round u.begins.same u.begins.settings u.way t a l;
  before = l.before ∙ u.way.in_step.before ∙ u.begins.same.len;
}

-- what a turn said and heard, and that a turn without a batch begins no change
talk_grew : (r : Turn) (last : Option CivilMinute) (talk : List TalkItem) (kept : List (List (List ℕ))) (playing now : Playing) (line line' : Sim) (disk disk' : Stopping MemDisk) (t : RoundTakesTurn sim_traffic stopping_medium r last talk kept (desk_of playing line disk) (desk_of now line' disk'))
    → line'.talk.items ≡ line.talk.items ++ t.said
talk_grew r last talk kept playing now line line' disk disk' t = let e : Some line'.talk.items ≡ Some (line.talk.items ++ t.said) = t.adds.told in cc

disk_still : (r : Turn) (last : Option CivilMinute) (talk : List TalkItem) (kept : List (List (List ℕ))) (playing now : Playing) (line line' : Sim) (disk disk' : Stopping MemDisk) (t : RoundTakesTurn sim_traffic stopping_medium r last talk kept (desk_of playing line disk) (desk_of now line' disk'))
    → t.given ≡ Handed.Nothing → stopping_medium.moment disk' ≡ stopping_medium.moment disk
disk_still r last talk kept playing now line line' disk disk' t none =
    let whole = subst (λ (g : Handed). Chain (AddsBatch stopping_medium (session_settings playing.session)) (holding playing.session.book disk playing.report.marks.items) g (holding now.session.book disk' now.report.marks.items)) none t.chain in
    ap (λ (h : Holding (Stopping MemDisk)). stopping_medium.moment h.disk) whole

silent_talk : (line line' : Sim) (said : List TalkItem) → line'.talk.items ≡ line.talk.items ++ said → said ≡ [] → line'.talk.items ≡ line.talk.items
silent_talk line line' said grew silent = grew ∙ ap (λ z. line.talk.items ++ z) silent ∙ append-nil line.talk.items

-- one call of the link or of the disk was made
pub one_call : (last : Option CivilMinute) (talk : List TalkItem) (kept : List (List (List ℕ))) (playing now : Playing) (line line' : Sim) (disk disk' : Stopping MemDisk)
    → RoundTakesTurn sim_traffic stopping_medium turn.More last talk kept (desk_of playing line disk) (desk_of now line' disk') → MakesOneCall line disk line' disk'
one_call last talk kept playing now line line' disk disk' t = by t.stands.3
  where
    grew : line'.talk.items ≡ line.talk.items ++ t.said
    grew = talk_grew turn.More last talk kept playing now line line' disk disk' t

    by : IsOneCallOrBatch t.said t.stands.0 → MakesOneCall line disk line' disk'
    by (inl (one, none)) = inl (t.said, one, grew, disk_still turn.More last talk kept playing now line line' disk disk' t (t.stands.1 ∙ ap kept_all none))
    by (inr (silent, rows, is)) = inr (silent_talk line line' t.said grew silent)

-- a turn says or hears, or stores a batch, and not both
pub says_or_stores : (r : Turn) (last : Option CivilMinute) (talk : List TalkItem) (kept : List (List (List ℕ))) (playing now : Playing) (line line' : Sim) (disk disk' : Stopping MemDisk)
    → RoundTakesTurn sim_traffic stopping_medium r last talk kept (desk_of playing line disk) (desk_of now line' disk') → SaysOrStores line disk line' disk'
says_or_stores turn.More last talk kept playing now line line' disk disk' t = by t.stands.3
  where
    by : IsOneCallOrBatch t.said t.stands.0 → SaysOrStores line disk line' disk'
    by (inl (one, none)) = inr (disk_still turn.More last talk kept playing now line line' disk disk' t (t.stands.1 ∙ ap kept_all none))
    by (inr (silent, rows, is)) = inl (silent_talk line line' t.said (talk_grew turn.More last talk kept playing now line line' disk disk' t) silent)
says_or_stores (turn.Ended end) last talk kept playing now line line' disk disk' t = by t.stands.1
  where
    by : IsOneAtMost t.said t.given → SaysOrStores line disk line' disk'
    by (inl none) = inr (disk_still (turn.Ended end) last talk kept playing now line line' disk disk' t none)
    by (inr (silent, answer, rows, is)) = inl (silent_talk line line' t.said (talk_grew (turn.Ended end) last talk kept playing now line line' disk disk' t) silent)

-- a disk that is made to rest begins no change
pub rest_still : (disk disk' : Stopping MemDisk) → ((stopping_state_of disk).stopped ≡ false → IsDisarmed disk disk') → ((stopping_state_of disk).stopped ≡ true → IsBegunAgain disk disk') → stopping_medium.moment disk' ≡ stopping_medium.moment disk
rest_still disk disk' went_on stopped = by (stopping_state_of disk).stopped refl
  where
    by : (b : Bool) → (stopping_state_of disk).stopped ≡ b → stopping_medium.moment disk' ≡ stopping_medium.moment disk
    by false e = (went_on e).stays.at
    by true e = (stopped e).moment

-- before and behind what was still
pub still_then : (line now next : Sim) (disk disk' disk'' : Stopping MemDisk) → IsStill line disk now disk' → SaysOrStores now disk' next disk'' → SaysOrStores line disk next disk''
still_then line now next disk disk' disk'' still (inl silent) = inl (silent ∙ still.0)
still_then line now next disk disk' disk'' still (inr moment) = inr (moment ∙ still.1)

pub then_still : (line now next : Sim) (disk disk' disk'' : Stopping MemDisk) → SaysOrStores line disk now disk' → IsStill now disk' next disk'' → SaysOrStores line disk next disk''
then_still line now next disk disk' disk'' (inl silent) still = inl (still.0 ∙ silent)
then_still line now next disk disk' disk'' (inr moment) still = inr (still.1 ∙ moment)

-- behind what was still
pub one_call_behind : (line now next : Sim) (disk disk' disk'' : Stopping MemDisk) → IsStill line disk now disk' → MakesOneCall now disk' next disk'' → MakesOneCall line disk next disk''
one_call_behind line now next disk disk' disk'' still (inl (said, one, grew, moment)) = inl (said, one, grew ∙ ap (λ z. z ++ said) still.0, moment ∙ still.1)
one_call_behind line now next disk disk' disk'' still (inr silent) = inr (silent ∙ still.0)
