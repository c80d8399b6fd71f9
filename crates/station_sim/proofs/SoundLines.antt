-- A line stays sound, whatever is said and heard.
use Rattle.std.proofs.Common.{◌≡◌, ℕ, zero, suc, ◌+◌, inl, inr, Bool, true, false, if◌then◌else◌, List, [], ◌∷◌, ◌++◌, Option, Some, None, refl, sym, ap, subst}
use Rattle.std.proofs.lemmas.Option.{same_Some}
use Rattle.std.specs.Prelude.{◌==◌}
use Rattle.station_base.specs.CivilMinute.{CivilMinute}
use Rattle.archive_record.specs.Record.{IsRecord, ReadsAsRow}
use Rattle.archive_record.proofs.Rows.{stamp_some}
use Rattle.console_model.specs.declared.reply.ReplyKind.{ReplyKind}
use Rattle.console_model.specs.declared.reply.ReplyKind.TheVariants.{Nothing, Code, Test, Wake, Ack, AckFrame, Page, Packet}
use Rattle.console_model.specs.Console.{Console, Outcome}
use Rattle.console_model.specs.Due.{due, due_by, in_the_way}
use Rattle.console_model.specs.Hear.{hear}
use Rattle.console_model.specs.Laws.{records_of, KeepsRecords}
use Rattle.console_model.specs.Tick.{tick, idled}
use Rattle.console_model.specs.Valid.{IsValid, EachFollows}
use Rattle.console_model.proofs.RecordsBehind.{each_more}
use Rattle.console_model.proofs.KeptByEvents.{due_records, tick_records}
use Rattle.console_model.proofs.Plainly.{hear_keeps}
use Rattle.console_model.proofs.ValidConsoles.{hear_valid, tick_valid, due_valid, can_follow}
use Rattle.serial_link.specs.declared.talk.TalkItem.{TalkItem}
use Rattle.serial_link.specs.declared.talk.TalkItem.TheVariants.{Said, Heard, Quiet}
use Rattle.station_sim.specs.declared.part.Part.{Part}
use Rattle.station_sim.specs.declared.part.Part.TheVariants.{Byte, Wait}
use Rattle.schedule_file.specs.Fates.{FatesByNumber}
use Rattle.station_sim.specs.Delivery.{delivered}
use Rattle.station_sim.specs.Line.{Line, flies, happens, joins, hears, due_all, message_counted, says_byte}
use Rattle.station_sim.specs.Talk.{line_step, console_talk, hearing, waiting, ConsoleTalk, idles}
use Rattle.station_sim.specs.Sound.{AreRecords, IsSound, AreSound}
use Rattle.station_sim.specs.Joining.{and_then_some}

-- the same of a console
pub record IsWell (c : Console) : Type 0 where
  pub valid : IsValid c
  pub rises : EachFollows [] (records_of c)
  pub records : AreRecords (records_of c)

pub records_more : (rs : List (List ℕ)) (r : List ℕ) → AreRecords rs → IsRecord r → ReadsAsRow r → AreRecords (rs ++ r ∷ [])
records_more [] r ok size row = (size, row, tt)
records_more (x ∷ rs) r ok size row = (ok.0, ok.1, records_more rs r ok.2 size row)

pub records_front : (rs ss : List (List ℕ)) → AreRecords (rs ++ ss) → AreRecords rs
records_front [] ss ok = tt
records_front (x ∷ rs) ss ok = (ok.0, ok.1, records_front rs ss ok.2)

well_same : (c d : Console) → IsValid d → records_of d ≡ records_of c → IsWell c → IsWell d
well_same c d valid same well = record { valid = valid; rises = subst (EachFollows []) (sym same) well.rises; records = subst AreRecords (sym same) well.records }

well_none : (d : Console) → IsValid d → records_of d ≡ [] → IsWell d
well_none d valid none = record { valid = valid; rises = subst (EachFollows []) (sym none) tt; records = subst AreRecords (sym none) tt }

pub well_heard : (c : Console) (b : ℕ) → IsWell c → IsWell (hear c b).next
well_heard c b well = go (hear_keeps c b well.valid)
  where
    go : KeepsRecords c b (hear c b) → IsWell (hear c b).next
    go (inl same) = well_same c (hear c b).next (hear_valid c b well.valid) same well
    go (inr emptied) = well_none (hear c b).next (hear_valid c b well.valid) emptied.1

pub well_ticked : (c : Console) → IsWell c → IsWell (tick c).next
well_ticked c well = well_same c (tick c).next (tick_valid c well.valid) (tick_records c.state _ _ _ (idled c)) well

pub well_due : (r : List ℕ) (c : Console) → IsRecord r → ReadsAsRow r → IsWell c → IsWell (due r c)
well_due r c size row well = by_way (in_the_way r c) refl
  where
    by_way : (way : Option CivilMinute) → in_the_way r c ≡ way → IsWell (due_by way r c)
    by_way None free =
        let same : due_by None r c ≡ due r c = ap (λ (w : Option CivilMinute). due_by w r c) (sym free) in
        let is = due_records c.state r c well.valid.tidy in
        record {
          valid = subst IsValid (sym same) (due_valid r c (stamp_some r row) well.valid);
          rises = subst (EachFollows []) (sym is) (each_more [] (records_of c) r well.rises (can_follow r c (stamp_some r row) free));
          records = subst AreRecords (sym is) (records_more (records_of c) r well.records size row);
        }
    by_way (Some newest) free = well

pub well_due_all : (rs : List (List ℕ)) (c : Console) → AreRecords rs → IsWell c → IsWell (due_all rs c)
well_due_all [] c ok well = well
well_due_all (r ∷ rs) c ok well = well_due_all rs (due r c) ok.2 (well_due r c ok.0 ok.1 well)

-- what an event makes of the line's console
pub console_joins : (k : ReplyKind) (f : FatesByNumber) (o : Outcome) (w : Line) → (joins k f o w).console ≡ o.next
console_joins Nothing f o w = refl
console_joins Code f o w = refl
console_joins Wake f o w = refl
console_joins Test f o w = refl
console_joins Ack f o w = refl
console_joins AckFrame f o w = refl
console_joins Page f o w = refl
console_joins Packet f o w = refl

pub well_happens : (f : FatesByNumber) (o : Outcome) (w : Line) → IsWell o.next → IsWell (happens f o w).console
well_happens f o w well = subst IsWell (sym (console_joins o.kind f o w)) well

pub well_hears : (f : FatesByNumber) (got : List ℕ) (w : Line) → IsWell w.console → IsWell (hears f got w).console
well_hears f [] w well = well
well_hears f (b ∷ got) w well = well_hears f got (happens f (hear w.console b) w) (well_happens f (hear w.console b) w (well_heard w.console b well))

pub well_says : (f : FatesByNumber) → AreSound f → (b : ℕ) (ends : Bool) (w : Line) → IsWell w.console → IsWell (says_byte f b ends w).console
well_says f ok b false w well = well
well_says f ok b true w well =
    let message = w.begun ++ b ∷ [] in
    let heard = hears f (delivered (f.host (w.messages + 1)) message) (message_counted f message w) in
    well_due_all (f.mids (w.messages + 1)) heard.console (ok.records (w.messages + 1)) (well_hears f (delivered (f.host (w.messages + 1)) message) (message_counted f message w) well)

well_hearing : (l : List Part) (b : ℕ) (w v : Line) → hearing l b w ≡ Some v → IsWell w.console → IsWell v.console
well_hearing [] b w v e well = cc
well_hearing (Wait ∷ l) b w v e well = cc
well_hearing (Byte x ∷ l) b w v e well = go (x == b) e
  where
    go : (t : Bool) → (if t then Some (flies w l) else None) ≡ Some v → IsWell v.console
    go true e = subst (λ (u : Line). IsWell u.console) (same_Some (flies w l) v e) well
    go false e = cc

well_waiting : (l : List Part) (f : FatesByNumber) (w v : Line) → waiting l f w ≡ Some v → IsWell w.console → IsWell v.console
well_waiting [] f w v e well = subst (λ (u : Line). IsWell u.console) (same_Some _ v e) (well_happens f (tick w.console) w (well_ticked w.console well))
well_waiting (Wait ∷ l) f w v e well = subst (λ (u : Line). IsWell u.console) (same_Some _ v e) (well_happens f (tick w.console) (flies w l) (well_ticked w.console well))
well_waiting (Byte x ∷ l) f w v e well = cc

well_step : (f : FatesByNumber) → AreSound f → (i : TalkItem) (w v : Line) → line_step f i w ≡ Some v → IsWell w.console → IsWell v.console
well_step f ok (Said b ends) w v e well = subst (λ (u : Line). IsWell u.console) (same_Some _ v e) (well_says f ok b ends w well)
well_step f ok (Heard b) w v e well = well_hearing w.flight b w v e well
well_step f ok Quiet w v e well = well_waiting w.flight f w v e well

well_talk : (f : FatesByNumber) → AreSound f → (t : List TalkItem) (w v : Line) → ConsoleTalk f t w v → IsWell w.console → IsWell v.console
well_talk f ok [] w v e well = subst (λ (u : Line). IsWell u.console) (same_Some w v e) well
well_talk f ok (i ∷ t) w v e well =
    let g = and_then_some (line_step f i w) (console_talk f t) v e in
    well_talk f ok t g.0 v g.2 (well_step f ok i w g.0 g.1 well)

pub is_well : (w : Line) → IsSound w → IsWell w.console
is_well w sound = record { valid = sound.valid; rises = sound.rises; records = sound.records }

pub is_sound : (w : Line) → IsWell w.console → IsSound w
is_sound w well = record { valid = well.valid; rises = well.rises; records = well.records }

-- a talk keeps a line sound
pub sound_talk : (f : FatesByNumber) → AreSound f → (t : List TalkItem) (w v : Line) → ConsoleTalk f t w v → IsSound w → IsSound v
sound_talk f ok t w v e sound = is_sound v (well_talk f ok t w v e (is_well w sound))

pub well_idles : (f : FatesByNumber) (n : ℕ) (w : Line) → IsWell w.console → IsWell (idles f n w).console
well_idles f zero w well = well
well_idles f (suc n) w well = well_idles f n (happens f (tick w.console) w) (well_happens f (tick w.console) w (well_ticked w.console well))
