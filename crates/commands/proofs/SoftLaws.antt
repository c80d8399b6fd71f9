-- A command that makes rows of packets: its faults have causes, and over good entries it is done.
use Rattle.std.proofs.Common.{◌≡◌, ◌≢◌, ℕ, ◌*◌, ◌<◌, List, [], ◌∷◌, length, take, drop, Option, Some, None, Ok, inl, inr, refl, sym, ap, ◌∙◌, subst, arith}
use Rattle.std.specs.Global.{Vec}
use Rattle.std.specs.List.{AllZip}
use Rattle.std.specs.Prelude.{IsSomeAnd}
use Rattle.std.specs.Simd.{first_chunks}
use Rattle.std.specs.declared.result.Result.{Result}
use Rattle.loop_packet.proofs.Inverse.{tells_one}
use Rattle.loop_packet.specs.declared.packet.LoopPacket.{LoopPacket}
use Rattle.settings_file.specs.StationSettings.{StationSettings}
use Rattle.soft_record.specs.Entry.{SpellsEntry, packet_entry_size}
use Rattle.soft_record.specs.Given.{AreGood, EntryCanFollow}
use Rattle.soft_record.specs.Interval.{last_entry}
use Rattle.soft_record.specs.declared.entry.Entry.{Entry}
use Rattle.station_base.specs.CivilMinute.{CivilMinute}
use Rattle.station_io.specs.Sink.{Outlet}
use Rattle.run_output.specs.Ended.{Lines, output_of}
use Rattle.run_output.specs.Output.{Output, led_by}
use Rattle.run_output.specs.Outside.{Meanings, over_files, over_out}
use Rattle.run_output.specs.Reading.{reads}
use Rattle.run_output.specs.Steps.{then}
use Rattle.run_output.specs.declared.outside.Outside.{Outside}
use Rattle.run_output.specs.declared.status.Status.{Status}
use Rattle.run_output.specs.declared.status.Status.TheVariants.{BadEntry, DiskFault, Done, LinkFault, ReadFault, WriteFault}
use Rattle.run_output.proofs.CallCauses.{reads_causes, settles_causes, streams_causes}
use Rattle.run_output.proofs.Causes.{Causes, then_causes}
use Rattle.run_output.proofs.GoodFiles.{IsHindrance, good-reads, good-settles, good_behind, settles-stay}
use Rattle.run_output.proofs.Statuses.{has_status}
use Rattle.commands.proofs.PageLaws.{IsDoneOrHindered}
use Rattle.commands.proofs.TakenEntries.{behind_one}
use Rattle.commands.specs.SoftRun.{BeginsWithEntries, HasEntries, IsBadBehind, IsEntryFile, corrected_row_lines, prints_soft, streams_soft}

-- what comes behind the rows ends as done or at a bad entry
ends_otherwise : {S : Type 0} (outlet : Outlet S) (settings : StationSettings) (file : List ℕ) (old : S) (result : Result Lines Output) (new : S)
    (did : streams_soft outlet settings file old result new) (status : Status) → Done ≢ status → BadEntry ≢ status → did.rest.status ≢ status
ends_otherwise outlet settings file old result new did status done bad is = elim did.reached [
  | inl end ↦ done (ap (λ (o : Output). o.status) (sym end.2) ∙ is)
  | inr (inl before) ↦ bad (ap (λ (o : Output). o.status) (sym before.2) ∙ is)
  | inr (inr fault) ↦ done (ap (λ (o : Output). o.status) (sym fault.2) ∙ is)
]

soft_causes : {F K L D : Type 0} (m : Meanings F K L D) (settings : StationSettings) (file : List ℕ)
    → Causes m (over_out (streams_soft m.outlet settings file))
soft_causes m settings file old new result did =
    let other = ends_otherwise m.outlet settings file old.out result new.out did.0 in
    streams_causes m (led_by (corrected_row_lines settings did.0.rows) did.0.rest) (other ReadFault (λ e. cc) (λ e. cc)) (other LinkFault (λ e. cc) (λ e. cc))
    (other DiskFault (λ e. cc) (λ e. cc)) old new result (did.0.written, did.1)

pub prints_soft_causes : {F K L D : Type 0} (m : Meanings F K L D) (settings name : List ℕ) → Causes m (prints_soft m settings name)
prints_soft_causes m settings name =
    then_causes m _ _ (settles_causes m settings) (λ (settings : StationSettings).
    then_causes m _ _ (reads_causes m name) (λ (file : Vec ℕ). soft_causes m settings file.items))

abbrev entry_of : CivilMinute → ℕ → LoopPacket → Entry
entry_of stamp second packet = record { stamp = stamp; second = second; packet = packet }

-- bytes spell one entry at most
spells_one : (bytes : List ℕ) (one other : Entry) → SpellsEntry bytes one → SpellsEntry bytes other → one ≡ other
spells_one bytes one other first second =
    let stamp : Some one.stamp ≡ Some other.stamp = sym first.stamp ∙ second.stamp in
    let second_is : one.second ≡ other.second = sym first.second ∙ second.second in
    let packet = tells_one (drop 5 bytes) (Ok one.packet) other.packet first.packet second.packet in
    let same : entry_of one.stamp one.second one.packet ≡ entry_of other.stamp other.second other.packet = cc in
    same

-- where more entries are good behind these, the next one is
next_is_good : (period : ℕ) (before : Option Entry) (file : List ℕ) (entries all : List Entry) → AllZip SpellsEntry (first_chunks packet_entry_size (length entries) file) entries
    → AllZip SpellsEntry (first_chunks packet_entry_size (length all) file) all → AreGood period before all → length entries < length all
    → (e : Entry) × SpellsEntry (take packet_entry_size (drop (packet_entry_size * length entries) file)) e × EntryCanFollow period (last_entry before entries) e
next_is_good period before file [] [] spelled theirs good more = absurd (omega arith)
next_is_good period before file [] (e ∷ all) spelled theirs good more = (e, theirs.0, good.0)
next_is_good period before file (x ∷ entries) [] spelled theirs good more = absurd (omega arith)
next_is_good period before file (x ∷ entries) (y ∷ all) spelled theirs good more =
    let same = spells_one (take packet_entry_size file) x y spelled.0 theirs.0 in
    let next = next_is_good period (Some x) (drop packet_entry_size file) entries all spelled.1 theirs.1
    (subst (λ (e : Entry). AreGood period (Some e) all) (sym same) good.1) (omega arith) in
    (next.0, subst (λ (xs : List ℕ). SpellsEntry (take packet_entry_size xs) next.0) (sym (behind_one file (length entries))) next.1, next.2)

none_is_bad : (period : ℕ) (file : List ℕ) (entries : List Entry) → IsEntryFile period file → BeginsWithEntries period file entries
    → ¬ IsBadBehind period file entries
none_is_bad period file entries is begins bad =
    let next = next_is_good period None file entries is.entries begins.spelled is.front.spelled is.front.good (omega (arith, bad.more, is.whole)) in
    bad.bad next.0 (next.1, next.2)

-- good entries are all taken
good-written : {S : Type 0} (outlet : Outlet S) (settings : StationSettings) (file : List ℕ) (old new : S) (ended : Result Lines Output)
    → IsEntryFile settings.period file → streams_soft outlet settings file old ended new → IsDoneOrHindered (output_of ended).status
good-written outlet settings file old new ended is did = elim did.reached [
  | inl end ↦ elim did.written.written [
    | inl left ↦ inl (left.status ∙ ap (λ (o : Output). o.status) end.2)
    | inr failed ↦ inr (inr (inl (ap (λ (r : Result Lines Output). (output_of r).status) failed.0)))
  ]
  | inr (inl before) ↦ absurd (none_is_bad settings.period file did.entries is did.front before.0)
  | inr (inr fault) ↦ inr (inr (inl (has_status WriteFault ended (output_of ended) refl fault.0)))
]

hindered : (status : Status) → IsHindrance status → IsDoneOrHindered status
hindered status (inl read) = inr (inl read)
hindered status (inr none) = inr (inr (inr none))

prints_good : {F K L D : Type 0} (m : Meanings F K L D) (settings : StationSettings) (name : List ℕ) (old new : Outside F K L D)
    (ended : Result Lines Output) → IsSomeAnd (m.shelf.held old.files name) (IsEntryFile settings.period)
    → then (over_files (reads m.shelf name)) (λ (file : Vec ℕ). over_out (streams_soft m.outlet settings file.items)) old ended new
    → IsDoneOrHindered (output_of ended).status
prints_good m settings name old new ended good did =
    good_behind (λ (file : Vec ℕ). IsEntryFile settings.period file.items) IsDoneOrHindered _ did.mid new did.answer ended
    (good-reads m.shelf (IsEntryFile settings.period) name old.files did.mid.files did.answer (λ file is. is.within) good did.first.0)
    (λ file is writes. good-written m.outlet settings file.items did.mid.out new.out ended is writes.0) hindered did.behind

-- over accepted settings and a file of good entries, both told, only a fault of files or sink, or want of memory, keeps the
-- command from being done
pub prints_soft_complete : {F K L D : Type 0} (m : Meanings F K L D) (settings name : List ℕ) (old new : Outside F K L D)
    (ended : Result Lines Output) → HasEntries m.shelf settings name old.files → prints_soft m settings name old ended new
    → IsDoneOrHindered (output_of ended).status
prints_soft_complete m settings name old new ended good did =
    let stays = settles-stay m.shelf settings name old.files did.mid.files did.answer did.first.0 in
    good_behind (λ (s : StationSettings). IsSomeAnd (m.shelf.held old.files name) (IsEntryFile s.period)) IsDoneOrHindered _ did.mid new did.answer ended
    (good-settles m.shelf (λ (s : StationSettings). IsSomeAnd (m.shelf.held old.files name) (IsEntryFile s.period)) settings old.files did.mid.files
    did.answer good did.first.0)
    (λ s is prints. prints_good m s name did.mid new ended
    (subst (λ (told : Option (List ℕ)). IsSomeAnd told (IsEntryFile s.period)) (sym stays) is) prints) hindered did.behind
