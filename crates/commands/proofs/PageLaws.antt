-- A command that prints pages: its faults have causes, and over good files it is done.
use Rattle.std.proofs.Common.{◌≡◌, ◌≢◌, ℕ, ◌+◌, ◌/◌, ◌*◌, Bool, true, false, List, [], ◌∷◌, length, drop, All, inl, inr, sym, ap, ◌∙◌, subst, eq-eqb}
use Rattle.std.proofs.lemmas.List.Elements.{All-head, All-tail}
use Rattle.std.specs.Global.{Vec}
use Rattle.std.specs.Prelude.{◌==◌, if◌then◌else◌, IsSomeAnd}
use Rattle.std.specs.Simd.{first_chunks}
use Rattle.std.specs.declared.option.Option.{Option}
use Rattle.std.specs.declared.result.Result.{Result}
use Rattle.crc_ccitt.specs.Check.{check}
use Rattle.vantage_frames.specs.Slots.{page_size}
use Rattle.run_output.specs.Ended.{IsOneOf, Lines, output_of}
use Rattle.run_output.specs.Output.{Output}
use Rattle.run_output.specs.Outside.{Meanings, over_out}
use Rattle.run_output.specs.Reading.{SettingsAreAccepted}
use Rattle.run_output.specs.Streams.{streams}
use Rattle.run_output.specs.declared.outside.Outside.{Outside}
use Rattle.run_output.specs.declared.status.Status.{Status}
use Rattle.run_output.specs.declared.status.Status.TheVariants.{BadPage, DiskFault, Done, LinkFault, OutOfMemory, ReadFault, WriteFault}
use Rattle.run_output.proofs.CallCauses.{reads_causes, settles_causes, streams_causes}
use Rattle.run_output.proofs.Causes.{Causes, then_causes}
use Rattle.run_output.proofs.GoodFiles.{IsHindrance, accepted-settles, good-reads, good_behind, settles-stay}
use Rattle.settings_file.specs.StationSettings.{StationSettings}
use Rattle.station_io.specs.Sink.{Outlet}
use Rattle.commands.specs.GoodFile.{IsGoodFile}
use Rattle.commands.specs.Listing.{listing, listing_from}
use Rattle.commands.specs.PageRun.{prints_corrected, prints_file}
use Rattle.commands.specs.Style.{RowStyle, corrected}

-- done, unless a read fault, a write fault or want of memory kept the command from that
abbrev pub done_or_hindered : List Status
done_or_hindered = Done ∷ ReadFault ∷ WriteFault ∷ OutOfMemory ∷ []

abbrev pub IsDoneOrHindered : Status → Type 0
IsDoneOrHindered = IsOneOf done_or_hindered

by_check : (test : Bool) (good bad : Output) (status : Status) → good.status ≢ status → bad.status ≢ status → (if test then good else bad).status ≢ status
by_check true good bad status here there = here
by_check false good bad status here there = there

-- a listing ends as done or at a bad page
ends_otherwise : (style : RowStyle) (number : ℕ) (pages : List (List ℕ)) (short : List ℕ) (status : Status) → Done ≢ status → BadPage ≢ status
    → (listing_from style number pages short).status ≢ status
ends_otherwise style number [] [] status done bad = done
ends_otherwise style number [] (byte ∷ bytes) status done bad = bad
ends_otherwise style number (page ∷ pages) short status done bad =
    by_check (check page == 0) _ _ status (ends_otherwise style (number + 1) pages short status done bad) bad

listed_causes : {F K L D : Type 0} (m : Meanings F K L D) (style : RowStyle) (file : List ℕ) → Causes m (over_out (streams m.outlet (listing style file)))
listed_causes m style file =
    let other = ends_otherwise style 0 (first_chunks page_size (length file / page_size) file) (drop (length file / page_size * page_size) file) in
    streams_causes m (listing style file) (other ReadFault (λ e. cc) (λ e. cc)) (other LinkFault (λ e. cc) (λ e. cc))
    (other DiskFault (λ e. cc) (λ e. cc))

pub prints_file_causes : {F K L D : Type 0} (m : Meanings F K L D) (style : RowStyle) (name : List ℕ) → Causes m (prints_file m style name)
prints_file_causes m style name = then_causes m _ _ (reads_causes m name) (λ (file : Vec ℕ). listed_causes m style file.items)

pub prints_corrected_causes : {F K L D : Type 0} (m : Meanings F K L D) (settings name : List ℕ) → Causes m (prints_corrected m settings name)
prints_corrected_causes m settings name =
    then_causes m _ _ (settles_causes m settings) (λ (settings : StationSettings). prints_file_causes m (corrected settings) name)

-- good pages with nothing behind them are all printed
good-done : (style : RowStyle) (number : ℕ) (pages : List (List ℕ)) (short : List ℕ) → All (λ page. check page ≡ 0) pages → short ≡ []
    → (listing_from style number pages short).status ≡ Done
good-done style number [] short good none = ap (λ (s : List ℕ). (listing_from style number [] s).status) none
good-done style number (page ∷ pages) short good none =
    rw (eq-eqb (check page) 0 (All-head (λ page. check page ≡ 0) page pages good))
    (good-done style (number + 1) pages short (All-tail (λ page. check page ≡ 0) page pages good) none)

good-streams : {K : Type 0} (outlet : Outlet K) (style : RowStyle) (file : List ℕ) (old new : K) (ended : Result Lines Output) → IsGoodFile file
    → streams outlet (listing style file) old ended new → IsDoneOrHindered (output_of ended).status
good-streams outlet style file old new ended good did = elim did.written [
  | inl left ↦ inl (left.status ∙ good-done style 0 (first_chunks page_size (length file / page_size) file) (drop (length file / page_size * page_size) file) good.good good.whole)
  | inr failed ↦ inr (inr (inl (ap (λ (r : Result Lines Output). (output_of r).status) failed.0)))
]

hindered : (status : Status) → IsHindrance status → IsDoneOrHindered status
hindered status (inl read) = inr (inl read)
hindered status (inr none) = inr (inr (inr none))

-- over a good file that is told, only a fault of files or sink, or want of memory, keeps the command from being done
pub prints_file_complete : {F K L D : Type 0} (m : Meanings F K L D) (style : RowStyle) (name : List ℕ) (old new : Outside F K L D)
    (ended : Result Lines Output) → IsSomeAnd (m.shelf.held old.files name) IsGoodFile → prints_file m style name old ended new
    → IsDoneOrHindered (output_of ended).status
prints_file_complete m style name old new ended good did =
    good_behind (λ (file : Vec ℕ). IsGoodFile file.items) IsDoneOrHindered _ did.mid new did.answer ended
    (good-reads m.shelf IsGoodFile name old.files did.mid.files did.answer (λ file is. is.within) good did.first.0)
    (λ file is prints. good-streams m.outlet style file.items did.mid.out new.out ended is prints.0) hindered did.behind

-- so it is after accepted settings that are told
pub prints_corrected_complete : {F K L D : Type 0} (m : Meanings F K L D) (settings name : List ℕ) (old new : Outside F K L D)
    (ended : Result Lines Output) → IsSomeAnd (m.shelf.held old.files settings) SettingsAreAccepted → IsSomeAnd (m.shelf.held old.files name) IsGoodFile
    → prints_corrected m settings name old ended new → IsDoneOrHindered (output_of ended).status
prints_corrected_complete m settings name old new ended accepted good did =
    let stays = settles-stay m.shelf settings name old.files did.mid.files did.answer did.first.0 in
    good_behind (λ (settings : StationSettings). Unit {0}) IsDoneOrHindered _ did.mid new did.answer ended
    (accepted-settles m.shelf settings old.files did.mid.files did.answer accepted did.first.0)
    (λ settings is prints. prints_file_complete m (corrected settings) name did.mid new ended
    (subst (λ (told : Option (List ℕ)). IsSomeAnd told IsGoodFile) (sym stays) good) prints) hindered did.behind
