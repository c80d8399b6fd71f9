-- Over an archive that may grow a round that is shown as done ends well, but for a fault of the outside or want of memory.
use Rattle.std.proofs.Common.{◌≡◌, ℕ, true, false, List, [], ◌∷◌, ◌++◌, Option, Some, None, refl, sym, ap, subst, ◌∙◌, inl, inr}
use Rattle.std.proofs.lemmas.List.{append_cancel_left}
use Rattle.std.proofs.lemmas.Option.{same_Some}
use Rattle.std.specs.Prelude.{MatchResult}
use Rattle.std.specs.Option.{IsSomeAnd}
use Rattle.std.specs.declared.result.Result.{Result}
use Rattle.batch_adding.specs.Opening.{CanBeAddedTo}
use Rattle.disk_model.specs.Medium.{Medium}
use Rattle.gated_log.specs.declared.start.Purpose.TheVariants.{Write}
use Rattle.serial_link.specs.Talk.{Adds}
use Rattle.serial_link.specs.Traffic.{Traffic}
use Rattle.settings_file.specs.StationSettings.{StationSettings}
use Rattle.station_base.specs.CivilMinute.{CivilMinute}
use Rattle.station_base.specs.declared.row.Row.{Row}
use Rattle.station_session.specs.Attempts.{AreAttempts, MadeAttempt, all_said}
use Rattle.station_session.specs.declared.report.Report.{Report}
use Rattle.station_session.specs.declared.round_end.RoundEnd.{RoundEnd}
use Rattle.station_session.specs.declared.round_end.RoundEnd.TheVariants as round
use Rattle.weather_book.specs.Book.{last_stamp_of}
use Rattle.packed_rows.specs.Rising.{last_row_stamp}
use Rattle.packed_rows.specs.Rows.{damaged, holds, not_archive}
use Rattle.weather_book.specs.Start.{FindsBook}
use Rattle.weather_book.specs.declared.book.Book.{Book}
use Rattle.weather_book.specs.declared.start.BookStart.{BookStart}
use Rattle.weather_book.specs.declared.start.BookStart.TheVariants as found
use Rattle.run_output.specs.Ended.{IsOneOf, Lines, output_of}
use Rattle.run_output.specs.Output.{Output}
use Rattle.run_output.specs.Outside.{Meanings}
use Rattle.run_output.specs.declared.outside.Outside.{Outside}
use Rattle.run_output.specs.declared.status.Status.{Status}
use Rattle.run_output.specs.declared.status.Status.TheVariants as ends
use Rattle.commands.specs.Recovery.{book_found, recovers}
use Rattle.commands.specs.StationRun.{ShowsWhole, round_output, rounds}
use Rattle.station_session.proofs.OneRound.{MayEnd, one_round}

-- done, unless a fault of the outside or want of memory kept the command from that
abbrev pub settled : List Status
settled = ends.Done ∷ ends.LinkFault ∷ ends.DiskFault ∷ ends.ReadFault ∷ ends.WriteFault ∷ ends.OutOfMemory ∷ []

abbrev pub IsSettled : Status → Type 0
IsSettled = IsOneOf settled

finds_rows : (start : BookStart) (file : List ℕ) (rows : List Row) → CanBeAddedTo file rows → FindsBook Write start file
    → MatchResult (book_found start) (λ book. last_stamp_of book ≡ last_row_stamp rows) (λ output. IsSettled output.status)
finds_rows (found.Book book) file rows can finds =
    let same : finds.0 ≡ rows = (let both : holds finds.0 ≡ holds rows = sym finds.1 ∙ can.holds_them in cc) in
    finds.2.stamp_is ∙ ap last_row_stamp same
finds_rows (found.NotArchive bytes) file rows can finds = absurd (let never : holds rows ≡ not_archive = sym can.holds_them ∙ finds.0 in cc)
finds_rows found.OldVersion file rows can finds = absurd (let never : false ≡ true = sym can.current ∙ finds in cc)
finds_rows (found.Damaged place) file rows can finds = absurd (let never : holds rows ≡ damaged place = sym can.holds_them ∙ finds.0 in cc)
finds_rows found.DiskFault file rows can finds = inr (inr (inl refl))
finds_rows found.OutOfMemory file rows can finds = inr (inr (inr (inr (inr refl))))

-- of a file that is told and to which rows may be added the book has the last stamp, unless the disk or the memory fails
pub recovers_rows : {D : Type 0} {medium : Medium D} {most : ℕ} {old new : D} {result : Result Book Output} (rows : List Row) (told : Option (List ℕ))
    → medium.seen old ≡ told → IsSomeAnd told (λ file. CanBeAddedTo file rows) → recovers medium most Write old result new
    → MatchResult result (λ book. last_stamp_of book ≡ last_row_stamp rows) (λ output. IsSettled output.status)
recovers_rows rows None is can did = absurd can
recovers_rows rows (Some file) is can did = rw did.given (finds_rows did.start file rows can (did.finds file is))

-- what a link gained in a round is the talk that is shown
same_talk : {L : Type 0} {traffic : Traffic L} {last : Option CivilMinute} {old mid new : L} (tries : List MadeAttempt) → traffic.talk mid ≡ traffic.talk old
    → Adds traffic mid (all_said tries) new → (shown : ShowsWhole traffic last old new) → all_said tries ≡ all_said shown.tries
same_talk {traffic = traffic} {mid = mid} tries silent adds shown =
    let told : traffic.talk mid ≡ Some shown.before = silent ∙ shown.told in
    let grown : Some (shown.before ++ all_said tries) ≡ Some (shown.before ++ all_said shown.tries) = sym (rw told at adds.told) ∙ shown.grown in
    append_cancel_left shown.before (all_said tries) (all_said shown.tries) (same_Some _ _ grown)

round_settled : (end : RoundEnd) (report : Report) → MayEnd end → IsSettled (round_output end report).status
round_settled round.Done report may = inl refl
round_settled round.LinkFault report may = inr (inl refl)
round_settled round.Stale report may = inr (inr (inr (inr (inr refl))))
round_settled round.OutOfMemory report may = inr (inr (inr (inr (inr refl))))
round_settled other report may = absurd may

-- a round over a book of this stamp is done whose talk is shown from that stamp on, unless the link or the memory fails
pub rounds_settled : {F K L D : Type 0} {m : Meanings F K L D} {settings : StationSettings} {book : Book} {last : Option CivilMinute} {link : L}
    {old new : Outside F K L D} {ended : Result Lines Output} → last_stamp_of book ≡ last → m.traffic.talk old.link ≡ m.traffic.talk link
    → ShowsWhole m.traffic last link new.link → rounds m settings book old ended new → IsSettled (output_of ended).status
rounds_settled {last = last} is silent shown did =
    let attempts = subst (λ (l : Option CivilMinute). AreAttempts 0 l did.serves.tries did.end) (sym did.stands.stands_for.stamp_is ∙ is) did.serves.attempts in
    let may = one_round 0 last did.serves.tries shown.tries did.end attempts shown.whole (same_talk did.serves.tries silent did.serves.adds shown) in
    subst (λ (o : Output). IsSettled o.status) (sym did.given) (round_settled did.end did.report may)
