-- A copy: each fault has a cause, and of archives that can be copied only a fault or want of memory keeps it from being done.
use Rattle.std.proofs.Common.{◌≡◌, ◌≢◌, ◌⊎◌, ◌≤◌, ◌<◌, ℕ, false, true, List, ◌++◌, length, Some, None, refl, sym, ap, subst, ◌∙◌, arith, inl, inr}
use Rattle.std.specs.declared.option.Option.{Option}
use Rattle.std.specs.declared.result.Result.{Result}
use Rattle.std.specs.Option.{IsSomeAnd}
use Rattle.archive_copy.specs.Answers.{CopyAnswers}
use Rattle.archive_copy.specs.Calls.{is_from_fault, is_to_fault}
use Rattle.archive_copy.specs.Comparing.{IsFirstUnlike}
use Rattle.archive_copy.specs.declared.end.CopyEnd.{CopyEnd}
use Rattle.archive_copy.specs.declared.end.CopyEnd.TheVariants as copied
use Rattle.archive_copy.proofs.Fronts.{front_has}
use Rattle.causes.specs.Lists.{IsFrontOf}
use Rattle.causes.specs.Told.{WhereTold}
use Rattle.disk_model.specs.Disk.{Faults}
use Rattle.disk_model.specs.Medium.{Medium}
use Rattle.station_base.specs.declared.row.Row.{Row}
use Rattle.packed_rows.specs.Rows.{damaged, holds, not_archive}
use Rattle.run_output.specs.Causes.{HasCauses, RoseOnOne}
use Rattle.run_output.specs.Ended.{Lines, output_of}
use Rattle.run_output.specs.Output.{Output}
use Rattle.run_output.specs.Outside.{Meanings}
use Rattle.run_output.specs.declared.outside.Outside.{Outside}
use Rattle.run_output.specs.declared.status.Status.TheVariants as ends
use Rattle.run_output.proofs.Behind.{then_has}
use Rattle.run_output.proofs.CallCauses.{attaches_causes, second_attaches_causes}
use Rattle.run_output.proofs.Causes.{Causes, same_cause, same_count, then_causes}
use Rattle.run_output.proofs.Statuses.{attach_ends, ends_so, has_status}
use Rattle.commands.specs.CopyRun.{CanCopy, TellArchives, copies, copies_on, copy_output}
use Rattle.commands.proofs.ReportLaws.{IsReported}
use Rattle.station_base.specs.Limits.{most_rows}

-- the status is that of a disk fault where a disk failed, and none of files, sink or link
of_disks : (end : CopyEnd) → (copy_output end).status ≡ ends.DiskFault → (end ≡ copied.FromFault) ⊎ (end ≡ copied.ToFault)
of_disks copied.FromFault is = inl refl
of_disks copied.ToFault is = inr refl
of_disks other is = absurd cc

no_disk : (end : CopyEnd) → (copy_output end).status ≢ ends.DiskFault → (is_from_fault end ≡ false) × (is_to_fault end ≡ false)
no_disk copied.FromFault other = absurd (other refl)
no_disk copied.ToFault other = absurd (other refl)
no_disk end other = (refl, refl)

record IsOfDisks (end : CopyEnd) : Type 0 where
  read : (copy_output end).status ≢ ends.ReadFault
  write : (copy_output end).status ≢ ends.WriteFault
  link : (copy_output end).status ≢ ends.LinkFault

no_other : (end : CopyEnd) → IsOfDisks end
no_other copied.FromFault = record { read = λ is. cc; write = λ is. cc; link = λ is. cc }
no_other other = record { read = λ is. cc; write = λ is. cc; link = λ is. cc }

-- then the faults of one of the disks rose
rose_on_one : {D : Type 0} (medium : Medium D) (end : CopyEnd) (disk second disk' second' : D)
    → Faults medium disk disk' (end ≡ copied.FromFault) → Faults medium second second' (end ≡ copied.ToFault)
    → (end ≡ copied.FromFault) ⊎ (end ≡ copied.ToFault) → RoseOnOne medium disk second disk' second'
rose_on_one medium end disk second disk' second' from to (inl is) = inl (from.rose is)
rose_on_one medium end disk second disk' second' from to (inr is) = inr (to.rose is)

pub copies_causes : {F K L D : Type 0} (m : Meanings F K L D) → Causes m (copies m)
copies_causes {F} {K} {L} {D} m old new result did =
    let other : IsOfDisks did.end = no_other did.end in
    let from = did.did.from_went in
    let to = did.did.to_went in
    subst (λ (w : Outside F K L D). HasCauses m old result w) (sym did.alone) (record {
      files = same_count (m.shelf.faults old.files) (λ by. other.read (has_status _ result _ did.given by));
      sink = same_count (m.outlet.faults old.out) (λ by. other.write (has_status _ result _ did.given by));
      link = same_cause (m.traffic.faults old.link) (λ by. other.link (has_status _ result _ did.given by));
      disks = record {
        rose = λ by. rose_on_one m.medium did.end old.disk old.second new.disk new.second did.did.from_fault did.did.to_fault
            (of_disks did.end (has_status _ result _ did.given by));
        disk_never_falls = did.did.from_fault.never_falls;
        second_never_falls = did.did.to_fault.never_falls;
        disk_well = λ disk _. record {
          calls = from.calls;
          by = from.by;
          well = from.fails ∙ (no_disk did.end (λ is. disk (ends_so _ result _ did.given (λ e. cc) is))).0;
        };
        second_well = λ disk _. record {
          calls = to.calls;
          by = to.by;
          well = to.fails ∙ (no_disk did.end (λ is. disk (ends_so _ result _ did.given (λ e. cc) is))).1;
        };
      };
    })

-- a copy has causes
pub copies_on_causes : {F K L D : Type 0} (m : Meanings F K L D) (from to : List ℕ) → Causes m (copies_on m from to)
copies_on_causes m from to =
    then_causes m _ _ (attaches_causes m from false) (λ _. then_causes m _ _ (second_attaches_causes m to true) (λ _. copies_causes m))

-- rows that are not too many are not more than there may be
not_full : (mine rows : List Row) (n : ℕ) → holds mine ≡ holds rows → length mine ≤ most_rows → n ≡ length rows → most_rows < n → ⊥
not_full mine rows n same few is many = let rows_are : mine ≡ rows = cc in omega (arith, few, many, is, ap (λ (r : List Row). length r) rows_are)

-- rows that are the first of others have none that is unlike
no_unlike : (mine theirs mine' theirs' : List Row) (n : ℕ) → holds mine ≡ holds mine' → holds theirs ≡ holds theirs' → IsFirstUnlike mine' theirs' n
    → IsFrontOf mine theirs → ⊥
no_unlike mine theirs mine' theirs' n same same2 unlike front =
    let a : mine ≡ mine' = cc in let b : theirs ≡ theirs' = cc in
    unlike.unlike (front_has mine' theirs' n (front.0, ap (λ (rows : List Row). rows ++ front.0) (sym a) ∙ front.1 ∙ b) unlike.has_it)

can_copy : (from to : List ℕ) (end : CopyEnd) → CanCopy from to → CopyAnswers end from to → IsReported (copy_output end).status
can_copy from to (copied.Done n) can is = inl refl
can_copy from to (copied.FromNotArchive bytes) can is = absurd (let no : holds can.theirs ≡ not_archive = sym can.from_it.holds_them ∙ is.0 in cc)
can_copy from to (copied.FromDamaged place) can is = absurd (let no : holds can.theirs ≡ damaged place = sym can.from_it.holds_them ∙ is in cc)
can_copy from to (copied.Full n) can is = absurd (not_full can.theirs is.0 n (sym can.from_it.holds_them ∙ is.1) can.from_it.few is.2 is.3)
can_copy from to (copied.ToNotArchive bytes) can is = absurd (let no : holds can.mine ≡ not_archive = sym can.to_it.holds_them ∙ is.2.0 in cc)
can_copy from to copied.ToOldVersion can is = absurd (let no = sym can.to_it.current ∙ is.2 in cc)
can_copy from to (copied.ToDamaged place) can is = absurd (let no : holds can.mine ≡ damaged place = sym can.to_it.holds_them ∙ is.2.0 in cc)
can_copy from to (copied.NotPrefix n) can is =
    absurd (no_unlike can.mine can.theirs is.1 is.0 n (sym can.to_it.holds_them ∙ is.3.holds_them) (sym can.from_it.holds_them ∙ is.2.holds_them) is.4 can.front)
can_copy from to copied.FromFault can is = inr (inl refl)
can_copy from to copied.ToFault can is = inr (inl refl)
can_copy from to copied.OutOfMemory can is = inr (inr (inr refl))

told_copy : (from to : Option (List ℕ)) (end : CopyEnd) → IsSomeAnd from (λ a. IsSomeAnd to (CanCopy a)) → WhereTold from (λ a. WhereTold to (CopyAnswers end a))
    → IsReported (copy_output end).status
told_copy None to end can is = absurd can
told_copy (Some a) None end can is = absurd can
told_copy (Some a) (Some b) end can is = can_copy a b end can (is a refl b refl)

-- archives that can be copied are copied, unless a disk fault, a write fault or want of memory keeps the command from that
pub copies_on_complete : {F K L D : Type 0} (m : Meanings F K L D) (from to : List ℕ) (old new : Outside F K L D) (ended : Result Lines Output)
    → TellArchives m.medium old.disk old.second → copies_on m from to old ended new → IsReported (output_of ended).status
copies_on_complete {F} {K} {L} {D} m from to old new ended tell did =
    let Q : Result Lines Output → Type 0 = λ result. IsReported (output_of result).status in
    let Tell : Option (List ℕ) → Option (List ℕ) → Type 0 = λ told other. IsSomeAnd told (λ file. IsSomeAnd other (CanCopy file)) in
    let seen = m.medium.seen in
    then_has Q _ _ old new ended
    (λ output mid one. inr (inl (attach_ends _ _ _ _ _ output one.0)))
    (λ a mid one. then_has Q _ _ mid new ended
    (λ output at two. inr (inl (attach_ends _ _ _ _ _ output two.0)))
    (λ b at two three. subst (λ (output : Output). IsReported output.status) (sym three.given)
    (told_copy (seen at.disk) (seen at.second) three.end
    (subst (λ (told : Option (List ℕ)). Tell told (seen at.second))
    (sym (ap (λ (w : Outside F K L D). seen w.disk) two.1 ∙ one.0.did.stays.reads))
    (subst (Tell (seen old.disk)) (sym (two.0.did.stays.reads ∙ ap (λ (w : Outside F K L D). seen w.second) one.1)) tell))
    three.did.answers)))
    did
