-- Calls over a link and a disk, one behind another.
use Rattle.std.proofs.Common.{◌≡◌, Bool, List, [], ◌++◌, refl, subst, ◌∙◌, arith}
use Rattle.causes.specs.Cause.{Rose}
use Rattle.disk_model.specs.Disk.{stays_joins, stays_none}
use Rattle.disk_model.specs.Medium.{Medium}
use Rattle.gated_log.specs.Calls.{Looked}
use Rattle.serial_link.specs.Traffic.{Traffic}
use Rattle.serial_link.specs.declared.talk.TalkItem.{TalkItem}
use Rattle.serial_link.proofs.GrownTalk.{adds_none}
use Rattle.serial_link.proofs.JoinedCalls.{talks_as, talks_then}
use Rattle.std.specs.Prelude.{◌+◌, ◌*◌}
use Rattle.gated_log.specs.Layout.{slot_size}
use Rattle.packed_rows.specs.Rows.{slot_total}
use Rattle.weather_book.specs.declared.book.Book.{Book}
use Rattle.weather_book.proofs.Looks.{no_look}
use Rattle.weather_book.proofs.Pieces.{more_reads}
use Rattle.query_service.specs.Service.{IsDoneWithoutFault, ServesQueries}
use Rattle.query_service.specs.declared.service.QueryEnd.{QueryEnd}
use Rattle.query_service.specs.declared.service.QueryEnd.TheVariants.{Done, LinkFault, DiskFault, OutOfMemory}

module _ {L D : Type 0} (traffic : Traffic L) (medium : Medium D) (book : Book) where
  -- no call
  pub serves_none : (Part : List TalkItem → Type 0) (link : L) (disk : D) → Part [] → ServesQueries traffic medium book Done Part link link disk disk
  serves_none Part link disk part = record {
    talk = record {
      talk = record { items = []; are = part; adds = adds_none traffic link };
      fault = record { never_falls = omega arith; rose = λ e. absurd (let bad : Done ≡ LinkFault = e in cc) };
      shortage = record { never_falls = omega arith; rose = λ e. absurd (let bad : Done ≡ OutOfMemory = e in cc) };
    };
    still = record { faults = λ _. refl; quiets = λ _. refl; shortages = λ _. refl };
    stays = stays_none medium disk;
    went = λ rows stands. record { failed = _; by_end = refl; looked = no_look medium (slot_size * (slot_total rows + 1)) disk };
    disk_fault = record { never_falls = omega arith; rose = λ e. absurd (let bad : Done ≡ DiskFault = e in cc) };
  }

  -- a call that went well, and then another
  pub serves_joins : (end : QueryEnd) (P Q R : List TalkItem → Type 0) (l m n : L) (d e f : D) → ServesQueries traffic medium book Done P l m d e
      → ServesQueries traffic medium book end Q m n e f → ((s t : List TalkItem) → P s → Q t → R (s ++ t)) → ServesQueries traffic medium book end R l n d f
  serves_joins end P Q R l m n d e f one two parts = record {
    talk = talks_then R one.talk two.talk parts;
    still = record {
      faults = λ no. two.still.faults no ∙ one.still.faults (λ is. absurd (let bad : Done ≡ LinkFault = is in cc));
      quiets = λ no. absurd (no tt);
      shortages = λ no. two.still.shortages no ∙ one.still.shortages (λ is. absurd (let bad : Done ≡ OutOfMemory = is in cc));
    };
    stays = stays_joins one.stays two.stays;
    went = λ rows stands.
        let first = one.went rows stands in let second = two.went rows stands in
        record {
          failed = second.failed;
          by_end = second.by_end;
          looked = more_reads medium (subst (λ (failed : Bool). Looked medium (slot_size * (slot_total rows + 1)) failed d e) first.by_end first.looked) second.looked;
        };
    disk_fault = record {
      never_falls = omega (arith, one.disk_fault.never_falls, two.disk_fault.never_falls);
      rose = λ is.
          let later : Rose (medium.faults e) (medium.faults f) = two.disk_fault.rose is in omega (arith, later, one.disk_fault.never_falls);
    };
  }

  -- the same talk said otherwise
  pub serves_as : (end : QueryEnd) (P R : List TalkItem → Type 0) (l m : L) (d e : D) → ServesQueries traffic medium book end P l m d e
      → ((t : List TalkItem) → P t → R t) → ServesQueries traffic medium book end R l m d e
  serves_as end P R l m d e one part = record {
    talk = talks_as R one.talk (λ is. is) (λ is. is) part;
    still = one.still;
    stays = one.stays;
    went = one.went;
    disk_fault = one.disk_fault;
  }

  -- where no count rose all turns were taken
  pub done_without_fault : (end : QueryEnd) (P : List TalkItem → Type 0) (l m : L) (d e : D) → ServesQueries traffic medium book end P l m d e
      → IsDoneWithoutFault traffic medium end l m d e
  done_without_fault Done P l m d e one link short disk = refl
  done_without_fault LinkFault P l m d e one link short disk = absurd (link (one.talk.fault.rose refl))
  done_without_fault DiskFault P l m d e one link short disk = absurd (disk (one.disk_fault.rose refl))
  done_without_fault OutOfMemory P l m d e one link short disk = absurd (short (one.talk.shortage.rose refl))
