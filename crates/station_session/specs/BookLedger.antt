-- What batches make of a book that keeps the records of a dump.
use Rattle.std.specs.Prelude.{◌≡◌, ℕ, ◌+◌, ◌*◌, ◌≤◌, List, vec_capacity, refl}
use Rattle.std.proofs.Common.{◌∙◌, subst, arith}
use Rattle.station_session.specs.Room.{batch_room}
use Rattle.weather_book.specs.Book.{last_stamp_of, spare}
use Rattle.dmpaft_pump.specs.declared.batch.TheConstants.{MOST_RECORDS}
use Rattle.dmpaft_pump.specs.Ledger.{Ledger}
use Rattle.disk_model.specs.Medium.{Medium}
use Rattle.dmpaft_pump.proofs.HandedBatches.{count_join, count_kept}
use Rattle.dmpaft_pump.specs.Keeper.{Handed, kept_all, join, count}
use Rattle.station_session.specs.declared.book_keeper.BookKeeper.{BookKeeper}
use Rattle.station_session.specs.Holding.{Holding, holding}
use Rattle.station_session.specs.OneBatch.{AddsBatch, Chain, chain_joins}

-- the settings, and what is borrowed, stay the same
pub record IsSameKeeper {D : Type 0} (old new : BookKeeper D) : Type 0 where
  pub settings : new.settings.now ≡ old.settings.now
  pub book : new.book.ghost_name ≡ old.book.ghost_name
  pub disk : new.disk.ghost_name ≡ old.disk.ghost_name
  pub marks : new.marks.ghost_name ≡ old.marks.ghost_name

pub same_none : {D : Type 0} (k : BookKeeper D) → IsSameKeeper k k
same_none k = record { settings = refl; book = refl; disk = refl; marks = refl }

pub same_joins : {D : Type 0} (k l m : BookKeeper D) → IsSameKeeper k l → IsSameKeeper l m → IsSameKeeper k m
same_joins k l m one two = record {
  settings = two.settings ∙ one.settings;
  book = two.book ∙ one.book;
  disk = two.disk ∙ one.disk;
  marks = two.marks ∙ one.marks;
}

-- the book, the disk and the marks
abbrev pub held_by : {D : Type 0} → BookKeeper D → Holding D
held_by k = holding k.book.now k.disk.now k.marks.now.items

-- Batches were given one after another: each took five of the rows that there was room for at most.
pub record GivenInTurn {D : Type 0} (medium : Medium D) (k : BookKeeper D) (steps : Handed) (l : BookKeeper D)
    : Type 0 where
  pub chain : Chain (AddsBatch medium k.settings.now) (held_by k) steps (held_by l)
  pub same : IsSameKeeper k l
  pub spare : spare k.book.now ≤ spare l.book.now + MOST_RECORDS * count steps
  pub capacity : vec_capacity k.marks.now ≤ vec_capacity l.marks.now

pub keeps_none : {D : Type 0} (medium : Medium D) (k : BookKeeper D) → GivenInTurn medium k Handed.Nothing k
keeps_none medium k = record { chain = refl; same = same_none k; spare = omega arith; capacity = omega arith }

pub keeps_joins : {D : Type 0} (medium : Medium D) (k l m : BookKeeper D) (first : List (List (List ℕ)))
    (later : Handed) → GivenInTurn medium k (kept_all first) l → GivenInTurn medium l later m
    → GivenInTurn medium k (join (kept_all first) later) m
keeps_joins medium k l m first later one two = record {
  chain = chain_joins (AddsBatch medium k.settings.now) (held_by k) (held_by l) (held_by m) first later one.chain
      (subst (λ (s : _). Chain (AddsBatch medium s) (held_by l) later (held_by m)) one.same.settings two.chain);
  same = same_joins k l m one.same two.same;
  spare = omega (arith, one.spare, two.spare, count_join first later, count_kept first);
  capacity = omega (arith, one.capacity, two.capacity);
}

-- what a book that keeps the records of a dump tells, on a disk that tells this
abbrev pub book_ledger : {D : Type 0} → Medium D → Ledger (BookKeeper D)
book_ledger medium = record {
  last = λ k. last_stamp_of k.book.now;
  room = λ k. batch_room k.book.now (medium.moment k.disk.now) k.marks.now;
  keeps = λ k steps l. GivenInTurn medium k steps l;
  keeps_none = λ k. keeps_none medium k;
  keeps_joins = λ k l m first later one two. keeps_joins medium k l m first later one two;
}
