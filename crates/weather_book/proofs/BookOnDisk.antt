-- How a book stands on a disk.
use Rattle.std.proofs.Common.{◌≡◌, ℕ, List, [], ◌∷◌, inl, sym, ◌∙◌, ap, Some}
use Rattle.disk_model.specs.Disk.{Stays}
use Rattle.disk_model.specs.Medium.{Medium}
use Rattle.gated_log.proofs.AppendEnds.{stands_now}
use Rattle.gated_log.proofs.RecoveryFinds.{still_durable}
use Rattle.gated_log.proofs.Versions.{has_closed}
use Rattle.gated_log.specs.declared.version.Version.TheVariants.{Second}
use Rattle.packed_rows.proofs.Versions.{read_second}
use Rattle.packed_rows.specs.Rows.{rows_from, slot_total}
use Rattle.station_base.specs.declared.row.Row.{Row}
use Rattle.weather_book.proofs.Adds.{has_rows}
use Rattle.weather_book.specs.Book.{IsSameBook}
use Rattle.weather_book.specs.Stands.{HasRows, NowHasRows, StandsOn, StandsToReadOn}
use Rattle.weather_book.specs.declared.book.Book.{Book}

module _ {D : Type 0} (medium : Medium D) (book : Book) where
  -- its rows can be read there
  pub can_be_read : (d : D) (rows : List Row) → StandsOn medium book d rows → StandsToReadOn medium book d rows
  can_be_read d rows stands = record {
    stands_for = stands.stands_for;
    version = Second;
    version_is = λ image told. stands.current;
    slots = stands.slots;
    rows_are = ap (rows_from [] 0 0) (read_second stands.slots) ∙ stands.rows_are;
    log = record {
      before = stands.log.before;
      chain = stands.log.chain;
      count_is = stands.log.count_is;
      reads = λ image told. let closed = stands.log.rests.reads image told in inl (0 ∷ closed.0, closed.1);
    };
  }

  -- they still can after calls that change nothing
  pub to_read_stays : (d e : D) (rows : List Row) → StandsToReadOn medium book d rows → Stays medium d e → StandsToReadOn medium book e rows
  to_read_stays d e rows stands stays = record {
    stands_for = stands.stands_for;
    version = stands.version;
    version_is = λ image told. stands.version_is image (sym stays.reads ∙ told);
    slots = stands.slots;
    rows_are = stands.rows_are;
    log = record {
      before = stands.log.before;
      chain = stands.log.chain;
      count_is = stands.log.count_is;
      reads = λ image told. stands.log.reads image (sym stays.reads ∙ told);
    };
  }

  -- and it stands there
  pub stands_stays : (d e : D) (rows : List Row) → StandsOn medium book d rows → Stays medium d e → StandsOn medium book e rows
  stands_stays d e rows stands stays = record {
    stands_for = stands.stands_for;
    current = stands.current;
    slots = stands.slots;
    rows_are = stands.rows_are;
    log = record {
      before = stands.log.before;
      chain = stands.log.chain;
      current = stands.log.current;
      count_is = stands.log.count_is;
      rests = record {
        reads = λ image told. stands.log.rests.reads image (sym stays.reads ∙ told);
        durable = still_durable medium d e 0 stays stands.log.rests.durable;
      };
    };
  }

  -- so does a book that is the same
  pub same_stands : (other : Book) (d : D) (rows : List Row) → IsSameBook book other → StandsOn medium book d rows → StandsOn medium other d rows
  same_stands other d rows same stands = record {
    stands_for = same.rows rows stands.stands_for;
    current = same.version ∙ stands.current;
    slots = stands.slots;
    rows_are = stands.rows_are;
    log = stands.log;
  }

  -- what a read gives has the rows
  pub read_has : (d : D) (rows : List Row) (image : List ℕ) → StandsOn medium book d rows → medium.seen d ≡ Some image → HasRows rows image
  read_has d rows image stands told =
      has_rows stands.slots rows image stands.rows_are
      (has_closed stands.log.before stands.slots image stands.log.chain stands.log.current (stands.log.rests.reads image told))

  -- and so has each image that a crash leaves
  pub crash_rows : (d : D) (rows : List Row) → StandsOn medium book d rows → NowHasRows medium d rows
  crash_rows d rows stands image now =
      has_rows stands.slots rows image stands.rows_are (stands_now medium d (slot_total rows) stands.slots stands.log image now)
