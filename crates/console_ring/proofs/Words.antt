-- The words of a record's stamp are those that its bytes have.
use Rattle.std.proofs.Common.{◌≡◌, ℕ, List, Some}
use Rattle.station_base.specs.CivilMinute.{CivilMinute}
use Rattle.station_base.specs.Stamp.{date_word_of, time_word_of}
use Rattle.station_base.proofs.Words.{words_of-stamp}
use Rattle.archive_record.specs.Kind.{word_at}
use Rattle.archive_record.specs.Reading.{stamp_in}

pub stamp_words : (bytes : List ℕ) (stamp : CivilMinute) → stamp_in bytes ≡ Some stamp →
    (date_word_of stamp ≡ word_at bytes 0) × (time_word_of stamp ≡ word_at bytes 2)
stamp_words bytes stamp is = words_of-stamp (word_at bytes 0) (word_at bytes 2) stamp is
