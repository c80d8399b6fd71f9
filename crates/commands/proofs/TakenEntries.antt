-- Entries that are taken one by one, and the lines of their rows, of which some wait.
use Rattle.std.proofs.Common.{◌≡◌, ℕ, suc, ◌+◌, ◌*◌, ◌<◌, ◌≤◌, min, List, [], ◌∷◌, ◌++◌, length, take, drop, Option, Some, None, Err, inl, inr, refl, sym, ap, subst, ◌∙◌, append_assoc, arith}
use Rattle.std.proofs.lemmas.Bool.{cases_lt}
use Rattle.std.proofs.lemmas.List.{append-nil, drop-drop, drop_all, drop_at, flat_map_more, length-append, length-drop, length_push, nil_from_length, take_all, take_at}
use Rattle.std.specs.List.{AllZip}
use Rattle.std.specs.Simd.{first_chunks}
use Rattle.std.specs.declared.result.Result.{Result}
use Rattle.causes.specs.Cause.{Rose}
use Rattle.causes.specs.Written.{Leaves, WritesPart}
use Rattle.causes.proofs.WritesInTurn.{leaves_less}
use Rattle.settings_file.specs.StationSettings.{StationSettings}
use Rattle.soft_record.specs.Entry.{SpellsEntry, packet_entry_size}
use Rattle.soft_record.specs.Given.{AreRows, IsGood}
use Rattle.soft_record.specs.Standing.{SoftRecordFinishes, SoftRecordStandsFor, TakesEntry}
use Rattle.soft_record.specs.declared.entry.Entry.{Entry}
use Rattle.soft_record.specs.declared.record.SoftRecord.{SoftRecord}
use Rattle.soft_record.specs.declared.record.Took.TheVariants.{Joined, Closed, Bad}
use Rattle.station_base.specs.declared.row.Row.{Row}
use Rattle.station_io.specs.Sink.{Outlet}
use Rattle.run_output.specs.Ended.{Lines, output_of}
use Rattle.run_output.specs.Output.{Output, led_by, write_fault}
use Rattle.run_output.specs.Streams.{OutputIsLeft}
use Rattle.run_output.specs.declared.status.Status.TheVariants.{Done}
use Rattle.run_output.proofs.PrintedPieces.{left_streams, part_streams}
use Rattle.commands.specs.SoftRun.{bad_entry, corrected_row_line, corrected_row_lines, no_more, streams_soft}

-- what comes behind one entry more
pub behind_one : (file : List ℕ) (n : ℕ) → drop (packet_entry_size * suc n) file ≡ drop (packet_entry_size * n) (drop packet_entry_size file)
behind_one file n = let more : packet_entry_size * suc n ≡ packet_entry_size + packet_entry_size * n = omega arith in rw more (sym (drop-drop (packet_entry_size * n) packet_entry_size file))

-- the next piece is that of the next entry
spelled_more : (file : List ℕ) (entries : List Entry) (e : Entry) → AllZip SpellsEntry (first_chunks packet_entry_size (length entries) file) entries
    → SpellsEntry (take packet_entry_size (drop (packet_entry_size * length entries) file)) e → AllZip SpellsEntry (first_chunks packet_entry_size (length (entries ++ e ∷ [])) file) (entries ++ e ∷ [])
spelled_more file [] e all is = (is, tt)
spelled_more file (x ∷ entries) e all is = (all.0, spelled_more (drop packet_entry_size file) entries e all.1 (rw behind_one at is))

-- a piece is the first 104 bytes of what is ahead, or all of it
piece_is : (ahead piece rest : List ℕ) → ahead ≡ piece ++ rest → length piece ≡ min packet_entry_size (length ahead) → (piece ≡ take packet_entry_size ahead) × (rest ≡ drop packet_entry_size ahead)
piece_is ahead piece rest parts size =
    let sum = ap length parts ∙ length-append piece rest in
    elim (cases_lt (length ahead) packet_entry_size) [
      | inl short ↦
          let none : rest ≡ [] = nil_from_length rest (omega arith) in
          let all : ahead ≡ piece = parts ∙ ap (λ (xs : List ℕ). piece ++ xs) none ∙ append-nil piece in
          (sym all ∙ sym (take_all packet_entry_size ahead (omega arith)), none ∙ sym (drop_all packet_entry_size ahead (omega arith)))
      | inr long ↦
          let size_is : length piece ≡ packet_entry_size = omega arith in
          (sym (ap (take packet_entry_size) parts ∙ take_at piece rest packet_entry_size size_is), sym (ap (drop packet_entry_size) parts ∙ drop_at piece rest packet_entry_size size_is))
    ]

-- more waits, of more
leaves_more : (old now : Option (List ℕ)) (all left more : List ℕ) → Leaves old now all left → Leaves old now (all ++ more) (left ++ more)
leaves_more old now all left more before = record {
  written = before.written;
  appended = before.appended;
  whole = sym (append_assoc before.written left more) ∙ ap (λ (xs : List ℕ). xs ++ more) before.whole;
}

-- of what waited a front was written
leaves_rest : (old now new : Option (List ℕ)) (all left rest : List ℕ) → Leaves old now all left → Leaves now new left rest → Leaves old new all rest
leaves_rest old now new all left rest before some =
    leaves_less old now new all some.written rest (subst (λ (xs : List ℕ). Leaves old now all xs) (sym some.whole) before) some.appended

-- the line of one row more waits
lines_more : (settings : StationSettings) (old now : Option (List ℕ)) (rows : List Row) (pending : List ℕ) (row : Row)
    → Leaves old now (corrected_row_lines settings rows) pending → Leaves old now (corrected_row_lines settings (rows ++ row ∷ [])) (pending ++ corrected_row_line settings row)
lines_more settings old now rows pending row waits =
    subst (λ (xs : List ℕ). Leaves old now xs (pending ++ corrected_row_line settings row)) (flat_map_more (corrected_row_line settings) [] rows row)
    (leaves_more old now (corrected_row_lines settings rows) pending (corrected_row_line settings row) waits)

-- Where a run stands: so many entries were taken, their rows so far were given, and of the lines this text waits.
pub record StandsAt (settings : StationSettings) (file : List ℕ) (old now : Option (List ℕ)) (soft : SoftRecord) (ahead : List ℕ)
    (number : ℕ) (pending : List ℕ) : Type 0 where
  pub entries : List Entry
  pub rows : List Row
  pub stands : SoftRecordStandsFor soft settings.period entries rows
  pub spelled : AllZip SpellsEntry (first_chunks packet_entry_size (length entries) file) entries
  pub count : length entries ≡ number
  pub ahead_is : ahead ≡ drop (packet_entry_size * length entries) file
  pub within : packet_entry_size * length entries ≤ length file
  pub waits : Leaves old now (corrected_row_lines settings rows) pending

module _ (settings : StationSettings) (file : List ℕ) (old now : Option (List ℕ)) (soft : SoftRecord) (ahead : List ℕ) (number : ℕ)
    (pending : List ℕ) (at : StandsAt settings file old now soft ahead number pending) (piece rest : List ℕ) (parts : ahead ≡ piece ++ rest)
    (size : length piece ≡ min packet_entry_size (length ahead)) where
  -- with one entry more, whose row the record gave or not
  with_entry : (new : SoftRecord) (e : Entry) (rows : List Row) (text : List ℕ) → SpellsEntry piece e → SoftRecordStandsFor new settings.period (at.entries ++ e ∷ []) rows
      → Leaves old now (corrected_row_lines settings rows) text → StandsAt settings file old now new rest (number + 1) text
  with_entry new e rows text spelled stands waits =
      let is = piece_is ahead piece rest parts size in
      let there = is.0 ∙ ap (take packet_entry_size) at.ahead_is in
      let more = length_push at.entries e in
      let next : packet_entry_size * length at.entries + packet_entry_size ≡ packet_entry_size * length (at.entries ++ e ∷ []) = omega (arith, more) in
      record {
        entries = at.entries ++ e ∷ [];
        rows = rows;
        stands = stands;
        spelled = spelled_more file at.entries e at.spelled (subst (λ (xs : List ℕ). SpellsEntry xs e) there spelled);
        count = more ∙ ap (λ (n : ℕ). n + 1) at.count;
        ahead_is = is.1 ∙ ap (drop packet_entry_size) at.ahead_is ∙ drop-drop packet_entry_size (packet_entry_size * length at.entries) file ∙ rw next refl;
        within = omega (arith, spelled.size, size, more, ap length at.ahead_is, length-drop {A = ℕ});
        waits = waits;
      }

  pub stands-joined : (new : SoftRecord) → TakesEntry soft settings.period at.entries at.rows piece Joined new
      → StandsAt settings file old now new rest (number + 1) pending
  stands-joined new took = with_entry new took.0 at.rows pending took.1.0 took.2 at.waits

  pub stands-closed : (new : SoftRecord) (row : Row) (text : List ℕ) → TakesEntry soft settings.period at.entries at.rows piece (Closed row) new
      → text ≡ pending ++ corrected_row_line settings row → StandsAt settings file old now new rest (number + 1) text
  stands-closed new row text took is =
      with_entry new took.0 (at.rows ++ row ∷ []) text took.1.0 took.2 (rw is (lines_more settings old now at.rows pending row at.waits))

-- of the text that waited a front was written
pub stands-written : (settings : StationSettings) (file : List ℕ) (old now new : Option (List ℕ)) (soft : SoftRecord) (ahead : List ℕ) (number : ℕ)
    (pending rest : List ℕ) → StandsAt settings file old now soft ahead number pending → Leaves now new pending rest
    → StandsAt settings file old new soft ahead number rest
stands-written settings file old now new soft ahead number pending rest at some = record {
  entries = at.entries;
  rows = at.rows;
  stands = at.stands;
  spelled = at.spelled;
  count = at.count;
  ahead_is = at.ahead_is;
  within = at.within;
  waits = leaves_rest old now new (corrected_row_lines settings at.rows) pending rest at.waits some;
}

module _ {S : Type 0} (outlet : Outlet S) (settings : StationSettings) (file : List ℕ) (old now : S) (soft : SoftRecord) (ahead : List ℕ) (number : ℕ)
    (pending : List ℕ) (at : StandsAt settings file (outlet.taken old) (outlet.taken now) soft ahead number pending)
    (still : outlet.faults now ≡ outlet.faults old) (result : Result Lines Output) where
  -- behind the lines so far comes more
  front_left : (rest : Output) → OutputIsLeft (outlet.taken old) (outlet.taken now) (led_by (corrected_row_lines settings at.rows) rest) (led_by pending rest)
  front_left rest = record {
    text = leaves_more (outlet.taken old) (outlet.taken now) (corrected_row_lines settings at.rows) pending rest.text at.waits;
    status = refl;
  }

  -- a write of the text that waits failed
  pub streams-fault : (new : S) → WritesPart (outlet.taken now) (outlet.taken new) pending → result ≡ Err write_fault
      → outlet.faults now ≤ outlet.faults new → Rose (outlet.faults now) (outlet.faults new) → streams_soft outlet settings file old result new
  streams-fault new part given rises rose = record {
    entries = at.entries;
    rows = at.rows;
    rest = no_more;
    front = record { spelled = at.spelled; good = at.stands.good };
    reached = inr (inr (rw given refl, at.stands.given, refl));
    written = part_streams outlet _ no_more pending old now new result (front_left no_more) part given still rises rose;
  }

  -- the next entry is bad
  pub streams-bad : (piece rest : List ℕ) (new : SoftRecord) → ahead ≡ piece ++ rest → length piece ≡ min packet_entry_size (length ahead) → 0 < length ahead
      → TakesEntry soft settings.period at.entries at.rows piece Bad new → output_of result ≡ led_by pending (bad_entry number)
      → streams_soft outlet settings file old result now
  streams-bad piece rest new parts size some took given =
      let there = (piece_is ahead piece rest parts size).0 ∙ ap (take packet_entry_size) at.ahead_is in
      let more = bad_entry (length at.entries) in
      record {
        entries = at.entries;
        rows = at.rows;
        rest = more;
        front = record { spelled = at.spelled; good = at.stands.good };
        reached = inr (inl (
          record {
            more = omega (arith, some, ap length at.ahead_is, length-drop {A = ℕ});
            bad = λ e good. took.1 e (subst (λ (xs : List ℕ). IsGood settings.period at.entries xs e) (sym there) good);
          },
          at.stands.given,
          refl,
        ));
        written = left_streams outlet _ (led_by pending more) old now result (front_left more) (rw at.count given) (λ e. cc) still;
      }

  -- no entry is ahead, and these are the rows of all
  whole : (rows : List Row) (text : List ℕ) → length ahead ≡ 0 → AreRows settings.period at.entries rows
      → Leaves (outlet.taken old) (outlet.taken now) (corrected_row_lines settings rows) text → output_of result ≡ record { text = text; status = Done }
      → streams_soft outlet settings file old result now
  whole rows text none all waits given = record {
    entries = at.entries;
    rows = rows;
    rest = no_more;
    front = record { spelled = at.spelled; good = at.stands.good };
    reached = inl (omega (arith, none, at.within, ap length at.ahead_is, length-drop {A = ℕ}), all, refl);
    written = left_streams outlet _ (led_by text no_more) old now result
        (record { text = leaves_more (outlet.taken old) (outlet.taken now) (corrected_row_lines settings rows) text [] waits; status = refl })
        (rw append-nil given) (λ e. cc) still;
  }

  pub streams-none : length ahead ≡ 0 → SoftRecordFinishes settings.period at.entries at.rows None → output_of result ≡ record { text = pending; status = Done }
      → streams_soft outlet settings file old result now
  streams-none none finishes given = whole at.rows pending none finishes.1 at.waits given

  pub streams-last : (row : Row) → length ahead ≡ 0 → SoftRecordFinishes settings.period at.entries at.rows (Some row)
      → output_of result ≡ record { text = pending ++ corrected_row_line settings row; status = Done } → streams_soft outlet settings file old result now
  streams-last row none finishes given =
      whole (at.rows ++ row ∷ []) (pending ++ corrected_row_line settings row) none finishes.1
      (lines_more settings (outlet.taken old) (outlet.taken now) at.rows pending row at.waits) given
