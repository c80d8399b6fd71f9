-- The records of one minute after another are a schedule's, and more of them than an archive keeps are put.
use Rattle.std.proofs.Common.{◌≡◌, ℕ, zero, suc, ◌+◌, ◌-◌, ◌*◌, ◌/◌, ◌%◌, ◌<◌, ◌≤◌, ◌==◌, ◌||◌, ◌&&◌, ◌⊎◌, inl, inr, Bool, true, false, List, [], ◌∷◌, ◌++◌, length, drop, cond, get_or, Option, Some, None, refl, sym, ◌∙◌, ap, subst, arith, append_assoc, append-nil, pos}
use Rattle.std.specs.Prelude.{nat_lt, filter, IfSome, IsSomeAnd}
use Rattle.std.specs.Ordering.{nat_cmp}
use Rattle.std.proofs.lemmas.Bool.Decides.{nat_tests}
use Rattle.jiff_core.proofs.CalendarLemmas.{days_in_month_bounds}
use Rattle.causes.specs.Lists.{AreBytes}
use Rattle.station_base.specs.CivilMinute.{CivilMinute, IsCivilMinute, minute_of}
use Rattle.station_base.specs.Stamp.{date_word_of, time_word_of, order_key, stamp_of_words}
use Rattle.station_base.proofs.Order.{order_key-minute_of}
use Rattle.station_base.proofs.Words.{stamp_of_words-of}
use Rattle.archive_record.specs.declared.record_read.RecordRead.TheVariants.{Empty}
use Rattle.archive_record.specs.Kind.{word_at}
use Rattle.archive_record.specs.Reading.{is_unwritten, stamp_in, dated, reading}
use Rattle.archive_record.specs.Record.{IsRow, ReadsAsRow}
use Rattle.vantage_frames.specs.StampFrame.{stamp_frame_of}
use Rattle.loop_packet.specs.declared.packet.LoopPacket.{LoopPacket}
use Rattle.console_ring.specs.History.{retained, newer, newest_stamp, record_is_newer, CanExtend, IsHistory, ring_size}
use Rattle.console_ring.specs.Picture.{plan_of, plan_of_last}
use Rattle.console_ring.proofs.Histories.{first_follows, later_follows}
use Rattle.console_ring.proofs.Latest.{plan_newer}
use Rattle.console_model.specs.Console.{Store, Console, fresh_console}
use Rattle.console_model.specs.Console.ConsoleState.{Command}
use Rattle.console_model.specs.Due.{due_by, in_the_way, unexceeded}
use Rattle.console_model.specs.Spelling.{plan_after, time_in}
use Rattle.console_model.specs.Valid.{EachFollows}
use Rattle.console_model.proofs.RecordsBehind.{rises_all}
use Rattle.console_model.proofs.ValidConsoles.{holds_none, no_history}
use Rattle.station_sim.specs.Calm.{IsCalm, IsBrief, pending}
use Rattle.station_sim.specs.Line.{due_all}
use Rattle.station_sim.specs.Sound.{AreRecords, IsSound}
use Rattle.station_sim.proofs.SoundLines.{well_due_all, is_well, is_sound}
use Rattle.line_laws.specs.Gathers.{newer_held}
use Rattle.replay_laws.specs.Minutes.{zeros, time_word, minute_record, minute_records, new_line, filled_line}
use Rattle.replay_laws.specs.Schedule.{ReplayStep, IsSchedule}
use Rattle.line_laws.proofs.Asked.{at_state}
use Rattle.line_laws.proofs.Batches.{frame_words}
use Rattle.line_laws.proofs.Levels.{newest_more}

-- the minute of the calendar
at_minute : ℕ → CivilMinute
at_minute n = record { year = 2000; month = 1; day = 1 + n / 1440; hour = n % 1440 / 60; minute = n % 60 }

civil_at : (n : ℕ) → n < 40320 → IsCivilMinute (at_minute n)
unfolding at_minute
civil_at n small = record {
  year_from = omega arith;
  year_to = omega arith;
  month_from = omega arith;
  month_to = omega arith;
  day_from = omega arith;
  day_to = omega (arith, small, (days_in_month_bounds (pos 2000) 1).1);
  hour_to = omega arith;
  minute_to = omega arith;
}

two_bytes : (t : ℕ) → t % 256 + 256 * (t / 256) ≡ t
two_bytes t = omega arith

words_at : (n : ℕ) → (word_at (minute_record n) 0 ≡ date_word_of (at_minute n)) × (word_at (minute_record n) 2 ≡ time_word_of (at_minute n))
unfolding at_minute minute_record
words_at n = (omega arith, two_bytes (time_word n))

stamp_at : (n : ℕ) → n < 40320 → stamp_in (minute_record n) ≡ Some (at_minute n)
stamp_at n small =
    let w = words_at n in
    ap (λ d. stamp_of_words d (word_at (minute_record n) 2)) w.0 ∙ ap (λ t. stamp_of_words (date_word_of (at_minute n)) t) w.1 ∙ stamp_of_words-of (at_minute n) (civil_at n small)

key_rises : (n : ℕ) → order_key (at_minute n) < order_key (at_minute (n + 1))
unfolding at_minute
key_rises n = omega arith

by_order : (m n p q : ℕ) → nat_cmp m n ≡ nat_cmp p q → m < n → p < q
by_order m n p q same less = grind (arith, nat_tests, same, less)

-- the next minute is later
next_later : (n : ℕ) → n + 1 < 40320 → minute_of (at_minute n) < minute_of (at_minute (n + 1))
next_later n small =
    by_order (order_key (at_minute n)) (order_key (at_minute (n + 1))) (minute_of (at_minute n)) (minute_of (at_minute (n + 1)))
    (order_key-minute_of (at_minute n) (at_minute (n + 1)) (civil_at n (omega arith)) (civil_at (n + 1) small)).0 (key_rises n)

-- the newest stamp is that of the minute before, if there is one
pub Before : ℕ → List (List ℕ) → Type 0
Before n h = (newest_stamp h ≡ None) ⊎ ((m : ℕ) × (n ≡ m + 1) × (newest_stamp h ≡ Some (at_minute m)))

can_extend : (n : ℕ) (h : List (List ℕ)) → n < 40320 → Before n h → CanExtend h (minute_record n)
unfolding Before
can_extend n h small (inl none) = first_follows h (minute_record n) (at_minute n) (stamp_at n small) none
can_extend n h small (inr (m, next, newest)) =
    later_follows h (minute_record n) (at_minute n) (at_minute m) (stamp_at n small) newest
    (subst (λ (k : ℕ). minute_of (at_minute m) < minute_of (at_minute k)) (sym next) (next_later m (omega (arith, small, next))))

pub minutes_follow : (count n : ℕ) (h : List (List ℕ)) → n + count ≤ 40320 → Before n h → EachFollows h (minute_records n count)
unfolding Before minute_records
minutes_follow zero n h small before = tt
minutes_follow (suc count) n h small before =
    (can_extend n h (omega arith) before, minutes_follow count (n + 1) (h ++ minute_record n ∷ []) (omega arith) (inr (n, refl, newest_more h (minute_record n) ∙ stamp_at n (omega arith))))

zero_at : (count i : ℕ) → get_or (zeros count) i 0 < 256
zero_at zero i = omega arith
zero_at (suc count) zero = omega arith
zero_at (suc count) (suc i) = zero_at count i

small_bytes : (n : ℕ) → n < 40320 → AreBytes (minute_record n)
unfolding minute_record
small_bytes n small zero = omega (arith, small)
small_bytes n small (suc zero) = omega arith
small_bytes n small (suc (suc zero)) = omega arith
small_bytes n small (suc (suc (suc zero))) = omega arith
small_bytes n small (suc (suc (suc (suc i)))) = zero_at 48 i

row_if : (unwritten : Bool) (stamp : Option CivilMinute) (n : ℕ) (c : CivilMinute) → unwritten ≡ false → stamp ≡ Some c → IsRow (cond unwritten Empty (dated (minute_record n) 1 stamp))
row_if true stamp n c written is = cc
row_if false None n c written is = cc
row_if false (Some s) n c written is = tt

reads_as_row : (n : ℕ) → n < 40320 → ReadsAsRow (minute_record n)
unfolding reading minute_record
reads_as_row n small =
    let few : n / 1440 < 28 = omega (arith, small) in
    let first : (33 + n / 1440 == 255) ≡ false = grind (arith, nat_tests, few) in
    let written : is_unwritten (minute_record n) ≡ false = rw first refl in
    row_if (is_unwritten (minute_record n)) (stamp_in (minute_record n)) n (at_minute n) written (stamp_at n small)

pub are_records : (count n : ℕ) → n + count ≤ 40320 → AreRecords (minute_records n count)
unfolding minute_record minute_records
are_records zero n small = tt
are_records (suc count) n small = (record { long = refl; small = small_bytes n (omega arith) }, reads_as_row n (omega arith), are_records count (n + 1) (omega arith))

pub minutes_count : (count n : ℕ) → length (minute_records n count) ≡ count
unfolding minute_records
minutes_count zero n = refl
minutes_count (suc count) n = omega (arith, minutes_count count (n + 1))

minutes_drop : (d count n : ℕ) → drop d (minute_records n (d + count)) ≡ minute_records (n + d) count
unfolding minute_records
minutes_drop zero count n = ap (minute_records n) (let e : 0 + count ≡ count = omega arith in e) ∙ ap (λ k. minute_records k count) (let e : n ≡ n + 0 = omega arith in e)
minutes_drop (suc d) count n =
    ap (λ k. drop (suc d) (minute_records n k)) (let e : suc d + count ≡ suc (d + count) = omega arith in e)
    ∙ minutes_drop d count (n + 1) ∙ ap (λ k. minute_records k count) (let e : n + 1 + d ≡ n + suc d = omega arith in e)

newer_one : (n : ℕ) → record_is_newer 0 0 (minute_record n) ≡ true
unfolding minute_record
newer_one n = let date : word_at (minute_record n) 0 ≡ 33 + n / 1440 = omega arith in ap (λ d. nat_lt 0 d || (0 == d && nat_lt 0 (word_at (minute_record n) 2))) date ∙ (let x : nat_lt 0 (33 + n / 1440) ≡ true = grind (arith, nat_tests) in rw x refl)

minutes_newer : (count n : ℕ) → newer 0 0 (minute_records n count) ≡ minute_records n count
unfolding minute_records
minutes_newer zero n = refl
minutes_newer (suc count) n =
    ap (λ t. cond t (minute_record n ∷ filter (record_is_newer 0 0) (minute_records (n + 1) count)) (filter (record_is_newer 0 0) (minute_records (n + 1) count))) (newer_one n)
    ∙ ap (λ xs. minute_record n ∷ xs) (minutes_newer count (n + 1))

-- the archive has the last of them, and all of these are newer than no stamp
pub minutes_kept : (count : ℕ) → ring_size < count → newer_held None (minute_records 0 count) ≡ minute_records (count - ring_size) ring_size
minutes_kept count many =
    let all : count ≡ count - ring_size + ring_size = omega (arith, many) in
    let gone : length (minute_records 0 count) - ring_size ≡ count - ring_size = omega (arith, minutes_count count 0) in
    let held : retained (minute_records 0 count) ≡ minute_records (count - ring_size) ring_size =
    ap (λ d. drop d (minute_records 0 count)) gone ∙ ap (λ k. drop (count - ring_size) (minute_records 0 k)) all ∙ minutes_drop (count - ring_size) ring_size 0
    ∙ ap (λ k. minute_records k ring_size) (let e : 0 + (count - ring_size) ≡ count - ring_size = omega arith in e) in
    ap (newer 0 0) held ∙ minutes_newer ring_size (count - ring_size)

pub minutes_history : (count : ℕ) → count ≤ 40320 → IsHistory (minute_records 0 count)
unfolding Before
minutes_history count small = rises_all [] (minute_records 0 count) no_history (minutes_follow count 0 [] (omega (arith, small)) (inl refl))

-- the dump after no stamp has just these
pub minutes_plan : (count : ℕ) → ring_size < count → count ≤ 40320 → plan_after (minute_records 0 count) (stamp_frame_of None) ≡ plan_of_last ring_size count
unfolding plan_after
minutes_plan count many small =
    let h = minute_records 0 count in
    let words = frame_words 0 0 (omega arith) (omega arith) in
    let found : length (newer 0 0 (retained h)) ≡ ring_size = ap length (minutes_kept count many) ∙ minutes_count ring_size (count - ring_size) in
    ap (λ d. plan_of h d (time_in (stamp_frame_of None))) words.0 ∙ ap (λ t. plan_of h 0 t) words.1 ∙ plan_newer h 0 0 (minutes_history count small)
    ∙ ap (λ n. plan_of_last n (length h)) found ∙ ap (plan_of_last ring_size) (minutes_count count 0)

pub minutes_schedule : (count : ℕ) → count ≤ 40320 → IsSchedule (ReplayStep.Due (minute_records 0 count) ∷ [])
unfolding Before
minutes_schedule count small = record {
  each = (tt, tt);
  rises = subst (EachFollows []) (sym (append-nil (minute_records 0 count))) (minutes_follow count 0 [] (omega (arith, small)) (inl refl));
  are_records = subst AreRecords (sym (append-nil (minute_records 0 count))) (are_records count 0 (omega (arith, small)));
}

nothing_before : (newest stamp : Option CivilMinute) → IsSomeAnd stamp (λ s. IfSome newest (λ n. minute_of n < minute_of s)) → unexceeded newest stamp ≡ None
nothing_before None stamp follows = refl
nothing_before (Some n) None follows = absurd follows
nothing_before (Some n) (Some s) follows = let later : nat_lt (minute_of n) (minute_of s) ≡ true = grind (arith, nat_tests, follows) in rw later refl

-- records that can follow are put by a console that is awake
pub all_put : (rs h : List (List ℕ)) (d : Store) (i : ℕ) → EachFollows h rs → due_all rs (at_state h d [] (Command []) i) ≡ at_state (h ++ rs) d [] (Command []) i
all_put [] h d i each = ap (λ g. at_state g d [] (Command []) i) (sym (append-nil h))
all_put (r ∷ rs) h d i each =
    let c = at_state h d [] (Command []) i in
    let way : in_the_way r c ≡ None = ap (λ g. unexceeded (newest_stamp g) (stamp_in r)) (append-nil h) ∙ nothing_before (newest_stamp h) (stamp_in r) each.0 in
    ap (λ w. due_all rs (due_by w r c)) way ∙ all_put rs (h ++ r ∷ []) d i each.1 ∙ ap (λ g. at_state g d [] (Command []) i) (append_assoc h (r ∷ []) rs)

-- a line to a new console is calm and sound
pub new_calm : (eeprom : List ℕ) (packet : LoopPacket) → IsCalm (new_line eeprom packet)
new_calm eeprom packet = record { begun = refl; brief = tt; bytes = omega arith; closed = tt; waits = tt }

pub new_sound : (eeprom : List ℕ) (packet : LoopPacket) → IsSound (new_line eeprom packet)
new_sound eeprom packet = record { valid = holds_none (fresh_console eeprom packet) refl no_history (omega arith); rises = tt; records = tt }

pub filled_console : (count : ℕ) (eeprom : List ℕ) (packet : LoopPacket) → count ≤ 40320 →
    (filled_line count eeprom packet).console ≡ at_state (minute_records 0 count) (fresh_console eeprom packet).store [] (Command []) 0
unfolding Before
filled_console count eeprom packet small = all_put (minute_records 0 count) [] (fresh_console eeprom packet).store 0 (minutes_follow count 0 [] (omega (arith, small)) (inl refl))

pub filled_history : (count : ℕ) (eeprom : List ℕ) (packet : LoopPacket) → count ≤ 40320 → (filled_line count eeprom packet).console.history ≡ minute_records 0 count
filled_history count eeprom packet small = ap (λ c. c.history) (filled_console count eeprom packet small)

pub filled_calm : (count : ℕ) (eeprom : List ℕ) (packet : LoopPacket) → count ≤ 40320 → IsCalm (filled_line count eeprom packet)
filled_calm count eeprom packet small =
    let c = sym (filled_console count eeprom packet small) in
    record {
      begun = refl;
      brief = subst (λ (k : Console). IsBrief k.state k.idle) c tt;
      bytes = subst (λ (k : Console). 0 + pending k.state < 65000) c (omega arith);
      closed = tt;
      waits = tt;
    }

pub filled_sound : (count : ℕ) (eeprom : List ℕ) (packet : LoopPacket) → count ≤ 40320 → IsSound (filled_line count eeprom packet)
filled_sound count eeprom packet small = is_sound (filled_line count eeprom packet) (well_due_all (minute_records 0 count) (fresh_console eeprom packet) (are_records count 0 (omega (arith, small))) (is_well (new_line eeprom packet) (new_sound eeprom packet)))
