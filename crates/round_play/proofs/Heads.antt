-- Writes behind the first eight bytes of a file leave its version.
use Rattle.std.proofs.Common.{◌≡◌, ℕ, zero, suc, ◌+◌, ◌*◌, ◌<◌, ◌≤◌, ◌==◌, Bool, true, false, if◌then◌else◌, inl, List, [], ◌∷◌, ◌++◌, length, get_or, Option, Some, None, refl, sym, ◌∙◌, ap, subst, arith, take, length-append}
use Rattle.std.specs.Prelude.{◌&&◌, ◌||◌, codes, slice_index}
use Rattle.causes.specs.declared.stored.Stored.{Stored}
use Rattle.causes.specs.declared.stored.Stored.TheVariants as stored
use Rattle.disk_model.specs.Calls.{DiskCall, attached, measured, was_read, wrote, synced}
use Rattle.disk_model.specs.Disk.{LeavesNow}
use Rattle.disk_model.specs.DiskState.{must_fail}
use Rattle.disk_model.specs.Effects.{Effect, write_of, sync_of, IsEffect, Took}
use Rattle.disk_model.specs.ImageLaws.{fresh_image, steps_image, now_is_image, untear, only_image}
use Rattle.disk_model.specs.MemDisk.{steps_on}
use Rattle.disk_model.specs.Platter.{Platter, PlatterStep, write, sync, fresh_platter, take_step, IsImage}
use Rattle.disk_model.specs.Stopping.{stopping_medium, stopping_state_of, platter_within}
use Rattle.disk_model.specs.StoppingState.{StoppingState, and_stop, stop_effect, stop_effects}
use Rattle.disk_model.specs.declared.disk.Disked.{Disked}
use Rattle.disk_model.specs.declared.mem_disk.MemDisk.{MemDisk}
use Rattle.disk_model.specs.declared.stopping.Stopping.{Stopping}
use Rattle.disk_model.specs.Stored.{disk_answer}
use Rattle.dmpaft_pump.specs.Keeper.{Handed, answer_for}
use Rattle.gated_log.proofs.Chains.{first_front}
use Rattle.gated_log.proofs.Versions.{not_first}
use Rattle.gated_log.specs.Calls.{up_to, append_changes}
use Rattle.gated_log.specs.Chain.{batch_bytes}
use Rattle.gated_log.specs.Log.{begins_first, stand_from}
use Rattle.gated_log.specs.Version.{version_of}
use Rattle.gated_log.specs.declared.version.Version.TheVariants.{Second}
use Rattle.settings_file.specs.StationSettings.{StationSettings}
use Rattle.station_base.specs.declared.row.Row.{Row}
use Rattle.gated_log.specs.Layout.{slot_size}
use Rattle.station_session.specs.Batches.{changes_for, batch_changes, begun_for, slots_more}
use Rattle.station_session.specs.Records.{stored_rows}
use Rattle.packed_rows.specs.Rows.{slot_total}
use Rattle.weather_book.specs.Stands.{StandsOn}
use Rattle.weather_book.specs.declared.book.Book.{Book}
use Rattle.round_play.proofs.Restarted.{image_of, left_of}

-- each write begins behind the first eight bytes
abbrev pub AreBehind : List DiskCall → Type 0
AreBehind [] = Unit {0}
AreBehind (wrote at len byte answer ∷ calls) = (8 ≤ at) × AreBehind calls
AreBehind (other ∷ calls) = AreBehind calls

abbrev TakeEffectBehind : List Effect → Type 0
TakeEffectBehind [] = Unit {0}
TakeEffectBehind (write_of at len byte ∷ effects) = (8 ≤ at) × TakeEffectBehind effects
TakeEffectBehind (sync_of ∷ effects) = TakeEffectBehind effects

-- so it is of calls after others
pub behind_join : (calls later : List DiskCall) → AreBehind calls → AreBehind later → AreBehind (calls ++ later)
behind_join [] later one two = two
behind_join (wrote at len byte answer ∷ calls) later one two = (one.0, behind_join calls later one.1 two)
behind_join (attached name make answer ∷ calls) later one two = behind_join calls later one two
behind_join (measured answer ∷ calls) later one two = behind_join calls later one two
behind_join (was_read at len answer ∷ calls) later one two = behind_join calls later one two
behind_join (synced answer ∷ calls) later one two = behind_join calls later one two

effects_join : (effects later : List Effect) → TakeEffectBehind effects → TakeEffectBehind later → TakeEffectBehind (effects ++ later)
effects_join [] later one two = two
effects_join (write_of at len byte ∷ effects) later one two = (one.0, effects_join effects later one.1 two)
effects_join (sync_of ∷ effects) later one two = effects_join effects later one two

-- and of what takes effect of them
either : (t : Bool) (one two : List Effect) → TakeEffectBehind one → TakeEffectBehind two → TakeEffectBehind (if t then one else two)
either true one two a b = a
either false one two a b = b

one_behind : (s : StoppingState) (call : DiskCall) → AreBehind (call ∷ []) → TakeEffectBehind (stop_effect s call)
one_behind s (wrote at len byte answer) are =
    either s.stopped [] (if must_fail s.inner (wrote at len byte answer) then [] else write_of at len byte ∷ []) tt
    (either (must_fail s.inner (wrote at len byte answer)) [] (write_of at len byte ∷ []) tt (are.0, tt))
one_behind s (synced answer) are =
    either (s.stopped || (s.armed == 1)) [] (if must_fail s.inner (synced answer) then [] else sync_of ∷ []) tt
    (either (must_fail s.inner (synced answer)) [] (sync_of ∷ []) tt tt)
one_behind s (attached name make answer) are = either s.stopped [] [] tt tt
one_behind s (measured answer) are = either s.stopped [] [] tt tt
one_behind s (was_read at len answer) are = either s.stopped [] [] tt tt

first_behind : (call : DiskCall) (calls : List DiskCall) → AreBehind (call ∷ calls) → AreBehind (call ∷ []) × AreBehind calls
first_behind (wrote at len byte answer) calls are = ((are.0, tt), are.1)
first_behind (synced answer) calls are = (tt, are)
first_behind (attached name make answer) calls are = (tt, are)
first_behind (measured answer) calls are = (tt, are)
first_behind (was_read at len answer) calls are = (tt, are)

effects_behind : (o : Option StoppingState) (calls : List DiskCall) → AreBehind calls → TakeEffectBehind (stop_effects o calls)
effects_behind o [] are = tt
effects_behind None (call ∷ calls) are = effects_behind None calls (first_behind call calls are).1
effects_behind (Some s) (call ∷ calls) are =
    let parts = first_behind call calls are in
    effects_join (stop_effect s call) (stop_effects (and_stop (Some s) call) calls) (one_behind s call parts.0) (effects_behind (and_stop (Some s) call) calls parts.1)

-- Each image that a crash may leave of a platter begins with these eight bytes.
record Begins (head : List ℕ) (m : Platter) : Type 0 where
  pub long : (c : List ℕ) → IsImage m c → 8 ≤ length c
  pub same : (c : List ℕ) → IsImage m c → (i : ℕ) → i < 8 → get_or c i 0 ≡ get_or head i 0
  pub now : IsImage m m.now

begins_step : (head : List ℕ) (m : Platter) (s : PlatterStep) (effect : Effect) → IsEffect s effect → TakeEffectBehind (effect ∷ []) → Begins head m → Begins head (take_step m s)
begins_step head m (write place bytes) (write_of at len byte) is behind b =
    let far : 8 ≤ place = omega (arith, behind.0, is.0) in
    record {
      long = λ c image. let from = untear m place bytes c b.now image in let k = b.long from.0 from.1 in omega (arith, k, from.2.no_shorter);
      same = λ c image i lt.
          let from = untear m place bytes c b.now image in let k = b.long from.0 from.1 in
          from.2.elsewhere i (omega (arith, k, lt)) (inl (omega (arith, far, lt))) ∙ b.same from.0 from.1 i lt;
      now = now_is_image m (write place bytes) b.now;
    }
begins_step head m sync sync_of is behind b = record {
  long = λ c image. subst (λ (x : List ℕ). 8 ≤ length x) (sym (only_image m.now c image)) (b.long m.now b.now);
  same = λ c image i lt. ap (λ (x : List ℕ). get_or x i 0) (only_image m.now c image) ∙ b.same m.now b.now i lt;
  now = now_is_image m sync b.now;
}
begins_step head m (write place bytes) sync_of is behind b = absurd is
begins_step head m sync (write_of at len byte) is behind b = absurd is

first_effect : (effect : Effect) (effects : List Effect) → TakeEffectBehind (effect ∷ effects) → TakeEffectBehind (effect ∷ []) × TakeEffectBehind effects
first_effect (write_of at len byte) effects are = ((are.0, tt), are.1)
first_effect sync_of effects are = (tt, are)

begins_after : (head : List ℕ) (old new : Platter) (effects : List Effect) → TakeEffectBehind effects → Took old effects new → Begins head old → Begins head new
begins_after head old new [] are took b = subst (Begins head) (sym took) b
begins_after head old new (effect ∷ effects) are took b =
    let parts = first_effect effect effects are in
    begins_after head (take_step old took.0) new effects parts.1 took.2 (begins_step head old took.0 effect took.1 parts.0 b)

-- files that begin alike are of one version
stand_same : (i : ℕ) (mark a b : List ℕ) → ((p : ℕ) → i ≤ p → p < i + length mark → get_or a p 0 ≡ get_or b p 0) → stand_from i mark a ≡ stand_from i mark b
stand_same i [] a b same = refl
stand_same i (x ∷ mark) a b same =
    ap (λ (n : ℕ). (n == x) && stand_from (i + 1) mark a) (same i (omega arith) (omega arith))
    ∙ ap (λ (t : Bool). (slice_index b i == x) && t) (stand_same (i + 1) mark a b (λ p low high. same p (omega (arith, low)) (omega (arith, high))))

-- Where a book stands on a disk, and calls behind the first eight bytes were made since, each image that a crash leaves
-- now is of the second version.
pub second_left : (book : Book) (d e : Stopping MemDisk) (rows : List Row) (calls : List DiskCall) → StandsOn stopping_medium book d rows
    → stopping_medium.went d calls e → AreBehind calls → (c : List ℕ) → LeavesNow stopping_medium e c → version_of c ≡ Second
second_left book d e rows calls stands went behind c now =
    let log = stands.log in let image = d.disk.bytes.items in
    let closed = log.rests.reads image refl in
    let long : 8 ≤ length log.before = omega (arith, ap length log.chain.parts, length-append log.chain.top (batch_bytes log.chain.batches), log.chain.head_length) in
    let begins : begins_first image ≡ false = ap begins_first closed.1 ∙ first_front log.before (0 ∷ closed.0) long ∙ log.current in
    let image_long : 8 ≤ length image = omega (arith, ap length closed.1, length-append log.before (0 ∷ closed.0), long) in
    let just = λ (x : List ℕ) (is : IsImage (platter_within d) x). (let told : Some image ≡ Some x = log.rests.durable x (left_of d x is) in let same : image ≡ x = cc in same) in
    let old : Begins image (platter_within d) = record {
      long = λ x is. subst (λ (y : List ℕ). 8 ≤ length y) (just x is) image_long;
      same = λ x is i lt. ap (λ (y : List ℕ). get_or y i 0) (sym (just x is));
      now = steps_image (fresh_platter d.disk.first.items) (steps_on d.disk) (fresh_image d.disk.first.items);
    } in
    let new = begins_after image (platter_within d) (platter_within e) (stop_effects (Some (stopping_state_of d)) calls) (effects_behind (Some (stopping_state_of d)) calls behind) went.platter old in
    not_first c (stand_same 0 (codes "DVARCH01") c image (λ p low high. new.same c (image_of e c now) p high) ∙ begins)

-- the first changes of a batch, so many, are behind the first eight bytes
four_behind : (gate len j : ℕ) (answer : Disked) → 8 ≤ gate → AreBehind (up_to (take j (append_changes gate len)) answer)
four_behind gate len zero answer far = tt
four_behind gate len (suc zero) answer far = (omega (arith, far), tt)
four_behind gate len (suc (suc zero)) answer far = (omega (arith, far), tt)
four_behind gate len (suc (suc (suc zero))) answer far = (omega (arith, far), (far, tt))
four_behind gate len (suc (suc (suc (suc zero)))) answer far = (omega (arith, far), (far, tt))
four_behind gate len (suc (suc (suc (suc (suc j))))) answer far = (omega (arith, far), (far, tt))

-- and all of them, as it was answered
batch_behind : (answer : Stored) (failed slots count : ℕ) → AreBehind (batch_changes answer failed slots count)
batch_behind answer failed slots count = four_behind (slot_size * (slots + 1)) (slot_size * count) (begun_for answer failed) (disk_answer answer) (omega arith)

-- and those of the batches of a round
pub changes_behind : (settings : StationSettings) (failed : ℕ) (rows : List Row) (steps : Handed) → AreBehind (changes_for settings failed rows steps)
changes_behind settings failed rows Handed.Nothing = tt
changes_behind settings failed rows (Handed.Kept records more) =
    let slots = slots_more rows (stored_rows settings records) in
    behind_join (batch_changes stored.Done failed (slot_total rows) slots) (changes_for settings failed (rows ++ stored_rows settings records) more)
    (batch_behind stored.Done failed (slot_total rows) slots) (changes_behind settings failed (rows ++ stored_rows settings records) more)
changes_behind settings failed rows (Handed.Refused records why) = batch_behind (answer_for why) failed (slot_total rows) (slots_more rows (stored_rows settings records))
