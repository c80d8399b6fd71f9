-- A new disk is at rest, with an archive of no rows.
use Rattle.std.proofs.Common.{◌≡◌, ◌↔◌, ℕ, false, List, [], Some, refl, sym, ◌∙◌, ap, subst, arith}
use Rattle.disk_model.specs.Disk.{IsDurable, LeavesJust}
use Rattle.disk_model.specs.DiskState.{DiskState, Limits, new_state}
use Rattle.disk_model.specs.MemDisk.{mem_medium, disk_state_of}
use Rattle.disk_model.specs.Stopping.{stopping_medium, stopping_state_of}
use Rattle.disk_model.specs.StoppingState.{StoppingState}
use Rattle.disk_model.specs.declared.mem_disk.MemDisk.{MemDisk}
use Rattle.disk_model.specs.declared.stopping.Stopping.{Stopping}
use Rattle.gated_log.specs.Log.{log_of}
use Rattle.gated_log.specs.Version.{version_of}
use Rattle.packed_rows.specs.Rows.{rows_of}
use Rattle.weather_book.specs.Stands.{HasRows}
use Rattle.replay_laws.specs.Keeping.{Archive}
use Rattle.loop_packet.specs.declared.packet.LoopPacket.{LoopPacket}
use Rattle.schedule_replay.specs.Replayed.{IsNewDisk}
use Rattle.round_play.specs.Resting.{AtRest, IsRoomFor}
use Rattle.round_play.proofs.Opened.{left_by}

-- an archive that was never opened
abbrev pub unopened : Archive
unopened = record { rows = []; size = 0; changes = 0 }

no_rows : HasRows [] []
unfolding rows_of log_of version_of
no_rows = record { rows_are = refl; version_is = refl }

pub new_at_rest : (limits : Limits) (d : Stopping MemDisk)
    → stopping_state_of d ≡ record { inner = new_state limits; armed = 0; pick = 0; stopped = false }
    → stopping_medium.seen d ≡ Some [] → stopping_medium.synced d ≡ Some [] → LeavesJust (stopping_medium.left d) [] → stopping_medium.moment d ≡ 0
    → AtRest 0 unopened d
new_at_rest limits d state seen synced just moment =
    let durable : IsDurable stopping_medium d = λ c now. seen ∙ ap (λ (x : List ℕ). Some x) (sym (just.nothing_else (stopping_medium.moment d) c now)) in
    let changes : (stopping_state_of d).inner.changes ≡ limits.changes = ap (λ (s : StoppingState). s.inner.changes) state in
    let bytes : (stopping_state_of d).inner.bytes ≡ limits.bytes = ap (λ (s : StoppingState). s.inner.bytes) state in
    let made : (stopping_state_of d).inner.limits ≡ limits = ap (λ (s : StoppingState). s.inner.limits) state in
    let most_changes : (stopping_state_of d).inner.limits.changes ≡ limits.changes = ap (λ (l : Limits). l.changes) made in
    let most_bytes : (stopping_state_of d).inner.limits.bytes ≡ limits.bytes = ap (λ (l : Limits). l.bytes) made in
    record {
      rests = record {
        goes = ap (λ (s : StoppingState). s.stopped) state;
        sure = ap (λ (s : StoppingState). s.inner.fails_at) state;
        size = ap (λ (s : StoppingState). s.inner.size) state;
        synced = ap (λ (s : StoppingState). s.inner.synced_size) state;
        changes_are = moment;
      };
      unarmed = ap (λ (s : StoppingState). s.armed) state;
      image = [];
      seen = seen;
      synced = synced;
      length_is = refl;
      rows = no_rows;
      durable = durable;
      left = left_by d [] [] durable seen no_rows;
      room = record {
        changes = omega (arith, changes, most_changes);
        bytes = omega (arith, bytes, most_bytes);
      };
    }

-- a new disk, around a disk in memory that was made with these limits
pub begins_disk : (records : ℕ) (limits : Limits) (inner : MemDisk) (disk : Stopping MemDisk) (eeprom : List ℕ) (packet : LoopPacket) → disk_state_of inner ≡ new_state limits → mem_medium.seen inner ≡ Some [] → mem_medium.synced inner ≡ Some []
    → LeavesJust (mem_medium.left inner) [] → mem_medium.moment inner ≡ 0 → stopping_state_of disk ≡ record { inner = disk_state_of inner; armed = 0; pick = 0; stopped = false }
    → stopping_medium.seen disk ≡ mem_medium.seen inner → stopping_medium.synced disk ≡ mem_medium.synced inner → ((t : ℕ) (c : List ℕ) → stopping_medium.left disk t c ↔ mem_medium.left inner t c)
    → stopping_medium.moment disk ≡ mem_medium.moment inner → IsRoomFor records limits → IsNewDisk records eeprom packet disk
begins_disk records limits inner disk eeprom packet made seen synced just moment around sees syncs leaves moments room =
    let state : stopping_state_of disk ≡ record { inner = new_state limits; armed = 0; pick = 0; stopped = false } =
    around ∙ ap (λ (s : DiskState). record { inner = s; armed = 0; pick = 0; stopped = false }) made in
    let only : LeavesJust (stopping_medium.left disk) [] = record {
      nothing_else = λ t c left. just.nothing_else t c ((leaves t c).0 left);
      them = λ t. (leaves t []).1 (just.them t);
    } in
    record {
      rests = new_at_rest limits disk state (sees ∙ seen) (syncs ∙ synced) only (moments ∙ moment);
      room = subst (IsRoomFor records) (sym (ap (λ (s : StoppingState). s.inner.limits) state)) room;
    }
