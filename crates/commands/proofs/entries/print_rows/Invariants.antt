use Rattle.std.proofs.Common.{◌≡◌, ◌+◌, ◌≤◌}
use Rattle.std.specs.Slice.Iter.{chunks_rest, chunks_size}
use Rattle.arrayvec.specs.ArrayVec.{array_vec_len}
use Rattle.run_output.specs.declared.text.TheConstants.{PAGE_ROOM, ROOM}
use Rattle.commands.proofs.TakenEntries.{StandsAt}
use Rattle.commands.proofs.entries.print_rows.Given as goal
use Rattle.soft_record.specs.Entry.{packet_entry_size}

abbrev pub invariant-loop-entry : goal.invariant-loop-entry
invariant-loop-entry g l = record {
  can_next : (goal.iterator-loop-entry g).can_next l.entry-iterator;
  is_finite : (goal.iterator-loop-entry g).is_finite l.entry-iterator;
  size : chunks_size l.entry-iterator ≡ packet_entry_size;
  room : array_vec_len l.pending + PAGE_ROOM ≤ ROOM;
  still : g.K.Sink.outlet.faults l.out ≡ g.K.Sink.outlet.faults l.initial.out;
  stands : StandsAt l.settings l.file (g.K.Sink.outlet.taken l.initial.out) (g.K.Sink.outlet.taken l.out) l.soft (chunks_rest l.entry-iterator)
      l.number l.pending.items;
}
