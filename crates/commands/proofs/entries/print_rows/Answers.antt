use Rattle.std.proofs.Common.{refl, rules, ◌∙◌}
use Rattle.std.specs.Slice.Iter.{chunks_rest}
use Rattle.commands.proofs.TakenEntries.{stands-closed, stands-joined, stands-written, streams-bad, streams-fault, streams-last, streams-none}
use Rattle.commands.proofs.entries.print_rows.Goals as goal
use Rattle.commands.proofs.entries.print_rows.Goals.{in-Joined, in-Closed+in_default}

pub returns-in-Failed : goal.returns-in-Failed
returns-in-Failed g c =
    let is = c.loop-entry.invariant in
    let piece = c.in-Some.ensures.steps.1 in
    let at = stands-closed _ _ _ _ _ _ _ _ is.stands c.in-Some.entry.now (chunks_rest c.next.new.self) piece.0 (rw is.size at piece.1)
    c.take.new.self c.in-Closed.row c.push_row.new.text.items (c.in-Closed.ensures.takes _ _ _ is.stands.stands) c.push_row.ensures in
    streams-fault _ _ _ _ _ _ _ _ _ at is.still _ c.make_room.new.out (c.in-Failed.ensures.failed refl) (search rules)
    c.in-Failed.ensures.cause.never_falls (c.in-Failed.ensures.cause.rose refl)

pub returns-in-Bad : goal.returns-in-Bad
returns-in-Bad g c =
    let is = c.loop-entry.invariant in
    let piece = c.in-Some.ensures.steps.1 in
    streams-bad _ _ _ _ _ _ _ _ _ is.stands is.still _ c.in-Some.entry.now (chunks_rest c.next.new.self) c.take.new.self piece.0
    (rw is.size at piece.1) piece.2 (c.in-Bad.ensures.takes _ _ _ is.stands.stands) (search rules)

pub loop-entry-preserved : goal.loop-entry-preserved
loop-entry-preserved g c =
    let is = c.loop-entry.invariant in
    let piece = c.in-Some.ensures.steps.1 in
    elim c.match-take.branch [
      | in-Joined w ↦ record {
        can_next = search rules;
        is_finite = tt;
        size = c.in-Some.ensures.steps.0 ∙ is.size;
        room = rw w.pending-is is.room;
        still = rw w.out-is is.still;
        stands = rw (w.out-is, w.pending-is) (stands-joined _ _ _ _ _ _ _ _ is.stands c.in-Some.entry.now (chunks_rest c.next.new.self)
            piece.0 (rw is.size at piece.1) c.take.new.self (w.in-Joined.ensures.takes _ _ _ is.stands.stands));
      }
      | in-Closed+in_default w ↦ record {
        can_next = search rules;
        is_finite = tt;
        size = c.in-Some.ensures.steps.0 ∙ is.size;
        room = rw w.pending-is w.make_room.ensures.room;
        still = rw w.out-is (w.make_room.ensures.still w.in_default.not-Failed ∙ is.still);
        stands = rw (w.out-is, w.pending-is) (stands-written _ _ _ _ _ _ _ _ _ _
            (stands-closed _ _ _ _ _ _ _ _ is.stands c.in-Some.entry.now (chunks_rest c.next.new.self) piece.0 (rw is.size at piece.1)
            c.take.new.self w.in-Closed.row w.push_row.new.text.items (w.in-Closed.ensures.takes _ _ _ is.stands.stands) w.push_row.ensures)
            (w.make_room.ensures.done w.in_default.is));
      }
    ]

pub returns-in_default-finish : goal.returns-in_default-finish
returns-in_default-finish g c =
    let is = c.loop-entry.invariant in
    streams-none _ _ _ _ _ _ _ _ _ is.stands is.still _ c.in-None.ensures.steps.1.0 (c.in_default-finish.ensures.finishes _ _ _ is.stands.stands) refl

pub returns : goal.returns
returns g c =
    let is = c.loop-entry.invariant in
    streams-last _ _ _ _ _ _ _ _ _ is.stands is.still _ c.in-Some-finish.row c.in-None.ensures.steps.1.0
    (c.in-Some-finish.ensures.finishes _ _ _ is.stands.stands) (search rules)
