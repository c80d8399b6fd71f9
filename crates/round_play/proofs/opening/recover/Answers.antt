use Rattle.std.proofs.Common.{◌≡◌, ◌∙◌, ap, subst, inl, inr, arith}
use Rattle.disk_model.specs.Disk.{stays_none}
use Rattle.disk_model.specs.Stopping.{stopping_medium, stopping_state_of}
use Rattle.weather_book.specs.Book.{slots_of_book}
use Rattle.weather_book.specs.Start.{is_book_fault, book_slots_found}
use Rattle.round_play.proofs.RecoveryCalls.{IsKnown, starts_at_rest, is_known, never_wrong}
use Rattle.round_play.proofs.RecoveryChanges.{limits_stay}
use Rattle.round_play.proofs.Opened.{is_opened, opens, unarmed_state}
use Rattle.round_play.proofs.opening.recover.Goals as goal

pub unreachable-requires : goal.unreachable-requires
unreachable-requires c =
    let d = c.args.disk.now in let e = c.recover.new.disk in let ready = c.requires.ready in
    let start = starts_at_rest ready.0 ready.1 d ready.2 ready.3 in
    let known = is_known 0 (stopping_state_of d).pick ready.0 ready.1 d start c.recover.result c.recover.ensures.finds in
    elim c.in-NotArchive.is [
      | inl bytes ↦ subst IsKnown bytes.1 known
      | inr (inl old) ↦ subst IsKnown old known
      | inr (inr (inl place)) ↦ subst IsKnown place.1 known
      | inr (inr (inr fault)) ↦
          never_wrong (stopping_state_of d).pick ready.0 ready.1 d e start (book_slots_found c.recover.result) (is_book_fault c.recover.result)
          c.recover.ensures.begun c.recover.ensures.went (ap is_book_fault fault)
    ]

pub returns-in-Book-clause-opened : goal.returns-in-Book-clause-opened
returns-in-Book-clause-opened c openings a r =
    let d = c.args.disk.now in let e = c.recover.new.disk in let pick = (stopping_state_of d).pick in
    let start = starts_at_rest openings a d r c.requires.ready.3 in
    let found = c.in-Book.ensures in let count = slots_of_book c.in-Book.book in
    let none : (stopping_state_of e).armed ≡ 0 = omega (arith, (opens 0 pick openings a d e start count found.begun found.went found.moved).passed.armed_is) in
    is_opened 0 pick openings a d e start count found.begun found.went found.moved c.in-Book.book found.reads found.stands found.since_sync
    e (unarmed_state (stopping_state_of e) none) (stays_none stopping_medium e)
    c.args.settings.now c.new.result c.new.ensures.book c.new.ensures.settings (found.fresh.0, found.fresh.1 ∙ c.most.ensures.value)

pub returns-in-Book-clause-limits : goal.returns-in-Book-clause-limits
returns-in-Book-clause-limits c =
    let went = c.recover.ensures.went in
    limits_stay went.calls (stopping_state_of c.args.disk.now) (stopping_state_of c.recover.new.disk) went.by.state

pub returns-in-OutOfMemory-clause-limits : goal.returns-in-OutOfMemory-clause-limits
returns-in-OutOfMemory-clause-limits c =
    let went = c.recover.ensures.went in
    limits_stay went.calls (stopping_state_of c.args.disk.now) (stopping_state_of c.recover.new.disk) went.by.state
