use Rattle.std.proofs.Common.{Bool, true, None, Some, refl, sym, ◌∙◌, ap, subst, inl, inr}
use Rattle.disk_model.specs.Stopping.{stopping_state_of}
use Rattle.disk_model.specs.StoppingState.{StoppingState}
use Rattle.weather_book.specs.Book.{slots_of_book}
use Rattle.round_play.specs.Opening.{OpensBy}
use Rattle.round_play.proofs.RecoveryCalls.{went_wrong, IsKnown, starts_armed, is_known}
use Rattle.round_play.proofs.RecoveryChanges.{limits_stay}
use Rattle.round_play.proofs.Opened.{is_opened, opens}
use Rattle.round_play.proofs.Restarted.{reached, at_rest_again}
use Rattle.round_play.proofs.opening.recover_with_stop.Goals as goal

pub disarm-requires : goal.disarm-requires
disarm-requires c =
    let armed = c.arm.new.self in let e = c.recover.new.disk in let ready = c.requires.ready in
    let start = starts_armed _ _ ready.0 ready.1 c.args.disk.now armed c.arm.ensures.state c.arm.ensures.stays ready.2 ready.3 in
    let found = c.in-Book.ensures in
    (opens _ _ ready.0 ready.1 armed e start (slots_of_book c.in-Book.book) found.begun found.went found.moved).passed.goes

pub restart-requires : goal.restart-requires
restart-requires c =
    let armed = c.arm.new.self in let e = c.recover.new.disk in let ready = c.requires.ready in
    let start = starts_armed _ _ ready.0 ready.1 c.args.disk.now armed c.arm.ensures.state c.arm.ensures.stays ready.2 ready.3 in
    let found = c.in-DiskFault.ensures in
    (went_wrong _ _ ready.0 ready.1 armed e start 0 true found.begun found.went refl).1.halted

pub unreachable-requires : goal.unreachable-requires
unreachable-requires c =
    let armed = c.arm.new.self in let ready = c.requires.ready in
    let start = starts_armed _ _ ready.0 ready.1 c.args.disk.now armed c.arm.ensures.state c.arm.ensures.stays ready.2 ready.3 in
    let known = is_known _ _ ready.0 ready.1 armed start c.recover.result c.recover.ensures.finds in
    elim c.in-NotArchive.is [
      | inl bytes ↦ subst IsKnown bytes.1 known
      | inr (inl old) ↦ subst IsKnown old known
      | inr (inr place) ↦ subst IsKnown place.1 known
    ]

pub returns-in-Book-clause-opened : goal.returns-in-Book-clause-opened
returns-in-Book-clause-opened c openings a r =
    let armed = c.arm.new.self in let e = c.recover.new.disk in let f = c.disarm.new.self in
    let k = c.args.stop.change in let pick = c.args.stop.pick in
    let start = starts_armed k pick openings a c.args.disk.now armed c.arm.ensures.state c.arm.ensures.stays r c.requires.ready.3 in
    let found = c.in-Book.ensures in let count = slots_of_book c.in-Book.book in
    let unreached = (opens k pick openings a armed e start count found.begun found.went found.moved).unreached in
    subst (λ (b : Bool). OpensBy b c.args.settings.now c.args.stop openings a (Some c.new.result) f) (sym unreached)
    (is_opened k pick openings a armed e start count found.begun found.went found.moved c.in-Book.book found.reads found.stands found.since_sync
    f c.disarm.ensures.state c.disarm.ensures.stays
    c.args.settings.now c.new.result c.new.ensures.book c.new.ensures.settings (found.fresh.0, found.fresh.1 ∙ c.most.ensures.value))

pub returns-in-Book-clause-limits : goal.returns-in-Book-clause-limits
returns-in-Book-clause-limits c =
    let went = c.recover.ensures.went in
    ap (λ (s : StoppingState). s.inner.limits) c.disarm.ensures.state
    ∙ limits_stay went.calls (stopping_state_of c.arm.new.self) (stopping_state_of c.recover.new.disk) went.by.state
    ∙ ap (λ (s : StoppingState). s.inner.limits) c.arm.ensures.state

pub returns-in-DiskFault-clause-opened : goal.returns-in-DiskFault-clause-opened
returns-in-DiskFault-clause-opened c openings a r =
    let armed = c.arm.new.self in let e = c.recover.new.disk in let f = c.restart.new.self in
    let stop = c.args.stop in
    let start = starts_armed stop.change stop.pick openings a c.args.disk.now armed c.arm.ensures.state c.arm.ensures.stays r c.requires.ready.3 in
    let found = c.in-DiskFault.ensures in let again = c.restart.ensures in
    subst (λ (b : Bool). OpensBy b c.args.settings.now c.args.stop openings a None f)
    (sym (reached stop openings a armed e f start 0 true found.begun found.went refl found.one_change)) (
      refl,
      at_rest_again stop openings a armed e f start 0 true found.begun found.went refl found.one_change found.images
          again.was_left again.length again.reads again.synced again.images again.moment again.state,
    )

pub returns-in-DiskFault-clause-limits : goal.returns-in-DiskFault-clause-limits
returns-in-DiskFault-clause-limits c =
    let went = c.recover.ensures.went in
    ap (λ (s : StoppingState). s.inner.limits) c.restart.ensures.state
    ∙ limits_stay went.calls (stopping_state_of c.arm.new.self) (stopping_state_of c.recover.new.disk) went.by.state
    ∙ ap (λ (s : StoppingState). s.inner.limits) c.arm.ensures.state

pub returns-in-OutOfMemory-clause-limits : goal.returns-in-OutOfMemory-clause-limits
returns-in-OutOfMemory-clause-limits c =
    let went = c.recover.ensures.went in
    limits_stay went.calls (stopping_state_of c.arm.new.self) (stopping_state_of c.recover.new.disk) went.by.state
    ∙ ap (λ (s : StoppingState). s.inner.limits) c.arm.ensures.state
