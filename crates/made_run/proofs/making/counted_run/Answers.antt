use Rattle.std.proofs.Common.{ℕ, inl, inr, sym, ap, subst, ◌∙◌}
use Rattle.std.specs.List.{AllByRecursion}
use Rattle.eeprom_map.specs.Memory.{new_memory}
use Rattle.schedule_file.specs.Steps.{steps_seen}
use Rattle.replay_laws.specs.Replay.{start}
use Rattle.schedule_steps.specs.Accepted.{HasRecord}
use Rattle.schedule_replay.specs.Replayed.{IsNewDisk}
use Rattle.schedule_replay.specs.Standing.{LineAt}
use Rattle.made_run.proofs.Counted.{are_accepted, counts_run, never_unseen, no_rise}
use Rattle.made_run.proofs.making.counted_run.Goals as goal

pub replay_steps-requires-clause-accepted : goal.replay_steps-requires-clause-accepted
replay_steps-requires-clause-accepted c =
    let made = ap (steps_seen 5) c.deref-2.ensures.value ∙ c.in_ok-steps.ensures in
    let has = subst (AllByRecursion HasRecord) (c.deref.ensures.value ∙ sym c.deref-2.ensures.value) c.records_known.ensures in
    (are_accepted c.args.seed c.args.records c.plain-settings.result c.plain-settings.ensures c.deref-2.result.now made c.requires.to has).0

pub replay_steps-requires-clause-line : goal.replay_steps-requires-clause-line
replay_steps-requires-clause-line c =
    let made = ap (steps_seen 5) c.deref-2.ensures.value ∙ c.in_ok-steps.ensures in
    let has = subst (AllByRecursion HasRecord) (c.deref.ensures.value ∙ sym c.deref-2.ensures.value) c.records_known.ensures in
    let count = (are_accepted c.args.seed c.args.records c.plain-settings.result c.plain-settings.ensures c.deref-2.result.now made c.requires.to has).1 in
    let memory = new_memory c.period-2.result in (
      memory,
      c.blank.result,
      c.in_ok-line.ensures,
      subst (λ (n : ℕ). IsNewDisk n memory c.blank.result c.in_ok-disk.disk) (sym count) (c.in_ok-disk.ensures memory c.blank.result),
    )

pub returns-in-Done : goal.returns-in-Done
returns-in-Done c =
    let made = ap (steps_seen 5) c.deref-2.ensures.value ∙ c.in_ok-steps.ensures in
    let at = subst (λ (p : ℕ). LineAt (start (new_memory p) c.blank.result) c.in_ok-line.line) c.period-2.ensures c.in_ok-line.ensures in
    counts_run c.args.seed c.args.records c.plain-settings.result c.plain-settings.ensures c.deref-2.result.now made c.blank.result c.new-counts.result c.replay_steps.new.teller c.blank.ensures c.new-counts.ensures
    (c.replay_steps.ensures.done c.in-Done.is (new_memory c.plain-settings.result.period) c.blank.result at)

pub unreachable-requires : goal.unreachable-requires
unreachable-requires c =
    let made = ap (steps_seen 5) c.deref-2.ensures.value ∙ c.in_ok-steps.ensures in
    let at = subst (λ (p : ℕ). LineAt (start (new_memory p) c.blank.result) c.in_ok-line.line) c.period-2.ensures c.in_ok-line.ensures in
    elim c.in-Unseen.is [
      | inl is ↦
          never_unseen c.args.seed c.args.records c.plain-settings.result c.plain-settings.ensures c.deref-2.result.now made c.blank.result c.new-counts.result c.replay_steps.new.teller
          (c.replay_steps.ensures.unseen is (new_memory c.plain-settings.result.period) c.blank.result at)
      | inr is ↦ no_rise (c.replay_steps.ensures.write_fault.rose is)
    ]
