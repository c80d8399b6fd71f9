use Rattle.std.proofs.Common.{◌≡◌, ℕ, List, inl, inr, get_or, sym, subst, ◌∙◌}
use Rattle.loop_packet.specs.declared.packet.LoopPacket.{LoopPacket}
use Rattle.disk_model.specs.declared.mem_disk.MemDisk.{MemDisk}
use Rattle.disk_model.specs.declared.stopping.Stopping.{Stopping}
use Rattle.schedule_file.specs.declared.schedule.step.Step as code_step
use Rattle.station_sim.specs.declared.sim.Sim.{Sim}
use Rattle.schedule_replay.specs.declared.turns.ReplayTurn.{ReplayTurn}
use Rattle.schedule_replay.specs.Replaying.{Course}
use Rattle.schedule_replay.specs.Turns.{RunTurnsTo}
use Rattle.schedule_replay.proofs.Turned.{none_under_way, stands_none}
use Rattle.schedule_replay.proofs.turns.ReplayRun.turn.Goals as goal

-- the run's course
abbrev course : List ℕ → LoopPacket → List code_step.Step → Sim → Stopping MemDisk → Course
course eeprom packet steps before made = record { eeprom = eeprom; packet = packet; steps = steps; before = before; made = made }

pub play_on-requires-clause-may : goal.play_on-requires-clause-may
play_on-requires-clause-may g c =
    let m = c.requires in let k = course m.0 m.1 c.args.steps.now m.3 m.4 in
    (k, m.2, m.5)

pub returns-then-is_some-clause-more : goal.returns-then-is_some-clause-more
returns-then-is_some-clause-more g c is eeprom packet items before made p =
    let k = course eeprom packet c.args.steps.now before made in
    subst (λ (r : ReplayTurn). RunTurnsTo g.T.Teller.telling r k c.args.self.now.settings items c.play_on.new.line c.play_on.new.disk c.play_on.new.self c.args.teller.now c.play_on.new.teller) is (c.play_on.ensures.turns_to k items p)

pub returns-then-is_some-clause-unseen : goal.returns-then-is_some-clause-unseen
returns-then-is_some-clause-unseen g c is eeprom packet items before made p =
    let k = course eeprom packet c.args.steps.now before made in
    subst (λ (r : ReplayTurn). RunTurnsTo g.T.Teller.telling r k c.args.self.now.settings items c.play_on.new.line c.play_on.new.disk c.play_on.new.self c.args.teller.now c.play_on.new.teller) is (c.play_on.ensures.turns_to k items p)

pub returns-then-is_some-clause-cut_off : goal.returns-then-is_some-clause-cut_off
returns-then-is_some-clause-cut_off g c (inl is) eeprom packet items before made p =
    let k = course eeprom packet c.args.steps.now before made in
    subst (λ (r : ReplayTurn). RunTurnsTo g.T.Teller.telling r k c.args.self.now.settings items c.play_on.new.line c.play_on.new.disk c.play_on.new.self c.args.teller.now c.play_on.new.teller) is (c.play_on.ensures.turns_to k items p)
returns-then-is_some-clause-cut_off g c (inr is) eeprom packet items before made p =
    let k = course eeprom packet c.args.steps.now before made in
    subst (λ (r : ReplayTurn). RunTurnsTo g.T.Teller.telling r k c.args.self.now.settings items c.play_on.new.line c.play_on.new.disk c.play_on.new.self c.args.teller.now c.play_on.new.teller) is (c.play_on.ensures.turns_to k items p)

pub close-requires-clause-may : goal.close-requires-clause-may
close-requires-clause-may g c =
    let m = c.requires in let k = course m.0 m.1 c.args.steps.now m.3 m.4 in
    let none = none_under_way c.args.self.now.playing (sym c.is_some.ensures ∙ c.if-is_some.false) in
    (k, m.2, c.args.line.now, (stands_none c.args.self.now.playing k c.args.self.now.settings c.args.self.now.taken c.args.self.now.turns m.2 c.args.self.now.run c.args.line.now c.args.disk.now none m.5), c.in_default.ensures.lookup.3)

pub returns-in_default-clause-more : goal.returns-in_default-clause-more
returns-in_default-clause-more g c is eeprom packet items before made p =
    let k = course eeprom packet c.args.steps.now before made in
    let none = none_under_way c.args.self.now.playing (sym c.is_some.ensures ∙ c.if-is_some.false) in
    subst (λ (r : ReplayTurn). RunTurnsTo g.T.Teller.telling r k c.args.self.now.settings items c.args.line.now c.close.new.disk c.close.new.self c.args.teller.now c.close.new.teller) is (c.close.ensures.turns_to k items c.args.line.now (stands_none c.args.self.now.playing k c.args.self.now.settings c.args.self.now.taken c.args.self.now.turns items c.args.self.now.run c.args.line.now c.args.disk.now none p) c.in_default.ensures.lookup.3)

pub returns-in_default-clause-ended : goal.returns-in_default-clause-ended
returns-in_default-clause-ended g c is eeprom packet items before made p =
    let k = course eeprom packet c.args.steps.now before made in
    let none = none_under_way c.args.self.now.playing (sym c.is_some.ensures ∙ c.if-is_some.false) in
    subst (λ (r : ReplayTurn). RunTurnsTo g.T.Teller.telling r k c.args.self.now.settings items c.args.line.now c.close.new.disk c.close.new.self c.args.teller.now c.close.new.teller) is (c.close.ensures.turns_to k items c.args.line.now (stands_none c.args.self.now.playing k c.args.self.now.settings c.args.self.now.taken c.args.self.now.turns items c.args.self.now.run c.args.line.now c.args.disk.now none p) c.in_default.ensures.lookup.3)

pub returns-in_default-clause-ends_alone : goal.returns-in_default-clause-ends_alone
returns-in_default-clause-ends_alone g c is =
    (none_under_way c.args.self.now.playing (sym c.is_some.ensures ∙ c.if-is_some.false), c.in_default.ensures.lookup.3)

pub returns-in_default-clause-unseen : goal.returns-in_default-clause-unseen
returns-in_default-clause-unseen g c is eeprom packet items before made p =
    let k = course eeprom packet c.args.steps.now before made in
    let none = none_under_way c.args.self.now.playing (sym c.is_some.ensures ∙ c.if-is_some.false) in
    subst (λ (r : ReplayTurn). RunTurnsTo g.T.Teller.telling r k c.args.self.now.settings items c.args.line.now c.close.new.disk c.close.new.self c.args.teller.now c.close.new.teller) is (c.close.ensures.turns_to k items c.args.line.now (stands_none c.args.self.now.playing k c.args.self.now.settings c.args.self.now.taken c.args.self.now.turns items c.args.self.now.run c.args.line.now c.args.disk.now none p) c.in_default.ensures.lookup.3)

pub returns-in_default-clause-cut_off : goal.returns-in_default-clause-cut_off
returns-in_default-clause-cut_off g c (inl is) eeprom packet items before made p =
    let k = course eeprom packet c.args.steps.now before made in
    let none = none_under_way c.args.self.now.playing (sym c.is_some.ensures ∙ c.if-is_some.false) in
    subst (λ (r : ReplayTurn). RunTurnsTo g.T.Teller.telling r k c.args.self.now.settings items c.args.line.now c.close.new.disk c.close.new.self c.args.teller.now c.close.new.teller) is (c.close.ensures.turns_to k items c.args.line.now (stands_none c.args.self.now.playing k c.args.self.now.settings c.args.self.now.taken c.args.self.now.turns items c.args.self.now.run c.args.line.now c.args.disk.now none p) c.in_default.ensures.lookup.3)
returns-in_default-clause-cut_off g c (inr is) eeprom packet items before made p =
    let k = course eeprom packet c.args.steps.now before made in
    let none = none_under_way c.args.self.now.playing (sym c.is_some.ensures ∙ c.if-is_some.false) in
    subst (λ (r : ReplayTurn). RunTurnsTo g.T.Teller.telling r k c.args.self.now.settings items c.args.line.now c.close.new.disk c.close.new.self c.args.teller.now c.close.new.teller) is (c.close.ensures.turns_to k items c.args.line.now (stands_none c.args.self.now.playing k c.args.self.now.settings c.args.self.now.taken c.args.self.now.turns items c.args.self.now.run c.args.line.now c.args.disk.now none p) c.in_default.ensures.lookup.3)

pub begin_round-requires-clause-may : goal.begin_round-requires-clause-may
begin_round-requires-clause-may g c =
    let m = c.requires in let k = course m.0 m.1 c.args.steps.now m.3 m.4 in
    let none = none_under_way c.args.self.now.playing (sym c.is_some.ensures ∙ c.if-is_some.false) in
    (k, m.2, (stands_none c.args.self.now.playing k c.args.self.now.settings c.args.self.now.taken c.args.self.now.turns m.2 c.args.self.now.run c.args.line.now c.args.disk.now none m.5), record { within = c.in-Some.ensures.lookup.3.0; is = subst (λ (y : code_step.Step). y ≡ get_or c.args.steps.now c.args.self.now.taken y) c.in-Round.is c.in-Some.ensures.lookup.1 })

pub take-requires-clause-may : goal.take-requires-clause-may
take-requires-clause-may g c =
    let m = c.requires in let k = course m.0 m.1 c.args.steps.now m.3 m.4 in
    let none = none_under_way c.args.self.now.playing (sym c.is_some.ensures ∙ c.if-is_some.false) in
    (k, m.2, (stands_none c.args.self.now.playing k c.args.self.now.settings c.args.self.now.taken c.args.self.now.turns m.2 c.args.self.now.run c.args.line.now c.args.disk.now none m.5), record { within = c.in-Some.ensures.lookup.3.0; is = c.in-Some.ensures.lookup.1 })

pub returns-in-Round-clause-more : goal.returns-in-Round-clause-more
returns-in-Round-clause-more g c is eeprom packet items before made p =
    let k = course eeprom packet c.args.steps.now before made in
    let none = none_under_way c.args.self.now.playing (sym c.is_some.ensures ∙ c.if-is_some.false) in
    subst (λ (r : ReplayTurn). RunTurnsTo g.T.Teller.telling r k c.args.self.now.settings items c.begin_round.new.line c.begin_round.new.disk c.begin_round.new.self c.args.teller.now c.begin_round.new.teller) is (c.begin_round.ensures.turns_to k items (stands_none c.args.self.now.playing k c.args.self.now.settings c.args.self.now.taken c.args.self.now.turns items c.args.self.now.run c.args.line.now c.args.disk.now none p) (record { within = c.in-Some.ensures.lookup.3.0; is = subst (λ (y : code_step.Step). y ≡ get_or c.args.steps.now c.args.self.now.taken y) c.in-Round.is c.in-Some.ensures.lookup.1 }))

pub returns-in-Round-clause-unseen : goal.returns-in-Round-clause-unseen
returns-in-Round-clause-unseen g c is eeprom packet items before made p =
    let k = course eeprom packet c.args.steps.now before made in
    let none = none_under_way c.args.self.now.playing (sym c.is_some.ensures ∙ c.if-is_some.false) in
    subst (λ (r : ReplayTurn). RunTurnsTo g.T.Teller.telling r k c.args.self.now.settings items c.begin_round.new.line c.begin_round.new.disk c.begin_round.new.self c.args.teller.now c.begin_round.new.teller) is (c.begin_round.ensures.turns_to k items (stands_none c.args.self.now.playing k c.args.self.now.settings c.args.self.now.taken c.args.self.now.turns items c.args.self.now.run c.args.line.now c.args.disk.now none p) (record { within = c.in-Some.ensures.lookup.3.0; is = subst (λ (y : code_step.Step). y ≡ get_or c.args.steps.now c.args.self.now.taken y) c.in-Round.is c.in-Some.ensures.lookup.1 }))

pub returns-in-Round-clause-cut_off : goal.returns-in-Round-clause-cut_off
returns-in-Round-clause-cut_off g c (inl is) eeprom packet items before made p =
    let k = course eeprom packet c.args.steps.now before made in
    let none = none_under_way c.args.self.now.playing (sym c.is_some.ensures ∙ c.if-is_some.false) in
    subst (λ (r : ReplayTurn). RunTurnsTo g.T.Teller.telling r k c.args.self.now.settings items c.begin_round.new.line c.begin_round.new.disk c.begin_round.new.self c.args.teller.now c.begin_round.new.teller) is (c.begin_round.ensures.turns_to k items (stands_none c.args.self.now.playing k c.args.self.now.settings c.args.self.now.taken c.args.self.now.turns items c.args.self.now.run c.args.line.now c.args.disk.now none p) (record { within = c.in-Some.ensures.lookup.3.0; is = subst (λ (y : code_step.Step). y ≡ get_or c.args.steps.now c.args.self.now.taken y) c.in-Round.is c.in-Some.ensures.lookup.1 }))
returns-in-Round-clause-cut_off g c (inr is) eeprom packet items before made p =
    let k = course eeprom packet c.args.steps.now before made in
    let none = none_under_way c.args.self.now.playing (sym c.is_some.ensures ∙ c.if-is_some.false) in
    subst (λ (r : ReplayTurn). RunTurnsTo g.T.Teller.telling r k c.args.self.now.settings items c.begin_round.new.line c.begin_round.new.disk c.begin_round.new.self c.args.teller.now c.begin_round.new.teller) is (c.begin_round.ensures.turns_to k items (stands_none c.args.self.now.playing k c.args.self.now.settings c.args.self.now.taken c.args.self.now.turns items c.args.self.now.run c.args.line.now c.args.disk.now none p) (record { within = c.in-Some.ensures.lookup.3.0; is = subst (λ (y : code_step.Step). y ≡ get_or c.args.steps.now c.args.self.now.taken y) c.in-Round.is c.in-Some.ensures.lookup.1 }))

pub returns-in-Due-clause-more : goal.returns-in-Due-clause-more
returns-in-Due-clause-more g c is eeprom packet items before made p =
    let k = course eeprom packet c.args.steps.now before made in
    let none = none_under_way c.args.self.now.playing (sym c.is_some.ensures ∙ c.if-is_some.false) in
    subst (λ (r : ReplayTurn). RunTurnsTo g.T.Teller.telling r k c.args.self.now.settings items c.take.new.line c.take.new.disk c.take.new.self c.args.teller.now c.take.new.teller) is (c.take.ensures.turns_to k items (stands_none c.args.self.now.playing k c.args.self.now.settings c.args.self.now.taken c.args.self.now.turns items c.args.self.now.run c.args.line.now c.args.disk.now none p) (record { within = c.in-Some.ensures.lookup.3.0; is = c.in-Some.ensures.lookup.1 }))

pub returns-in-Due-clause-unseen : goal.returns-in-Due-clause-unseen
returns-in-Due-clause-unseen g c is eeprom packet items before made p =
    let k = course eeprom packet c.args.steps.now before made in
    let none = none_under_way c.args.self.now.playing (sym c.is_some.ensures ∙ c.if-is_some.false) in
    subst (λ (r : ReplayTurn). RunTurnsTo g.T.Teller.telling r k c.args.self.now.settings items c.take.new.line c.take.new.disk c.take.new.self c.args.teller.now c.take.new.teller) is (c.take.ensures.turns_to k items (stands_none c.args.self.now.playing k c.args.self.now.settings c.args.self.now.taken c.args.self.now.turns items c.args.self.now.run c.args.line.now c.args.disk.now none p) (record { within = c.in-Some.ensures.lookup.3.0; is = c.in-Some.ensures.lookup.1 }))

pub returns-in-Due-clause-cut_off : goal.returns-in-Due-clause-cut_off
returns-in-Due-clause-cut_off g c (inl is) eeprom packet items before made p =
    let k = course eeprom packet c.args.steps.now before made in
    let none = none_under_way c.args.self.now.playing (sym c.is_some.ensures ∙ c.if-is_some.false) in
    subst (λ (r : ReplayTurn). RunTurnsTo g.T.Teller.telling r k c.args.self.now.settings items c.take.new.line c.take.new.disk c.take.new.self c.args.teller.now c.take.new.teller) is (c.take.ensures.turns_to k items (stands_none c.args.self.now.playing k c.args.self.now.settings c.args.self.now.taken c.args.self.now.turns items c.args.self.now.run c.args.line.now c.args.disk.now none p) (record { within = c.in-Some.ensures.lookup.3.0; is = c.in-Some.ensures.lookup.1 }))
returns-in-Due-clause-cut_off g c (inr is) eeprom packet items before made p =
    let k = course eeprom packet c.args.steps.now before made in
    let none = none_under_way c.args.self.now.playing (sym c.is_some.ensures ∙ c.if-is_some.false) in
    subst (λ (r : ReplayTurn). RunTurnsTo g.T.Teller.telling r k c.args.self.now.settings items c.take.new.line c.take.new.disk c.take.new.self c.args.teller.now c.take.new.teller) is (c.take.ensures.turns_to k items (stands_none c.args.self.now.playing k c.args.self.now.settings c.args.self.now.taken c.args.self.now.turns items c.args.self.now.run c.args.line.now c.args.disk.now none p) (record { within = c.in-Some.ensures.lookup.3.0; is = c.in-Some.ensures.lookup.1 }))
