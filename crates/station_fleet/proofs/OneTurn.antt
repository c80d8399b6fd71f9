-- One turn of a station.
use Rattle.std.proofs.Common.{ℕ, ◌≡◌, ◌≢◌, ◌⊎◌, ◌+◌, ◌<◌, ◌≤◌, length, None, true, List, [], ◌∷◌, ◌++◌, inl, inr, refl, sym, ap, subst, ◌∙◌}
use Rattle.std.specs.Prelude.{is_some}
use Rattle.causes.specs.Cause.{Cause}
use Rattle.station_io.specs.Sink.{Outlet}
use Rattle.settings_file.specs.StationSettings.{StationSettings}
use Rattle.loop_packet.specs.declared.packet.LoopPacket.{LoopPacket}
use Rattle.disk_model.specs.declared.mem_disk.MemDisk.{MemDisk}
use Rattle.disk_model.specs.declared.stopping.Stopping.{Stopping}
use Rattle.fleet.specs.declared.member.MemberTurn.{MemberTurn}
use Rattle.fleet.specs.declared.member.MemberTurn.TheVariants as member
use Rattle.fleet.specs.MemberTurns.{MemberTakesTurn, WritesLines}
use Rattle.schedule_file.specs.declared.schedule.step.Step as code_step
use Rattle.station_sim.specs.declared.sim.Sim.{Sim}
use Rattle.replay_laws.specs.Replay.{Item, start}
use Rattle.replay_laws.specs.Texts.{text}
use Rattle.schedule_replay.specs.declared.turns.ReplayRun.{ReplayRun}
use Rattle.schedule_replay.specs.declared.turns.ReplayTurn.{ReplayTurn}
use Rattle.schedule_replay.specs.declared.turns.ReplayTurn.TheVariants as replay
use Rattle.schedule_replay.specs.Replaying.{Course, Replaying, MayTurn, run_turns_left, RunTakesTurn}
use Rattle.schedule_steps.specs.Steps.{steps_for}
use Rattle.schedule_replay.specs.TextTelling.{text_telling}
use Rattle.schedule_replay.specs.Turns.{BreaksRun, CutsRun, EndsRun, IsOneTurn}
use Rattle.round_play.specs.Playing.{MakesOneCall, SaysOrStores}
use Rattle.station_fleet.specs.declared.station.Station.{Station}
use Rattle.station_fleet.specs.Outcomes.{Cuts, StationStands, StationTurned, TurnsLeadTo, TurnsOneByOne}
use Rattle.station_fleet.specs.StationTurns.{member_answer, station_turning}
use Rattle.station_fleet.proofs.WholeTexts.{text_whole}

-- what the turn of a run over these steps tells
pub record RunTook {K : Type 0} (outlet : Outlet K) (steps : List code_step.Step) (old : ReplayRun) (line : Sim)
    (disk : Stopping MemDisk) (out : K) (answer : ReplayTurn) (new : ReplayRun) (line_then : Sim)
    (disk_then : Stopping MemDisk) (out_then : K) : Type 0 where
  pub more : answer ≡ replay.More → (eeprom : List ℕ) (packet : LoopPacket) (items : List Item) (before : Sim)
      (made : Stopping MemDisk) → Replaying eeprom packet steps items before line made disk old
      → RunTakesTurn (text_telling outlet) eeprom packet steps items before line_then made disk_then new out out_then
  pub ended : answer ≡ replay.Ended → (eeprom : List ℕ) (packet : LoopPacket) (items : List Item) (before : Sim)
      (made : Stopping MemDisk) → Replaying eeprom packet steps items before line made disk old
      → EndsRun (text_telling outlet) old.settings (start eeprom packet) (steps_for old.settings.period steps) items before
      line_then disk_then out out_then
  pub unseen : answer ≡ replay.Unseen → (eeprom : List ℕ) (packet : LoopPacket) (items : List Item) (before : Sim)
      (made : Stopping MemDisk) → Replaying eeprom packet steps items before line made disk old
      → BreaksRun (text_telling outlet) old.settings (start eeprom packet) (steps_for old.settings.period steps) items out out_then
  pub cut_off : (answer ≡ replay.WriteFault) ⊎ (answer ≡ replay.OutOfMemory) → (eeprom : List ℕ) (packet : LoopPacket)
      (items : List Item) (before : Sim) (made : Stopping MemDisk) → Replaying eeprom packet steps items before line made disk old
      → CutsRun (text_telling outlet) old.settings (start eeprom packet) (steps_for old.settings.period steps) items out out_then
  pub settings : new.settings ≡ old.settings
  pub turns : answer ≡ replay.More → new.turns ≡ old.turns + 1
  pub not_counted : answer ≢ replay.More → new.turns ≡ old.turns
  pub one_turn : answer ≡ replay.More → IsOneTurn old new
  pub says_or_stores : answer ≡ replay.More → SaysOrStores line disk line_then disk_then
  pub unseen_says_or_stores : answer ≡ replay.Unseen → SaysOrStores line disk line_then disk_then
  pub one_call : answer ≡ replay.More → is_some new.playing ≡ true → MakesOneCall line disk line_then disk_then
  pub ends_open : answer ≡ replay.Ended → is_some old.run.session ≡ true
  pub ends_alone : answer ≡ replay.Ended → (old.playing ≡ None) × (length steps ≤ old.taken)
  pub left : answer ≡ replay.More → run_turns_left steps new < run_turns_left steps old
  pub write_fault : Cause (outlet.faults out) (outlet.faults out_then) (answer ≡ replay.WriteFault)
  pub still : answer ≢ replay.WriteFault → outlet.faults out_then ≡ outlet.faults out

-- a station with these parts
abbrev pub with_parts : Station → ReplayRun → Sim → Stopping MemDisk → Station
with_parts s run line disk = record { schedule = s.schedule; line = line; disk = disk; run = run }

module _ {K : Type 0} (outlet : Outlet K) (s : Station) (steps : List code_step.Step) (out : K) (answer : ReplayTurn)
    (run : ReplayRun) (line : Sim) (disk : Stopping MemDisk) (out_then : K)
    (took : RunTook outlet steps s.run s.line s.disk out answer run line disk out_then)
    (same : steps ≡ s.schedule.steps.items) where
  -- the run of the station, over the steps of the call
  stands_at : (eeprom : List ℕ) (packet : LoopPacket) (items : List Item) (before : Sim) (made : Stopping MemDisk)
      → Replaying eeprom packet s.schedule.steps.items items before s.line made s.disk s.run
      → Replaying eeprom packet steps items before s.line made s.disk s.run
  stands_at eeprom packet items before made stands =
      subst (λ (xs : List code_step.Step). Replaying eeprom packet xs items before s.line made s.disk s.run) (sym same) stands

  stands_then : (eeprom : List ℕ) (packet : LoopPacket) (items : List Item) (before : Sim) (made : Stopping MemDisk)
      → Replaying eeprom packet steps items before line made disk run
      → Replaying eeprom packet s.schedule.steps.items items before line made disk run
  stands_then eeprom packet items before made stands =
      subst (λ (xs : List code_step.Step). Replaying eeprom packet xs items before line made disk run) same stands

  -- a turn that was cut off may end within a line
  front_lines : (a : MemberTurn) → (a ≡ member.WriteFault) ⊎ (a ≡ member.OutOfMemory) → (bytes : List ℕ)
      → outlet.wrote out bytes out_then → WritesLines outlet out a out_then bytes
  front_lines member.WriteFault which bytes wrote = record { lines = tt; wrote = wrote }
  front_lines member.OutOfMemory which bytes wrote = record { lines = tt; wrote = wrote }
  front_lines member.More (inl which) bytes wrote = absurd (let no : member.More ≡ member.WriteFault = which in cc)
  front_lines member.More (inr which) bytes wrote = absurd (let no : member.More ≡ member.OutOfMemory = which in cc)
  front_lines member.Ended (inl which) bytes wrote = absurd (let no : member.Ended ≡ member.WriteFault = which in cc)
  front_lines member.Ended (inr which) bytes wrote = absurd (let no : member.Ended ≡ member.OutOfMemory = which in cc)
  front_lines member.Unseen (inl which) bytes wrote = absurd (let no : member.Unseen ≡ member.WriteFault = which in cc)
  front_lines member.Unseen (inr which) bytes wrote = absurd (let no : member.Unseen ≡ member.OutOfMemory = which in cc)

  went_on : answer ≡ replay.More → TurnsLeadTo s (member.More ∷ []) (WritesLines outlet out member.More out_then)
      (with_parts s run line disk)
  went_on is = λ settings c items stands.
      let turn = took.more is c.eeprom c.packet items c.before c.made
      (stands_at c.eeprom c.packet items c.before c.made stands.stands) in
      record {
        given = turn.0;
        writes = record { lines = text_whole turn.0; wrote = turn.1.wrote };
        stands = record {
          settings_are = took.settings ∙ stands.settings_are;
          steps_are = stands.steps_are;
          stands = stands_then c.eeprom c.packet (items ++ turn.0) c.before c.made turn.2;
        };
      }

  ended : answer ≡ replay.Ended → TurnsLeadTo s (member.Ended ∷ []) (WritesLines outlet out member.Ended out_then)
      (with_parts s run line disk)
  ended is = λ settings c items stands.
      let telling = text_telling outlet in
      let turn = took.ended is c.eeprom c.packet items c.before c.made
      (stands_at c.eeprom c.packet items c.before c.made stands.stands) in
      let with_settings = subst (λ (x : StationSettings). EndsRun telling x (start c.eeprom c.packet)
      (steps_for x.period steps) items c.before line disk out out_then) stands.settings_are turn in
      let ends = subst (λ (xs : List code_step.Step). EndsRun telling settings (start c.eeprom c.packet)
      (steps_for settings.period xs) items c.before line disk out out_then) (same ∙ stands.steps_are) with_settings in
      record {
        given = ends.given;
        writes = record { lines = text_whole ends.given; wrote = ends.told.wrote };
        kept = ends.kept;
        took_part = ends.took_part;
      }

  unseen : answer ≡ replay.Unseen → TurnsLeadTo s (member.Unseen ∷ []) (WritesLines outlet out member.Unseen out_then)
      (with_parts s run line disk)
  unseen is = λ settings c items stands.
      let telling = text_telling outlet in
      let turn = took.unseen is c.eeprom c.packet items c.before c.made
      (stands_at c.eeprom c.packet items c.before c.made stands.stands) in
      let with_settings = subst (λ (x : StationSettings). BreaksRun telling x (start c.eeprom c.packet)
      (steps_for x.period steps) items out out_then) stands.settings_are turn in
      let ends = subst (λ (xs : List code_step.Step). BreaksRun telling settings (start c.eeprom c.packet)
      (steps_for settings.period xs) items out out_then) (same ∙ stands.steps_are) with_settings in
      record {
        given = ends.given;
        writes = record { lines = text_whole ends.given; wrote = ends.told.wrote };
        is_unseen = ends.is_unseen;
        kept = ends.kept;
      }

  cut_off : (a : MemberTurn) → (a ≡ member.WriteFault) ⊎ (a ≡ member.OutOfMemory)
      → (answer ≡ replay.WriteFault) ⊎ (answer ≡ replay.OutOfMemory)
      → (settings : StationSettings) (c : Course) (items : List Item) → StationStands settings c items s
      → Cuts settings c items (WritesLines outlet out a out_then)
  cut_off a which is = λ settings c items stands.
      let telling = text_telling outlet in
      let turn = took.cut_off is c.eeprom c.packet items c.before c.made
      (stands_at c.eeprom c.packet items c.before c.made stands.stands) in
      let with_settings = subst (λ (x : StationSettings). CutsRun telling x (start c.eeprom c.packet)
      (steps_for x.period steps) items out out_then) stands.settings_are turn in
      let ends = subst (λ (xs : List code_step.Step). CutsRun telling settings (start c.eeprom c.packet)
      (steps_for settings.period xs) items out out_then) (same ∙ stands.steps_are) with_settings in
      record {
        given = ends.given;
        written = ends.told.written;
        front = ends.told.front;
        writes = front_lines a which ends.told.written ends.told.wrote;
        is_begun = ends.is_begun;
        kept = ends.kept;
      }

  led_by : (a : ReplayTurn) → answer ≡ a → TurnsLeadTo s (member_answer a ∷ [])
      (WritesLines outlet out (member_answer a) out_then) (with_parts s run line disk)
  led_by replay.More is = went_on is
  led_by replay.Ended is = ended is
  led_by replay.Unseen is = unseen is
  led_by replay.WriteFault is = cut_off member.WriteFault (inl refl) (inl is)
  led_by replay.OutOfMemory is = cut_off member.OutOfMemory (inr refl) (inr is)

  one_by : (a : ReplayTurn) → answer ≡ a → TurnsOneByOne s (member_answer a ∷ []) (with_parts s run line disk)
  one_by replay.More is = (
    with_parts s run line disk,
    record {
      counted = took.turns is;
      is_one = took.one_turn is;
      says_or_stores = took.says_or_stores is;
      one_call = took.one_call is;
    },
    refl,
  )
  one_by replay.Ended is = record {
    no_round = (took.ends_alone is).0;
    all_taken = subst (λ (xs : List code_step.Step). length xs ≤ s.run.taken) same (took.ends_alone is).1;
    is_open = took.ends_open is;
  }
  one_by replay.Unseen is = record {
    not_counted = took.not_counted (λ more. absurd (let no : replay.Unseen ≡ replay.More = sym is ∙ more in cc));
    says_or_stores = took.unseen_says_or_stores is;
  }
  one_by replay.WriteFault is =
      took.not_counted (λ more. absurd (let no : replay.WriteFault ≡ replay.More = sym is ∙ more in cc))
  one_by replay.OutOfMemory is =
      took.not_counted (λ more. absurd (let no : replay.OutOfMemory ≡ replay.More = sym is ∙ more in cc))

  turned_by : (a : ReplayTurn) → answer ≡ a → StationTurned s (member_answer a ∷ [])
      (WritesLines outlet out (member_answer a) out_then) (with_parts s run line disk)
  turned_by a is = record { one_by_one = one_by a is; leads_to = led_by a is }

  -- some text was written
  wrote_by : (a : ReplayTurn) → answer ≡ a → MayTurn s.schedule.steps.items s.line s.disk s.run
      → (bytes : List ℕ) × WritesLines outlet out (member_answer a) out_then bytes
  wrote_by replay.More is m =
      let turn = took.more is m.0 m.1 m.2 m.3 m.4 (stands_at m.0 m.1 m.2 m.3 m.4 m.5) in
      (text turn.0, record { lines = text_whole turn.0; wrote = turn.1.wrote })
  wrote_by replay.Ended is m =
      let turn = took.ended is m.0 m.1 m.2 m.3 m.4 (stands_at m.0 m.1 m.2 m.3 m.4 m.5) in
      (text turn.given, record { lines = text_whole turn.given; wrote = turn.told.wrote })
  wrote_by replay.Unseen is m =
      let turn = took.unseen is m.0 m.1 m.2 m.3 m.4 (stands_at m.0 m.1 m.2 m.3 m.4 m.5) in
      (text turn.given, record { lines = text_whole turn.given; wrote = turn.told.wrote })
  wrote_by replay.WriteFault is m =
      let turn = took.cut_off (inl is) m.0 m.1 m.2 m.3 m.4 (stands_at m.0 m.1 m.2 m.3 m.4 m.5) in
      (turn.told.written, record { lines = tt; wrote = turn.told.wrote })
  wrote_by replay.OutOfMemory is m =
      let turn = took.cut_off (inr is) m.0 m.1 m.2 m.3 m.4 (stands_at m.0 m.1 m.2 m.3 m.4 m.5) in
      (turn.told.written, record { lines = tt; wrote = turn.told.wrote })

  -- the next turn may be taken where more is to come
  may_by : (a : ReplayTurn) → answer ≡ a → MayTurn s.schedule.steps.items s.line s.disk s.run → member_answer a ≡ member.More
      → MayTurn s.schedule.steps.items line disk run
  may_by replay.More is m more =
      let turn = took.more is m.0 m.1 m.2 m.3 m.4 (stands_at m.0 m.1 m.2 m.3 m.4 m.5) in
      (m.0, m.1, m.2 ++ turn.0, m.3, m.4, stands_then m.0 m.1 (m.2 ++ turn.0) m.3 m.4 turn.2)
  may_by replay.Ended is m more = absurd (let no : member.Ended ≡ member.More = more in cc)
  may_by replay.Unseen is m more = absurd (let no : member.Unseen ≡ member.More = more in cc)
  may_by replay.WriteFault is m more = absurd (let no : member.WriteFault ≡ member.More = more in cc)
  may_by replay.OutOfMemory is m more = absurd (let no : member.OutOfMemory ≡ member.More = more in cc)

  more_by : (a : ReplayTurn) → member_answer a ≡ member.More → a ≡ replay.More
  more_by replay.More is = refl
  more_by replay.Ended is = absurd (let no : member.Ended ≡ member.More = is in cc)
  more_by replay.Unseen is = absurd (let no : member.Unseen ≡ member.More = is in cc)
  more_by replay.WriteFault is = absurd (let no : member.WriteFault ≡ member.More = is in cc)
  more_by replay.OutOfMemory is = absurd (let no : member.OutOfMemory ≡ member.More = is in cc)

  fault_by : (a : ReplayTurn) → member_answer a ≡ member.WriteFault → a ≡ replay.WriteFault
  fault_by replay.More is = absurd (let no : member.More ≡ member.WriteFault = is in cc)
  fault_by replay.Ended is = absurd (let no : member.Ended ≡ member.WriteFault = is in cc)
  fault_by replay.Unseen is = absurd (let no : member.Unseen ≡ member.WriteFault = is in cc)
  fault_by replay.WriteFault is = refl
  fault_by replay.OutOfMemory is = absurd (let no : member.OutOfMemory ≡ member.WriteFault = is in cc)

  pub takes : MayTurn s.schedule.steps.items s.line s.disk s.run
      → MemberTakesTurn station_turning outlet s out (member_answer answer) (with_parts s run line disk) out_then
  takes may =
      let wrote = wrote_by answer refl may in
      record {
        written = wrote.0;
        writes = wrote.1;
        turned = turned_by answer refl;
        goes_on = may_by answer refl may;
        falls = λ more. subst (λ (xs : List code_step.Step). run_turns_left xs run < run_turns_left xs s.run) same
            (took.left (more_by answer more));
        cause = record {
          never_falls = took.write_fault.never_falls;
          rose = λ fault. took.write_fault.rose (fault_by answer fault);
        };
        still = λ no. took.still (λ is. no (ap member_answer is));
      }
