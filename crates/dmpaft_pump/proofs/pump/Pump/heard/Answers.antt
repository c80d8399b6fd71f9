use Rattle.std.proofs.Common.{◌≡◌, ◌-◌, ◌<◌, ◌≤◌, true, false, [], ◌++◌, length, length-append, map, sym, ◌∙◌, ap, subst, arith}
use Rattle.serial_link.specs.declared.talk.TalkItem.TheVariants.{Heard}
use Rattle.dmpaft_pump.specs.declared.stage.Stage.{Stage}
use Rattle.dmpaft_pump.specs.Phases.{part_of_phase, most_bytes_of}
use Rattle.dmpaft_pump.specs.Pump.{AttemptState, Hearing, pump_from}
use Rattle.dmpaft_pump.specs.Shown.{PumpShows, ShowsAt, room_at}
use Rattle.dmpaft_pump.proofs.Steps.{most_same, heard_some, heard_last}
use Rattle.dmpaft_pump.proofs.pump.Pump.heard.Goals as goal

pub returns-then-self-most-clause-shows : goal.returns-then-self-most-clause-shows
returns-then-self-most-clause-shows c = λ start after s h.
    let q = c.in-Hearing.phase in
    let k = subst (λ (y : Stage). ShowsAt y start after s c.args.self.now) c.in-Hearing.is h in
    let p = part_of_phase k.place k.taken q in
    let size : length (k.bytes ++ c.args.bytes.now) ≡ most_bytes_of q = omega (arith, length-append k.bytes c.args.bytes.now, k.ready.count, c.note.ensures.count, c.if-self-most.true, c.most.ensures) in
    let e : pump_from after s (map (λ x. Heard x) c.args.bytes.now) [] ≡ _ = ap (λ (x : AttemptState). pump_from after x (map (λ x. Heard x) c.args.bytes.now) []) k.is ∙ heard_last after p k.bytes c.args.bytes.now c.args.self.now.run c.requires.some (size ∙ sym (most_same k.place k.taken q)) in
    subst (λ (x : AttemptState). PumpShows start after x c.advance.new.self) (sym e) (c.advance.ensures.shows start after k.place k.taken (k.bytes ++ c.args.bytes.now) (c.note.ensures.ready start after k.place k.taken k.bytes true k.ready size))

pub returns-else-self-most-clause-shows : goal.returns-else-self-most-clause-shows
returns-else-self-most-clause-shows c = λ start after s h.
    let q = c.in-Hearing.phase in
    let k = subst (λ (y : Stage). ShowsAt y start after s c.args.self.now) c.in-Hearing.is h in
    let p = part_of_phase k.place k.taken q in
    let room : length c.args.bytes.now ≤ most_bytes_of q - c.args.self.now.count = subst (λ (y : Stage). length c.args.bytes.now ≤ room_at y c.args.self.now.count) c.in-Hearing.is c.requires.room in
    let ne = c.if-self-most.false in
    let size : length (k.bytes ++ c.args.bytes.now) < most_bytes_of q = grind (arith, length-append k.bytes c.args.bytes.now, k.ready.count, c.note.ensures.count, ne, c.most.ensures, room, k.ready.sized) in
    let e = ap (λ (x : AttemptState). pump_from after x (map (λ x. Heard x) c.args.bytes.now) []) k.is ∙ heard_some after p k.bytes c.args.bytes.now c.args.self.now.run c.requires.some (omega (arith, size, most_same k.place k.taken q)) in
    subst (λ (y : Stage). ShowsAt y start after (pump_from after s (map (λ x. Heard x) c.args.bytes.now) []) c.note.new.self) (sym (c.note.ensures.stage ∙ c.in-Hearing.is)) (record {
      place = k.place;
      taken = k.taken;
      bytes = k.bytes ++ c.args.bytes.now;
      is = e ∙ ap (λ n. Hearing p (k.bytes ++ c.args.bytes.now) n) (sym c.note.ensures.run);
      run = omega (arith, c.note.ensures.run, k.run);
      ready = c.note.ensures.ready start after k.place k.taken k.bytes false k.ready size;
    })
