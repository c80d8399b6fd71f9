use Rattle.std.proofs.Common.{◌≡◌, ◌≤◌, ◌<◌, ◌-◌, ◌++◌, length, take, drop, ℕ, List, subst, ap, not, Bool, true, ◌∙◌, rules, arith}
use Rattle.std.specs.Prelude.{is_ok, if◌then◌else◌}
use Rattle.std.proofs.lemmas.List.{take_at}
use Rattle.std.specs.Io.{ReadsAtMost}
use Rattle.std.specs.Io.KnownBytes.{ReadConsumes}
use Rattle.station_io.specs.declared.files.TheConstants.{LONGEST}
use Rattle.station_outside.proofs.ReadsAndWrites.{front_of_more}
use Rattle.station_outside.proofs.std_files.read_front.Goals as goal

pub returns-then-count-room-clause-gives : goal.returns-then-count-room-clause-gives
returns-then-count-room-clause-gives g c x told =
    let b = g.F.Read.remaining c.loop.file in
    let new = g.F.Read.remaining c.read.new.self in
    let n = c.in-Moved.count in
    let buf = c.read.new.buf in
    let room = LONGEST - length c.loop.into.items in
    let taken = subst (λ answer. ReadConsumes b new answer buf) c.in-Moved.ensures.bytes.0 c.read.ensures.bytes in
    let most : length c.loop.into.items ≤ LONGEST = c.loop.invariant.0 in
    let bound = subst (λ answer. ReadsAtMost answer buf) c.in-Moved.ensures.bytes.0 c.read.ensures.bound in
    let over : room < n = omega (arith, c.if-count-room.true, c.len-room.ensures) in
    let done = front_of_more (g.F.Read.remaining c.args.file.now) b new c.loop.into.items buf x n room LONGEST c.loop.invariant.2 taken.0 told (omega (arith, most)) over bound.0 in
    let ok : is_ok c.extend_from_slice.result ≡ true = c.is_err.ensures.negation ∙ ap not c.if-is_err.false in
    let into = c.loop.into.items in
    let len : c.len-room.result ≡ length into = search rules in
    let size : length buf ≡ c.loop.chunk.len = search rules in
    let chunk : c.deref.result.now ≡ buf = c.deref.ensures.value ∙ take_at buf (drop (length buf) c.loop.chunk.items) c.loop.chunk.len size in
    let items : c.extend_from_slice.new.self.items ≡ into ++ take room buf
    = c.extend_from_slice.ensures.items
    ∙ ap (λ (b : Bool). if b then into ++ take (LONGEST - c.len-room.result) c.deref.result.now else into) ok
    ∙ ap (λ (k : ℕ). into ++ take (LONGEST - k) c.deref.result.now) len
    ∙ ap (λ (xs : List ℕ). into ++ take room xs) chunk in
    (items ∙ done.0, done.1)
