use Rattle.std.proofs.Common.{ℕ, List, ◌≡◌, ◌-◌, ◌∙◌, Ok, Err, sym, subst, arith, length, take, drop}
use Rattle.std.proofs.lemmas.List.{length-drop, take_all}
use Rattle.loop_packet.specs.Reading.{TellsPacket}
use Rattle.soft_record.proofs.entry.packet_in.Goals as goal

-- all that stands behind the second
behind : (bytes : List ℕ) → take (length bytes - 5) (drop 5 bytes) ≡ drop 5 bytes
behind bytes = take_all (length bytes - 5) (drop 5 bytes) (omega (arith, length-drop 5 bytes))

pub returns-in-Ok-clause-found : goal.returns-in-Ok-clause-found
returns-in-Ok-clause-found c =
    let P : List ℕ → Type 0 = λ (xs : List ℕ). TellsPacket xs (Ok c.in-Ok.packet) in
    subst P (c.copy_from_slice.ensures.after ∙ behind c.args.bytes.now) c.in-Ok.ensures.tells

pub returns-in-Ok-clause-only : goal.returns-in-Ok-clause-only
returns-in-Ok-clause-only c = λ p tells.
    let P : List ℕ → Type 0 = λ (xs : List ℕ). TellsPacket xs (Ok p) in
    let is = c.read.ensures.only p (subst P (sym (c.copy_from_slice.ensures.after ∙ behind c.args.bytes.now)) tells) in
    let same : Ok c.in-Ok.packet ≡ Ok p = sym c.in-Ok.is ∙ is in
    cc

pub returns-in-Err-clause-only : goal.returns-in-Err-clause-only
returns-in-Err-clause-only c = λ p tells.
    let P : List ℕ → Type 0 = λ (xs : List ℕ). TellsPacket xs (Ok p) in
    let is = c.read.ensures.only p (subst P (sym (c.copy_from_slice.ensures.after ∙ behind c.args.bytes.now)) tells) in
    absurd (let bad : Err c.in-Err.field-0 ≡ Ok p = sym c.in-Err.is ∙ is in cc)
