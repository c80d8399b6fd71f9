use Rattle.std.proofs.Common.{◌≡◌, ◌++◌, ℕ, List, ◌∙◌, ap, take, refl, length, arith}
use Rattle.byteorder.specs.Endian.{little_bytes}
use Rattle.row_slot.specs.Slot.{head_of, slot_of}
use Rattle.row_slot.specs.Values.{spelled_numbers, numbers_of}
use Rattle.row_slot.proofs.Bytes.{ended}
use Rattle.row_slot.proofs.Slots.{read_back, spelled_long}
use Rattle.row_slot.proofs.writing.write.Goals as goal

pub returns-clause-bytes : goal.returns-clause-bytes
unfolding slot_of
returns-clause-bytes c =
    let row = c.args.row.now in
    let last : List ℕ = little_bytes 8 row.limited in
    let long : length (spelled_numbers (numbers_of row.values)) ≡ 148 = omega (arith, spelled_long row.values, c.spelled.ensures.fields) in
    c.set_limited.ensures ∙ ap (λ (slot : List ℕ). take 168 slot ++ last) c.whole_slot-slot.ensures
    ∙ ap (λ (xs : List ℕ). take 168 (xs ++ (c.spelled.result ++ little_bytes 8 0)) ++ last) c.head_of.ensures.bytes
    ∙ ap (λ (xs : List ℕ). take 168 (head_of row ++ (xs ++ little_bytes 8 0)) ++ last) c.spelled.ensures.bytes
    ∙ ended (head_of row) (spelled_numbers (numbers_of row.values)) (little_bytes 8 0) last refl long

pub returns-clause-read_back : goal.returns-clause-read_back
returns-clause-read_back c =
    read_back c.set_limited.new.slot c.args.row.now
    (record { civil = c.head_of.ensures.civil; period = c.head_of.ensures.period; long = c.spelled.ensures.fields; printable = c.requires.values; missing = c.requires.limited })
    (returns-clause-bytes c)
