use Rattle.std.proofs.Common.{◌≡◌, ◌<◌, ◌^◌, ◌∙◌, length, get_or, arith, rules}
use Rattle.std.proofs.lemmas.Nat.{le_bytes_8}
use Rattle.crc_ccitt.proofs.Words.{without_first, with_next}
use Rattle.crc_ccitt.proofs.sliced.fold_in.Goals as goal

pub returns : goal.returns
returns c =
    let four : length c.args.words.now ≡ 4 = omega arith in
    let small : get_or c.args.words.now 0 0 < 2 ^ 64 = omega arith in
    without_first c.args.words.now c.from_le_bytes-next.result four small
    ∙ with_next c.args.words.now c.from_le_bytes-next.result c.args.chunk.now (le_bytes_8 c.args.chunk.now _ (search rules) (search rules) c.from_le_bytes-next.ensures)
