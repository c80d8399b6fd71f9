use Rattle.std.proofs.Common.{rules, ◌≡◌, ℕ, List, ◌++◌, [], replicate, drop, refl, ◌∙◌, arith, append-nil}
use Rattle.std.specs.Prelude.{FitsSigned}
use Rattle.std.specs.Int.{w32, w64, cast_signed, cast_unsigned}
use Rattle.byteorder.specs.Endian.{little_bytes}
use Rattle.daily_summary.proofs.Pieces.{piece, again_32, again_64, entry_made}
use Rattle.daily_summary.proofs.entry.spelled.Goals as goal
use Rattle.daily_summary.specs.Parts.{entry_size}

pub returns : goal.returns
returns c =
    let s = c.args.sum.now in
    let z : List ℕ = replicate entry_size 0 in
    let f0 : FitsSigned w32 s.least = search rules in
    let f3 : FitsSigned w32 s.greatest = search rules in
    let f6 : FitsSigned w64 s.sum = search rules in
    let f8 : FitsSigned w64 s.wsum = search rules in
    let p0 : List ℕ = little_bytes 4 (cast_unsigned w32 (cast_signed w32 (cast_unsigned w32 s.least))) in
    let p1 : List ℕ = little_bytes 2 c.date_word.result in
    let p2 : List ℕ = little_bytes 2 c.time_word.result in
    let p3 : List ℕ = little_bytes 4 (cast_unsigned w32 (cast_signed w32 (cast_unsigned w32 s.greatest))) in
    let p4 : List ℕ = little_bytes 2 c.date_word-2.result in
    let p5 : List ℕ = little_bytes 2 c.time_word-2.result in
    let p6 : List ℕ = little_bytes 8 (cast_unsigned w64 (cast_signed w64 (cast_unsigned w64 s.sum))) in
    let p7 : List ℕ = little_bytes 4 s.count in
    let p8 : List ℕ = little_bytes 8 (cast_unsigned w64 (cast_signed w64 (cast_unsigned w64 s.wsum))) in
    let p9 : List ℕ = little_bytes 8 s.sumtime in
    let s0 : c.write_i32.new.buf ++ [] ≡ p0 ++ drop 4 z = append-nil c.write_i32.new.buf ∙ c.write_i32.ensures in
    let s1 = piece 4 2 40 6 p0 _ p1 c.write_u16.new.buf z refl refl s0 refl (omega arith) c.write_u16.ensures in
    let s2 = piece 6 2 38 8 (p0 ++ p1) _ p2 c.write_u16-2.new.buf z refl refl s1 refl (omega arith) c.write_u16-2.ensures in
    let s3 = piece 8 4 36 12 ((p0 ++ p1) ++ p2) _ p3 c.write_i32-2.new.buf z refl refl s2 refl (omega arith) c.write_i32-2.ensures in
    let s4 = piece 12 2 32 14 (((p0 ++ p1) ++ p2) ++ p3) _ p4 c.write_u16-3.new.buf z refl refl s3 refl (omega arith) c.write_u16-3.ensures in
    let s5 = piece 14 2 30 16 ((((p0 ++ p1) ++ p2) ++ p3) ++ p4) _ p5 c.write_u16-4.new.buf z refl refl s4 refl (omega arith) c.write_u16-4.ensures in
    let s6 = piece 16 8 28 24 (((((p0 ++ p1) ++ p2) ++ p3) ++ p4) ++ p5) _ p6 c.write_i64.new.buf z refl refl s5 refl (omega arith) c.write_i64.ensures in
    let s7 = piece 24 4 20 28 ((((((p0 ++ p1) ++ p2) ++ p3) ++ p4) ++ p5) ++ p6) _ p7 c.write_u32.new.buf z refl refl s6 refl (omega arith) c.write_u32.ensures in
    let s8 = piece 28 8 16 36 (((((((p0 ++ p1) ++ p2) ++ p3) ++ p4) ++ p5) ++ p6) ++ p7) _ p8 c.write_i64-2.new.buf z refl refl s7 refl (omega arith) c.write_i64-2.ensures in
    let s9 = piece 36 8 8 entry_size ((((((((p0 ++ p1) ++ p2) ++ p3) ++ p4) ++ p5) ++ p6) ++ p7) ++ p8) _ p9 c.write_u64.new.buf z refl refl s8 refl (omega arith) c.write_u64.ensures in
    s9 ∙ entry_made s (cast_unsigned w32 (cast_signed w32 (cast_unsigned w32 s.least))) (cast_unsigned w32 (cast_signed w32 (cast_unsigned w32 s.greatest)))
    (cast_unsigned w64 (cast_signed w64 (cast_unsigned w64 s.sum))) (cast_unsigned w64 (cast_signed w64 (cast_unsigned w64 s.wsum)))
    c.date_word.result c.time_word.result c.date_word-2.result c.time_word-2.result
    (again_32 s.least f0) (again_32 s.greatest f3) (again_64 s.sum f6) (again_64 s.wsum f8) c.date_word.ensures.word c.time_word.ensures c.date_word-2.ensures.word c.time_word-2.ensures
