use Rattle.std.proofs.lemmas.Int.{to_z-of_z}
use Rattle.std.specs.Int.{w8, w16}
use Rattle.std.specs.Prelude.{FitsSigned}
use Rattle.std.proofs.Common.{rules}
use Rattle.loop_packet.specs.Reading.{HasValues}
use Rattle.loop_packet.proofs.reading.fields.Goals as goal

pub returns : goal.returns
unfolding HasValues
returns c =
    let trend : FitsSigned w8 c.signed_byte.result = search rules in
    let inside : FitsSigned w16 c.signed_word.result = search rules in
    let outside : FitsSigned w16 c.signed_word-2.result = search rules in
    rw (
      to_z-of_z w8 c.signed_byte.result trend,
      to_z-of_z w16 c.signed_word.result inside,
      to_z-of_z w16 c.signed_word-2.result outside,
      c.signed_byte.ensures,
      c.signed_word.ensures,
      c.signed_word-2.ensures,
      c.byte.ensures,
      c.byte-2.ensures,
      c.byte-3.ensures,
      c.byte-4.ensures,
      c.byte-5.ensures,
      c.byte-6.ensures,
      c.byte-7.ensures,
      c.byte-8.ensures,
      c.word.ensures,
      c.word-2.ensures,
      c.word-3.ensures,
      c.word-4.ensures,
      c.word-5.ensures,
      c.word-6.ensures,
      c.word-7.ensures,
      c.word-8.ensures,
      c.word-9.ensures,
      c.word-10.ensures,
      c.word-11.ensures,
      c.word-12.ensures,
      c.word-13.ensures,
      c.word-14.ensures,
      c.word-15.ensures,
      c.word-16.ensures,
      c.many.ensures,
      c.many-2.ensures,
      c.many-3.ensures,
      c.many-4.ensures,
      c.many-5.ensures,
      c.many-6.ensures,
      c.many-7.ensures,
    )
