use Rattle.std.proofs.Common.{◌≡◌, ◌+◌, ◌*◌, ◌++◌, take}
use Rattle.std.specs.List.{flat_map}
use Rattle.arrayvec.specs.ArrayVec.{array_vec_len}
use Rattle.run_output.specs.MemoryText.{hexadecimal_byte_text}
use Rattle.run_output.proofs.text.push_memory.Given as goal

-- the digits of the bytes before
abbrev pub invariant-loop-byte : goal.invariant-loop-byte
invariant-loop-byte l =
    (l.text.items ≡ l.initial.text.items ++ flat_map hexadecimal_byte_text (take l.byte-index l.bytes))
    × (array_vec_len l.text ≡ array_vec_len l.initial.text + 2 * l.byte-index)
