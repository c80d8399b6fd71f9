-- Numbers as they are printed: in decimal, with no zeros before them.
use Rattle.std.specs.Prelude.{ℕ, suc, ℤ, pos, negsuc, List, ◌++◌, codes}
use Rattle.std.specs.Fmt.{decimal}

-- a number in decimal, under a name that proofs leave closed
unfoldable pub number_text : ℕ → List ℕ
number_text n = decimal n

-- a number in decimal, with `-` before a negative one
abbrev pub signed_text : ℤ → List ℕ
signed_text (pos n) = number_text n
signed_text (negsuc n) = codes "-" ++ number_text (suc n)
