-- The numbers that are drawn behind a seed: the generator that ISO C gives as its example of rand, modulo 2 ^ 31.
use Rattle.std.specs.Prelude.{ℕ, ◌+◌, ◌*◌, ◌/◌, ◌%◌, ◌^◌}

-- the number behind another
abbrev pub next_draw : ℕ → ℕ
next_draw x = (x * 1103515245 + 12345) % 2 ^ 31

-- what is drawn as this number is reached
abbrev pub drawn : ℕ → ℕ
drawn x = x / 65536
