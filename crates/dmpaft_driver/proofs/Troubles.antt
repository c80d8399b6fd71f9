-- An answer to a stamp frame is one header, or shows one trouble.
use Rattle.std.proofs.Common.{◌≡◌, ℕ, List, refl, sym, ◌∙◌, ap, arith}
use Rattle.dmpaft_pump.specs.declared.outcome.Trouble.{Trouble}
use Rattle.dmpaft_pump.specs.declared.outcome.Trouble.TheVariants.{Asleep, NoAck, ShortHeader, NoHeaderAck, HeaderCheck, HeaderNumbers, PageLost, PageAhead}
use Rattle.dmpaft_pump.specs.Header.{IsHeader, IsNoHeader}

-- the numbers of a header are its own
pub one_header : (bytes : List ℕ) (n place m other : ℕ) → IsHeader bytes n place → IsHeader bytes m other → (n ≡ m) × (place ≡ other)
one_header bytes n place m other h g = (sym h.numbers.pages ∙ g.numbers.pages, sym h.numbers.place ∙ g.numbers.place)

both_numbers : (p q r s : ℕ) → p ≡ r → q ≡ s → HeaderNumbers p q ≡ HeaderNumbers r s
both_numbers p q r s e f = cc

-- one answer shows one trouble
pub one_trouble : (bytes : List ℕ) (t u : Trouble) → IsNoHeader bytes t → IsNoHeader bytes u → t ≡ u
one_trouble bytes Asleep u x y = absurd x
one_trouble bytes (NoAck a) u x y = absurd x
one_trouble bytes (PageLost a) u x y = absurd x
one_trouble bytes (PageAhead a b) u x y = absurd x
one_trouble bytes (ShortHeader n) (ShortHeader m) x y = ap (λ k. ShortHeader k) (sym x.0 ∙ y.0)
one_trouble bytes (ShortHeader n) (NoHeaderAck b) x y = absurd (omega (arith, x.0, x.1, y.0))
one_trouble bytes (ShortHeader n) HeaderCheck x y = absurd (omega (arith, x.0, x.1, y.0))
one_trouble bytes (ShortHeader n) (HeaderNumbers p q) x y = absurd (omega (arith, x.0, x.1, y.0))
one_trouble bytes (ShortHeader n) Asleep x y = absurd y
one_trouble bytes (ShortHeader n) (NoAck a) x y = absurd y
one_trouble bytes (ShortHeader n) (PageLost a) x y = absurd y
one_trouble bytes (ShortHeader n) (PageAhead a b) x y = absurd y
one_trouble bytes (NoHeaderAck a) (ShortHeader m) x y = absurd (omega (arith, y.0, y.1, x.0))
one_trouble bytes (NoHeaderAck a) (NoHeaderAck b) x y = ap (λ k. NoHeaderAck k) (sym x.1 ∙ y.1)
one_trouble bytes (NoHeaderAck a) HeaderCheck x y = absurd (x.2 (sym x.1 ∙ y.1))
one_trouble bytes (NoHeaderAck a) (HeaderNumbers p q) x y = absurd (x.2 (sym x.1 ∙ y.1))
one_trouble bytes (NoHeaderAck a) Asleep x y = absurd y
one_trouble bytes (NoHeaderAck a) (NoAck b) x y = absurd y
one_trouble bytes (NoHeaderAck a) (PageLost b) x y = absurd y
one_trouble bytes (NoHeaderAck a) (PageAhead b c) x y = absurd y
one_trouble bytes HeaderCheck (ShortHeader m) x y = absurd (omega (arith, y.0, y.1, x.0))
one_trouble bytes HeaderCheck (NoHeaderAck b) x y = absurd (y.2 (sym y.1 ∙ x.1))
one_trouble bytes HeaderCheck HeaderCheck x y = refl
one_trouble bytes HeaderCheck (HeaderNumbers p q) x y = absurd (x.2 y.2.good)
one_trouble bytes HeaderCheck Asleep x y = absurd y
one_trouble bytes HeaderCheck (NoAck b) x y = absurd y
one_trouble bytes HeaderCheck (PageLost b) x y = absurd y
one_trouble bytes HeaderCheck (PageAhead b c) x y = absurd y
one_trouble bytes (HeaderNumbers p q) (ShortHeader m) x y = absurd (omega (arith, y.0, y.1, x.0))
one_trouble bytes (HeaderNumbers p q) (NoHeaderAck b) x y = absurd (y.2 (sym y.1 ∙ x.1))
one_trouble bytes (HeaderNumbers p q) HeaderCheck x y = absurd (y.2 x.2.good)
one_trouble bytes (HeaderNumbers p q) (HeaderNumbers r s) x y = both_numbers p q r s (sym x.2.pages ∙ y.2.pages) (sym x.2.place ∙ y.2.place)
one_trouble bytes (HeaderNumbers p q) Asleep x y = absurd y
one_trouble bytes (HeaderNumbers p q) (NoAck b) x y = absurd y
one_trouble bytes (HeaderNumbers p q) (PageLost b) x y = absurd y
one_trouble bytes (HeaderNumbers p q) (PageAhead b c) x y = absurd y
