use Rattle.weather_book.proofs.Stored.{AreCopied}
use Rattle.weather_book.proofs.slots.parts_at.Given as goal

abbrev pub invariant-loop-k : goal.invariant-loop-k
invariant-loop-k l = AreCopied l.bytes l.k l.parts
