-- The order of a last stamp and a next one, in which none is the least, over lists whose members tell a stamp.
-- (The order is this project's profile.)
use Rattle.std.specs.Prelude.{ℕ, ◌≡◌, ◌+◌, ◌<◌, Bool, true, false, nat_lt, List, [], ◌∷◌, Some, None, IfSome, IsSomeAnd}
use Rattle.std.specs.declared.option.Option.{Option}
use Rattle.station_base.specs.CivilMinute.{CivilMinute, minute_of}

-- whether there is a stamp that exceeds the last one; where there is no last one, each does
abbrev pub exceeds : Option CivilMinute → Option CivilMinute → Bool
exceeds None None = false
exceeds (Some last) None = false
exceeds None (Some stamp) = true
exceeds (Some last) (Some stamp) = nat_lt (minute_of last) (minute_of stamp)

-- there is a stamp, which exceeds the last one, if there is one
abbrev pub CanFollow : Option CivilMinute → Option CivilMinute → Type 0
CanFollow last stamp = IsSomeAnd stamp (λ next. IfSome last (λ newest. minute_of newest < minute_of next))

-- each member's stamp exceeds the one before it, and the first this one
abbrev pub Rises : {A : Type 0} → (A → Option CivilMinute) → Option CivilMinute → List A → Type 0
Rises stamp last [] = Unit {0}
Rises stamp last (x ∷ xs) = (exceeds last (stamp x) ≡ true) × Rises stamp (stamp x) xs

-- the stamp of the last member, or what was the last before where there is none
abbrev pub last_stamp : {A : Type 0} → (A → Option CivilMinute) → List A → Option CivilMinute → Option CivilMinute
last_stamp stamp [] before = before
last_stamp stamp (x ∷ xs) before = last_stamp stamp xs (stamp x)

-- a stamp as a number, in which none is 0
abbrev pub level : Option CivilMinute → ℕ
level None = 0
level (Some stamp) = minute_of stamp + 1
