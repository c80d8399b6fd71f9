-- What comes of a reply is calm, a new line is calm, and each byte is answered at most once.
use Rattle.std.proofs.Common.{ℕ, zero, suc, ◌+◌, ◌-◌, ◌≤◌, List, [], ◌∷◌, length, refl, arith}
use Rattle.console_model.specs.declared.reply.ReplyKind.{ReplyKind}
use Rattle.console_model.specs.declared.reply.ReplyKind.TheVariants.{Nothing, Code, Test, Wake, Ack, AckFrame, Page, Packet}
use Rattle.console_model.specs.Console.{ConsoleState, Console, Outcome}
use Rattle.console_model.specs.Console.ConsoleState.{Asleep, Command, Overlong, Frame, Dump, Looping}
use Rattle.console_model.specs.Hear.{hear}
use Rattle.station_sim.specs.declared.part.Part.{Part}
use Rattle.station_sim.specs.declared.part.Part.TheVariants.{Byte}
use Rattle.station_sim.specs.Calm.{IsCalm, IsBrief, FewWaits, EndsInByte, pending}
use Rattle.schedule_file.specs.Fates.{FatesByNumber}
use Rattle.station_sim.specs.Delivery.{late, waits, all_bytes}
use Rattle.station_sim.specs.Line.{Line, happens, hears, joins}
use Rattle.station_sim.specs.Talk.{fresh_line}

closed_all : (bs : List ℕ) → EndsInByte (all_bytes bs)
closed_all [] = tt
closed_all (b ∷ bs) = closed_all bs

closed_waits : (k b : ℕ) (l : List Part) → EndsInByte l → EndsInByte (waits k (Byte b ∷ l))
closed_waits zero b l h = h
closed_waits (suc zero) b l h = h
closed_waits (suc (suc k)) b l h = closed_waits (suc k) b l h

-- the last part of a reply, however late it comes, is a byte
pub closed_late : (k p : ℕ) (bs : List ℕ) → EndsInByte (late k p bs)
closed_late k p [] = tt
closed_late k zero (b ∷ bs) = closed_waits k b (all_bytes bs) (closed_all bs)
closed_late k (suc p) (b ∷ bs) = closed_late k p bs

few_bytes : (m k : ℕ) (bs : List ℕ) → FewWaits m k (all_bytes bs)
few_bytes m k [] = tt
few_bytes m k (b ∷ bs) = few_bytes m m bs

few_waits : (m k j : ℕ) (b : ℕ) (l : List Part) → j ≤ k → FewWaits m m l → FewWaits m k (waits j (Byte b ∷ l))
few_waits m k zero b l h g = g
few_waits m k (suc j) b l h g = (omega arith, few_waits m (k - 1) j b l (omega arith) g)

-- and nowhere in it three waits stand in a row
pub few_late : (j p : ℕ) (bs : List ℕ) → j ≤ 2 → FewWaits 2 2 (late j p bs)
few_late j p [] h = tt
few_late j zero (b ∷ bs) h = few_waits 2 2 j b (all_bytes bs) h (few_bytes 2 2 bs)
few_late j (suc p) (b ∷ bs) h = few_late j p bs h

little_pending : (s : ConsoleState) → pending s ≤ 1
little_pending Asleep = omega arith
little_pending (Command line) = omega arith
little_pending Overlong = omega arith
little_pending (Frame kind got) = omega arith
little_pending (Dump p sent) = omega arith
little_pending (Looping n) = omega arith

-- a line on which nothing was said is calm
pub fresh_calm : (k : Console) → IsBrief k.state k.idle → IsCalm (fresh_line k)
fresh_calm k brief = record {
  begun = refl;
  brief = brief;
  bytes = omega (arith, little_pending k.state);
  closed = tt;
  waits = tt;
}

joins_one : (kind : ReplyKind) (f : FatesByNumber) (o : Outcome) (w : Line) → (joins kind f o w).replies ≤ w.replies + 1
joins_one Nothing f o w = omega arith
joins_one Code f o w = omega arith
joins_one Wake f o w = omega arith
joins_one Test f o w = omega arith
joins_one Ack f o w = omega arith
joins_one AckFrame f o w = omega arith
joins_one Page f o w = omega arith
joins_one Packet f o w = omega arith

-- each byte that is heard is answered at most once
pub few_replies : (f : FatesByNumber) (bs : List ℕ) (w : Line) → (hears f bs w).replies ≤ w.replies + length bs
few_replies f [] w = omega arith
few_replies f (b ∷ bs) w =
    let v = happens f (hear w.console b) w in
    omega (arith, few_replies f bs v, joins_one (hear w.console b).kind f (hear w.console b) w)
