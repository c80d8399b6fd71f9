-- What calls of a line in memory make of the lines that it stands for.
use Rattle.std.proofs.Common.{◌≡◌, ℕ, List, [], refl, ap, ◌+◌, ◌-◌, ◌^◌, arith}
use Rattle.std.specs.Prelude.{min}
use Rattle.causes.specs.Cause.{RoseBy}
use Rattle.serial_link.specs.declared.talk.TalkItem.{TalkItem}
use Rattle.station_sim.specs.declared.sim.Sim.{Sim}
use Rattle.station_sim.specs.Line.{Line}
use Rattle.schedule_file.specs.Lists.{fates_of}
use Rattle.station_sim.specs.Standing.{SimShows, Goes}
use Rattle.station_sim.specs.Talk.{ConsoleTalk}
use Rattle.station_sim.proofs.Falls.{fates_sound}
use Rattle.station_sim.proofs.SoundLines.{sound_talk}

pub went_none : (old new : Sim) → new.fates ≡ old.fates → ((w : Line) → SimShows old w → SimShows new w) → Goes old [] new
went_none old new same shows = record { fates = ap fates_of same; mids = ap (λ f. f.mids) same; line = λ w s. record { line = w; talks = refl; stands = record { shows = shows w s.shows; sound = s.sound } } }

pub went_by : (old new : Sim) (t : List TalkItem) → new.fates ≡ old.fates → ((w : Line) → SimShows old w → (v : Line) × ConsoleTalk (fates_of old.fates) t w v × SimShows new v) → Goes old t new
went_by old new t same step = record {
  fates = ap fates_of same;
  mids = ap (λ f. f.mids) same;
  line = λ w s.
      let (v, talks, shows) = step w s.shows in
      let sound = sound_talk (fates_of old.fates) (fates_sound old.fates) t w v talks s.sound in
      record { line = v; talks = talks; stands = record { shows = shows; sound = sound } };
}

pub rose_same : (n a b : ℕ) → n ≡ 0 → b ≡ a → RoseBy n a b
rose_same n a b none same = omega (arith, none, same)

pub rose_one : (a b now : ℕ) → b ≡ a → now ≡ min (b + 1) (2 ^ 64 - 1) → RoseBy 1 a now
rose_one a b now same is = omega (arith, same, is)
