-- Stations that have taken no turn.
use Rattle.std.proofs.Common.{◌≡◌, ℕ, ◌<◌, ◌≤◌, ◌*◌, ◌^◌, List, [], ◌∷◌, ◌++◌, length, refl, ap, arith}
use Rattle.std.specs.List.{AllZip}
use Rattle.std.specs.Prelude.{All, suc}
use Rattle.std.proofs.lemmas.List.Elements.{All-cons, All-head, All-nil, All-tail}
use Rattle.eeprom_map.specs.Memory.{new_memory}
use Rattle.schedule_file.specs.declared.schedule.Schedule.{Schedule}
use Rattle.settings_file.specs.StationSettings.{StationSettings}
use Rattle.station_fleet.specs.StationTurns.{station_turning}
use Rattle.station_fleet.specs.declared.station.Station.{Station}
use Rattle.model_commands.specs.BlankPacket.{blank_packet}
use Rattle.model_commands.specs.FleetRun.{IsNewStation}
use Rattle.model_commands.specs.ScheduleReading.{IsFit}

pub zip_push : {A B : Type 0} (R : A → B → Type 0) (xs : List A) (ys : List B) (x : A) (y : B) → AllZip R xs ys → R x y
    → AllZip R (xs ++ x ∷ []) (ys ++ y ∷ [])
zip_push R [] [] x y all one = (one, tt)
zip_push R [] (b ∷ ys) x y all one = absurd all
zip_push R (a ∷ xs) [] x y all one = absurd all
zip_push R (a ∷ xs) (b ∷ ys) x y all one = (all.0, zip_push R xs ys x y all.1 one)

pub zip_long : {A B : Type 0} (R : A → B → Type 0) (xs : List A) (ys : List B) → AllZip R xs ys → length ys ≡ length xs
zip_long R [] [] all = refl
zip_long R [] (b ∷ ys) all = absurd all
zip_long R (a ∷ xs) [] all = absurd all
zip_long R (a ∷ xs) (b ∷ ys) all = ap (λ (n : ℕ). suc n) (zip_long R xs ys all.1)

-- what is so of each is so of one
pub each_at : (P : Schedule → Type 0) (before : List Schedule) (schedule : Schedule) (later : List Schedule) → All P (before ++ schedule ∷ later) → P schedule
each_at P [] schedule later all = All-head P schedule later all
each_at P (one ∷ before) schedule later all = each_at P before schedule later (All-tail P one (before ++ schedule ∷ later) all)

-- eight stations have few turns left
pub few_left : (turns stations : ℕ) → turns ≤ stations * 2 ^ 48 → stations ≤ 8 → turns < 2 ^ 63
few_left turns stations few eight = omega (arith, few, eight)

may_turn_new : (settings : StationSettings) (schedule : Schedule) (s : Station) → IsNewStation settings schedule s → station_turning.may_turn s
may_turn_new settings schedule s new = (new_memory settings.period, blank_packet, [], new.before, new.made, new.stands.stands)

-- each may take a turn
pub all_may_turn : (settings : StationSettings) (schedules : List Schedule) (stations : List Station)
    → AllZip (IsNewStation settings) schedules stations → All station_turning.may_turn stations
all_may_turn settings [] [] new = All-nil station_turning.may_turn
all_may_turn settings [] (s ∷ stations) new = absurd new
all_may_turn settings (schedule ∷ schedules) [] new = absurd new
all_may_turn settings (schedule ∷ schedules) (s ∷ stations) new =
    All-cons station_turning.may_turn s stations (may_turn_new settings schedule s new.0) (all_may_turn settings schedules stations new.1)

left_new : (settings : StationSettings) (schedule : Schedule) (s : Station) → IsFit settings.period schedule
    → IsNewStation settings schedule s → station_turning.left s < 2 ^ 48
left_new settings schedule s fit new =
    let steps = ap (λ xs. length xs) new.stands.steps_are in
    omega (arith, fit.few, new.stands.stands.few, steps)

-- and few turns are left of each
pub all_left : (settings : StationSettings) (schedules : List Schedule) (stations : List Station) → All (IsFit settings.period) schedules
    → AllZip (IsNewStation settings) schedules stations → All (λ s. station_turning.left s < 2 ^ 48) stations
all_left settings [] [] fit new = All-nil (λ s. station_turning.left s < 2 ^ 48)
all_left settings [] (s ∷ stations) fit new = absurd new
all_left settings (schedule ∷ schedules) [] fit new = absurd new
all_left settings (schedule ∷ schedules) (s ∷ stations) fit new =
    All-cons (λ s. station_turning.left s < 2 ^ 48) s stations
    (left_new settings schedule s (All-head (IsFit settings.period) schedule schedules fit) new.0)
    (all_left settings schedules stations (All-tail (IsFit settings.period) schedule schedules fit) new.1)
