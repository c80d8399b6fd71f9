-- Lines stay sound where records fall due outside of messages.
use Rattle.std.proofs.Common.{◌≡◌, ℕ, zero, suc, ◌+◌, List, [], ◌∷◌, refl, ap, ◌∙◌, arith}
use Rattle.console_model.specs.Tick.{tick}
use Rattle.schedule_file.specs.Fates.{FatesByNumber}
use Rattle.station_sim.specs.Talk.{idles}
use Rattle.archive_record.specs.Record.{IsRecord, ReadsAsRow}
use Rattle.schedule_file.specs.declared.fates.Mid.{Mid}
use Rattle.station_sim.specs.Line.{Line, waited, happens}
use Rattle.schedule_file.specs.Lists.{records_left_in}
use Rattle.station_sim.specs.Sound.{IsSound}
use Rattle.station_sim.proofs.Falls.{left_records}
use Rattle.station_sim.proofs.SoundLines.{is_sound, is_well, well_due_all, well_happens, well_ticked}

pub finish_sound : (mids : List Mid) (n : ℕ) (w : Line) → IsSound w → IsSound (waited (records_left_in mids n) w)
finish_sound mids n w sound = is_sound (waited (records_left_in mids n) w) (well_due_all (records_left_in mids n) w.console (left_records mids n) (is_well w sound))

pub due_sound : (r : List ℕ) (w : Line) → IsRecord r → ReadsAsRow r → IsSound w → IsSound (waited (r ∷ []) w)
due_sound r w size row sound = is_sound (waited (r ∷ []) w) (well_due_all (r ∷ []) w.console (size, row, tt) (is_well w sound))

pub tick_sound : (f : FatesByNumber) (w : Line) → IsSound w → IsSound (happens f (tick w.console) w)
tick_sound f w sound = is_sound (happens f (tick w.console) w) (well_happens f (tick w.console) w (well_ticked w.console (is_well w sound)))

-- one tick more
pub idles_more : (f : FatesByNumber) (n : ℕ) (w : Line) → idles f (n + 1) w ≡ happens f (tick (idles f n w).console) (idles f n w)
idles_more f n w = (let e : n + 1 ≡ suc n = omega arith in ap (λ k. idles f k w) e) ∙ go n w
  where
    go : (n : ℕ) (w : Line) → idles f n (happens f (tick w.console) w) ≡ happens f (tick (idles f n w).console) (idles f n w)
    go zero w = refl
    go (suc n) w = go n (happens f (tick w.console) w)
