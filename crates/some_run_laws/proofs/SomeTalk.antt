-- On whatever line something can be said, and something is heard.
use Rattle.std.proofs.Common.{◌≡◌, ℕ, zero, suc, ◌+◌, ◌-◌, ◌<◌, ◌==◌, if◌then◌else◌, Bool, true, false, ◌⊎◌, inl}
use Rattle.std.proofs.Common.{inr, List, [], ◌∷◌, Some, None, refl, ◌∙◌, ap, arith}
use Rattle.console_model.specs.Tick.{tick}
use Rattle.serial_link.specs.Talk.{message}
use Rattle.serial_link.specs.declared.talk.TalkItem.{TalkItem}
use Rattle.serial_link.specs.declared.talk.TalkItem.TheVariants.{Heard, Quiet}
use Rattle.dmpaft_pump.proofs.Hears.{HearsFrom}
use Rattle.station_sim.specs.declared.part.Part.{Part}
use Rattle.station_sim.specs.declared.part.Part.TheVariants.{Byte, Wait}
use Rattle.schedule_file.specs.Fates.{FatesByNumber}
use Rattle.station_sim.specs.Line.{Line, flies, happens, says_byte}
use Rattle.station_sim.specs.Talk.{line_step, hearing, waiting, and_then, console_talk, ConsoleTalk}

module _ (f : FatesByNumber) where
  -- a message can be said on whatever line
  pub says_all : (words : List ℕ) (w : Line) → (v : Line) × ConsoleTalk f (message words) w v
  says_all [] w = (w, refl)
  says_all (b ∷ []) w = (says_byte f b true w, refl)
  says_all (b ∷ c ∷ words) w = says_all (c ∷ words) (says_byte f b false w)

  -- what is heard, after so many quiet waits in a row and so many bytes, and the line then
  pub record Hears (q m run count : ℕ) (w : Line) : Type 0 where
    pub talk : List TalkItem
    pub full : Bool
    pub line : Line
    pub hears : HearsFrom q m run count talk full
    pub talks : ConsoleTalk f talk w line

  -- a byte comes next, or a wait passes
  abbrev Comes : Line → Type 0
  Comes w = ((b : ℕ) × (u : Line) × (line_step f (Heard b) w ≡ Some u)) ⊎ ((u : Line) × (line_step f Quiet w ≡ Some u))

  -- one of the two
  comes : (w : Line) → Comes w
  comes w = by_flight w.flight refl
    where
      by_flight : (l : List Part) → w.flight ≡ l → Comes w
      by_flight [] e = inr (happens f (tick w.console) w, ap (λ l. waiting l f w) e)
      by_flight (Wait ∷ l) e = inr (happens f (tick w.console) (flies w l), ap (λ l. waiting l f w) e)
      by_flight (Byte b ∷ l) e =
          let same : (b == b) ≡ true = grind arith in
          inl (b, flies w l, ap (λ l. hearing l b w) e ∙ ap (λ t. if t then Some (flies w l) else None) same)

  module _ (q m : ℕ) where
    -- at most so many bytes are heard behind one that comes
    abbrev Follows : ℕ → Type 0
    Follows d = (run count b : ℕ) (w u : Line) → run < q → count + d + 1 ≡ m → line_step f (Heard b) w ≡ Some u
        → Hears q m run count w

    -- a wait passes, and something is heard then
    after_waiting : (run count : ℕ) (w u : Line) → run + 1 < q → line_step f Quiet w ≡ Some u → Hears q m (run + 1) count u
        → Hears q m run count w
    after_waiting run count w u less is y = record {
      talk = Quiet ∷ y.talk;
      full = y.full;
      line = y.line;
      hears = inr (less, y.hears);
      talks = ap (λ o. and_then o (console_talk f y.talk)) is ∙ y.talks;
    }

    -- the last wait passes
    after_last : (run count : ℕ) (w u : Line) → run + 1 ≡ q → line_step f Quiet w ≡ Some u → Hears q m run count w
    after_last run count w u last is = record {
      talk = Quiet ∷ [];
      full = false;
      line = u;
      hears = inl (last, refl, refl);
      talks = ap (λ o. and_then o (console_talk f [])) is;
    }

    -- so many waits pass in a row at most, and one
    waits : (d : ℕ) → Follows d → (e run count : ℕ) (w : Line) → run + e + 1 ≡ q → count + d + 1 ≡ m
        → Hears q m run count w
    waits d follows zero run count w last size = elim (comes w) [
      | inl x ↦ follows run count x.0 w x.1 (omega (arith, last)) size x.2
      | inr x ↦ after_last run count w x.0 (omega (arith, last)) x.1
    ]
    waits d follows (suc e) run count w last size = elim (comes w) [
      | inl x ↦ follows run count x.0 w x.1 (omega (arith, last)) size x.2
      | inr x ↦ after_waiting run count w x.0 (omega (arith, last)) x.1
          (waits d follows e (run + 1) count x.0 (omega (arith, last)) size)
    ]

    -- something is heard behind a byte, the last one or not
    follows_all : (d : ℕ) → Follows d
    follows_all zero run count b w u less size is = record {
      talk = Heard b ∷ [];
      full = true;
      line = u;
      hears = inl (omega (arith, size), refl, refl);
      talks = ap (λ o. and_then o (console_talk f [])) is;
    }
    follows_all (suc d) run count b w u less size is =
        let y = waits d (follows_all d) (q - 1) 0 (count + 1) u (omega (arith, less)) (omega (arith, size)) in
        record {
          talk = Heard b ∷ y.talk;
          full = y.full;
          line = y.line;
          hears = inr (omega (arith, size), y.hears);
          talks = ap (λ o. and_then o (console_talk f y.talk)) is ∙ y.talks;
        }

    -- what is heard from the begin of a part
    pub hears_part : 0 < q → 0 < m → (w : Line) → Hears q m 0 0 w
    hears_part some_quiets some_bytes w =
        waits (m - 1) (follows_all (m - 1)) (q - 1) 0 0 w (omega (arith, some_quiets)) (omega (arith, some_bytes))
