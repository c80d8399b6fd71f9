-- Two runs of one schedule.
use Rattle.std.proofs.Common.{ℕ, ◌≡◌, ◌+◌, ◌⊎◌, Bool, true, false, List, [], ◌∷◌, ◌++◌, length, Option, Some, None, refl, sym, ap, subst, ◌∙◌, inl, inr, arith, append_assoc}
use Rattle.std.proofs.lemmas.List.{length-map}
use Rattle.std.proofs.lemmas.Option.{same_Some}
use Rattle.station_base.specs.declared.row.Row.{Row}
use Rattle.settings_file.specs.StationSettings.{StationSettings}
use Rattle.serial_link.specs.declared.talk.TalkItem.{TalkItem}
use Rattle.dmpaft_pump.specs.Keeper.{Handed}
use Rattle.packed_rows.specs.Rising.{last_row_stamp}
use Rattle.schedule_file.specs.Fates.{FatesByNumber}
use Rattle.station_sim.specs.Joining.{talks_part}
use Rattle.station_sim.specs.Line.{Line}
use Rattle.station_sim.specs.Talk.{ConsoleTalk, started}
use Rattle.station_sim.specs.declared.unseen.Unseen.{Unseen}
use Rattle.station_sim.proofs.UnseenTalk.{talk_stays}
use Rattle.station_session.specs.declared.round_end.RoundEnd.{RoundEnd}
use Rattle.station_session.specs.Attempts.{MadeAttempt, all_said, page_count, skip_count}
use Rattle.station_session.specs.Batches.{kept_count, kept_records}
use Rattle.station_session.specs.Records.{stored_rows}
use Rattle.replay_laws.specs.Keeping.{Archive}
use Rattle.replay_laws.specs.Replay.{Does, IsUnseenRound, IsReplay, IsRound, IsUnseen, IsWhole, Item, Opens, Rounded, Runs, Stage, after_round, closing_items, opening_if_closed, is_stop, left_by_round, opened}
use Rattle.replay_laws.specs.Round.{LineAttempt, Ending, finished, made_attempts}
use Rattle.schedule_file.specs.declared.schedule.step.Stop.{Stop}
use Rattle.replay_laws.specs.Schedule.{ReplayStep}
use Rattle.replay_laws.specs.Session.{ComesAt, RoundEndsAs, NotPast, given_in, archive_left_after}
use Rattle.replay_laws.specs.Texts.{text, item_text, rows_text, round_line, rows_text_behind}
use Rattle.replay_laws.proofs.Bridge.{ends_same, known_end, round_talk}
use Rattle.one_text_laws.proofs.OneRound.{RoundFrom, SameRound, all_handed, rounds_meet, same_number, same_pages, same_skipped}
use Rattle.one_text_laws.proofs.OneTalk.{CutShort}
use Rattle.one_text_laws.proofs.OneTried.{never_cut}

-- the texts of items after one another are that of all
text_join : (is js : List Item) → text (is ++ js) ≡ text is ++ text js
text_join [] js = refl
text_join (i ∷ is) js = ap (λ (t : List ℕ). item_text i ++ t) (text_join is js) ∙ sym (append_assoc (item_text i) (text is) (text js))

-- what is written of a round shows nothing of its attempts but how many there are, with their pages and skipped slots
pub record ReadsAlike (x y : Rounded) : Type 0 where
  pub number : x.number ≡ y.number
  pub end : x.end ≡ y.end
  pub attempts : length x.tried ≡ length y.tried
  pub pages : page_count (made_attempts x.tried) ≡ page_count (made_attempts y.tried)
  pub skipped : skip_count (made_attempts x.tried) ≡ skip_count (made_attempts y.tried)
  pub harmed : x.harmed ≡ y.harmed
  pub kept : x.kept ≡ y.kept
  pub rows : x.rows ≡ y.rows
  pub written : x.written ≡ y.written

line_alike : (x y : Rounded) → ReadsAlike x y → round_line x ≡ round_line y
line_alike x y alike =
    rw (alike.number, alike.end, alike.attempts, alike.pages, alike.skipped, alike.harmed, alike.kept, alike.rows) refl

behind_alike : (x y : Rounded) → ReadsAlike x y → rows_text_behind x.end x ≡ rows_text_behind y.end y
behind_alike x y alike = go x.end ∙ ap (λ (end : Ending). rows_text_behind end y) alike.end
  where
    same : rows_text x.written x.rows ≡ rows_text y.written y.rows
    same = ap (λ (n : ℕ). rows_text n x.rows) alike.written ∙ ap (λ (rows : List Row). rows_text y.written rows) alike.rows

    go : (end : Ending) → rows_text_behind end x ≡ rows_text_behind end y
    go Ending.Ok = same
    go Ending.GaveUp = same
    go Ending.Full = same
    go (Ending.Stopped k) = refl

ran_alike : (x y : Rounded) → ReadsAlike x y → item_text (Item.Ran x) ≡ item_text (Item.Ran y)
unfolding item_text
ran_alike x y alike =
    ap (λ (line : List ℕ). line ++ rows_text_behind x.end x) (line_alike x y alike)
    ∙ ap (λ (rows : List ℕ). round_line y ++ rows) (behind_alike x y alike)

module _ (settings : StationSettings) where
  -- the attempts of a round of a run, and of one with an unseen delivery
  abbrev StageRound : FatesByNumber → Option Stop → Stage → Bool → List MadeAttempt → RoundEnd → Line → Type 0
  StageRound f stop s fails ts end v =
      RoundFrom settings.most stop f fails 0 0 (length s.archive.rows) (last_row_stamp s.archive.rows) (started s.line) ts end v

  from_none : (n : ℕ) → n ≡ 0 + n
  from_none n = omega arith

  round_from : (f : FatesByNumber) (left : ℕ → List (List ℕ)) (stop : Option Stop) (s u : Stage) (x : Rounded)
      (round : IsRound settings f left stop s x u) → StageRound f stop s false round.made round.end round.line
  round_from f left stop s u x round = record {
    attempts = round.attempts;
    may_end = inl (known_end settings f stop round.end x.end round.ends);
    fits = round.fits;
    not_past = subst (NotPast stop) (from_none (kept_count (given_in s.archive round.made))) round.stops.before;
    fault = λ e. inl (subst (ComesAt stop) (from_none (kept_count (given_in s.archive round.made))) (round.stops.at e));
    talks = subst (λ (ts : List MadeAttempt). ConsoleTalk f (all_said ts) (started s.line) round.line) round.made_are
        (round_talk settings f stop left s u x round);
  }

  broken_from : (f : FatesByNumber) (stop : Option Stop) (s : Stage) (i : Item) (broken : IsUnseenRound settings f stop s i)
      → StageRound f stop s true broken.tried broken.end broken.line
  broken_from f stop s i broken = record {
    attempts = broken.attempts;
    may_end = broken.ends;
    fits = broken.fits;
    not_past = subst (NotPast stop) (from_none (kept_count (given_in s.archive broken.tried))) broken.not_past;
    fault = λ e. inr refl;
    talks = broken.talks;
  }

  stage_meets : (f : FatesByNumber) (stop : Option Stop) (s : Stage) (fails falls : Bool) (ts us : List MadeAttempt) (end stops : RoundEnd) (v x : Line)
      → StageRound f stop s fails ts end v → StageRound f stop s falls us stops x
      → SameRound settings.most stop f ts us end stops v x ⊎ CutShort fails falls (all_said ts) (all_said us)
  stage_meets f stop s fails falls ts us end stops v x =
      rounds_meet settings.most stop f ts us fails falls 0 0 (length s.archive.rows) (last_row_stamp s.archive.rows) (started s.line) end stops v x

  -- two rounds of a run whose attempts are the same
  module _ (f : FatesByNumber) (left : ℕ → List (List ℕ)) (stop : Option Stop) (s u v : Stage) (x y : Rounded)
      (one : IsRound settings f left stop s x u) (two : IsRound settings f left stop s y v)
      (same : SameRound settings.most stop f one.made two.made one.end two.end one.line two.line) where
    given : given_in s.archive one.made ≡ given_in s.archive two.made
    given = all_handed (last_row_stamp s.archive.rows) one.made two.made same.tried

    archive : left_by_round settings stop s one.made ≡ left_by_round settings stop s two.made
    archive = ap (archive_left_after settings stop 0 s.archive) given

    ending : x.end ≡ y.end
    ending = ends_same settings f stop two.end x.end y.end
        (subst (λ (end : RoundEnd). RoundEndsAs stop end x.end) same.end one.ends) two.ends

    number : length x.tried ≡ length y.tried
    number = sym (length-map x.tried (λ (t : LineAttempt). t.made)) ∙ (ap length one.made_are
        ∙ (same_number one.made two.made same.tried ∙ (sym (ap length two.made_are) ∙ length-map y.tried (λ (t : LineAttempt). t.made))))

    reads_alike : ReadsAlike x y
    reads_alike = record {
      number = ap (λ (r : Rounded). r.number) one.is ∙ sym (ap (λ (r : Rounded). r.number) two.is);
      end = ending;
      attempts = number;
      pages = ap page_count one.made_are ∙ (same_pages one.made two.made same.tried ∙ sym (ap page_count two.made_are));
      skipped = ap skip_count one.made_are ∙ (same_skipped one.made two.made same.tried ∙ sym (ap skip_count two.made_are));
      harmed = ap (λ (r : Rounded). r.harmed) one.is ∙ (ap (λ (w : Line). w.harmed) same.line ∙ sym (ap (λ (r : Rounded). r.harmed) two.is));
      kept = ap (λ (r : Rounded). r.kept) one.is
          ∙ (ap (λ (h : Handed). s.archive.rows ++ stored_rows settings (kept_records h)) given ∙ sym (ap (λ (r : Rounded). r.kept) two.is));
      rows = ap (λ (r : Rounded). r.rows) one.is ∙ (ap (λ (a : Archive). a.rows) archive ∙ sym (ap (λ (r : Rounded). r.rows) two.is));
      written = ap (λ (r : Rounded). r.written) one.is ∙ sym (ap (λ (r : Rounded). r.written) two.is);
    }

    same_next : u ≡ v
    same_next =
        one.next ∙ (ap (λ (end : Ending). after_round (is_stop end) s (left_by_round settings stop s one.made) (finished left one.line)) ending
        ∙ (ap (λ (a : Archive). after_round (is_stop y.end) s a (finished left one.line)) archive
        ∙ (ap (λ (w : Line). after_round (is_stop y.end) s (left_by_round settings stop s two.made) (finished left w)) same.line ∙ sym two.next)))

  -- two rounds read alike, and lead to one stage
  same_round : (f : FatesByNumber) (left : ℕ → List (List ℕ)) (stop : Option Stop) (s u v : Stage) (x y : Rounded)
      → IsRound settings f left stop s x u → IsRound settings f left stop s y v
      → (item_text (Item.Ran x) ≡ item_text (Item.Ran y)) × (u ≡ v)
  same_round f left stop s u v x y one two = go (stage_meets f stop s false false one.made two.made one.end two.end one.line two.line
      (round_from f left stop s u x one) (round_from f left stop s v y two))
    where
      go : SameRound settings.most stop f one.made two.made one.end two.end one.line two.line
          ⊎ CutShort false false (all_said one.made) (all_said two.made) → (item_text (Item.Ran x) ≡ item_text (Item.Ran y)) × (u ≡ v)
      go (inl same) =
          (ran_alike x y (reads_alike f left stop s u v x y one two same), same_next f left stop s u v x y one two same)
      go (inr cut) = never_cut (all_said one.made) (all_said two.made) cut

  -- what is unseen behind a talk is so behind a longer one
  stays : (f : FatesByNumber) (short long : List TalkItem) (w u x : Line) (which : Unseen) → ConsoleTalk f short w u → ConsoleTalk f long w x
      → (more : List TalkItem) → long ≡ short ++ more → u.unseen ≡ Some which → x.unseen ≡ Some which
  stays f short long w u x which talks goes more is unseen =
      let parts = talks_part f short more w x (subst (λ (t : List TalkItem). ConsoleTalk f t w x) is goes) in
      talk_stays f more u x which
      (subst (λ (z : Line). ConsoleTalk f more z x) (same_Some parts.0 u (sym parts.1 ∙ talks)) parts.2) unseen

  -- a round with an unseen delivery is none that a run goes on from
  no_both : {A : Type 0} (f : FatesByNumber) (left : ℕ → List (List ℕ)) (stop : Option Stop) (s u : Stage) (i : Item) (r : Rounded)
      → IsUnseenRound settings f stop s i → IsRound settings f left stop s r u → A
  no_both {A} f left stop s u i r broken round = go (stage_meets f stop s true false broken.tried round.made broken.end round.end
      broken.line round.line leads follows)
    where
      leads : StageRound f stop s true broken.tried broken.end broken.line
      leads = broken_from f stop s i broken

      follows : StageRound f stop s false round.made round.end round.line
      follows = round_from f left stop s u r round

      not : round.line.unseen ≡ Some broken.which → A
      not unseen = absurd (let bad : Some broken.which ≡ None = sym unseen ∙ round.seen in cc)

      go : SameRound settings.most stop f broken.tried round.made broken.end round.end broken.line round.line
          ⊎ CutShort true false (all_said broken.tried) (all_said round.made) → A
      go (inl same) = not (ap (λ (w : Line). w.unseen) (sym same.line) ∙ broken.unseen)
      go (inr (inl (fault, more, is))) = not (stays f (all_said broken.tried) (all_said round.made) (started s.line) broken.line round.line
          broken.which leads.talks follows.talks more is broken.unseen)
      go (inr (inr (fault, more, is))) = absurd (let bad : false ≡ true = fault in cc)

  -- two rounds with an unseen delivery name the same one
  same_broken : (f : FatesByNumber) (stop : Option Stop) (s : Stage) (i j : Item) → IsUnseenRound settings f stop s i → IsUnseenRound settings f stop s j → i ≡ j
  same_broken f stop s i j one two = one.is ∙ (ap (λ (which : Unseen). Item.Unsaid (s.rounds + 1) which)
      (go (stage_meets f stop s true true one.tried two.tried one.end two.end one.line two.line (broken_from f stop s i one)
      (broken_from f stop s j two))) ∙ sym two.is)
    where
      go : SameRound settings.most stop f one.tried two.tried one.end two.end one.line two.line
          ⊎ CutShort true true (all_said one.tried) (all_said two.tried) → one.which ≡ two.which
      go (inl same) = same_Some one.which two.which (sym one.unseen ∙ (ap (λ (w : Line). w.unseen) same.line ∙ two.unseen))
      go (inr (inl (fault, more, is))) = same_Some one.which two.which (sym (stays f (all_said one.tried) (all_said two.tried) (started s.line)
          one.line two.line one.which one.talks two.talks more is one.unseen) ∙ two.unseen)
      go (inr (inr (fault, more, is))) = same_Some one.which two.which (sym one.unseen ∙ stays f (all_said two.tried) (all_said one.tried)
          (started s.line) two.line one.line two.which two.talks one.talks more is two.unseen)

  first_alike : (ready : Bool) (s : Stage) (i j : Item) → item_text i ≡ item_text j → text (opening_if_closed ready s ++ i ∷ []) ≡ text (opening_if_closed ready s ++ j ∷ [])
  first_alike ready s i j same =
      text_join (opening_if_closed ready s) (i ∷ []) ∙ (ap (λ (t : List ℕ). text (opening_if_closed ready s) ++ (t ++ [])) same ∙ sym (text_join (opening_if_closed ready s) (j ∷ [])))

  same_opens : (reached : Bool) (k : Stop) (s : Stage) (is js : List Item) (u v : Stage) → Opens reached k s is u → Opens reached k s js v
      → (text is ≡ text js) × (u ≡ v)
  same_opens true k s is js u v one two = (ap text (one.0 ∙ sym two.0), one.1 ∙ sym two.1)
  same_opens false k s is js u v one two = (ap text (one.0 ∙ sym two.0), one.1 ∙ sym two.1)

  -- a step has one text, and leads to one stage
  same_does : (x : ReplayStep) (s : Stage) (is js : List Item) (u v : Stage) → Does settings x s is u → Does settings x s js v
      → (text is ≡ text js) × (u ≡ v)
  same_does (ReplayStep.Due rs) s is js u v one two = (ap text (one.0 ∙ sym two.0), one.1 ∙ sym two.1)
  same_does (ReplayStep.Idle n) s is js u v one two = (ap text (one.0 ∙ sym two.0), one.1 ∙ sym two.1)
  same_does (ReplayStep.Open None) s is js u v one two = (ap text (one.0 ∙ sym two.0), one.1 ∙ sym two.1)
  same_does (ReplayStep.Open (Some k)) s is js u v one two = same_opens _ k s is js u v one two
  same_does (ReplayStep.Round f left stop) s is js u v one two =
      let same = same_round f left stop (opened s.is_open s) u v one.0 two.0 one.1 two.1 in (
        ap text one.2 ∙ (first_alike s.is_open s (Item.Ran one.0) (Item.Ran two.0) same.0 ∙ sym (ap text two.2)),
        same.1,
      )

  -- a run that comes to its end in this step, for a delivery that is unseen
  abbrev Halts : ReplayStep → Stage → List Item → Type 0
  Halts (ReplayStep.Due rs) s o = ⊥
  Halts (ReplayStep.Idle n) s o = ⊥
  Halts (ReplayStep.Open stop) s o = ⊥
  Halts (ReplayStep.Round f left stop) s o = (i : Item) × IsUnseenRound settings f stop (opened s.is_open s) i × (o ≡ opening_if_closed s.is_open s ++ i ∷ [])

  -- the items of a run from here on
  abbrev ComesTo : List ReplayStep → Stage → List Item → Type 0
  ComesTo [] s o = o ≡ closing_items s
  ComesTo (x ∷ xs) s o = Halts x s o ⊎ ((mid : Stage) × (now : List Item) × (rest : List Item) × (o ≡ now ++ rest)
      × Does settings x s now mid × ComesTo xs mid rest)

  whole_comes : (steps : List ReplayStep) (s : Stage) (is : List Item) (u : Stage) (o : List Item) → Runs settings steps s is u → o ≡ is ++ closing_items u
      → ComesTo steps s o
  whole_comes [] s is u o runs whole =
      whole ∙ (ap (λ (items : List Item). items ++ closing_items u) runs.0 ∙ ap closing_items runs.1)
  whole_comes (x ∷ xs) s is u o (mid, now, rest, items, does, more) whole = inr (
    mid,
    now,
    rest ++ closing_items u,
    whole ∙ (ap (λ (z : List Item). z ++ closing_items u) items ∙ append_assoc now rest (closing_items u)),
    does,
    whole_comes xs mid rest u (rest ++ closing_items u) more refl,
  )

  unseen_comes : (xs ys : List ReplayStep) (f : FatesByNumber) (left : ℕ → List (List ℕ)) (stop : Option Stop) (s : Stage) (is : List Item) (u : Stage) (i : Item)
      (o : List Item) → Runs settings xs s is u → IsUnseenRound settings f stop (opened u.is_open u) i → o ≡ is ++ (opening_if_closed u.is_open u ++ i ∷ [])
      → ComesTo (xs ++ ReplayStep.Round f left stop ∷ ys) s o
  unseen_comes [] ys f left stop s is u i o runs broken whole = inl (
    i,
    subst (λ (z : Stage). IsUnseenRound settings f stop (opened z.is_open z) i) runs.1 broken,
    whole ∙ (ap (λ (z : List Item). z ++ (opening_if_closed u.is_open u ++ i ∷ [])) runs.0 ∙ ap (λ (z : Stage). opening_if_closed z.is_open z ++ i ∷ []) runs.1),
  )
  unseen_comes (x ∷ xs) ys f left stop s is u i o (mid, now, rest, items, does, more) broken whole =
      let behind = opening_if_closed u.is_open u ++ i ∷ [] in
      inr (
        mid,
        now,
        rest ++ behind,
        whole ∙ (ap (λ (z : List Item). z ++ behind) items ∙ append_assoc now rest behind),
        does,
        unseen_comes xs ys f left stop mid rest u i (rest ++ behind) more broken refl,
      )

  replay_comes : (s : Stage) (steps : List ReplayStep) (o : List Item) → IsReplay settings s steps o → ComesTo steps s o
  replay_comes s steps o (inl run) = whole_comes steps s run.given run.last o run.runs run.items_are
  replay_comes s steps o (inr run) =
      subst (λ (z : List ReplayStep). ComesTo z s o) (sym run.steps_are)
      (unseen_comes run.before run.behind run.fates run.left run.stop s run.given run.last run.unsaid o run.runs run.broken run.items_are)

  halts_alike : (x : ReplayStep) (s : Stage) (o p : List Item) → Halts x s o → Halts x s p → text o ≡ text p
  halts_alike (ReplayStep.Due rs) s o p one two = absurd one
  halts_alike (ReplayStep.Idle n) s o p one two = absurd one
  halts_alike (ReplayStep.Open stop) s o p one two = absurd one
  halts_alike (ReplayStep.Round f left stop) s o p one two =
      ap text (one.2 ∙ (ap (λ (i : Item). opening_if_closed s.is_open s ++ i ∷ []) (same_broken f stop (opened s.is_open s) one.0 two.0 one.1 two.1) ∙ sym two.2))

  goes_or_halts : {A : Type 0} (x : ReplayStep) (s mid : Stage) (o now : List Item) → Halts x s o → Does settings x s now mid → A
  goes_or_halts (ReplayStep.Due rs) s mid o now one two = absurd one
  goes_or_halts (ReplayStep.Idle n) s mid o now one two = absurd one
  goes_or_halts (ReplayStep.Open stop) s mid o now one two = absurd one
  goes_or_halts (ReplayStep.Round f left stop) s mid o now one two =
      no_both f left stop (opened s.is_open s) mid one.0 two.0 one.1 two.1

  one_comes : (steps : List ReplayStep) (s : Stage) (o p : List Item) → ComesTo steps s o → ComesTo steps s p → text o ≡ text p
  one_comes [] s o p one two = ap text (one ∙ sym two)
  one_comes (x ∷ xs) s o p (inl halts) (inl also) = halts_alike x s o p halts also
  one_comes (x ∷ xs) s o p (inl halts) (inr (mid, now, rest, items, does, more)) = goes_or_halts x s mid o now halts does
  one_comes (x ∷ xs) s o p (inr (mid, now, rest, items, does, more)) (inl halts) = goes_or_halts x s mid p now halts does
  one_comes (x ∷ xs) s o p (inr (mid, now, rest, items, does, more)) (inr (at, here, later, all, acts, others)) =
      let same = same_does x s now here mid at does acts in
      let from : ComesTo xs mid later = subst (λ (z : Stage). ComesTo xs z later) (sym same.1) others in
      ap text items ∙ (text_join now rest ∙ (ap (λ (t : List ℕ). t ++ text rest) same.0
      ∙ (ap (λ (t : List ℕ). text here ++ t) (one_comes xs mid rest later more from) ∙ (sym (text_join here later) ∙ sym (ap text all)))))

  -- what leads up to an unseen delivery goes on to no end
  never_both : {A : Type 0} (xs ys : List ReplayStep) (f : FatesByNumber) (left : ℕ → List (List ℕ)) (stop : Option Stop) (s : Stage)
      (is js : List Item) (u v : Stage) (i : Item) → Runs settings (xs ++ ReplayStep.Round f left stop ∷ ys) s is u → Runs settings xs s js v
      → IsUnseenRound settings f stop (opened v.is_open v) i → A
  never_both [] ys f left stop s is js u v i (mid, now, rest, items, does, more) none broken =
      no_both f left stop (opened s.is_open s) mid i does.0 (subst (λ (z : Stage). IsUnseenRound settings f stop (opened z.is_open z) i) none.1 broken) does.1
  never_both (x ∷ xs) ys f left stop s is js u v i (mid, now, rest, items, does, more) (at, here, later, all, acts, others) broken =
      let same = same_does x s now here mid at does acts in
      never_both xs ys f left stop mid rest later u v i more (subst (λ (z : Stage). Runs settings xs z later v) (sym same.1) others) broken

pub one_text : (settings : StationSettings) (from : Stage) (steps : List ReplayStep) (o other : List Item) → IsReplay settings from steps o
    → IsReplay settings from steps other → text o ≡ text other
one_text settings from steps o other one two =
    one_comes settings steps from o other (replay_comes settings from steps o one) (replay_comes settings from steps other two)

-- no schedule has a run that comes to its end, and one that comes to an unseen delivery
pub not_both : {A : Type 0} (settings : StationSettings) (from : Stage) (steps : List ReplayStep) (o other : List Item)
    → IsWhole settings from steps o → IsUnseen settings from steps other → A
not_both settings from steps o other whole unseen =
    never_both settings unseen.before unseen.behind unseen.fates unseen.left unseen.stop from whole.given unseen.given whole.last unseen.last unseen.unsaid
    (subst (λ (z : List ReplayStep). Runs settings z from whole.given whole.last) unseen.steps_are whole.runs) unseen.runs unseen.broken
