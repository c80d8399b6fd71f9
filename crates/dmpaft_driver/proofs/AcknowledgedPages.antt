-- What was said and heard tells which pages were acknowledged, and each of their batches was kept.
use Rattle.std.proofs.Common.{◌≡◌, ◌≢◌, ℕ, zero, suc, ◌+◌, ◌⊎◌, true, List, [], ◌∷◌, ◌++◌, Option, refl, sym, ◌∙◌, ap, subst, inl, inr, append_assoc, append-nil}
use Rattle.causes.specs.Lists.{IsFrontOf}
use Rattle.causes.specs.declared.stored.Stored.{Stored}
use Rattle.causes.specs.declared.stored.Stored.TheVariants as stored
use Rattle.station_base.specs.CivilMinute.{CivilMinute}
use Rattle.serial_link.specs.declared.talk.TalkItem.{TalkItem}
use Rattle.serial_link.specs.declared.talk.TalkItem.TheVariants.{Said}
use Rattle.vantage_frames.specs.StampFrame.{stamp_frame_of}
use Rattle.dmpaft_pump.specs.declared.outcome.DumpEnd.{DumpEnd}
use Rattle.dmpaft_pump.specs.declared.outcome.DumpEnd.TheVariants as dump_end
use Rattle.dmpaft_driver.specs.Attempt.{Pages, Heads, Requests, Attempt, End}
use Rattle.dmpaft_pump.specs.Batch.{slots_in_page, rising, newest, add, batches, answered_batches, EndsGiving}
use Rattle.dmpaft_pump.specs.Keeper.{kept_in}
use Rattle.dmpaft_driver.specs.Outcome.{Ended}
use Rattle.dmpaft_driver.specs.Gathered.{keeper_answer, dump_batches}
use Rattle.dmpaft_driver.specs.OneAttempt.{OneAttempt, OneFront, AcknowledgedAreKept, TakenAreAcknowledged}
use Rattle.serial_link.specs.Talk.{message}
use Rattle.dmpaft_pump.specs.Command.{dmpaft}
use Rattle.dmpaft_pump.proofs.HandedBatches.{kept_answered, kept_in_all}
use Rattle.dmpaft_driver.proofs.OneTalk.{attempt_goes, pages_say, refused_some, failed_not_refused, flooded_not_refused}

no_rest : (A : List (List ℕ)) (more B : List (List ℕ)) → B ≡ A ++ more → more ≡ [] → A ≡ B
no_rest A more B e none = sym (e ∙ ap (λ (x : List (List ℕ)). A ++ x) none ∙ append-nil A)

pub one_attempt : OneAttempt
one_attempt frame talk place place' taken taken' end end' g h =
    let o = attempt_goes frame talk talk [] place place' taken taken' end end' g h (append-nil talk) in
    let w = o.whole refl in
    record { pages = no_rest taken o.more taken' o.first w.0; ends = w.1; places = o.places }

-- what was taken in a front of a talk is the first of what is taken in all of it
taken_first : (frame : List ℕ) (talk rest : List TalkItem) (p q : ℕ) (A B : List (List ℕ)) (end : End) → (A ≡ []) ⊎ ((front : List TalkItem) × IsFrontOf front talk × Attempt frame front p A End.Refused) → Attempt frame (talk ++ rest) q B end → (more : List (List ℕ)) × (B ≡ A ++ more)
taken_first frame talk rest p q A B end (inl none) h = (B, ap (λ (x : List (List ℕ)). x ++ B) (sym none))
taken_first frame talk rest p q A B end (inr (front, (behind, e), g)) h =
    let o = attempt_goes frame front (talk ++ rest) (behind ++ rest) p q A B End.Refused end g h (sym (append_assoc front behind rest) ∙ ap (λ (x : List TalkItem). x ++ rest) e) in
    (o.more, o.first)

-- lists that are each the first of the other are the same
both_first : (A B m n : List (List ℕ)) → B ≡ A ++ m → A ≡ B ++ n → A ≡ B
both_first [] [] m n e f = refl
both_first [] (b ∷ B) m n e f = cc
both_first (x ∷ A) [] m n e f = cc
both_first (x ∷ A) (b ∷ B) m n e f =
    let g : B ≡ A ++ m = cc in
    let h : A ≡ B ++ n = cc in
    let k : x ≡ b = cc in
    let r = both_first A B m n g h in cc

pub one_front : OneFront
one_front frame talk place place' taken taken' g h =
    let o = taken_first frame talk h.rest place place' taken taken' h.end g.were_taken h.whole in
    let u = taken_first frame talk g.rest place' place taken' taken g.end h.were_taken g.whole in
    both_first taken taken' o.0 u.0 o.1 u.1

add_behind : (rows : List (List ℕ)) (more rest : List (List (List ℕ))) → add rows (more ++ rest) ≡ add rows more ++ rest
add_behind [] more rest = refl
add_behind (r ∷ rows) more rest = refl

-- the batches of the first pages are the first batches
batches_first : (last : Option CivilMinute) (place : ℕ) (A more : List (List ℕ)) → (rest : List (List (List ℕ))) × (batches last place (A ++ more) ≡ batches last place A ++ rest)
batches_first last place [] more = (batches last place more, refl)
batches_first last place (page ∷ A) more =
    let b = batches_first (newest last (slots_in_page place page)) 0 A more in
    (b.0, ap (λ (x : List (List (List ℕ))). add (rising last (slots_in_page place page)) x) b.1 ∙ add_behind (rising last (slots_in_page place page)) (batches (newest last (slots_in_page place page)) 0 A) b.0)

add_some : (rows : List (List ℕ)) (more : List (List (List ℕ))) → rows ≢ [] → add rows more ≢ []
add_some [] more some e = some refl
add_some (r ∷ rows) more some e = cc

add_more : (rows : List (List ℕ)) (more : List (List (List ℕ))) → more ≢ [] → add rows more ≢ []
add_more [] more some e = some e
add_more (r ∷ rows) more some e = cc

gives_some : (last : Option CivilMinute) (place : ℕ) (taken : List (List ℕ)) → EndsGiving last place taken → batches last place taken ≢ []
gives_some last place [] x = absurd x
gives_some last place (page ∷ []) x = add_some (rising last (slots_in_page place page)) [] x
gives_some last place (page ∷ next ∷ more) x = add_more (rising last (slots_in_page place page)) (batches (newest last (slots_in_page place page)) 0 (next ∷ more)) (gives_some (newest last (slots_in_page place page)) 0 (next ∷ more) x)

gives_next : (last : Option CivilMinute) (place : ℕ) (page : List ℕ) (A more : List (List ℕ)) → more ≢ [] → EndsGiving last place (page ∷ (A ++ more)) → EndsGiving (newest last (slots_in_page place page)) 0 (A ++ more)
gives_next last place page [] [] some x = absurd (some refl)
gives_next last place page [] (next ∷ more) some x = x
gives_next last place page (next ∷ A) more some x = x

-- where the last of the pages behind gives a batch, there is one more
batches_behind : (last : Option CivilMinute) (place : ℕ) (A more : List (List ℕ)) → more ≢ [] → EndsGiving last place (A ++ more) → (rest : List (List (List ℕ))) × (rest ≢ []) × (batches last place (A ++ more) ≡ batches last place A ++ rest)
batches_behind last place [] more some x = (batches last place more, gives_some last place more x, refl)
batches_behind last place (page ∷ A) more some x =
    let b = batches_behind (newest last (slots_in_page place page)) 0 A more some (gives_next last place page A more some x) in
    (b.0, b.1, ap (λ (z : List (List (List ℕ))). add (rising last (slots_in_page place page)) z) b.2 ∙ add_behind (rising last (slots_in_page place page)) (batches (newest last (slots_in_page place page)) 0 A) b.0)

-- batches before others were kept
kept_first : (answer : Stored) (bs rest : List (List (List ℕ))) → rest ≢ [] → kept_in (answered_batches answer (bs ++ rest)) ≡ bs ++ kept_in (answered_batches answer rest)
kept_first answer [] rest some = refl
kept_first answer (b ∷ []) [] some = absurd (some refl)
kept_first answer (b ∷ []) (r ∷ rest) some = refl
kept_first answer (b ∷ c ∷ bs) rest some = ap (λ (x : List (List (List ℕ))). b ∷ x) (kept_first answer (c ∷ bs) rest some)

-- pages that are the first of those taken, where no batch was refused
front_kept : (after : Option CivilMinute) (p q : ℕ) (pages more taken : List (List ℕ)) (end : DumpEnd) → keeper_answer end ≡ stored.Done → taken ≡ pages ++ more → p ≡ q
    → IsFrontOf (batches after p pages) (kept_in (dump_batches end after q taken))
front_kept after p q pages more taken end done e same =
    let b = batches_first after p pages more in (
      b.0,
      sym b.1 ∙ ap (λ (x : List (List ℕ)). batches after p x) (sym e) ∙ ap (λ n. batches after n taken) same ∙ sym (kept_in_all (batches after q taken))
          ∙ ap kept_in (sym (kept_answered (batches after q taken))) ∙ ap (λ (x : Stored). kept_in (answered_batches x (batches after q taken))) (sym done),
    )

-- and where the last batch was refused, and others were taken after them
front_kept_refused : (after : Option CivilMinute) (p q : ℕ) (pages more taken : List (List ℕ)) (end : DumpEnd) → EndsGiving after q taken → more ≢ [] → taken ≡ pages ++ more → p ≡ q
    → IsFrontOf (batches after p pages) (kept_in (dump_batches end after q taken))
front_kept_refused after p q pages more taken end gives some e same =
    let b = batches_behind after p pages more some (subst (λ n. EndsGiving after n (pages ++ more)) (sym same) (subst (λ (x : List (List ℕ)). EndsGiving after q x) e gives)) in (
      kept_in (answered_batches (keeper_answer end) b.0),
      sym (kept_first (keeper_answer end) (batches after p pages) b.0 b.1) ∙ ap (λ (x : List (List (List ℕ))). kept_in (answered_batches (keeper_answer end) x)) (sym b.2)
          ∙ ap (λ (x : List (List ℕ)). kept_in (answered_batches (keeper_answer end) (batches after p x))) (sym e) ∙ ap (λ n. kept_in (answered_batches (keeper_answer end) (batches after n taken))) same,
    )

heads_some : (frame : List ℕ) (t : List TalkItem) (p : ℕ) (taken : List (List ℕ)) → Heads frame t p taken End.Refused → taken ≢ []
heads_some frame t p taken (u, rest, e, w, inl (n, h, x)) = refused_some n 0 rest taken x
heads_some frame t p taken (u, rest, e, w, inr (trouble, h, is, none, end)) = absurd (failed_not_refused trouble (sym end))

requests_some : (frame : List ℕ) (t : List TalkItem) (p : ℕ) (taken : List (List ℕ)) → Requests frame t p taken End.Refused → taken ≢ []
requests_some frame t p taken (u, rest, e, w, inl (h, x)) = heads_some frame rest p taken x
requests_some frame t p taken (u, rest, e, w, inr (h, is, none, end)) = absurd (failed_not_refused _ (sym end))

-- a refused attempt took a page
pub attempt_some : (frame : List ℕ) (t : List TalkItem) (p : ℕ) (taken : List (List ℕ)) → Attempt frame t p taken End.Refused → taken ≢ []
attempt_some frame t p taken (inl (s, u, rest, b, e, still, w, inl (h, x))) = requests_some frame rest p taken x
attempt_some frame t p taken (inl (s, u, rest, b, e, still, w, inr (h, is, none, end))) = absurd (failed_not_refused _ (sym end))
attempt_some frame t p taken (inr (inl (flood, none, end))) = absurd (flooded_not_refused (sym end))
attempt_some frame t p taken (inr (inr (s, u, e, still, w, none, end))) = absurd (flooded_not_refused (sym end))

module _ (after : Option CivilMinute) (p q : ℕ) (taken pages : List (List ℕ)) (front rest : List TalkItem) (g : Attempt (stamp_frame_of after) front p pages End.Refused) where
  some_pages : pages ≢ []
  some_pages = attempt_some (stamp_frame_of after) front p pages g

  -- within a talk in which no batch was refused
  unrefused : (end : DumpEnd) (talk : List TalkItem) (e : End) → keeper_answer end ≡ stored.Done → front ++ rest ≡ talk → Attempt (stamp_frame_of after) talk q taken e
      → IsFrontOf (batches after p pages) (kept_in (dump_batches end after q taken))
  unrefused end talk e done is x =
      let o = attempt_goes (stamp_frame_of after) front talk rest p q pages taken End.Refused e g x is in
      front_kept after p q pages o.more taken end done o.first (o.places some_pages)

  refused : (end : DumpEnd) (talk : List TalkItem) → EndsGiving after q taken → rest ≢ [] → front ++ rest ≡ talk → Attempt (stamp_frame_of after) talk q taken End.Refused
      → IsFrontOf (batches after p pages) (kept_in (dump_batches end after q taken))
  refused end talk gives some is x =
      let o = attempt_goes (stamp_frame_of after) front talk rest p q pages taken End.Refused End.Refused g x is in
      front_kept_refused after p q pages o.more taken end gives (λ none. some (o.refused refl none)) o.first (o.places some_pages)

pub acknowledged_are_kept : AcknowledgedAreKept
acknowledged_are_kept after talk place place' taken pages end x (front, rest, e, g) = go end x.ends x.refused
  where
    behind : List TalkItem
    behind = Said 6 true ∷ rest

    some : behind ≢ []
    some = λ none. cc

    go : (end : DumpEnd) → Ended (λ t ps n. Attempt (stamp_frame_of after) t place ps n) end talk taken → (keeper_answer end ≢ stored.Done → EndsGiving after place taken)
        → IsFrontOf (batches after place' pages) (kept_in (dump_batches end after place taken))
    go dump_end.Whole h r = unrefused after place' place taken pages front behind g dump_end.Whole talk End.Whole refl (sym e) h
    go (dump_end.Failed trouble) h r = unrefused after place' place taken pages front behind g (dump_end.Failed trouble) talk (End.Failed trouble) refl (sym e) h
    go dump_end.Flood h r = unrefused after place' place taken pages front behind g dump_end.Flood talk End.Flooded refl (sym e) h
    go dump_end.Full h r = refused after place' place taken pages front behind g dump_end.Full talk (r (λ no. cc)) some (sym e) h
    go dump_end.Stale h r = refused after place' place taken pages front behind g dump_end.Stale talk (r (λ no. cc)) some (sym e) h
    go dump_end.DiskFault h r = refused after place' place taken pages front behind g dump_end.DiskFault talk (r (λ no. cc)) some (sym e) h
    go dump_end.LinkFault h r = unrefused after place' place taken pages front (behind ++ h.rest) g dump_end.LinkFault (talk ++ h.rest) h.end refl (sym (append_assoc front behind h.rest) ∙ ap (λ (z : List TalkItem). z ++ h.rest) (sym e)) h.whole
    go dump_end.OutOfMemory h r = unrefused after place' place taken pages front (behind ++ h.rest) g dump_end.OutOfMemory (talk ++ h.rest) h.end refl (sym (append_assoc front behind h.rest) ∙ ap (λ (z : List TalkItem). z ++ h.rest) (sym e)) h.whole

none_first : (A more : List (List ℕ)) → A ++ more ≡ [] → A ≡ []
none_first [] more e = refl
none_first (p ∷ A) more e = cc

none_behind : (A more : List (List ℕ)) → A ++ more ≡ [] → more ≡ []
none_behind [] more e = e
none_behind (p ∷ A) more e = cc

-- 0x06 stands behind a front of this talk, which is of this grammar and refused
Acks : (List TalkItem → Type 0) → List TalkItem → Type 0
Acks G y = (f : List TalkItem) × (r : List TalkItem) × (y ≡ f ++ Said 6 true ∷ r) × G f

-- and so behind more in front
behind_more : (y s rest f b : List TalkItem) → y ≡ s ++ rest → rest ≡ f ++ b → y ≡ (s ++ f) ++ b
behind_more y s rest f b e g = e ∙ ap (λ (x : List TalkItem). s ++ x) g ∙ sym (append_assoc s f b)

pages_ack : (left k : ℕ) (y : List TalkItem) (A more : List (List ℕ)) (e : End) → Pages left k y (A ++ more) e → A ≢ [] → (more ≡ [] → e ≢ End.Refused) → Acks (λ f. Pages left k f A End.Refused) y
unfolding Acks
pages_ack zero k y A more e x some on = absurd (some (none_first A more x.1))
pages_ack (suc left) k y [] more e (inl x) some on = absurd (some refl)
pages_ack (suc left) k y (p ∷ []) more e (inl (t, r, by, m, is, takes, tk, inl x)) some on =
    let s = pages_say left k r m e x in
    let same : p ≡ by = cc in
    (t, s.0, is ∙ ap (λ (z : List TalkItem). t ++ z) s.1, inl (t, [], by, [], sym (append-nil t), takes, ap (λ (z : List ℕ). z ∷ []) same, inr (refl, refl, refl)))
pages_ack (suc left) k y (p ∷ q ∷ A) more e (inl (t, r, by, m, is, takes, tk, inl x)) some on =
    let same : p ≡ by = cc in
    let tail : m ≡ (q ∷ A) ++ more = cc in
    let i = pages_ack left (k + 1) r (q ∷ A) more e (subst (λ (z : List (List ℕ)). Pages left (k + 1) r z e) tail x) (λ no. cc) on in
    (t ++ i.0, i.1, behind_more y t r i.0 (Said 6 true ∷ i.1) is i.2, inl (t, i.0, by, q ∷ A, refl, takes, ap (λ (z : List ℕ). z ∷ q ∷ A) same, inl i.3))
pages_ack (suc left) k y (p ∷ A) more e (inl (t, r, by, m, is, takes, tk, inr x)) some on =
    let tail : A ++ more ≡ m = cc in
    absurd (on (none_behind A more (tail ∙ x.1)) x.2)
pages_ack (suc left) k y A more e (inr (inl x)) some on = absurd (some (none_first A more x.4))
pages_ack (suc left) k y A more e (inr (inr x)) some on = absurd (some (none_first A more x.1))

heads_ack : (frame : List ℕ) (y : List TalkItem) (p : ℕ) (A more : List (List ℕ)) (e : End) → Heads frame y p (A ++ more) e → A ≢ [] → (more ≡ [] → e ≢ End.Refused) → Acks (λ f. Heads frame f p A End.Refused) y
unfolding Acks
heads_ack frame y p A more e (t, rest, is, w, inl (n, h, x)) some on =
    let i = pages_ack n 0 rest A more e x some on in
    (message frame ++ (t ++ i.0), i.1, behind_more y (message frame) (t ++ rest) (t ++ i.0) (Said 6 true ∷ i.1) is (behind_more (t ++ rest) t rest i.0 (Said 6 true ∷ i.1) refl i.2), (t, i.0, refl, w, inl (n, h, i.3)))
heads_ack frame y p A more e (t, rest, is, w, inr x) some on = absurd (some (none_first A more x.3))

requests_ack : (frame : List ℕ) (y : List TalkItem) (p : ℕ) (A more : List (List ℕ)) (e : End) → Requests frame y p (A ++ more) e → A ≢ [] → (more ≡ [] → e ≢ End.Refused) → Acks (λ f. Requests frame f p A End.Refused) y
unfolding Acks
requests_ack frame y p A more e (t, rest, is, w, inl (h, x)) some on =
    let i = heads_ack frame rest p A more e x some on in
    (message dmpaft ++ (t ++ i.0), i.1, behind_more y (message dmpaft) (t ++ rest) (t ++ i.0) (Said 6 true ∷ i.1) is (behind_more (t ++ rest) t rest i.0 (Said 6 true ∷ i.1) refl i.2), (t, i.0, refl, w, inl (h, i.3)))
requests_ack frame y p A more e (t, rest, is, w, inr x) some on = absurd (some (none_first A more x.2))

pub taken_are_acknowledged : TakenAreAcknowledged
unfolding Acks
taken_are_acknowledged frame y p A more e (inl (s, t, rest, awake, is, still, w, inl (h, x))) some on =
    let i = requests_ack frame rest p A more e x some on in
    (s ++ (t ++ i.0), i.1, behind_more y s (t ++ rest) (t ++ i.0) (Said 6 true ∷ i.1) is (behind_more (t ++ rest) t rest i.0 (Said 6 true ∷ i.1) refl i.2), inl (s, t, i.0, awake, refl, still, w, inl (h, i.3)))
taken_are_acknowledged frame y p A more e (inl (s, t, rest, awake, is, still, w, inr x)) some on = absurd (some (none_first A more x.2))
taken_are_acknowledged frame y p A more e (inr (inl x)) some on = absurd (some (none_first A more x.1))
taken_are_acknowledged frame y p A more e (inr (inr x)) some on = absurd (some (none_first A more x.5))
