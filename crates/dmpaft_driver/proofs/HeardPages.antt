-- The pages that an attempt takes stand in what was heard.
use Rattle.std.proofs.Common.{◌≡◌, ℕ, zero, suc, ◌+◌, List, [], ◌∷◌, ◌++◌, sym, ◌∙◌, ap, subst, inl, inr, append_assoc, append-nil}
use Rattle.serial_link.specs.Talk.{message}
use Rattle.serial_link.specs.declared.talk.TalkItem.{TalkItem}
use Rattle.wake_retry.specs.Parts.{heard}
use Rattle.wake_retry.proofs.Endings.{heard-append}
use Rattle.dmpaft_driver.specs.Attempt.{TakesPage, Pages, Heads, Requests, End}
use Rattle.dmpaft_pump.specs.Command.{dmpaft}
use Rattle.dmpaft_pump.specs.Pump.{most_askings}
use Rattle.dmpaft_driver.specs.OneAttempt.{StandIn, TakenWereHeard}

-- they stand behind more
stand_behind : (pages : List (List ℕ)) (more bytes : List ℕ) → StandIn pages bytes → StandIn pages (more ++ bytes)
stand_behind [] more bytes h = tt
stand_behind (page ∷ pages) more bytes h = (more ++ h.0, h.1, ap (λ (x : List ℕ). more ++ x) h.2 ∙ sym (append_assoc more h.0 (page ++ h.1)), h.3)

stand_none : (pages : List (List ℕ)) (bytes : List ℕ) → pages ≡ [] → StandIn pages bytes
stand_none pages bytes none = subst (λ (x : List (List ℕ)). StandIn x bytes) (sym none) tt

-- and so behind a front of the talk
stand_later : (pages : List (List ℕ)) (talk s t : List TalkItem) → talk ≡ s ++ t → StandIn pages (heard t) → StandIn pages (heard talk)
stand_later pages talk s t e h = subst (λ (x : List ℕ). StandIn pages x) (sym (ap heard e ∙ heard-append s t)) (stand_behind pages (heard s) (heard t) h)

-- a page that is taken is heard last
takes_heard : (left k b : ℕ) (talk : List TalkItem) (page : List ℕ) → TakesPage left k b talk page → (before : List ℕ) × (heard talk ≡ before ++ page)
takes_heard zero k b talk page x = absurd x
takes_heard (suc left) k b talk page (t, rest, e, w, inl (is, none, same)) =
    ([], ap heard e ∙ ap (λ (x : List TalkItem). heard (t ++ x)) none ∙ ap heard (append-nil t) ∙ sym same)
takes_heard (suc left) k b talk page (t, rest, e, w, inr (other, near, (s, more, f, still, x))) =
    let y = takes_heard left k _ more page x in
    let g : heard rest ≡ heard s ++ heard more = ap heard f ∙ heard-append s more in
    (heard t ++ (heard s ++ y.0), ap heard e ∙ heard-append t rest ∙ ap (λ (x : List ℕ). heard t ++ x) (g ∙ ap (λ (x : List ℕ). heard s ++ x) y.1 ∙ sym (append_assoc (heard s) y.0 page)) ∙ sym (append_assoc (heard t) (heard s ++ y.0) page))

-- a page, and those behind it
stand_next : (talk t rest : List TalkItem) (page : List ℕ) (more taken : List (List ℕ)) → talk ≡ t ++ rest → (before : List ℕ) × (heard t ≡ before ++ page) → taken ≡ page ∷ more → StandIn more (heard rest) → StandIn taken (heard talk)
stand_next talk t rest page more taken e y f h =
    subst (λ (x : List (List ℕ)). StandIn x (heard talk)) (sym f)
    (y.0, heard rest, ap heard e ∙ heard-append t rest ∙ ap (λ (x : List ℕ). x ++ heard rest) y.1 ∙ append_assoc y.0 page (heard rest), h)

pages_heard : (left k : ℕ) (talk : List TalkItem) (taken : List (List ℕ)) (end : End) → Pages left k talk taken end → StandIn taken (heard talk)
pages_heard zero k talk taken end x = stand_none taken (heard talk) x.1
pages_heard (suc left) k talk taken end (inl (t, rest, page, more, e, takes, f, inl x)) = stand_next talk t rest page more taken e (takes_heard most_askings k 6 t page takes) f (pages_heard left (k + 1) rest more end x)
pages_heard (suc left) k talk taken end (inl (t, rest, page, more, e, takes, f, inr x)) = stand_next talk t rest page more taken e (takes_heard most_askings k 6 t page takes) f (stand_none more (heard rest) x.1)
pages_heard (suc left) k talk taken end (inr (inl (t, trouble, e, misses, none, is))) = stand_none taken (heard talk) none
pages_heard (suc left) k talk taken end (inr (inr (floods, none, is))) = stand_none taken (heard talk) none

module _ (frame : List ℕ) (place : ℕ) (taken : List (List ℕ)) (end : End) where
  heads_heard : (talk : List TalkItem) → Heads frame talk place taken end → StandIn taken (heard talk)
  heads_heard talk (t, rest, e, w, inl (n, h, x)) = stand_later taken talk (message frame ++ t) rest (e ∙ sym (append_assoc (message frame) t rest)) (pages_heard n 0 rest taken end x)
  heads_heard talk (t, rest, e, w, inr (trouble, h, f, none, is)) = stand_none taken (heard talk) none

  requests_heard : (talk : List TalkItem) → Requests frame talk place taken end → StandIn taken (heard talk)
  requests_heard talk (t, rest, e, w, inl (h, x)) = stand_later taken talk (message dmpaft ++ t) rest (e ∙ sym (append_assoc (message dmpaft) t rest)) (heads_heard rest x)
  requests_heard talk (t, rest, e, w, inr (h, f, none, is)) = stand_none taken (heard talk) none

pub taken_were_heard : TakenWereHeard
taken_were_heard frame talk place taken end (inl (s, t, rest, awake, e, still, wakes, inl (h, x))) =
    stand_later taken talk (s ++ t) rest (e ∙ sym (append_assoc s t rest)) (requests_heard frame place taken end rest x)
taken_were_heard frame talk place taken end (inl (s, t, rest, awake, e, still, wakes, inr (h, f, none, is))) = stand_none taken (heard talk) none
taken_were_heard frame talk place taken end (inr (inl (flood, none, is))) = stand_none taken (heard talk) none
taken_were_heard frame talk place taken end (inr (inr (s, t, e, still, floods, none, is))) = stand_none taken (heard talk) none
