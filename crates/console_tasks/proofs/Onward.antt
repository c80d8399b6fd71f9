-- A task from its front: whatever completes it from here completes the whole.
use Rattle.std.proofs.Common.{◌≡◌, ◌≢◌, ℕ, ◌&&◌, nat_lt, Bool, true, false, List, [], ◌∷◌, ◌++◌, length, refl, sym, ◌∙◌, ap}
use Rattle.std.proofs.Common.{subst, inl, inr, arith, append_assoc, append-nil, Ok, Err}
use Rattle.std.proofs.lemmas.Bool.{lt-ltb, le-ltb}
use Rattle.std.specs.declared.result.Result.{Result}
use Rattle.serial_link.specs.declared.talk.TalkItem.{TalkItem}
use Rattle.serial_link.specs.Talk.{message}
use Rattle.wake_retry.specs.Parts.{heard, Still, Awaits, FallsShort, Wakes, IsCutOff}
use Rattle.wake_retry.specs.Settling.{IsCutSettling}
use Rattle.wake_retry.specs.Waking.{IsCutWake}
use Rattle.wake_retry.specs.Asking.{Answered}
use Rattle.wake_retry.proofs.ListeningSoFar.{silence, short_silence, heard_silence}
use Rattle.wake_retry.proofs.Onward.{silent_wakes, some_first}
use Rattle.wake_retry.specs.Parts.{answer_waits, wake_tries, settled_waits}
use Rattle.console_tasks.specs.declared.end.TaskEnd.{TaskEnd}
use Rattle.console_tasks.specs.declared.end.TaskEnd.TheVariants as task_end
use Rattle.console_tasks.specs.Exchange.{Exchange, quiets_for, is_refusal, end_by, shows, answered_exchange}
use Rattle.console_tasks.specs.TaskTalk.{Grammar, Exchanges, TaskTalk, HasEnd, IsCutTalk, Fails}
use Rattle.console_tasks.specs.Parts.{Awaiting, Starts, MessageIsAnswered, EndsTask, TaskCompletes}
use Rattle.console_tasks.proofs.Troubles.{IsTrouble, not_done, short_trouble}

-- after s and its answers, whatever completes the one grammar completes the other
pub record On (Talk Before : Grammar) (first : List (List ℕ)) (s : List TalkItem) : Type 0 where
  pub on : (rest : List TalkItem) (answers : List (List ℕ)) (end : TaskEnd) → Before rest answers end
      → Talk (s ++ rest) (first ++ answers) end

-- one after the other
pub on_then : {A B C : Grammar} {f g : List (List ℕ)} {s t : List TalkItem} → On A B f s → On B C g t → On A C (f ++ g) (s ++ t)
on_then {A} {B} {C} {f} {g} {s} {t} one two = record {
  on = λ rest answers end k.
      subst (λ (x : List (List ℕ)). A ((s ++ t) ++ rest) x end) (sym (append_assoc f g answers))
      (subst (λ (x : List TalkItem). A x (f ++ (g ++ answers)) end) (sym (append_assoc s t rest))
      (one.on (t ++ rest) (g ++ answers) end (two.on rest answers end k)));
}

cut_on : {A B : Grammar} {f : List (List ℕ)} {s : List TalkItem} → On A B f s → (t : List TalkItem) → IsCutTalk B t
    → IsCutTalk A (s ++ t)
cut_on {A} {B} {f} {s} on t k =
    let (answers, end, talk) = k.whole in
    record {
      rest = k.rest;
      some = k.some;
      whole = (
        f ++ answers,
        end,
        subst (λ (x : List TalkItem). A x (f ++ answers) end) (sym (append_assoc s t k.rest))
            (on.on (t ++ k.rest) answers end talk),
      );
    }

end_on : {A B : Grammar} {f : List (List ℕ)} {s : List TalkItem} → On A B f s → (end : TaskEnd) (t : List TalkItem)
    → HasEnd B end t → HasEnd A end (s ++ t)
end_on {A} {B} {f} {s} on end t k = (f ++ k.0, on.on t k.0 end k.1)

-- what fails behind it fails so as a whole
pub fails_on : {A B : Grammar} {f : List (List ℕ)} {s : List TalkItem} → On A B f s → (end : TaskEnd) (t : List TalkItem)
    → Fails B end t → Fails A end (s ++ t)
fails_on on task_end.Done t k = k
fails_on on task_end.Asleep t k = end_on on task_end.Asleep t k
fails_on on (task_end.Refused b) t k = end_on on (task_end.Refused b) t k
fails_on on (task_end.Short n) t k = end_on on (task_end.Short n) t k
fails_on on task_end.BadCheck t k = end_on on task_end.BadCheck t k
fails_on on task_end.BadValue t k = end_on on task_end.BadValue t k
fails_on on (task_end.Differs at sent read) t k = end_on on (task_end.Differs at sent read) t k
fails_on on task_end.Flood t k = end_on on task_end.Flood t k
fails_on on task_end.LinkFault t k = cut_on on t k
fails_on on task_end.OutOfMemory t k = cut_on on t k

-- what finishes behind it finishes the whole
pub finishes_on : {T : Type 0} {A B : Grammar} {f : List (List ℕ)} {s : List TalkItem} → On A B f s
    → (answers : T → List (List ℕ)) (r : Result T TaskEnd) (t : List TalkItem)
    → TaskCompletes B answers r t → TaskCompletes A (λ given. f ++ answers given) r (s ++ t)
finishes_on {T} {A} {B} {f} {s} on answers (Ok given) t k = on.on t (answers given) task_end.Done k
finishes_on on answers (Err end) t k = fails_on on end t k

-- a talk that ends so, by a trouble
pub fails_so : (Talk : Grammar) (answers : List (List ℕ)) (end : TaskEnd) (t : List TalkItem) → IsTrouble end
    → Talk t answers end → Fails Talk end t
fails_so Talk answers task_end.Done t trouble k = trouble
fails_so Talk answers task_end.Asleep t trouble k = (answers, k)
fails_so Talk answers (task_end.Refused b) t trouble k = (answers, k)
fails_so Talk answers (task_end.Short n) t trouble k = (answers, k)
fails_so Talk answers task_end.BadCheck t trouble k = (answers, k)
fails_so Talk answers task_end.BadValue t trouble k = (answers, k)
fails_so Talk answers (task_end.Differs at sent read) t trouble k = (answers, k)
fails_so Talk answers task_end.Flood t trouble k = (answers, k)
fails_so Talk answers task_end.LinkFault t trouble k = absurd trouble
fails_so Talk answers task_end.OutOfMemory t trouble k = absurd trouble

-- an answer that is whole shows what it is judged to be
end_whole : (r s : Bool) (answer : List ℕ) (whole : TaskEnd) → r ≡ false → s ≡ false → end_by r s answer whole ≡ whole
end_whole r s answer whole a b = rw (a, b) refl

-- one that is short shows a trouble
end_short : (r s : Bool) (answer : List ℕ) (whole : TaskEnd) → s ≡ true → IsTrouble (end_by r s answer whole)
end_short r s answer whole e = subst (λ (x : Bool). IsTrouble (end_by r x answer whole)) (sym e) (short_trouble r answer whole)

-- an exchange whose answer has trouble ends the task
pub answer_ends : (x : Exchange) (more : List Exchange) (t u : List TalkItem) (end : TaskEnd) → t ≡ message x.said ++ u
    → Awaits (quiets_for x.begins) x.size u
    → shows x (heard u) ≡ end → IsTrouble end → Exchanges (x ∷ more) t [] end
answer_ends x more t u end e w s trouble = (
  u,
  [],
  e ∙ ap (λ (y : List TalkItem). message x.said ++ y) (sym (append-nil u)),
  w,
  inr
      ((λ d. not_done end trouble (sym s ∙ d)), refl, refl, sym s),
)

-- the task fails so
pub answer_fails : (x : Exchange) (more : List Exchange) (t u : List TalkItem) (end : TaskEnd) → t ≡ message x.said ++ u
    → Awaits (quiets_for x.begins) x.size u
    → shows x (heard u) ≡ end → IsTrouble end → Fails (Exchanges (x ∷ more)) end t
answer_fails x more t u end e w s trouble =
    fails_so (Exchanges (x ∷ more)) [] end t trouble (answer_ends x more t u end e w s trouble)

-- one whose answer has none goes on
pub answer_on : (x : Exchange) (more : List Exchange) (t u : List TalkItem) (answer : List ℕ) → t ≡ message x.said ++ u
    → Awaits (quiets_for x.begins) x.size u
    → heard u ≡ answer → shows x answer ≡ task_end.Done → On (Exchanges (x ∷ more)) (Exchanges more) (answer ∷ []) t
answer_on x more t u answer e w h s = record {
  on = λ rest answers end k. (
    u,
    rest,
    ap (λ (y : List TalkItem). y ++ rest) e ∙ append_assoc (message x.said) u rest,
    w,
    inl (ap (shows x) h ∙ s, answers, ap (λ (y : List ℕ). y ∷ answers) (sym h), k),
  );
}

-- a short answer ends the task
pub short_ends : (x : Exchange) (more : List Exchange) (t u : List TalkItem) → t ≡ message x.said ++ u
    → FallsShort (quiets_for x.begins) x.size u
    → Exchanges (x ∷ more) t [] (shows x (heard u))
short_ends x more t u e short =
    answer_ends x more t u (shows x (heard u)) e (inr short) refl
    (end_short (x.begins && is_refusal (heard u)) (nat_lt (length (heard u)) x.size) (heard u) (x.judge (heard u))
    (lt-ltb (length (heard u)) x.size short.1))

-- the exchanges might end in silence
silent_exchanges : (xs : List Exchange) → Awaiting xs → (t : List TalkItem) × (end : TaskEnd) × Exchanges xs t [] end
silent_exchanges [] a = ([], task_end.Done, (refl, refl, refl))
silent_exchanges (x ∷ more) a =
    let q = quiets_for x.begins in
    let none : length (heard (silence q)) ≡ 0 = ap (λ (y : List ℕ). length y) (heard_silence q) in (
      message x.said ++ silence q,
      shows x (heard (silence q)),
      short_ends x more (message x.said ++ silence q) (silence q) refl (short_silence q, omega (arith, none, a)),
    )

-- a start that is done
pub start_on : (xs : List Exchange) (done : Unit {0}) (t : List TalkItem) → Starts (Ok done) t
    → On (TaskTalk xs) (Exchanges xs) [] t
start_on xs done t k = record {
  on = λ rest answers end x.
      let whole = ap (λ (y : List TalkItem). y ++ rest) k.split ∙ append_assoc k.settling k.waking rest in
      inl (k.settling, k.waking, rest, true, whole, k.still, k.woke, inl (refl, x));
}

-- one that finds the console asleep
pub start_asleep : (xs : List Exchange) (s w : List TalkItem) → Still settled_waits s → Wakes wake_tries w false
    → TaskTalk xs (s ++ w) [] task_end.Asleep
start_asleep xs s w still woke =
    inl (s, w, [], false, ap (λ (y : List TalkItem). s ++ y) (sym (append-nil w)), still, woke, inr (refl, refl, refl, refl))

-- one that is cut off in its settling
pub start_cut : (xs : List Exchange) (t : List TalkItem) → IsCutSettling 6 t → IsCutTalk (TaskTalk xs) t
start_cut xs t k =
    let w = silent_wakes 3 in
    record {
      rest = k.rest ++ w.0;
      some = some_first k.rest w.0 k.some;
      whole = (
        [],
        task_end.Asleep,
        subst (λ (y : List TalkItem). TaskTalk xs y [] task_end.Asleep) (append_assoc t k.rest w.0)
            (start_asleep xs (t ++ k.rest) w.0 k.whole w.1),
      );
    }

cut_wake : (xs : List Exchange) (s w rest : List TalkItem) → Awaiting xs → Still settled_waits s → rest ≢ [] → (awake : Bool)
    → Wakes wake_tries (w ++ rest) awake → IsCutTalk (TaskTalk xs) (s ++ w)
cut_wake xs s w rest a still some false k = record {
  rest = rest;
  some = some;
  whole = (
    [],
    task_end.Asleep,
    subst (λ (y : List TalkItem). TaskTalk xs y [] task_end.Asleep)
        (sym (append_assoc s w rest)) (start_asleep xs s (w ++ rest) still k),
  );
}
cut_wake xs s w rest a still some true k =
    let x = silent_exchanges xs a in
    let whole : (s ++ w) ++ (rest ++ x.0) ≡ s ++ ((w ++ rest) ++ x.0) =
    append_assoc s w (rest ++ x.0) ∙ ap (λ (y : List TalkItem). s ++ y) (sym (append_assoc w rest x.0)) in
    record {
      rest = rest ++ x.0;
      some = some_first rest x.0 some;
      whole = ([], x.1, inl (s, w ++ rest, x.0, true, whole, still, k, inl (refl, x.2)));
    }

-- one that is cut off in its wake
pub start_cut_wake : (xs : List Exchange) (s w : List TalkItem) → Awaiting xs → Still settled_waits s → IsCutWake w
    → IsCutTalk (TaskTalk xs) (s ++ w)
start_cut_wake xs s w a still k = cut_wake xs s w k.rest a still k.some k.whole.0 k.whole.1

-- a whole answer without refusal shows what it is judged to be
pub shows_judged : (said answer : List ℕ) (judge : List ℕ → TaskEnd) → is_refusal answer ≡ false
    → shows (answered_exchange said (length answer) judge) answer ≡ judge answer
shows_judged said answer judge r =
    end_whole (true && is_refusal answer) (nat_lt (length answer) (length answer)) answer (judge answer) r
    (le-ltb (length answer) (length answer) (omega arith))

-- an exchange that was answered, and whose answer is well
pub answered_on : (said answer : List ℕ) (judge : List ℕ → TaskEnd) (more : List Exchange) (t : List TalkItem)
    → MessageIsAnswered said answer t → judge answer ≡ task_end.Done
    → On (Exchanges (answered_exchange said (length answer) judge ∷ more)) (Exchanges more) (answer ∷ []) t
answered_on said answer judge more t k well =
    answer_on (answered_exchange said (length answer) judge) more t k.reply answer k.split k.awaited k.bytes (shows_judged said answer judge k.accepts ∙ well)

-- one whose answer is not
pub answered_ends : (said answer : List ℕ) (judge : List ℕ → TaskEnd) (end : TaskEnd) (t : List TalkItem)
    → MessageIsAnswered said answer t → judge answer ≡ end → IsTrouble end
    → EndsTask (answered_exchange said (length answer) judge) end t
answered_ends said answer judge end t k bad trouble more =
    let x = answered_exchange said (length answer) judge in
    answer_fails x more t k.reply end k.split k.awaited (ap (shows x) k.bytes ∙ shows_judged said answer judge k.accepts ∙ bad) trouble

-- one that is cut off
pub asking_cut : (said : List ℕ) (size : ℕ) (judge : List ℕ → TaskEnd) (more : List Exchange) (t : List TalkItem)
    → IsCutOff (Answered said (FallsShort answer_waits size)) t
    → IsCutTalk (Exchanges (answered_exchange said size judge ∷ more)) t
asking_cut said size judge more t k =
    let x = answered_exchange said size judge in
    let l = k.whole in
    record {
      rest = k.rest;
      some = k.some;
      whole = ([], shows x (heard l.answer), short_ends x more (t ++ k.rest) l.answer l.split l.is);
    }

-- nothing is left
pub exchanges_end : Exchanges [] [] [] task_end.Done
exchanges_end = (refl, refl, refl)

-- the last exchange is well
pub on_end : {A : Grammar} {f : List (List ℕ)} {t : List TalkItem} → On A (Exchanges []) f t → A t f task_end.Done
on_end {A} {f} {t} on =
    subst (λ (x : List (List ℕ)). A t x task_end.Done) (append-nil f)
    (subst (λ (x : List TalkItem). A x (f ++ []) task_end.Done) (append-nil t) (on.on [] [] task_end.Done exchanges_end))
