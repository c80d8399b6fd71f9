use Rattle.std.proofs.lemmas.List.{take_rest}
use Rattle.std.proofs.Common.{◌≡◌, ◌-◌, ℕ, [], ◌++◌, List, length, length-append, take, drop, refl, sym, ◌∙◌, ap, subst, arith, append_assoc}
use Rattle.serial_link.specs.declared.talk.TalkItem.{TalkItem}
use Rattle.dmpaft_pump.specs.Pump.{Settling, begun, pump_from}
use Rattle.dmpaft_pump.specs.Shown.{no_tally}
use Rattle.dmpaft_driver.specs.Trial.{TalkIsTried}
use Rattle.dmpaft_driver.specs.Trying.{TrialStopsAt, later}
use Rattle.dmpaft_driver.proofs.DumpTurns.{shown_no_astray}
use Rattle.dmpaft_driver.proofs.Trials.{tried, tries_on, drop_front}
use Rattle.dmpaft_driver.proofs.trying.trial.Goals as goal

-- what is left of a talk behind its first items
left_of_talk : (talk t u : List TalkItem) (at : ℕ) → talk ≡ t ++ u → length t ≡ at → take (length talk - at) (drop at talk) ≡ u
left_of_talk talk t u at is n = take_rest talk at ∙ ap (λ k. drop k talk) (sym n) ∙ ap (λ (y : List TalkItem). drop (length t) y) is ∙ drop_front t u

pub steps-init : goal.steps-init
steps-init c = record {
  sofar = record {
    taken = [];
    rest = c.args.talk.now;
    answers = [];
    state = begun c.args.after Settling;
    talk_is = refl;
    counted = refl;
    stands = refl;
    kept = tt;
    shown = c.new-pump.ensures.shows;
  };
  within = omega arith;
}

pub steps-preserved : goal.steps-preserved
steps-preserved c =
    let i = c.steps.invariant.sofar in
    let a = c.args.after in
    let talk = c.args.talk.now in
    let v = c.in-Ok.ensures.steps no_tally a i.state i.shown in
    let left : take (length talk - c.steps.at) (drop c.steps.at talk) ≡ i.rest = left_of_talk talk i.taken i.rest c.steps.at i.talk_is i.counted in
    let on = tries_on a talk i.taken i.rest i.answers i.state i.talk_is i.stands i.kept (shown_no_astray no_tally a i.state c.steps.pump i.shown) v.front v.answers v.kept in
    let is : talk ≡ (i.taken ++ v.front) ++ v.rest = i.talk_is ∙ ap (λ (y : List TalkItem). i.taken ++ y) (sym left ∙ v.items_are) ∙ sym (append_assoc i.taken v.front v.rest) in
    record {
      sofar = record {
        taken = i.taken ++ v.front;
        rest = v.rest;
        answers = i.answers ++ v.answers;
        state = pump_from a i.state v.front v.answers;
        talk_is = is;
        counted = omega (arith, length-append i.taken v.front, i.counted, v.counted);
        stands = on.0;
        kept = on.1;
        shown = v.shows;
      };
      within = omega (arith, ap (λ (y : List TalkItem). length y) is, length-append (i.taken ++ v.front) v.rest, length-append i.taken v.front, i.counted, v.counted);
    }

pub returns-in-Err : goal.returns-in-Err
returns-in-Err c =
    let i = c.steps.invariant.sofar in
    let a = c.args.after in
    let talk = c.args.talk.now in
    let left : take (length talk - c.steps.at) (drop c.steps.at talk) ≡ i.rest = left_of_talk talk i.taken i.rest c.steps.at i.talk_is i.counted in
    let stops = subst (λ (y : List TalkItem). TrialStopsAt a i.state y c.in-Err.end) left (c.in-Err.ensures.steps no_tally a i.state i.shown) in
    record {
      tried = subst (λ y. TalkIsTried a talk y) (sym c.behind.ensures) (subst (λ n. TalkIsTried a talk (later n c.in-Err.end)) i.counted
          (tried a talk i.taken i.rest i.answers i.state i.talk_is i.stands i.kept (shown_no_astray no_tally a i.state c.steps.pump i.shown) c.in-Err.end stops));
    }
