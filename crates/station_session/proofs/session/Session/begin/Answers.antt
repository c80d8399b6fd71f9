use Rattle.std.proofs.Common.{◌≡◌, true, false, sym, ◌∙◌, refl, arith, subst, Option}
use Rattle.station_base.specs.CivilMinute.{CivilMinute}
use Rattle.station_session.specs.RoundAt.{RoundAt}
use Rattle.station_session.proofs.BegunRounds.{round_begun, fits_begun}
use Rattle.station_session.proofs.session.Session.begin.Goals as goal

pub returns-in-Done : goal.returns-in-Done
returns-in-Done c =
    let r = c.new-round in
    let fresh = sym c.is_stale.ensures ∙ c.if-is_stale.false in
    let at = subst (λ (x : Option CivilMinute). RoundAt x _ _ r.result) c.last.ensures.last (round_begun c.last.result r.result r.ensures.shows r.ensures.more r.ensures.troubles) in
    record {
      begins = record {
        is_begun = (
          fits_begun _ r.result _ at (c.room.ensures.stays.stale ∙ fresh) c.attempts-report.ensures c.tally-report.ensures (c.requires.new.troubles ∙ sym r.ensures.troubles) c.requires.new.marks c.in-Done.ensures.spare c.requires.new.room,
          at,
          omega (arith, r.ensures.left, r.ensures.more),
        );
        stale = (λ e. cc, λ e. absurd (let x : true ≡ false = sym e ∙ fresh in cc));
        at_once = λ e. cc;
        same = c.room.ensures.stays;
        settings = refl;
        before = c.len-report.ensures.len;
        after = c.len-report.ensures.len ∙ sym c.room.ensures.stays.len;
        marks = c.requires.new.marks;
      };
    }
