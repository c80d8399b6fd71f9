use Rattle.std.proofs.Common.{◌≡◌, Err, refl, sym, ◌∙◌, rules}
use Rattle.causes.specs.declared.stored.Stored.TheVariants as stored
use Rattle.std.specs.declared.result.Result.{Result}
use Rattle.run_output.specs.Output.{Output}
use Rattle.packed_rows.specs.Rising.{last_row_stamp}
use Rattle.station_session.specs.Attempts.{all_batches}
use Rattle.station_session.specs.Holding.{rows_after_batches}
use Rattle.station_session.specs.Session.{session_settings}
use Rattle.commands.specs.StayRun.{round_may_follow}
use Rattle.commands.specs.declared.staying.Series.{Series}
use Rattle.commands.proofs.RoundTold.{few_followed, followed, none_met}
use Rattle.commands.proofs.staying.make_round.Goals as goal

pub returns-in_err-tell_round-clause-round : goal.returns-in_err-tell_round-clause-round
returns-in_err-tell_round-clause-round g c rows stands =
    let e = c.round-end.ensures in
    let serves = e.serves rows stands.stands_for in
    let gives : ◌≡◌ {A = Result Series Output} c.from_residual.result (Err c.in_err-tell_round.field-0.0) = search rules in (
      rows_after_batches (session_settings c.args.series.session) rows (all_batches (last_row_stamp rows) serves.tries),
      record {
        stands = stands;
        ended = c.round-end.new.self;
        end = c.round-end.result;
        report = c.round-end.new.report;
        serves = serves;
        before = e.before ∙ stands.stands_for.held_is;
        after = e.after;
        answers = e.answers;
        leaves = e.leaves;
        answer = c.tell_round.result;
        told = rw c.give_ups_after-give_ups.ensures at c.tell_round.ensures;
        given = rw gives (rw c.in_err-tell_round.was refl);
        alone = refl;
      },
      rw gives tt,
    )

pub returns-clause-round : goal.returns-clause-round
returns-clause-round g c rows stands =
    let e = c.round-end.ensures in
    let serves = e.serves rows stands.stands_for in
    let follows = followed g.K.Sink.outlet (round_may_follow c.round-end.result c.give_ups_after-give_ups.result) c.round-end.result c.round-end.new.report c.args.made
    c.args.outside.now.out c.tell_round.new.out c.tell_round.result c.tell_round.ensures c.in_ok-tell_round.was in
    let done = none_met c.round-end.result c.give_ups_after-give_ups.result follows in (
      rows_after_batches (session_settings c.args.series.session) rows (all_batches (last_row_stamp rows) serves.tries),
      record {
        stands = stands;
        ended = c.round-end.new.self;
        end = c.round-end.result;
        report = c.round-end.new.report;
        serves = serves;
        before = e.before ∙ stands.stands_for.held_is;
        after = e.after;
        answers = e.answers;
        leaves = e.leaves;
        answer = c.tell_round.result;
        told = rw c.give_ups_after-give_ups.ensures at c.tell_round.ensures;
        given = rw c.in_ok-tell_round.was (rw c.give_ups_after-give_ups.ensures refl);
        alone = refl;
      },
      serves.stores.stands (λ is. absurd (let bad : stored.Done ≡ stored.DiskFault = sym done ∙ sym serves.answered ∙ is in cc)) stands,
    )

pub returns-clause-give_ups : goal.returns-clause-give_ups
returns-clause-give_ups g c =
    let follows = followed g.K.Sink.outlet (round_may_follow c.round-end.result c.give_ups_after-give_ups.result) c.round-end.result c.round-end.new.report c.args.made
    c.args.outside.now.out c.tell_round.new.out c.tell_round.result c.tell_round.ensures c.in_ok-tell_round.was in
    few_followed c.round-end.result c.args.series.give_ups c.give_ups_after-give_ups.result c.give_ups_after-give_ups.ensures follows
