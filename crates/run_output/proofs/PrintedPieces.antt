-- A text that is written piece by piece.
use Rattle.std.proofs.Common.{◌≡◌, ◌≢◌, ◌≤◌, ℕ, List, [], ◌++◌, Err, refl, sym, ◌∙◌, inl, inr, subst, append_assoc, ap, arith}
use Rattle.std.proofs.lemmas.List.{append-nil}
use Rattle.std.specs.declared.option.Option.{Option}
use Rattle.std.specs.declared.result.Result.{Result}
use Rattle.causes.specs.Cause.{Rose}
use Rattle.causes.specs.Written.{Leaves, WritesPart}
use Rattle.causes.proofs.WritesInTurn.{leaves_less, part_of_all, part_of_front}
use Rattle.station_io.specs.Sink.{Outlet}
use Rattle.run_output.specs.Ended.{Lines, output_of}
use Rattle.run_output.specs.Output.{Output, led_by, write_fault}
use Rattle.run_output.specs.Streams.{OutputIsLeft, streams}
use Rattle.run_output.specs.declared.status.Status.TheVariants.{WriteFault}
use Rattle.run_output.proofs.Statuses.{has_status}

-- the text that waits goes on by one more
pub pending_grows : (old now : Option (List ℕ)) (all left : Output) (pending text : List ℕ) →
    OutputIsLeft old now all (led_by pending (led_by text left)) → OutputIsLeft old now all (led_by (pending ++ text) left)
pending_grows old now all left pending text before = record {
  text = let P : List ℕ → Type 0 = λ rest. Leaves old now all.text rest in subst P (sym (append_assoc pending text left.text)) before.text;
  status = before.status;
}

-- of the text that waits a front was written
pub pending_shrinks : (old now new : Option (List ℕ)) (all left : Output) (pending rest : List ℕ) →
    OutputIsLeft old now all (led_by pending left) → Leaves now new pending rest → OutputIsLeft old new all (led_by rest left)
pending_shrinks old now new all left pending rest before some = record {
  text = leaves_less old now new all.text some.written (rest ++ left.text)
      (let P : List ℕ → Type 0 = λ text. Leaves old now all.text text in
      subst P (ap (λ (text : List ℕ). text ++ left.text) (sym some.whole) ∙ append_assoc some.written rest left.text) before.text)
      some.appended;
  status = before.status;
}

-- nothing is left but the text that waits
pub pending_is_left : (old now : Option (List ℕ)) (all left : Output) (pending : List ℕ) →
    OutputIsLeft old now all (led_by pending left) → left.text ≡ [] → OutputIsLeft old now all (record { text = pending; status = left.status })
pending_is_left old now all left pending before none = record {
  text = let P : List ℕ → Type 0 = λ text. Leaves old now all.text text in
      subst P (ap (λ (text : List ℕ). pending ++ text) none ∙ append-nil pending) before.text;
  status = before.status;
}

-- what is left is given, and no write failed
pub left_streams : {S : Type 0} (outlet : Outlet S) (all left : Output) (old new : S) (result : Result Lines Output) →
    OutputIsLeft (outlet.taken old) (outlet.taken new) all left → output_of result ≡ left → WriteFault ≢ left.status →
    outlet.faults new ≡ outlet.faults old → streams outlet all old result new
left_streams outlet all left old new result before given well still = record {
  written = inl (rw given before);
  cause = record {
    never_falls = omega arith;
    rose = λ is. absurd (well (sym (has_status WriteFault result (output_of result) refl is) ∙ ap (λ (output : Output). output.status) given));
  };
  still = λ no. still;
}

-- a write of the text that waits failed
pub part_streams : {S : Type 0} (outlet : Outlet S) (all left : Output) (pending : List ℕ) (old now new : S) (result : Result Lines Output) →
    OutputIsLeft (outlet.taken old) (outlet.taken now) all (led_by pending left) → WritesPart (outlet.taken now) (outlet.taken new) pending →
    result ≡ Err write_fault → outlet.faults now ≡ outlet.faults old → outlet.faults now ≤ outlet.faults new →
    Rose (outlet.faults now) (outlet.faults new) → streams outlet all old result new
part_streams outlet all left pending old now new result before part given still rises rose = record {
  written = inr (
    given,
    part_of_all (outlet.taken old) (outlet.taken now) (outlet.taken new) all.text (pending ++ left.text) before.text
        (part_of_front (outlet.taken now) (outlet.taken new) pending left.text part),
  );
  cause = record { never_falls = omega arith; rose = λ is. omega arith };
  still = λ no. absurd (no (rw given refl));
}
