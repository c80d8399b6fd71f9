-- Reads and measured lengths, one behind another.
use Rattle.std.proofs.Common.{◌≡◌, ℕ, ◌+◌, ◌<◌, ◌≤◌, Bool, true, false, List, [], ◌∷◌, ◌++◌, refl, sym, ◌∙◌, ap, subst, arith, append_assoc}
use Rattle.std.specs.Prelude.{◌||◌}
use Rattle.std.proofs.lemmas.Bool.{false≢true}
use Rattle.disk_model.specs.Medium.{Medium}
use Rattle.disk_model.specs.Calls.{DiskCall, attached, measured, was_read, wrote, synced}
use Rattle.disk_model.specs.declared.disk.Disked.{Disked}
use Rattle.disk_model.specs.declared.disk.Disked.TheVariants.{Done, Failed}
use Rattle.disk_model.specs.declared.disk.Length.TheVariants.{Known}
use Rattle.disk_model.specs.declared.disk.Length.TheVariants as unknown
use Rattle.gated_log.specs.Calls.{changes, reads_fit, reads_within, last_length, any_failed, LookedOn, LookedFor, GateRead, StoodStill}
use Rattle.gated_log.proofs.CallsMade.{any_join, did_fail, no_changes, fit, last_read}

changes_join : (a b : List DiskCall) → changes (a ++ b) ≡ changes a ++ changes b
changes_join [] b = refl
changes_join (attached n m x ∷ a) b = ap (λ (xs : List DiskCall). attached n m x ∷ xs) (changes_join a b)
changes_join (measured x ∷ a) b = changes_join a b
changes_join (was_read at n x ∷ a) b = changes_join a b
changes_join (wrote at n y x ∷ a) b = ap (λ (xs : List DiskCall). wrote at n y x ∷ xs) (changes_join a b)
changes_join (synced x ∷ a) b = ap (λ (xs : List DiskCall). synced x ∷ xs) (changes_join a b)

fits_join : (len : ℕ) (a b : List DiskCall) → reads_fit len a → reads_fit (last_length len a) b → reads_fit len (a ++ b)
fits_join len [] b one two = two
fits_join len (attached n m x ∷ a) b one two = fits_join len a b one two
fits_join len (measured (Known n) ∷ a) b one two = fits_join n a b one two
fits_join len (measured unknown.Failed ∷ a) b one two = fits_join len a b one two
fits_join len (was_read at n x ∷ a) b one two = (one.0, fits_join len a b one.1 two)
fits_join len (wrote at n y x ∷ a) b one two = fits_join len a b one two
fits_join len (synced x ∷ a) b one two = fits_join len a b one two

last_join : (len : ℕ) (a b : List DiskCall) → last_length len (a ++ b) ≡ last_length (last_length len a) b
last_join len [] b = refl
last_join len (attached n m x ∷ a) b = last_join len a b
last_join len (measured (Known n) ∷ a) b = last_join n a b
last_join len (measured unknown.Failed ∷ a) b = last_join len a b
last_join len (was_read at n x ∷ a) b = last_join len a b
last_join len (wrote at n y x ∷ a) b = last_join len a b
last_join len (synced x ∷ a) b = last_join len a b

pub looked_joins : {D : Type 0} (medium : Medium D) {d e f : D} {before between now : ℕ} {failed : Bool}
    → LookedOn medium before between false d e → LookedOn medium between now failed e f → LookedOn medium before now failed d f
looked_joins medium {d} {e} {f} {before} {between} {now} {failed} first later = record {
  calls = first.calls ++ later.calls;
  by = medium.went_joins d e f first.calls later.calls first.by later.by;
  changes_none = changes_join first.calls later.calls ∙ ap (λ (xs : List DiskCall). xs ++ changes later.calls) first.changes_none ∙ later.changes_none;
  fits = fits_join before first.calls later.calls first.fits (subst (λ (n : ℕ). reads_fit n later.calls) (sym first.last) later.fits);
  last = last_join before first.calls later.calls ∙ ap (λ (n : ℕ). last_length n later.calls) first.last ∙ later.last;
  fails = any_join first.calls later.calls ∙ ap (λ (t : Bool). t || any_failed later.calls) first.fails ∙ later.fails;
}

one_failed : (at n : ℕ) (answer : Disked) → any_failed (was_read at n answer ∷ []) ≡ did_fail answer
one_failed at n Done = refl
one_failed at n Failed = refl

-- one read
pub one_look : {D : Type 0} (medium : Medium D) {d e : D} {len at n : ℕ} {answer : Disked}
    → at + n ≤ len → medium.went d (was_read at n answer ∷ []) e → LookedOn medium len len (did_fail answer) d e
one_look medium {d} {e} {len} {at} {n} {answer} fits went = record {
  calls = was_read at n answer ∷ [];
  by = went;
  changes_none = refl;
  fits = (fits, tt);
  last = refl;
  fails = one_failed at n answer;
}

-- one measured length, and one that could not be had
pub one_length : {D : Type 0} (medium : Medium D) {d e : D} {len n : ℕ} → medium.went d (measured (Known n) ∷ []) e → LookedOn medium len n false d e
one_length medium {d} {e} {len} {n} went = record {
  calls = measured (Known n) ∷ [];
  by = went;
  changes_none = refl;
  fits = tt;
  last = refl;
  fails = refl;
}

pub no_length : {D : Type 0} (medium : Medium D) {d e : D} {len : ℕ} → medium.went d (measured unknown.Failed ∷ []) e → LookedOn medium len len true d e
no_length medium {d} {e} {len} went = record {
  calls = measured unknown.Failed ∷ [];
  by = went;
  changes_none = refl;
  fits = tt;
  last = refl;
  fails = refl;
}

-- a read of a gate alone, and one more behind it
pub gate_alone : {D : Type 0} (medium : Medium D) {d e : D} {len place n : ℕ} {answer : Disked}
    → n ≡ 1 → place < len → medium.went d (was_read place n answer ∷ []) e → GateRead medium len place (did_fail answer) d e
gate_alone medium {d} {e} {len} {place} {n} {answer} one within went = record {
  answer = answer;
  behind = [];
  by = subst (λ (k : ℕ). medium.went d (was_read place k answer ∷ []) e) one went;
  within = (omega (arith, within), tt);
  fails = one_failed place 1 answer;
}

pub gate_and_more : {D : Type 0} (medium : Medium D) {d e f : D} {len place n at k : ℕ} {answer : Disked}
    → n ≡ 1 → place < len → medium.went d (was_read place n Done ∷ []) e → at + k ≤ len → medium.went e (was_read at k answer ∷ []) f
    → GateRead medium len place (did_fail answer) d f
gate_and_more medium {d} {e} {f} {len} {place} {n} {at} {k} {answer} one within gate fits more = record {
  answer = Done;
  behind = was_read at k answer ∷ [];
  by = medium.went_joins d e f (was_read place 1 Done ∷ []) (was_read at k answer ∷ [])
      (subst (λ (j : ℕ). medium.went d (was_read place j Done ∷ []) e) one gate) more;
  within = (omega (arith, within), (fits, tt));
  fails = one_failed at k answer;
}

-- the reads from a gate on
pub gate_look : {D : Type 0} (medium : Medium D) {d e : D} {len place : ℕ} {failed : Bool} → GateRead medium len place failed d e → LookedOn medium len len failed d e
gate_look medium {d} {e} {len} {place} {failed} gate =
    let calls : List DiskCall = was_read place 1 gate.answer ∷ gate.behind in
    record {
      calls = calls;
      by = gate.by;
      changes_none = no_changes len calls gate.within;
      fits = fit len calls gate.within;
      last = last_read len calls gate.within;
      fails = gate.fails;
    }

-- where no slot was found
pub found_none : {D : Type 0} (medium : Medium D) {d e : D} {before now : ℕ} {failed : Bool} → LookedOn medium before now failed d e → LookedFor medium before 0 failed d e
found_none medium {d} {e} {before} {now} looked = record { now = now; looked = looked; reach = λ some. absurd (omega (arith, some)) }

pub found_behind : {D : Type 0} (medium : Medium D) {d e f : D} {before between slots : ℕ} {failed : Bool}
    → LookedOn medium before between false d e → LookedFor medium between slots failed e f → LookedFor medium before slots failed d f
found_behind medium first later = record { now = later.now; looked = looked_joins medium first later.looked; reach = later.reach }

gate_done : (place : ℕ) (answer : Disked) (behind : List DiskCall) → any_failed (was_read place 1 answer ∷ behind) ≡ false → answer ≡ Done
gate_done place Done behind e = refl
gate_done place Failed behind e = absurd (false≢true (sym e))

-- the length was measured behind a gate, and the file had not grown
pub stood_still : {D : Type 0} (medium : Medium D) {d e f g : D} {len end place n : ℕ}
    → LookedOn medium len end false d e → GateRead medium end place false e f → medium.went f (measured (Known n) ∷ []) g → n ≤ end
    → StoodStill medium len place d g
stood_still medium {d} {e} {f} {g} {len} {end} {place} {n} so_far gate length no_longer =
    let rest : List DiskCall = gate.behind ++ measured (Known n) ∷ [] in
    record {
      before = so_far.calls;
      behind = gate.behind;
      now = n;
      by = medium.went_joins d e g so_far.calls (was_read place 1 Done ∷ rest) so_far.by
          (subst (λ (a : Disked). medium.went e (was_read place 1 a ∷ rest) g) (gate_done place gate.answer gate.behind gate.fails)
          (medium.went_joins e f g (was_read place 1 gate.answer ∷ gate.behind) (measured (Known n) ∷ []) gate.by length));
      reads = subst (λ (k : ℕ). reads_within k gate.behind) (sym so_far.last) gate.within.1;
      no_longer = omega (arith, no_longer, so_far.last);
    }

-- with other calls before
pub stood_behind : {D : Type 0} (medium : Medium D) {d e f : D} {len after place : ℕ} (first : List DiskCall)
    → medium.went d first e → last_length len first ≡ after → StoodStill medium after place e f → StoodStill medium len place d f
stood_behind medium {d} {e} {f} {len} {after} {place} first went last stood =
    let same : last_length len (first ++ stood.before) ≡ last_length after stood.before = last_join len first stood.before ∙ ap (λ (k : ℕ). last_length k stood.before) last in
    let rest : List DiskCall = was_read place 1 Done ∷ (stood.behind ++ measured (Known stood.now) ∷ []) in
    record {
      before = first ++ stood.before;
      behind = stood.behind;
      now = stood.now;
      by = subst (λ (xs : List DiskCall). medium.went d xs f) (sym (append_assoc first stood.before rest))
          (medium.went_joins d e f first (stood.before ++ rest) went stood.by);
      reads = subst (λ (k : ℕ). reads_within k stood.behind) (sym same) stood.reads;
      no_longer = omega (arith, stood.no_longer, same);
    }
