-- What is counted of the items of a run.
use Rattle.std.specs.Prelude.{◌≡◌, ℕ, ◌+◌, ◌-◌, ◌^◌, min, List, [], ◌∷◌, ◌++◌, length}
use Rattle.std.proofs.Common.{refl, sym, ap, ◌∙◌, append_assoc}
use Rattle.packed_rows.specs.Days.{days_of}
use Rattle.replay_laws.specs.Round.{Ending}
use Rattle.replay_laws.specs.Replay.{Item}
use Rattle.schedule_replay.specs.declared.counts.Counts.{Counts}
use Rattle.schedule_replay.specs.Telling.{Telling}

-- a count with so many more, which stops at 2 ^ 64 - 1
abbrev pub raised_by : ℕ → ℕ → ℕ
raised_by more count = min (count + more) (2 ^ 64 - 1)

-- the counts with a round that ended so
abbrev pub with_ending : Ending → Counts → Counts
with_ending Ending.Ok c = record c { ok = raised_by 1 c.ok }
with_ending Ending.GaveUp c = record c { gave_up = raised_by 1 c.gave_up }
with_ending Ending.Full c = record c { full = raised_by 1 c.full }
with_ending (Ending.Stopped change) c = record c { stopped = raised_by 1 c.stopped }

-- the counts with a round that ended so, and had so many harmed deliveries
abbrev pub with_round : Ending → ℕ → Counts → Counts
with_round end harmed c =
    with_ending end (record c { rounds = raised_by 1 c.rounds; harmed = raised_by harmed c.harmed })

abbrev pub with_item : Item → Counts → Counts
with_item (Item.Opened rows written) c = c
with_item (Item.OpenStopped change rows) c = c
with_item (Item.Ran x) c = with_round x.end x.harmed c
with_item (Item.Unsaid number which) c = c
with_item (Item.Ended rows) c = record c { rows = length rows; days = length (days_of rows) }

-- the counts after these items
abbrev pub counts_after : Counts → List Item → Counts
counts_after c [] = c
counts_after c (i ∷ is) = counts_after (with_item i c) is

-- nothing is counted yet
abbrev pub no_counts : Counts
no_counts = record { rounds = 0; ok = 0; gave_up = 0; full = 0; stopped = 0; harmed = 0; rows = 0; days = 0 }

pub counted_join : (c : Counts) (xs ys : List Item) → counts_after (counts_after c xs) ys ≡ counts_after c (xs ++ ys)
counted_join c [] ys = refl
counted_join c (x ∷ xs) ys = counted_join (with_item x c) xs ys

-- The items have a prefix after which the counts are these.
pub record CountsFront (old : Counts) (items : List Item) (new : Counts) : Type 0 where
  pub front : List Item
  pub left : List Item
  pub whole : front ++ left ≡ items
  pub counts : new ≡ counts_after old front

-- what counts are told is counted
abbrev pub count_telling : Telling Counts
count_telling = record {
  tells = λ a items b. b ≡ counts_after a items;
  breaks_off = CountsFront;
  faults = λ a. 0;
  tells_none = λ a. refl;
  tells_joins = λ a b c xs ys one two. two ∙ ap (λ z. counts_after z ys) one ∙ counted_join a xs ys;
  breaks_none = λ a items. record { front = []; left = items; whole = refl; counts = refl };
  breaks_first = λ a b xs ys one. record {
    front = one.front;
    left = one.left ++ ys;
    whole = sym (append_assoc one.front one.left ys) ∙ ap (λ z. z ++ ys) one.whole;
    counts = one.counts;
  };
  breaks_later = λ a b c xs ys one two. record {
    front = xs ++ two.front;
    left = two.left;
    whole = append_assoc xs two.front two.left ∙ ap (λ z. xs ++ z) two.whole;
    counts = two.counts ∙ ap (λ z. counts_after z two.front) one ∙ counted_join a xs two.front;
  };
}
