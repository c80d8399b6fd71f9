-- The items of a run as text in a sink.
use Rattle.std.specs.Prelude.{◌≡◌, ℕ, List, [], ◌∷◌, ◌++◌}
use Rattle.std.proofs.Common.{refl, sym, ap, subst, ◌∙◌, append-nil, append_assoc}
use Rattle.causes.specs.Written.{Leaves}
use Rattle.causes.proofs.WritesInTurn.{Appends-nil, leaves_all, leaves_less, leaves_none, part_of_all, part_of_front}
use Rattle.causes.proofs.WritesInTurn.{writes_nothing}
use Rattle.station_io.specs.Sink.{Outlet}
use Rattle.replay_laws.specs.Replay.{Item}
use Rattle.replay_laws.specs.Texts.{text, item_text}
use Rattle.schedule_replay.specs.Telling.{Telling}
use Rattle.schedule_replay.specs.Writing.{IsFrontWritten, IsWritten}

pub text_join : (xs ys : List Item) → text (xs ++ ys) ≡ text xs ++ text ys
text_join [] ys = refl
text_join (x ∷ xs) ys =
    ap (λ z. item_text x ++ z) (text_join xs ys) ∙ sym (append_assoc (item_text x) (text xs) (text ys))

module _ {K : Type 0} (outlet : Outlet K) where
  -- the first text was written, and of both the second is left
  second_left : (a b : K) (s t : List ℕ) → IsWritten outlet a b s → Leaves (outlet.taken a) (outlet.taken b) (s ++ t) t
  second_left a b s t one = leaves_less (outlet.taken a) (outlet.taken a) (outlet.taken b) (s ++ t) s t
      (leaves_all (outlet.taken a) (s ++ t)) one.appended

  -- a text and one behind it are written as one
  pub written_join : (a b c : K) (s t : List ℕ) → IsWritten outlet a b s → IsWritten outlet b c t
      → IsWritten outlet a c (s ++ t)
  written_join a b c s t one two =
      let left : Leaves (outlet.taken a) (outlet.taken b) (s ++ t) (t ++ []) =
      subst (Leaves (outlet.taken a) (outlet.taken b) (s ++ t)) (sym (append-nil t)) (second_left a b s t one) in
      record {
        appended = leaves_none (outlet.taken a) (outlet.taken c) (s ++ t)
            (leaves_less (outlet.taken a) (outlet.taken b) (outlet.taken c) (s ++ t) t [] left two.appended);
        wrote = outlet.wrote_joins a b c s t one.wrote two.wrote;
      }

  -- a prefix of the first text is a prefix of both
  pub first_cut : (a b : K) (s t : List ℕ) → IsFrontWritten outlet a b s → IsFrontWritten outlet a b (s ++ t)
  first_cut a b s t one =
      let (left, whole) = one.front in
      record {
        part = part_of_front (outlet.taken a) (outlet.taken b) s t one.part;
        written = one.written;
        front = (left ++ t, sym (append_assoc one.written left t) ∙ ap (λ (l : List ℕ). l ++ t) whole);
        wrote = one.wrote;
      }

  -- so is the first text with a prefix of the second
  pub second_cut : (a b c : K) (s t : List ℕ) → IsWritten outlet a b s → IsFrontWritten outlet b c t
      → IsFrontWritten outlet a c (s ++ t)
  second_cut a b c s t one two =
      let (left, whole) = two.front in
      record {
        part = part_of_all (outlet.taken a) (outlet.taken b) (outlet.taken c) (s ++ t) t
            (second_left a b s t one) two.part;
        written = s ++ two.written;
        front = (left, append_assoc s two.written left ∙ ap (λ (l : List ℕ). s ++ l) whole);
        wrote = outlet.wrote_joins a b c s two.written one.wrote two.wrote;
      }

  -- the text of no items is written
  pub items_none : (a : K) → IsWritten outlet a a (text [])
  items_none a = record { appended = Appends-nil (outlet.taken a); wrote = outlet.wrote_none a }

  -- the texts of items after one another are that of all
  pub items_join : (a b c : K) (xs ys : List Item) → IsWritten outlet a b (text xs) → IsWritten outlet b c (text ys)
      → IsWritten outlet a c (text (xs ++ ys))
  items_join a b c xs ys one two =
      subst (IsWritten outlet a c) (sym (text_join xs ys)) (written_join a b c (text xs) (text ys) one two)

  -- nothing is a prefix of every text
  pub items_cut_none : (a : K) (items : List Item) → IsFrontWritten outlet a a (text items)
  items_cut_none a items = record {
    part = writes_nothing (outlet.taken a) (text items);
    written = [];
    front = (text items, refl);
    wrote = outlet.wrote_none a;
  }

  -- a prefix of the text of the first items is one of the text of all
  pub items_cut_first : (a b : K) (xs ys : List Item) → IsFrontWritten outlet a b (text xs)
      → IsFrontWritten outlet a b (text (xs ++ ys))
  items_cut_first a b xs ys one =
      subst (IsFrontWritten outlet a b) (sym (text_join xs ys)) (first_cut a b (text xs) (text ys) one)

  -- so is the text of the first items with a prefix of that of the rest
  pub items_cut_later : (a b c : K) (xs ys : List Item) → IsWritten outlet a b (text xs)
      → IsFrontWritten outlet b c (text ys) → IsFrontWritten outlet a c (text (xs ++ ys))
  items_cut_later a b c xs ys one two =
      subst (IsFrontWritten outlet a c) (sym (text_join xs ys)) (second_cut a b c (text xs) (text ys) one two)

-- what sinks are told is the text of the items
abbrev pub text_telling : {K : Type 0} → Outlet K → Telling K
text_telling outlet = record {
  tells = λ a items b. IsWritten outlet a b (text items);
  breaks_off = λ a items b. IsFrontWritten outlet a b (text items);
  faults = outlet.faults;
  tells_none = items_none outlet;
  tells_joins = items_join outlet;
  breaks_none = items_cut_none outlet;
  breaks_first = items_cut_first outlet;
  breaks_later = items_cut_later outlet;
}
