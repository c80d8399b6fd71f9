-- What an append leaves of a log, and a crash of one at rest.
use Rattle.std.proofs.Common.{◌≡◌, ◌⊎◌, inl, inr, ⊎_elim, ℕ, ◌+◌, ◌*◌, ◌/◌, List, ◌∷◌, ◌++◌, length, sym, ◌∙◌, ap, arith, length-append}
use Rattle.causes.specs.Told.{WhereTold}
use Rattle.disk_model.specs.Medium.{Medium}
use Rattle.disk_model.specs.Disk.{IsDurable, LeavesOnly}
use Rattle.gated_log.specs.Stands.{GateIsClosed, Opened, LogStands, NowHolds}
use Rattle.gated_log.specs.Appending.{IsHanded, handed_slots, behind_gate, OldOrAll}
use Rattle.gated_log.proofs.Chains.{batch_of, opened_more, opened_chain, gate_place, first_front, length-in_slots}
use Rattle.gated_log.proofs.Versions.{has_closed, has_opened}
use Rattle.gated_log.specs.Layout.{slot_size}

length-handed : (bytes : List ℕ) → length (handed_slots bytes) ≡ length bytes / slot_size
length-handed bytes = length-in_slots (length bytes / slot_size) bytes

module _ {D : Type 0} (medium : Medium D) (d0 d : D) (count : ℕ) (bytes : List ℕ) (h : IsHanded bytes) (slots : List (List ℕ)) (stands : LogStands medium count d0 slots) where
  pub at_gate : length stands.before ≡ slot_size * (count + 1)
  at_gate = gate_place stands.before slots stands.chain ∙ ap (λ (n : ℕ). slot_size * (n + 1)) (sym stands.count_is)

  pub append_images : (late : Type 0) → LeavesOnly medium (λ c. GateIsClosed stands.before c ⊎ (late × Opened stands.before (behind_gate bytes) c)) d0 d → LeavesOnly medium (OldOrAll slots (handed_slots bytes) late) d0 d
  append_images late leaves t c le now =
      ⊎_elim (λ was. inl was) (λ p. inr (⊎_elim (λ q. inl (has_closed stands.before slots c stands.chain stands.current q)) (λ q. inr (q.0, has_opened stands.before bytes c slots stands.chain stands.current h q.1)) p)) (leaves t c le now)

  pub append_stands : WhereTold (medium.seen d) (λ c. (rest : List ℕ) × (c ≡ stands.before ++ 1 ∷ (behind_gate bytes ++ rest))) → IsDurable medium d
      → LogStands medium (count + length bytes / slot_size) d (slots ++ handed_slots bytes)
  append_stands reads durable = record {
    before = stands.before ++ batch_of 1 bytes;
    chain = opened_chain stands.before bytes slots stands.chain h;
    current = first_front stands.before (batch_of 1 bytes) (omega (arith, gate_place stands.before slots stands.chain)) ∙ stands.current;
    count_is = omega (arith, stands.count_is, length-append slots (handed_slots bytes), length-handed bytes);
    rests = record {
      reads = λ c told. let is = reads c told in (opened_more stands.before bytes c 1 is.0 h (omega arith) is.1).2;
      durable = durable;
    };
  }

-- what a crash leaves of a log at rest
pub stands_now : {D : Type 0} (medium : Medium D) (d : D) (count : ℕ) (slots : List (List ℕ)) → LogStands medium count d slots → NowHolds medium d slots
stands_now medium d count slots stands c now = has_closed stands.before slots c stands.chain stands.current (stands.rests.reads c (stands.rests.durable c now))
