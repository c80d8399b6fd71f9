-- While nothing is said, a console that is near a dump stays so, and says nothing.
use Rattle.std.proofs.Common.{◌≡◌, ℕ, ◌+◌, ◌-◌, ◌<◌, ◌≤◌, ◌==◌, if◌then◌else◌, Bool, true, false, List, [], ◌∷◌, ◌++◌, Some, None, refl, sym, ◌∙◌, ap, subst, append_assoc, arith}
use Rattle.std.proofs.lemmas.Option.{same_Some}
pub use Rattle.station_sim.specs.Calm.{EndsInByte}
use Rattle.console_model.specs.Console.{Store, ConsoleState, Console, Outcome}
use Rattle.console_ring.specs.declared.plan.Plan.{Plan}
use Rattle.console_model.specs.Console.ConsoleState.{Asleep, Command, Overlong, Frame, Dump, Looping}
use Rattle.console_model.specs.declared.reply.ReplyKind.TheVariants.{Nothing}
use Rattle.console_model.specs.Tick.{tick, ticked_in, idle_after}
use Rattle.station_sim.specs.declared.part.Part.{Part}
use Rattle.schedule_file.specs.Fates.{FatesByNumber}
use Rattle.station_sim.specs.declared.part.Part.TheVariants.{Byte, Wait}
use Rattle.station_sim.specs.Line.{Line, flies, happens, joins, unanswered}
use Rattle.serial_link.specs.declared.talk.TalkItem.{TalkItem}
use Rattle.station_sim.specs.Talk.{line_step, console_talk, hearing, waiting}
use Rattle.station_sim.specs.Calm.{FewWaits, ConsoleRests}
use Rattle.serial_link.specs.declared.talk.TalkItem.TheVariants.{Said, Heard, Quiet}
use Rattle.wake_retry.specs.Parts.{heard}
use Rattle.line_laws.specs.Host.{OnlyListens, Near, NearAt}
use Rattle.station_sim.specs.Joining.{and_then_some}

-- the bytes among the parts
abbrev pub bytes_of : List Part → List ℕ
bytes_of [] = []
bytes_of (Byte b ∷ l) = b ∷ bytes_of l
bytes_of (Wait ∷ l) = bytes_of l

pub closed_tail : (x : Part) (l : List Part) → EndsInByte (x ∷ l) → EndsInByte l
closed_tail (Byte b) l h = h
closed_tail Wait [] h = tt
closed_tail Wait (x ∷ l) h = h

pub closed_empty : (l : List Part) → EndsInByte l → bytes_of l ≡ [] → l ≡ []
closed_empty [] h e = refl
closed_empty (Byte b ∷ l) h e = absurd cc
closed_empty (Wait ∷ []) h e = absurd h
closed_empty (Wait ∷ x ∷ l) h e = absurd (let e' = closed_empty (x ∷ l) h e in cc)

-- a tick of a console near a dump
pub record Hushed (h : List (List ℕ)) (p : Plan) (low high : ℕ) (s : ConsoleState) (o : Outcome) : Type 0 where
  pub kind : o.kind ≡ Nothing
  pub near : Near h p low high o.next
  pub rests : ConsoleRests s → ConsoleRests o.next.state

pub below_three : (i : ℕ) → (i + 1 == 3) ≡ false → i < 3 → i + 1 < 3
below_three i e h = grind arith

tick_hushed : (h : List (List ℕ)) (p : Plan) (low high : ℕ) (s : ConsoleState) (three much fifth : Bool) (g : List (List ℕ)) (m : Store) (hs : List (List ℕ)) (i : ℕ) → (i + 1 == 3) ≡ three → NearAt h p low high s i g →
    Hushed h p low high s (ticked_in s three much fifth (record { history = g; store = m; held = hs; state = s; idle = idle_after s i }))
tick_hushed h p low high Asleep three much fifth g m hs i e n = record { kind = refl; near = tt; rests = λ r. tt }
tick_hushed h p low high (Command []) three true fifth g m hs i e n = record { kind = refl; near = tt; rests = λ r. tt }
tick_hushed h p low high (Command []) three false fifth g m hs i e n = record { kind = refl; near = tt; rests = λ r. r }
tick_hushed h p low high (Command (b ∷ line)) true much fifth g m hs i e n = record { kind = refl; near = tt; rests = λ r. refl }
tick_hushed h p low high (Command (b ∷ line)) false much fifth g m hs i e n = record { kind = refl; near = below_three i e n; rests = λ r. r }
tick_hushed h p low high Overlong true much fifth g m hs i e n = record { kind = refl; near = tt; rests = λ r. refl }
tick_hushed h p low high Overlong false much fifth g m hs i e n = record { kind = refl; near = below_three i e n; rests = λ r. r }
tick_hushed h p low high (Frame kind got) three much fifth g m hs i e n = absurd n
tick_hushed h p low high (Dump q sent) three true fifth g m hs i e n = record { kind = refl; near = tt; rests = λ r. tt }
tick_hushed h p low high (Dump q sent) three false fifth g m hs i e n = record { kind = refl; near = n; rests = λ r. tt }
tick_hushed h p low high (Looping k) three much fifth g m hs i e n = absurd n

pub hushed : (h : List (List ℕ)) (p : Plan) (low high : ℕ) (c : Console) → Near h p low high c → Hushed h p low high c.state (tick c)
hushed h p low high c n = tick_hushed h p low high c.state _ _ _ c.history c.store c.held c.idle refl n

pub happens-nothing : (f : FatesByNumber) (o : Outcome) (w : Line) → o.kind ≡ Nothing → happens f o w ≡ unanswered o w
happens-nothing f o w e = ap (λ k. joins k f o w) e

-- What listening leaves.
pub record Listened (h : List (List ℕ)) (p : Plan) (low high : ℕ) (w : Line) (t : List TalkItem) (v : Line) : Type 0 where
  pub near : Near h p low high v.console
  pub rests : ConsoleRests w.console.state → ConsoleRests v.console.state
  pub unseen : v.unseen ≡ w.unseen
  pub begun : v.begun ≡ w.begun
  pub dumps : v.dumps ≡ w.dumps
  pub bytes : bytes_of w.flight ≡ heard t ++ bytes_of v.flight
  pub few : FewWaits 2 2 w.flight → FewWaits 2 2 v.flight
  pub closed : EndsInByte w.flight → EndsInByte v.flight

pub few_less : (m k : ℕ) (l : List Part) → k ≤ m → FewWaits m k l → FewWaits m m l
few_less m k [] a h = tt
few_less m k (Byte b ∷ l) a h = h
few_less m k (Wait ∷ l) a h = (omega (arith, h.0), few_up m (k - 1) (m - 1) l (omega arith) h.1)
  where
    few_up : (m k j : ℕ) (l : List Part) → k ≤ j → FewWaits m k l → FewWaits m j l
    few_up m k j [] a h = tt
    few_up m k j (Byte b ∷ l) a h = h
    few_up m k j (Wait ∷ l) a h = (omega (arith, h.0), few_up m (k - 1) (j - 1) l (omega arith) h.1)

listened_byte : (h : List (List ℕ)) (p : Plan) (low high : ℕ) (l : List Part) (b : ℕ) (w u : Line) → w.flight ≡ l → Near h p low high w.console → hearing l b w ≡ Some u →
    Listened h p low high w (Heard b ∷ []) u
listened_byte h p low high [] b w u e n g = absurd cc
listened_byte h p low high (Wait ∷ l) b w u e n g = absurd cc
listened_byte h p low high (Byte x ∷ l) b w u e n g = go (x == b) refl g
  where
    go : (t : Bool) → (x == b) ≡ t → (if t then Some (flies w l) else None) ≡ Some u → Listened h p low high w (Heard b ∷ []) u
    go true q g = subst (λ v. Listened h p low high w (Heard b ∷ []) v) (same_Some (flies w l) u g)
        (record {
          near = n;
          rests = λ r. r;
          unseen = refl;
          begun = refl;
          dumps = refl;
          bytes = (let a : x ≡ b = grind arith in rw e (ap (λ y. y ∷ bytes_of l) a));
          few = λ h. subst (FewWaits 2 2) e h;
          closed = λ h. subst EndsInByte e h;
        })
    go false q g = absurd cc

listened_quiet : (h : List (List ℕ)) (p : Plan) (low high : ℕ) (l : List Part) (f : FatesByNumber) (w u : Line) → w.flight ≡ l → Near h p low high w.console → waiting l f w ≡ Some u →
    Listened h p low high w (Quiet ∷ []) u
listened_quiet h p low high [] f w u e n g =
    let k = hushed h p low high w.console n in
    subst (λ v. Listened h p low high w (Quiet ∷ []) v) (sym (happens-nothing f (tick w.console) w k.kind) ∙ same_Some _ u g)
    (record { near = k.near; rests = k.rests; unseen = refl; begun = refl; dumps = refl; bytes = refl; few = λ h. h; closed = λ h. h })
listened_quiet h p low high (Wait ∷ l) f w u e n g =
    let k = hushed h p low high w.console n in
    subst (λ v. Listened h p low high w (Quiet ∷ []) v) (sym (happens-nothing f (tick w.console) (flies w l) k.kind) ∙ same_Some _ u g)
    (record {
      near = k.near;
      rests = k.rests;
      unseen = refl;
      begun = refl;
      dumps = refl;
      bytes = rw e refl;
      few = λ h. few_less 2 1 l (omega arith) (let q : FewWaits 2 2 (Wait ∷ l) = subst (FewWaits 2 2) e h in q.1);
      closed = λ h. closed_tail Wait l (subst EndsInByte e h);
    })
listened_quiet h p low high (Byte x ∷ l) f w u e n g = absurd cc

append_heard : (i : TalkItem) (t : List TalkItem) → heard (i ∷ []) ++ heard t ≡ heard (i ∷ t)
append_heard (Said b ends) t = refl
append_heard (Heard b) t = refl
append_heard Quiet t = refl

listened_more : (h : List (List ℕ)) (p : Plan) (low high : ℕ) (w u v : Line) (i : TalkItem) (t : List TalkItem) → Listened h p low high w (i ∷ []) u → Listened h p low high u t v → Listened h p low high w (i ∷ t) v
listened_more h p low high w u v i t a b = record {
  near = b.near;
  rests = λ r. b.rests (a.rests r);
  unseen = b.unseen ∙ a.unseen;
  begun = b.begun ∙ a.begun;
  dumps = b.dumps ∙ a.dumps;
  bytes = a.bytes ∙ ap (λ x. heard (i ∷ []) ++ x) b.bytes ∙ sym (append_assoc (heard (i ∷ [])) (heard t) (bytes_of v.flight)) ∙ ap (λ x. x ++ bytes_of v.flight) (append_heard i t);
  few = λ q. b.few (a.few q);
  closed = λ q. b.closed (a.closed q);
}

pub listens : (h : List (List ℕ)) (p : Plan) (low high : ℕ) (f : FatesByNumber) (t : List TalkItem) (w v : Line) → OnlyListens t → Near h p low high w.console → console_talk f t w ≡ Some v → Listened h p low high w t v
listens h p low high f [] w v s n e = subst (λ u. Listened h p low high w [] u) (same_Some w v e)
    (record { near = n; rests = λ r. r; unseen = refl; begun = refl; dumps = refl; bytes = refl; few = λ q. q; closed = λ q. q })
listens h p low high f (Said b ends ∷ t) w v s n e = absurd s
listens h p low high f (Heard b ∷ t) w v s n e =
    let g = and_then_some (line_step f (Heard b) w) (console_talk f t) v e in
    let a = listened_byte h p low high w.flight b w g.0 refl n g.1 in
    listened_more h p low high w g.0 v (Heard b) t a (listens h p low high f t g.0 v s a.near g.2)
listens h p low high f (Quiet ∷ t) w v s n e =
    let g = and_then_some (line_step f Quiet w) (console_talk f t) v e in
    let a = listened_quiet h p low high w.flight f w g.0 refl n g.1 in
    listened_more h p low high w g.0 v Quiet t a (listens h p low high f t g.0 v s a.near g.2)
