-- Which deliveries are unseen, and which is named as the first.
use Rattle.std.proofs.Common.{◌≡◌, ◌≢◌, ℕ, ◌+◌, ◌==◌, ◌&&◌, ◌||◌, ◌⊎◌, Bool, true, false, if◌then◌else◌, inl, inr, List, [], ◌∷◌, length, drop, Option, Some, None, refl, sym, ap, subst, ◌∙◌}
use Rattle.std.specs.Bool.{Decides}
use Rattle.std.specs.Prelude.{nat_lt}
use Rattle.std.proofs.lemmas.Bool.Decides.{Decides-and, Decides-eqb, Decides-like, Decides-ltb, Decides-not, Decides-or}
use Rattle.std.proofs.lemmas.Option.{same_Some}
use Rattle.std.proofs.lemmas.Slice.Eq.{bytes_eq-Decides}
use Rattle.crc_ccitt.specs.Check.{is_good}
use Rattle.console_model.specs.declared.reply.ReplyKind.{ReplyKind}
use Rattle.console_model.specs.declared.reply.ReplyKind.TheVariants.{Nothing, Code, Test, Wake, Ack, AckFrame, Page, Packet}
use Rattle.console_model.specs.Console.{Console, Outcome}
use Rattle.console_model.specs.Hear.{hear}
use Rattle.station_sim.specs.declared.unseen.Unseen.{Unseen}
use Rattle.schedule_file.specs.Fates.{FatesByNumber}
use Rattle.station_sim.specs.Delivery.{delivered}
use Rattle.station_sim.specs.Line.{Line, begins_with_ack, completes, message_counted, earlier, from_console, from_host, happens, hears, is_harmed, joins, pages, passes, reply_joins, sends_message}
use Rattle.station_sim.specs.Unseen.{BeginsWithAck, IsGoodBehindAck, IsUnseenMessage, IsUnseenReply, NamesFirst, PassesForWhole}
use Rattle.station_sim.specs.UnseenTalk.{IsAmongReplies, IsNextReply}
use Rattle.station_sim.proofs.CompleteBytes.{some_completes, some_page}

harm_differs : (sent got : List ℕ) → Decides (is_harmed sent got) (sent ≢ got)
harm_differs sent got = Decides-not _ (bytes_eq-Decides sent got)

begins : (got : List ℕ) → Decides (begins_with_ack got) (BeginsWithAck got)
begins [] = (λ is. absurd cc, λ h. let wrong : [] ≡ 6 ∷ h.0 = h.1 in absurd cc)
begins (b ∷ bs) = Decides-like (b == 6) (λ is. (bs, ap (λ (x : ℕ). x ∷ bs) is)) (λ h. let same : b ∷ bs ≡ 6 ∷ h.0 = h.1 in cc) (Decides-eqb b 6)

good : (bytes : List ℕ) → Decides (is_good bytes) (is_good bytes ≡ true)
good bytes = (λ is. is, λ is. is)

good_behind : (size : Type 0) (got : List ℕ) → (size × BeginsWithAck got) × (is_good (drop 1 got) ≡ true) → size × IsGoodBehindAck got
good_behind size got h =
    let rest = h.0.1.0 in
    (h.0.0, (rest, h.0.1.1, ap (λ (l : List ℕ). is_good (drop 1 l)) (sym h.0.1.1) ∙ h.1))

behind_good : (size : Type 0) (got : List ℕ) → size × IsGoodBehindAck got → (size × BeginsWithAck got) × (is_good (drop 1 got) ≡ true)
behind_good size got h = ((h.0, (h.1.0, h.1.1)), ap (λ (l : List ℕ). is_good (drop 1 l)) h.1.1 ∙ h.1.2)

never : Decides false ⊥
never = (λ is. cc, λ h. absurd h)

reply_passes : (k : ReplyKind) (sent got : List ℕ) → Decides (passes k sent got) (PassesForWhole k sent got)
reply_passes Nothing sent got = never
reply_passes Code sent got = begins got
reply_passes Wake sent got = begins got
reply_passes Test sent got = begins got
reply_passes Ack sent got = never
reply_passes AckFrame sent got =
    Decides-like (((length got == length sent) && begins_with_ack got) && is_good (drop 1 got))
    (good_behind (length got ≡ length sent) got) (behind_good (length got ≡ length sent) got)
    (Decides-and _ _ (Decides-and _ _ (Decides-eqb (length got) (length sent)) (begins got)) (good (drop 1 got)))
reply_passes Page sent got = Decides-and _ _ (Decides-eqb (length got) (length sent)) (good got)
reply_passes Packet sent got = Decides-and _ _ (Decides-eqb (length got) (length sent)) (good got)

message_unseen : (sent got : List ℕ) (c : Console) → Decides (is_harmed sent got && (completes got c || (nat_lt 1 (length sent) && pages got c))) (IsUnseenMessage sent got c)
message_unseen sent got c =
    Decides-like (is_harmed sent got && (completes got c || (nat_lt 1 (length sent) && pages got c)))
    (λ h. record { differs = h.0; obeyed = h.1 }) (λ h. (h.differs, h.obeyed))
    (Decides-and _ _ (harm_differs sent got)
    (Decides-or _ _ (some_completes got c) (Decides-and _ _ (Decides-ltb 1 (length sent)) (some_page got c))))

reply_unseen : (o : Outcome) (got : List ℕ) → Decides (is_harmed o.bytes got && passes o.kind o.bytes got) (IsUnseenReply o got)
reply_unseen o got =
    Decides-like (is_harmed o.bytes got && passes o.kind o.bytes got)
    (λ h. record { differs = h.0; passes = h.1 }) (λ h. (h.differs, h.passes))
    (Decides-and _ _ (harm_differs o.bytes got) (reply_passes o.kind o.bytes got))

-- what a test decides is named just if it holds
names : (t : Bool) (P : Type 0) (this : Unseen) (before : Option Unseen) → Decides t P → NamesFirst P this before (earlier before (if t then Some this else None))
names true P this None tells = (tells.0 refl, refl)
names false P this None tells = λ h. let wrong : false ≡ true = tells.1 h in cc
names t P this (Some u) tells = refl

-- what is never so is not named
names_none : (P : Type 0) (this : Unseen) (before : Option Unseen) → ¬ P → NamesFirst P this before before
names_none P this None never_so = never_so
names_none P this (Some u) never_so = refl

-- a message of the host
pub counted_names : (f : FatesByNumber) (message : List ℕ) (w : Line) →
    NamesFirst (IsUnseenMessage message (delivered (f.host (w.messages + 1)) message) w.console) (from_host (w.messages + 1)) w.unseen (message_counted f message w).unseen
counted_names f message w = names _ _ (from_host (w.messages + 1)) w.unseen (message_unseen message (delivered (f.host (w.messages + 1)) message) w.console)

-- the name of the next reply
abbrev pub NamesReply : FatesByNumber → Outcome → Line → Option Unseen → Type 0
NamesReply f o w after = NamesFirst (IsUnseenReply o (delivered (f.reply (w.replies + 1)) o.bytes)) (from_console (w.replies + 1)) w.unseen after

replied_names : (f : FatesByNumber) (o : Outcome) (w : Line) → NamesReply f o w (reply_joins f o w).unseen
replied_names f o w = names _ _ (from_console (w.replies + 1)) w.unseen (reply_unseen o (delivered (f.reply (w.replies + 1)) o.bytes))

joins_names : (k : ReplyKind) (f : FatesByNumber) (o : Outcome) (w : Line) → o.kind ≡ k → NamesReply f o w (joins k f o w).unseen
joins_names Nothing f o w is =
    let got = delivered (f.reply (w.replies + 1)) o.bytes in
    names_none _ (from_console (w.replies + 1)) w.unseen (λ h. subst (λ (k : ReplyKind). PassesForWhole k o.bytes got) is h.passes)
joins_names Code f o w is = replied_names f o w
joins_names Wake f o w is = replied_names f o w
joins_names Test f o w is = replied_names f o w
joins_names Ack f o w is = replied_names f o w
joins_names AckFrame f o w is = replied_names f o w
joins_names Page f o w is = replied_names f o w
joins_names Packet f o w is = replied_names f o w

-- a reply of the console
pub happens_names : (f : FatesByNumber) (o : Outcome) (w : Line) → NamesReply f o w (happens f o w).unseen
happens_names f o w = joins_names o.kind f o w refl

-- what is named where nothing was named before is so
pub first_is : (P : Type 0) (this : Unseen) (before after : Option Unseen) (which : Unseen) → NamesFirst P this before after → before ≡ None → after ≡ Some which → P × (which ≡ this)
first_is P this None None which named none is = absurd cc
first_is P this None (Some x) which named none is = (named.0, sym (same_Some x which is) ∙ named.1)
first_is P this (Some u) after which named none is = absurd cc

-- and what is so is named
pub first_named : (P : Type 0) (this : Unseen) (before after : Option Unseen) → NamesFirst P this before after → before ≡ None → P → after ≡ Some this
first_named P this None None named none so = absurd (named so)
first_named P this None (Some x) named none so = ap (λ (u : Unseen). Some u) named.1
first_named P this (Some u) after named none so = absurd cc

pub first_stays : (P : Type 0) (this : Unseen) (before after : Option Unseen) (which : Unseen) → NamesFirst P this before after → before ≡ Some which → after ≡ Some which
first_stays P this None after which named is = absurd cc
first_stays P this (Some u) after which named is = named ∙ is

-- where nothing is named nothing was, and this is not so
pub none_named : (P : Type 0) (this : Unseen) (before after : Option Unseen) → NamesFirst P this before after → after ≡ None → (before ≡ None) × (¬ P)
none_named P this None None named none = (refl, named)
none_named P this None (Some x) named none = absurd cc
none_named P this (Some u) after named none = (let wrong : Some u ≡ None = sym named ∙ none in absurd cc)

pub hears_stays : (f : FatesByNumber) (bs : List ℕ) (w : Line) (which : Unseen) → w.unseen ≡ Some which → (hears f bs w).unseen ≡ Some which
hears_stays f [] w which is = is
hears_stays f (b ∷ bs) w which is =
    let o = hear w.console b in
    hears_stays f bs (happens f o w) which (first_stays _ _ w.unseen (happens f o w).unseen which (happens_names f o w) is)

pub hears_none : (f : FatesByNumber) (bs : List ℕ) (w : Line) → (hears f bs w).unseen ≡ None → (w.unseen ≡ None) × ((which : Unseen) → ¬ (IsAmongReplies f bs w which))
hears_none f [] w none = (none, λ which h. h)
hears_none f (b ∷ bs) w none =
    let o = hear w.console b in
    let later = hears_none f bs (happens f o w) none in
    let here = none_named _ _ w.unseen (happens f o w).unseen (happens_names f o w) later.0 in
    (here.0, λ which h. elim h [ inl at ↦ here.1 at.unseen | inr behind ↦ later.1 which behind ])

-- what is named behind two steps, of which the second keeps what the first named, was named in one of them
pub here_or_later : {A B : Type 0} (middle after : Option Unseen) (which : Unseen) → ((u : Unseen) → middle ≡ Some u → after ≡ Some u)
    → (middle ≡ Some which → A) → (middle ≡ None → B) → after ≡ Some which → A ⊎ B
here_or_later None after which stays here later is = inr (later refl)
here_or_later (Some u) after which stays here later is =
    let same : u ≡ which = same_Some u which (sym (stays u refl) ∙ is) in
    inl (here (ap (λ (x : Unseen). Some x) same))

pub hears_names : (f : FatesByNumber) (bs : List ℕ) (w : Line) (which : Unseen) → w.unseen ≡ None → (hears f bs w).unseen ≡ Some which → IsAmongReplies f bs w which
hears_names f [] w which none is = absurd cc
hears_names f (b ∷ bs) w which none is =
    let o = hear w.console b in
    let x = happens f o w in
    let here : x.unseen ≡ Some which → IsNextReply f o w which = λ named.
    let so = first_is _ _ w.unseen x.unseen which (happens_names f o w) none named in
    record { named = so.1; unseen = so.0 } in
    here_or_later x.unseen (hears f bs x).unseen which (λ y named. hears_stays f bs x y named) here (λ later. hears_names f bs x which later is) is

-- among replies no message of the host is named
replies_only : (f : FatesByNumber) (bs : List ℕ) (w : Line) (which : Unseen) → IsAmongReplies f bs w which → which.from_host ≡ false
replies_only f [] w which h = absurd h
replies_only f (b ∷ bs) w which h = elim h [ inl at ↦ ap (λ (u : Unseen). u.from_host) at.named | inr behind ↦ replies_only f bs (happens f (hear w.console b) w) which behind ]

-- a message that is unseen is named as it is sent, where nothing was named before
pub sent_named : (f : FatesByNumber) (message : List ℕ) (w : Line) → w.unseen ≡ None
    → IsUnseenMessage message (delivered (f.host (w.messages + 1)) message) w.console → (sends_message f message w).unseen ≡ Some (from_host (w.messages + 1))
sent_named f message w none so =
    hears_stays f (delivered (f.host (w.messages + 1)) message) (message_counted f message w) (from_host (w.messages + 1))
    (first_named _ _ w.unseen (message_counted f message w).unseen (counted_names f message w) none so)

-- and no other
pub sent_only : (f : FatesByNumber) (message : List ℕ) (w : Line) → w.unseen ≡ None → (sends_message f message w).unseen ≡ Some (from_host (w.messages + 1))
    → IsUnseenMessage message (delivered (f.host (w.messages + 1)) message) w.console
sent_only f message w none is =
    let got = delivered (f.host (w.messages + 1)) message in
    let this = from_host (w.messages + 1) in
    let x = message_counted f message w in
    let here : x.unseen ≡ Some this → IsUnseenMessage message got w.console = λ named. (first_is _ _ w.unseen x.unseen this (counted_names f message w) none named).0 in
    let later : x.unseen ≡ None → IsAmongReplies f got x this = λ first. hears_names f got x this first is in
    elim (here_or_later x.unseen (hears f got x).unseen this (λ y named. hears_stays f got x y named) here later is) [
      | inl so ↦ so
      | inr reply ↦ (let wrong : true ≡ false = replies_only f got x this reply in absurd cc)
    ]
