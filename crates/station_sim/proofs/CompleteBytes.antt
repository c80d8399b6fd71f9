-- At which byte a command or a good frame is complete, and at which a page is sent.
use Rattle.std.proofs.Common.{◌≡◌, ℕ, ◌+◌, ◌||◌, Bool, true, false, if◌then◌else◌, inl, inr, List, [], ◌∷◌, ◌++◌, length, take, refl, sym, ap, ◌∙◌, arith}
use Rattle.std.specs.Bool.{Decides}
use Rattle.std.specs.Prelude.{nat_lt}
use Rattle.std.proofs.lemmas.Bool.{or_cases}
use Rattle.std.proofs.lemmas.Bool.Decides.{nat_tests, Decides-at}
use Rattle.console_ring.specs.declared.plan.Plan.{Plan}
use Rattle.crc_ccitt.specs.Check.{is_good}
use Rattle.vantage_frames.specs.declared.command.Command.{Command as Ordered}
use Rattle.vantage_frames.specs.declared.command.Command.TheVariants.{Test, Kind, LoopFor, DumpAfter, EepromRead, EepromWrite, EepromAll, TimeGet, TimeSet, SetPeriod, ClearLog}
use Rattle.console_model.specs.declared.frame.FrameKind.{FrameKind}
use Rattle.console_model.specs.declared.frame.FrameKind.TheVariants.{ForDump, ForBytes, ForTime}
use Rattle.console_model.specs.declared.order.Order.{Order}
use Rattle.console_model.specs.declared.order.Order.TheVariants.{Empty, Unknown, Known}
use Rattle.console_model.specs.declared.reply.ReplyKind.{ReplyKind}
use Rattle.console_model.specs.declared.reply.ReplyKind.TheVariants as reply
use Rattle.console_model.specs.declared.signal.Signal.{Signal}
use Rattle.console_model.specs.declared.signal.Signal.TheVariants.{Lf, Next, Again, Stop, Other}
use Rattle.console_model.specs.Clock.{is_time}
use Rattle.console_model.specs.Console.{ConsoleState, Console, Outcome}
use Rattle.console_model.specs.Console.ConsoleState.{Asleep, Command, Overlong, Frame, Dump, Looping}
use Rattle.console_model.specs.Frame.{at_frame, in_frame}
use Rattle.console_model.specs.FrameSize.{frame_size}
use Rattle.console_model.specs.Hear.{hear, heard_in, in_command, in_overlong, in_dump, dump_ended}
use Rattle.console_model.specs.Line.{to, silent, obeyed, at_line}
use Rattle.console_model.specs.Reading.{signal, read_order}
use Rattle.console_model.proofs.Orders.{read_empty}
use Rattle.station_sim.specs.Line.{completes, is_page, pages}
use Rattle.station_sim.specs.Unseen.{AtSomeByte, ByteCompletes, EndsCommand, EndsGoodFrame, ByteSendsPage, having_heard}

obeyed_completes : (order : Ordered) (c : Console) → (obeyed order c).completes ≡ true
obeyed_completes Test c = refl
obeyed_completes Kind c = refl
obeyed_completes (LoopFor n) c = refl
obeyed_completes DumpAfter c = refl
obeyed_completes (EepromRead p n) c = refl
obeyed_completes (EepromWrite p n) c = refl
obeyed_completes EepromAll c = refl
obeyed_completes TimeGet c = refl
obeyed_completes TimeSet c = refl
obeyed_completes (SetPeriod m) c = refl
obeyed_completes ClearLog c = refl

-- only a line that is a command completes one
line_known : (order : Order) (c : Console) → (at_line order c).completes ≡ true → (known : Ordered) × (order ≡ Known known)
line_known Empty c is = absurd cc
line_known Unknown c is = absurd cc
line_known (Known known) c is = (known, refl)

lf_is : (b : ℕ) → signal b ≡ Lf → b ≡ 10
lf_is b is = grind (arith, nat_tests, is)

command_ends : (line : List ℕ) (m : Signal) (b : ℕ) (c : Console) → c.state ≡ Command line → signal b ≡ m → (in_command line m b c).completes ≡ true → EndsCommand c b
command_ends line Lf b c at lf is =
    let known = line_known (read_order line) c is in
    record { line = line; order = known.0; state = at; ends = lf_is b lf; is_command = known.1 }
command_ends line Next b c at lf is = absurd cc
command_ends line Again b c at lf is = absurd cc
command_ends line Stop b c at lf is = absurd cc
command_ends line Other b c at lf is = absurd cc

overlong_never : (m : Signal) (c : Console) → (in_overlong m c).completes ≡ true → ⊥
overlong_never Lf c is = cc
overlong_never Next c is = cc
overlong_never Again c is = cc
overlong_never Stop c is = cc
overlong_never Other c is = cc

-- of two outcomes the first alone completes something
first_completes : (t : Bool) (x y : Outcome) → y.completes ≡ false → (if t then x else y).completes ≡ true → t ≡ true
first_completes true x y other is = refl
first_completes false x y other is = absurd cc

either_completes : (t : Bool) (x y : Outcome) (b : Bool) → x.completes ≡ b → y.completes ≡ b → (if t then x else y).completes ≡ b
either_completes true x y b one two = one
either_completes false x y b one two = two

-- only a frame with a good check completes one
frame_good : (kind : FrameKind) (frame : List ℕ) (c : Console) → (at_frame kind frame c).completes ≡ true → is_good frame ≡ true
frame_good ForDump frame c is = first_completes (is_good frame) _ _ refl is
frame_good (ForBytes p n) frame c is = first_completes (is_good frame) _ _ refl is
frame_good ForTime frame c is = first_completes (is_good frame) _ _ refl is

good_completes : (kind : FrameKind) (frame : List ℕ) (c : Console) → is_good frame ≡ true → (at_frame kind frame c).completes ≡ true
good_completes ForDump frame c good = rw good refl
good_completes (ForBytes p n) frame c good = rw good refl
good_completes ForTime frame c good = rw good (either_completes (is_time (take 6 frame)) _ _ true refl refl)

frame_ends : (kind : FrameKind) (got : List ℕ) (b : ℕ) (c : Console) → c.state ≡ Frame kind got → (in_frame kind got b c).completes ≡ true → EndsGoodFrame c b
frame_ends kind got b c at is = by (nat_lt (length got + 1) (frame_size kind)) refl is
  where
    by : (t : Bool) → nat_lt (length got + 1) (frame_size kind) ≡ t
        → (if t then silent (to c (Frame kind (got ++ b ∷ []))) else at_frame kind (got ++ b ∷ []) c).completes ≡ true → EndsGoodFrame c b
    by true short done = absurd cc
    by false long done = record {
      kind = kind;
      got = got;
      state = at;
      whole = grind (arith, nat_tests, long);
      good = frame_good kind (got ++ b ∷ []) c done;
    }

dump_never : (p : Plan) (sent : ℕ) (m : Signal) (b : ℕ) (c : Console) → (in_dump p sent m b c).completes ≡ true → ⊥
dump_never p sent Next b c is =
    let never : (in_dump p sent Next b c).completes ≡ false = either_completes (nat_lt sent p.pages) _ _ false refl refl in
    let wrong : false ≡ true = sym never ∙ is in
    cc
dump_never p sent Again b c is = cc
dump_never p sent Stop b c is = cc
dump_never p sent Lf b c is =
    let known = line_known (read_order []) (dump_ended c) is in
    let wrong : Empty ≡ Known known.0 = sym (read_empty [] refl) ∙ known.1 in
    cc
dump_never p sent Other b c is = cc

state_completes : (s : ConsoleState) (b : ℕ) (c : Console) → c.state ≡ s → (heard_in s (signal b) b c).completes ≡ true → ByteCompletes c b
state_completes Asleep b c at is = absurd cc
state_completes (Command line) b c at is = inl (command_ends line (signal b) b c at refl is)
state_completes Overlong b c at is = absurd (overlong_never (signal b) c is)
state_completes (Frame kind got) b c at is = inr (frame_ends kind got b c at is)
state_completes (Dump p sent) b c at is = absurd (dump_never p sent (signal b) b c is)
state_completes (Looping n) b c at is = absurd cc

command_completes : (c : Console) (b : ℕ) → EndsCommand c b → (hear c b).completes ≡ true
command_completes c b h =
    let at : hear c b ≡ in_command h.line (signal b) b c = ap (λ (s : ConsoleState). heard_in s (signal b) b c) h.state in
    let lf : in_command h.line (signal b) b c ≡ at_line (read_order h.line) c = ap (λ (m : Signal). in_command h.line m b c) (ap signal h.ends) in
    let known : at_line (read_order h.line) c ≡ obeyed h.order c = ap (λ (o : Order). at_line o c) h.is_command in
    ap (λ (o : Outcome). o.completes) (at ∙ lf ∙ known) ∙ obeyed_completes h.order c

frame_completes : (c : Console) (b : ℕ) → EndsGoodFrame c b → (hear c b).completes ≡ true
frame_completes c b h =
    let frame = h.got ++ b ∷ [] in
    let at : hear c b ≡ in_frame h.kind h.got b c = ap (λ (s : ConsoleState). heard_in s (signal b) b c) h.state in
    let long : nat_lt (length h.got + 1) (frame_size h.kind) ≡ false = grind (arith, nat_tests, h.whole) in
    let whole : in_frame h.kind h.got b c ≡ at_frame h.kind frame c =
    ap (λ (t : Bool). if t then silent (to c (Frame h.kind frame)) else at_frame h.kind frame c) long in
    ap (λ (o : Outcome). o.completes) (at ∙ whole) ∙ good_completes h.kind frame c h.good

byte_completes : (c : Console) (b : ℕ) → Decides (hear c b).completes (ByteCompletes c b)
byte_completes c b = (λ is. state_completes c.state b c refl is, λ h. elim h [ inl command ↦ command_completes c b command | inr frame ↦ frame_completes c b frame ])

page_is : (k : ReplyKind) → Decides (is_page k) (k ≡ reply.Page)
page_is reply.Nothing = (λ is. absurd cc, λ is. absurd cc)
page_is reply.Code = (λ is. absurd cc, λ is. absurd cc)
page_is reply.Test = (λ is. absurd cc, λ is. absurd cc)
page_is reply.Wake = (λ is. absurd cc, λ is. absurd cc)
page_is reply.Ack = (λ is. absurd cc, λ is. absurd cc)
page_is reply.AckFrame = (λ is. absurd cc, λ is. absurd cc)
page_is reply.Page = (λ is. refl, λ is. refl)
page_is reply.Packet = (λ is. absurd cc, λ is. absurd cc)

-- whether a test holds of one of the bytes, and of the console that has heard those before it
abbrev any_byte : (Console → ℕ → Bool) → List ℕ → Console → Bool
any_byte test [] c = false
any_byte test (b ∷ bs) c = test c b || any_byte test bs (hear c b).next

or_right : (x y : Bool) → y ≡ true → (x || y) ≡ true
or_right true y is = refl
or_right false y is = is

finds : (test : Console → ℕ → Bool) (P : Console → ℕ → Type 0) → ((c : Console) (b : ℕ) → test c b ≡ true → P c b)
    → (bs : List ℕ) (c : Console) → any_byte test bs c ≡ true → AtSomeByte P bs c
finds test P tells [] c is = absurd cc
finds test P tells (b ∷ bs) c is = elim (or_cases (test c b) (any_byte test bs (hear c b).next) is) [
  | inl here ↦ ([], b, bs, refl, tells c b here)
  | inr later ↦ (let q = finds test P tells bs (hear c b).next later in (b ∷ q.0, q.1, q.2, ap (λ (l : List ℕ). b ∷ l) q.3, q.4))
]

found : (test : Console → ℕ → Bool) (P : Console → ℕ → Type 0) → ((c : Console) (b : ℕ) → P c b → test c b ≡ true)
    → (front : List ℕ) (b : ℕ) (rest : List ℕ) (c : Console) → P (having_heard front c) b → any_byte test (front ++ b ∷ rest) c ≡ true
found test P tells [] b rest c here = ap (λ (t : Bool). t || any_byte test rest (hear c b).next) (tells c b here)
found test P tells (x ∷ front) b rest c later = or_right (test c x) _ (found test P tells front b rest (hear c x).next later)

some_byte : (test : Console → ℕ → Bool) (P : Console → ℕ → Type 0) → ((c : Console) (b : ℕ) → Decides (test c b) (P c b))
    → (bs : List ℕ) (c : Console) → Decides (any_byte test bs c) (AtSomeByte P bs c)
some_byte test P tells bs c = (
  λ is. finds test P (λ k b. (tells k b).0) bs c is,
  λ h. ap (λ (l : List ℕ). any_byte test l c) h.3 ∙ found test P (λ k b. (tells k b).1) h.0 h.1 h.2 c h.4,
)

completes_any : (bs : List ℕ) (c : Console) → completes bs c ≡ any_byte (λ k b. (hear k b).completes) bs c
completes_any [] c = refl
completes_any (b ∷ bs) c = ap (λ (t : Bool). (hear c b).completes || t) (completes_any bs (hear c b).next)

pages_any : (bs : List ℕ) (c : Console) → pages bs c ≡ any_byte (λ k b. is_page (hear k b).kind) bs c
pages_any [] c = refl
pages_any (b ∷ bs) c = ap (λ (t : Bool). is_page (hear c b).kind || t) (pages_any bs (hear c b).next)

-- whether a command or a good frame is complete at one of the bytes
pub some_completes : (bs : List ℕ) (c : Console) → Decides (completes bs c) (AtSomeByte ByteCompletes bs c)
some_completes bs c = Decides-at _ _ (completes_any bs c) (some_byte _ ByteCompletes byte_completes bs c)

-- whether a page is sent at one of the bytes
pub some_page : (bs : List ℕ) (c : Console) → Decides (pages bs c) (AtSomeByte ByteSendsPage bs c)
some_page bs c = Decides-at _ _ (pages_any bs c) (some_byte _ ByteSendsPage (λ k b. page_is (hear k b).kind) bs c)
