use Rattle.std.proofs.Common.{◌≡◌, ◌-◌, ◌+◌, ◌≤◌, ℕ, List, [], ◌∷◌, ◌++◌, map, refl, sym, ◌∙◌, ap, subst, arith, rules, Ok, Err}
use Rattle.serial_link.specs.declared.talk.TalkItem.{TalkItem}
use Rattle.loop_packet.specs.declared.packet.LoopPacket.{LoopPacket}
use Rattle.loop_packet.specs.Reading.{packet_bytes}
use Rattle.serial_link.proofs.GrownTalk.{adds_joins}
use Rattle.vantage_frames.specs.declared.command.Command.TheVariants.{LoopFor}
use Rattle.console_tasks.specs.declared.end.TaskEnd.TheVariants as task_end
use Rattle.vantage_frames.specs.Ack.{ack}
use Rattle.console_tasks.specs.Exchange.{Exchange, command}
use Rattle.console_tasks.specs.TaskTalk.{Exchanges, TaskTalk, Fails}
use Rattle.console_tasks.specs.Tasks.{said_line, looping, packets}
use Rattle.console_tasks.proofs.Onward.{On, on_then, on_end, start_on, fails_on}
use Rattle.serial_link.proofs.JoinedCalls.{talks_as, cause_since}
use Rattle.console_tasks.proofs.Troubles.{no_error}
use Rattle.console_tasks.proofs.FinishedTasks.{task_err, fails_as, command_on}
use Rattle.console_tasks.proofs.HeardPackets.{packet_on, packets_left, map_one}
use Rattle.console_tasks.proofs.packets.hear_packets.Goals as goal

-- no packet is left
all_on : (n i : ℕ) (f : List (List ℕ)) (s : List TalkItem) → i ≤ n → n ≤ i
    → On (TaskTalk (looping n)) (Exchanges (packets (n - i))) f s → On (TaskTalk (looping n)) (Exchanges []) f s
all_on n i f s a b on = let e : n - i ≡ 0 = omega arith in subst (λ m. On (TaskTalk (looping n)) (Exchanges (packets m)) f s) e on

pub returns-in_err-say_command : goal.returns-in_err-say_command
returns-in_err-say_command g c =
    let end = c.in_err-say_command.field-0.0 in
    let r = c.from_residual-in_err-say_command.result in
    let e : r ≡ Err end = search rules in
    let n = c.args.count in
    let m : c.from.result ≡ n = search rules in
    let two = talks_as (Fails (Exchanges (looping n)) end) c.in_err-say_command.ensures (λ f. f) (λ f. f)
    (λ t k. subst (λ x. Fails (Exchanges (command (said_line (LoopFor x)) ∷ packets n)) end t) m (k (packets n))) in
    task_err (looping n) c.in_ok-start.field-0 c.in_ok-start.ensures _ r (Err end) end e refl two

pub loop-heard-init : goal.loop-heard-init
loop-heard-init g c =
    let s = c.in_ok-start.ensures.talk in
    let t = c.in_ok-say_command.ensures.talk in
    let n = c.args.count in
    let m : c.from.result ≡ n = search rules in
    let said : On (Exchanges (looping n)) (Exchanges (packets n)) (ack ∷ []) t.items =
    subst (λ x. On (Exchanges (command (said_line (LoopFor x)) ∷ packets n)) (Exchanges (packets n)) (ack ∷ []) t.items) m
    (command_on (said_line (LoopFor c.from.result)) (packets n) c.in_ok-say_command.field-0 t.items t.are) in
    let on = on_then (start_on (looping n) c.in_ok-start.field-0 s.items s.are) said in
    let none : [] ≡ c.args.into.now.items = sym c.requires.empty in
    let zero_left : n ≡ n - 0 = omega arith in
    record {
      sofar = record {
        items = s.items ++ t.items;
        are = subst (λ (x : List LoopPacket). On (TaskTalk (looping n)) (Exchanges (packets (n - 0))) (ack ∷ map packet_bytes x)
            (s.items ++ t.items)) none
            (subst (λ x. On (TaskTalk (looping n)) (Exchanges (packets x)) (ack ∷ []) (s.items ++ t.items)) zero_left on);
        adds = adds_joins s.adds t.adds;
      };
      room = search rules;
      faults = omega (arith, c.in_ok-start.ensures.fault.never_falls, c.in_ok-say_command.ensures.fault.never_falls);
      shortages = omega (arith, c.in_ok-start.ensures.shortage.never_falls, c.in_ok-say_command.ensures.shortage.never_falls);
    }

pub returns-in_err-hear_packet : goal.returns-in_err-hear_packet
returns-in_err-hear_packet g c =
    let i = c.loop-heard.invariant in
    let k = c.in_err-hear_packet.ensures in
    let n = c.args.count in
    let j = c.loop-heard._heard in
    let end = c.in_err-hear_packet.field-0.0 in
    let r = c.from_residual-in_err-hear_packet.result in
    let e : r ≡ Err end = search rules in
    let t = i.sofar.items ++ k.talk.items in
    let part : Fails (TaskTalk (looping n)) end t = fails_on i.sofar.are end k.talk.items
    (subst (λ (xs : List Exchange). Fails (Exchanges xs) end k.talk.items) (sym (packets_left n j c.loop-heard-test.true))
    (k.talk.are (packets (n - (j + 1))))) in
    fails_as (TaskTalk (looping n)) _ r _ end e refl (record {
      talk = record { items = t; are = part; adds = adds_joins i.sofar.adds k.talk.adds };
      fault = cause_since i.faults k.fault (λ f. f);
      shortage = cause_since i.shortages k.shortage (λ f. f);
    })

pub loop-heard-preserved : goal.loop-heard-preserved
loop-heard-preserved g c =
    let i = c.loop-heard.invariant in
    let k = c.in_ok-hear_packet.ensures in
    let n = c.args.count in
    let j = c.loop-heard._heard in
    let read = c.in_ok-hear_packet.field-0 in
    let before = c.loop-heard.into.items in
    let t = i.sofar.items ++ k.talk.items in
    let on = on_then (subst (λ (xs : List Exchange). On (TaskTalk (looping n)) (Exchanges xs)
    (ack ∷ map packet_bytes before) i.sofar.items) (packets_left n j c.loop-heard-test.true) i.sofar.are)
    (packet_on (packets (n - (j + 1))) read k.talk.items k.talk.are) in
    let now : map packet_bytes before ++ packet_bytes read ∷ [] ≡ map packet_bytes c.push.new.self.items =
    map_one before read ∙ ap (λ (x : List LoopPacket). map packet_bytes x) (sym c.push.ensures.items) in
    record {
      sofar = record {
        items = t;
        are = subst
            (λ (x : List (List ℕ)). On (TaskTalk (looping n)) (Exchanges (packets (n - (j + 1)))) (ack ∷ x) t) now on;
        adds = adds_joins i.sofar.adds k.talk.adds;
      };
      room = omega (arith, c.push.ensures.len, i.room);
      faults = omega (arith, i.faults, k.fault.never_falls);
      shortages = omega (arith, i.shortages, k.shortage.never_falls);
    }

pub push-requires : goal.push-requires
push-requires g c = omega (arith, c.loop-heard.invariant.room, c.loop-heard-test.true, c.requires.most)

pub returns : goal.returns
returns g c =
    let i = c.loop-heard.invariant in
    let n = c.args.count in
    let on = all_on n c.loop-heard._heard
    (ack ∷ map packet_bytes c.loop-heard.into.items) i.sofar.items c.loop-heard.auto._heard-end c.loop-heard-test.false i.sofar.are in
    record {
      talk = record { items = i.sofar.items; are = on_end on; adds = i.sofar.adds };
      fault = record { never_falls = i.faults; rose = λ e. absurd (no_error (Ok tt) task_end.LinkFault tt (λ k. k) e) };
      shortage = record { never_falls = i.shortages; rose = λ e. absurd (no_error (Ok tt) task_end.OutOfMemory tt (λ k. k) e) };
    }
