use Rattle.std.proofs.Common.{◌≡◌, ◌==◌, false, refl, ap, length, length-append, map, ◌++◌, None, eq-eqb, arith}
use Rattle.std.proofs.lemmas.Bool.{ne_eqb}
use Rattle.std.proofs.lemmas.List.{length-map}
use Rattle.rx_mailbox.specs.declared.letter.Post.TheVariants.{Body}
use Rattle.rx_mailbox.specs.Letters.{letter}
use Rattle.rx_pump.specs.Opened.{all_opened, opened_port, opened_ports}
use Rattle.rx_pump.proofs.Asking.{opened-length}
use Rattle.rx_sink.specs.KeptSinks.{events_asked}
use Rattle.rx_drain.proofs.Standing.{same_sent, of_sent, stands_served, stands_idle_left, stands_idle_leave}
use Rattle.rx_drain.specs.Drainers.{view_of}
use Rattle.rx_sink.specs.declared.flow.Flow.TheVariants.{Clear}
use Rattle.rx_sink.specs.Attachments.{Fine}
use Rattle.rx_drain.proofs.drainer.one_letter.handle_out.Goals.{then-left-via-then-left, then-left-via-else-left+then-from-leave}
use Rattle.rx_drain.proofs.drainer.one_letter.handle_out.Goals as goal

pub returns-then-left-clause-handles : goal.returns-then-left-clause-handles
returns-then-left-clause-handles g c =
    let ended = opened_ports c.args.hands.now.ended.items in
    let a = all_opened c.args.hands.now.parts.subjects.items in
    let n = length (ended ++ a) in
    let view = view_of c.args.hands.now c.args.left None in
    let leave_is : c.args.leave ≡ n = omega (arith, c.requires.leave_is, length-append ended a, length-map c.args.hands.now.ended.items opened_port, opened-length c.args.hands.now.parts.subjects.items) in
    elim c.then-left.branch [
      | then-left-via-then-left w ↦ (tt, λ log s. (Fine Clear, stands_idle_left g.S.Sink.acts n log (letter c.args.from (Body c.args.out)) view w.if-left.true s))
      | then-left-via-else-left+then-from-leave w ↦ (
        tt,
        λ log s. (
          Fine Clear,
          stands_idle_leave g.S.Sink.acts n log c.args.from c.args.out view w.if-left.false (eq-eqb c.args.from n (omega (arith, w.if-from-leave.true, leave_is))) s,
        ),
      )
    ]

pub returns-clause-ports : goal.returns-clause-ports
returns-clause-ports g c =
    same_sent c.send_asks-fault.result (map (λ event. (c.args.from, event)) (events_asked c.serve_out-asks.result)) (opened_ports c.args.hands.now.ended.items) (all_opened c.args.hands.now.parts.subjects.items) (all_opened c.send_asks-fault.new.subjects.items) c.send_asks-fault.ensures

pub returns-clause-handles : goal.returns-clause-handles
returns-clause-handles g c =
    let ended = opened_ports c.args.hands.now.ended.items in
    let a = all_opened c.args.hands.now.parts.subjects.items in
    let leave_is : c.args.leave ≡ length (ended ++ a) = omega (arith, c.requires.leave_is, length-append ended a, length-map c.args.hands.now.ended.items opened_port, opened-length c.args.hands.now.parts.subjects.items) in
    let test : (c.args.from == length (ended ++ a)) ≡ false = ne_eqb c.args.from (length (ended ++ a)) (λ same. c.if-from-leave.false (omega (arith, same, leave_is))) in
    let (unserved, serves) = c.serve_out-asks.ensures.serves in (
      of_sent c.send_asks-fault.result (map (λ event. (c.args.from, event)) (events_asked c.serve_out-asks.result)) a (all_opened c.send_asks-fault.new.subjects.items) c.send_asks-fault.ensures,
      λ log s. stands_served g.S.Sink.acts (length (ended ++ a)) log c.args.from c.args.out _ _ ended a (all_opened c.send_asks-fault.new.subjects.items) (events_asked c.serve_out-asks.result) unserved
          (ap opened_ports (c.requires.open_ports c.if-left.false)) refl refl c.if-left.false c.if-left.false refl test serves c.send_asks-fault.ensures s,
    )
