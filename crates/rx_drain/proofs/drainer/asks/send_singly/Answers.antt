use Rattle.std.proofs.Common.{◌≡◌, ◌∙◌, sym, subst, ap, ℕ, ◌+◌, ◌-◌, List, [], append-nil, replicate, arith}
use Rattle.rx_note.specs.declared.event.Event.{Event}
use Rattle.rx_note.specs.declared.event.Event.TheVariants.{Request}
use Rattle.rx_mailbox.specs.PortRows.{Puts}
use Rattle.rx_pump.specs.Opened.{all_opened}
use Rattle.rx_drain.specs.Calls.{SendsEvents, calls_to}
use Rattle.rx_drain.proofs.Events.{to, requested, requested_more, requested_some}
use Rattle.rx_drain.proofs.drainer.asks.send_singly.Goals as goal

pub loop-preserved : goal.loop-preserved
loop-preserved g c =
    requested_more c.send_requests-fault.result c.args.subject c.args.who c.loop.counter (all_opened c.args.subjects.now.items) (all_opened c.loop.subjects.items) (all_opened c.send_requests-fault.new.subjects.items)
    (sym c.is_some.ensures ∙ c.if-is_some.false) c.loop.invariant c.send_requests-fault.ensures

pub returns-then-is_some : goal.returns-then-is_some
returns-then-is_some g c =
    let rest = c.args.n - (c.loop.counter + 1) in
    let many : (c.loop.counter + 1) + rest ≡ c.args.n = omega (arith, c.loop-test.true) in
    subst (λ (events : List Event). SendsEvents c.send_requests-fault.result (to c.args.subject events) (all_opened c.args.subjects.now.items) (all_opened c.send_requests-fault.new.subjects.items))
    (append-nil (replicate ((c.loop.counter + 1) + rest) (Request c.args.who 1)) ∙ ap (λ (n : ℕ). replicate n (Request c.args.who 1)) many)
    (requested_some c.send_requests-fault.result c.args.subject c.args.who c.loop.counter rest [] (all_opened c.args.subjects.now.items) (all_opened c.loop.subjects.items) (all_opened c.send_requests-fault.new.subjects.items)
    (sym c.is_some.ensures ∙ c.if-is_some.true) c.loop.invariant c.send_requests-fault.ensures)

pub returns : goal.returns
returns g c =
    let many : c.loop.counter ≡ c.args.n = omega (arith, c.loop-test.false, c.loop.auto.counter-end) in
    subst (λ (n : ℕ). Puts (λ d. calls_to d (requested c.args.subject c.args.who n)) (all_opened c.args.subjects.now.items) (all_opened c.loop.subjects.items)) many c.loop.invariant
