use Rattle.std.proofs.Common.{◌∙◌, ◌++◌, sym, subst, false, None}
use Rattle.rx_pump.specs.Opened.{opened_ports}
use Rattle.rx_drain.specs.Drainers.{Pays, view_of}
use Rattle.rx_drain.proofs.Ending.{pays_flushed, pays_open, pays_left, pays_fault}
use Rattle.rx_drain.proofs.drainer.one_letter.handle_rest.Goals as goal
use Rattle.rx_drain.proofs.drainer.one_letter.handle_rest.Goals.{then-handled-via-then-handled, then-handled-via-else-handled+then-is_some}

pub returns-then-handled-clause-pays : goal.returns-then-handled-clause-pays
returns-then-handled-clause-pays g c =
    let hands = c.args.hands.now in
    let view = view_of hands c.args.handled.left c.args.handled.fault in
    let pays : Pays g.S.Sink.acts view view = elim c.then-handled.branch [
      | then-handled-via-then-handled w ↦ pays_left g.S.Sink.acts view w.if-handled.true
      | then-handled-via-else-handled+then-is_some w ↦ pays_fault g.S.Sink.acts view (sym w.is_some.ensures ∙ w.if-is_some.true)
    ] in
    subst (λ subjects. Pays g.S.Sink.acts view (record view { ports = opened_ports hands.ended.items ++ opened_ports subjects })) (sym c.try_ring_all-is_left.ensures) pays

pub returns-clause-pays : goal.returns-clause-pays
returns-clause-pays g c =
    let after = view_of c.flush_due-fault.new.hands false c.flush_due-fault.result in
    pays_open g.S.Sink.acts (λ left fault. view_of c.args.hands.now left fault) after c.args.handled.left c.args.handled.fault c.if-handled.false (sym c.is_some.ensures ∙ c.if-is_some.false)
    (pays_flushed g.S.Sink.acts (view_of c.args.hands.now false None) after c.flush_due-fault.ensures.inbox c.flush_due-fault.ensures.ports c.flush_due-fault.ensures.flushes)
