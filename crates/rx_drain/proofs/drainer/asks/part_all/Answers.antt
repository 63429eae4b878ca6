use Rattle.std.proofs.Common.{◌∙◌, sym, subst, ℕ, true, map, arith}
use Rattle.rx_pump.specs.Opened.{all_opened}
use Rattle.rx_sink.specs.KeptSinks.{events_asked}
use Rattle.rx_drain.specs.Calls.{SendsEvents}
use Rattle.rx_drain.proofs.Events.{disposed_more, disposed_some, disposed_all}
use Rattle.rx_drain.proofs.drainer.asks.part_all.Goals as goal

pub loop-one-preserved : goal.loop-one-preserved
loop-one-preserved g c =
    disposed_more c.send_asks-fault.result c.args.kept.now c.loop-one.one-index c.one-item.result (all_opened c.args.subjects.now.items) (all_opened c.loop-one.subjects.items) (all_opened c.send_asks-fault.new.subjects.items)
    (sym c.is_some.ensures ∙ c.if-is_some.false) (omega (arith, c.loop-one-test.true)) c.one-item.is c.loop-one.invariant (subst (λ (n : ℕ). SendsEvents c.send_asks-fault.result (map (λ event. (c.one-item.result.subject, event)) (events_asked (record { who = c.one-item.result.who; items = n; leaves = true }))) (all_opened c.loop-one.subjects.items) (all_opened c.send_asks-fault.new.subjects.items))
    c.from.ensures c.send_asks-fault.ensures)

pub returns-then-is_some : goal.returns-then-is_some
returns-then-is_some g c =
    disposed_some c.send_asks-fault.result c.args.kept.now c.loop-one.one-index c.one-item.result (all_opened c.args.subjects.now.items) (all_opened c.loop-one.subjects.items) (all_opened c.send_asks-fault.new.subjects.items)
    (sym c.is_some.ensures ∙ c.if-is_some.true) (omega (arith, c.loop-one-test.true)) c.one-item.is c.loop-one.invariant (subst (λ (n : ℕ). SendsEvents c.send_asks-fault.result (map (λ event. (c.one-item.result.subject, event)) (events_asked (record { who = c.one-item.result.who; items = n; leaves = true }))) (all_opened c.loop-one.subjects.items) (all_opened c.send_asks-fault.new.subjects.items))
    c.from.ensures c.send_asks-fault.ensures)

pub returns : goal.returns
returns g c = disposed_all c.args.kept.now c.loop-one.one-index (all_opened c.args.subjects.now.items) (all_opened c.loop-one.subjects.items) (omega (arith, c.loop-one-test.false)) c.loop-one.invariant
