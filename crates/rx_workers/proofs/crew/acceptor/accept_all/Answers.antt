use Rattle.std.proofs.Common.{arith}
use Rattle.std.proofs.lemmas.Result.{err_from_is_err_and}
use Rattle.rx_workers.proofs.Dealing.{SoFar-one, accepted_some}
use Rattle.rx_workers.proofs.crew.acceptor.accept_all.Goals as goal

-- it stopped at this one
pub returns-in_err-accept_next : goal.returns-in_err-accept_next
returns-in_err-accept_next g c =
    let p = err_from_is_err_and c.from_residual.result c.from_residual.ensures.1 in
    rw (p.1, p.2)
    (accepted_some g.L.Listener.accepts g.L.Listener.fails c.loop-number.number c.args.connections c.in_err-accept_next.field-0.0 c.args.listener.now c.loop-number.listener c.accept_next.new.listener
    c.args.ports.now.items c.loop-number.ports.items c.accept_next.new.ports.items (omega (arith, c.loop-number-test.true)) c.loop-number.invariant.so_far c.in_err-accept_next.ensures.accepts)

-- one more was sent
pub loop-number-preserved : goal.loop-number-preserved
loop-number-preserved g c = record {
  some = omega (arith, c.loop-number.invariant.some, c.accept_next.ensures.count);
  nothing = c.accept_next.ensures.nothing;
  so_far =
      SoFar-one g.L.Listener.accepts g.L.Listener.fails c.loop-number.number c.args.listener.now c.loop-number.listener c.accept_next.new.listener
      c.args.ports.now.items c.loop-number.ports.items c.accept_next.new.ports.items c.loop-number.invariant.so_far c.in_ok-accept_next.ensures.accepts;
}
