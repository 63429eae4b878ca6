use Rattle.std.proofs.Common.{refl}
use Rattle.rx_history.proofs.Agreeing.{on_ok, passes_left}
use Rattle.rx_history.proofs.walk.Walk.turn.Goals as goal

pub returns-in-Join-clause-passes : goal.returns-in-Join-clause-passes
returns-in-Join-clause-passes c =
    rw c.in-Join.is (on_ok c.join.result (λ passes. passes c.args.port) c.join.ensures.passes)

pub returns-in-Request-clause-passes : goal.returns-in-Request-clause-passes
returns-in-Request-clause-passes c = rw c.in-Request.is (c.request.ensures.passes c.args.rules.now c.args.port)

pub returns-in-Dispose-clause-passes : goal.returns-in-Dispose-clause-passes
returns-in-Dispose-clause-passes c = rw c.in-Dispose.is (passes_left c.args.rules.now c.args.self.now _ c.args.port c.in-Dispose.who refl c.leave.ensures refl refl)
