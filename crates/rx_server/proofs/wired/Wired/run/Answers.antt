use Rattle.std.proofs.Common.{inl, inr, vec_len}
use Rattle.std.proofs.lemmas.Result.{err_from_is_err_and}
use Rattle.rx_server.proofs.StartFaults.{run-lists}
use Rattle.rx_server.proofs.wired.Wired.run.Goals as goal

pub returns-in_err-running-clause-fault : goal.returns-in_err-running-clause-fault
returns-in_err-running-clause-fault g c =
    let p = err_from_is_err_and c.from_residual.result c.from_residual.ensures.1 in
    rw (p.1, p.2) (run-lists c.in_err-running.field-0.0 (vec_len c.args.self.now.pumps) (vec_len c.args.self.now.drainers) c.in_err-running.ensures.fault)

pub returns-in_err-start_pumps-clause-fault : goal.returns-in_err-start_pumps-clause-fault
returns-in_err-start_pumps-clause-fault g c =
    let p = err_from_is_err_and c.from_residual-in_err-start_pumps.result c.from_residual-in_err-start_pumps.ensures.1 in
    rw (p.1, p.2) (inr (inr (inl (_, c.in_err-start_pumps.ensures.fewer, c.in_err-start_pumps.ensures.fault))))

pub returns-in_err-start_drainers-clause-fault : goal.returns-in_err-start_drainers-clause-fault
returns-in_err-start_drainers-clause-fault g c =
    let p = err_from_is_err_and c.from_residual-in_err-start_drainers.result c.from_residual-in_err-start_drainers.ensures.1 in
    rw (p.1, p.2) (inr (inr (inr (_, c.in_err-start_drainers.ensures.fewer, c.in_err-start_drainers.ensures.fault))))
