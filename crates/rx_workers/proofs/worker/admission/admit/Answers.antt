-- A place that was vacant has the connection.
use Rattle.rx_workers.proofs.Places.{Sets-vacant}
use Rattle.rx_workers.specs.Talks.{silent}
use Rattle.rx_workers.proofs.worker.admission.admit.Goals as goal

pub returns-clause-admits : goal.returns-clause-admits
returns-clause-admits g c =
    Sets-vacant c.in-Ok.place c.args.clients.now c.vacancy.new.self c.put.new.self (silent c.args.connection) c.in-Ok.ensures.same c.in-Ok.ensures.vacant c.put.ensures
