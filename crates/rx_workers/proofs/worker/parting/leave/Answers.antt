use Rattle.rx_workers.proofs.worker.parting.leave.Goals as goal

pub returns-in-Again-clause-leaves : goal.returns-in-Again-clause-leaves
returns-in-Again-clause-leaves g c = rw c.in-Again.is c.talks.ensures.goes_on

pub returns-in-Waits-clause-leaves : goal.returns-in-Waits-clause-leaves
returns-in-Waits-clause-leaves g c = rw c.in-Waits.is c.talks-in-Waits.ensures.goes_on

pub returns-in-Stuck-clause-leaves : goal.returns-in-Stuck-clause-leaves
returns-in-Stuck-clause-leaves g c = rw c.in-Stuck.is c.talks-in-Stuck.ensures.goes_on
