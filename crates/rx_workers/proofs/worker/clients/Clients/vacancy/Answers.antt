use Rattle.std.proofs.Common.{is_ok, sym}
use Rattle.rx_workers.proofs.Places.{client_at-pushed, vacant_there}
use Rattle.rx_workers.proofs.worker.clients.Clients.vacancy.Goals as goal

-- the first vacant place is vacant
pub returns-in-Some-clause-vacant : goal.returns-in-Some-clause-vacant
returns-in-Some-clause-vacant g c = rw (← c.self.view_is) (vacant_there c.in-Some.place c.self.inside.places.items (sym c.in-Some.ensures)).0

pub returns-clause-same : goal.returns-clause-same
returns-clause-same g c = rw (← c.self.view_is) (client_at-pushed (is_ok c.push.result) c.self.inside.places.items c.push.new.self.items c.push.ensures.items)
