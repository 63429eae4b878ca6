use Rattle.rx_workers.proofs.Places.{quiet-each, quiet-places}
use Rattle.rx_workers.proofs.worker.clients.Clients.is_quiet.Goals as goal

pub returns : goal.returns
returns g c =
    rw (← c.self.view_is) (
      λ yes. quiet-places c.self.inside.places.items (c.all_are_served.ensures.0 yes),
      λ quiet. c.all_are_served.ensures.1 (quiet-each c.self.inside.places.items quiet),
    )
