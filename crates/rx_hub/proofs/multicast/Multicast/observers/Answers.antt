-- The audience knows how many observers it has.
use Rattle.rx_hub.proofs.multicast.Multicast.observers.Goals as goal

pub returns : goal.returns
returns c = c.len.ensures
