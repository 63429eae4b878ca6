use Rattle.rx_history.proofs.Delivered.{waits_within_room}
use Rattle.rx_history.proofs.laws.waits_within_room.Goals as goal

pub returns : goal.returns
returns c = waits_within_room
