-- A queue on the tape gives its cursor back.
use Rattle.std.proofs.Common.{rules}
use Rattle.rx_hub.proofs.seat.Seat.close.Goals as goal

pub returns-in-Shared-clause-released : goal.returns-in-Shared-clause-released
returns-in-Shared-clause-released c = search rules
