-- A name that no subject has is answered without a call.
use Rattle.std.proofs.Common.{rules}
use Rattle.rx_desk.proofs.session_desk.SessionDeskDesk.emit.Goals as goal

pub returns-in_default : goal.returns-in_default
returns-in_default g c = search rules
