use Rattle.rx_session.specs.Sessions.{parties}
use Rattle.rx_session.proofs.ByTurns.{Sitting-new}
use Rattle.rx_session.proofs.laws.open_session_begins.Goals as goal

pub returns : goal.returns
returns g c = Sitting-new (parties g.D.Desk.knows g.D.Desk.emits g.D.Desk.follows g.W.Write.contents)
