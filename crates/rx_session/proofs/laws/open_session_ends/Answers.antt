use Rattle.rx_session.specs.Sessions.{parties}
use Rattle.rx_session.proofs.ByTurns.{IsOver-session}
use Rattle.rx_session.proofs.laws.open_session_ends.Goals as goal

pub returns : goal.returns
returns g c = IsOver-session (parties g.D.Desk.knows g.D.Desk.emits g.D.Desk.follows g.W.Write.contents)
