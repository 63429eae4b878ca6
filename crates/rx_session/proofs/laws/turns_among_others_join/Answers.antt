use Rattle.rx_session.specs.Sessions.{parties}
use Rattle.rx_session.proofs.Amongst.{Sitting-then}
use Rattle.rx_session.proofs.laws.turns_among_others_join.Goals as goal

pub returns : goal.returns
returns g c = Sitting-then (parties g.D.Desk.knows g.D.Desk.emits g.D.Desk.follows g.W.Write.contents)
