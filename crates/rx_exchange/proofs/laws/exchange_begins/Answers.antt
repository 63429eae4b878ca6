use Rattle.rx_exchange.specs.Meetings.{parties}
use Rattle.rx_exchange.proofs.Turning.{begins}
use Rattle.rx_exchange.proofs.laws.exchange_begins.Goals as goal

pub returns : goal.returns
returns g c = begins (parties g.D.Front.since g.D.Front.looks g.D.Front.joins g.D.Front.emits g.D.Front.emits_lines g.D.Front.requests g.D.Front.shows g.D.Front.stops g.W.Write.contents)
