use Rattle.rx_exchange.specs.Meetings.{parties}
use Rattle.rx_exchange.proofs.Amongst.{joins_turns}
use Rattle.rx_exchange.proofs.laws.turns_among_others_join.Goals as goal

pub returns : goal.returns
returns g c = joins_turns (parties g.D.Front.since g.D.Front.looks g.D.Front.joins g.D.Front.emits g.D.Front.emits_lines g.D.Front.requests g.D.Front.shows g.D.Front.stops g.W.Write.contents)
