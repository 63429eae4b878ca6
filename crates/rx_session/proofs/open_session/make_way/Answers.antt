-- Either nothing was waited for or all was.
use Rattle.rx_session.specs.Sessions.{parties}
use Rattle.rx_session.specs.Turns.{hands}
use Rattle.rx_session.proofs.Gathering.{waited_all, waits_on}
use Rattle.rx_session.proofs.open_session.make_way.Goals as goal

pub returns-then-begun-lt-MOST_BEGUN-clause-answered : goal.returns-then-begun-lt-MOST_BEGUN-clause-answered
returns-then-begun-lt-MOST_BEGUN-clause-answered g c at notes writer version count stands =
    waits_on (parties g.D.Desk.knows g.D.Desk.emits g.D.Desk.follows g.W.Write.contents) g.D.Desk.waits at notes (hands c.args.desk.now writer version c.args.outbox.now) c.args.begun.now count stands

pub returns-clause-answered : goal.returns-clause-answered
returns-clause-answered g c at notes writer version count stands =
    let all = c.answer_all.ensures.answered at notes writer version count stands in
    waited_all (parties g.D.Desk.knows g.D.Desk.emits g.D.Desk.follows g.W.Write.contents) g.D.Desk.waits at all.0 notes c.answer_all.new.desk writer version c.answer_all.new.outbox c.answer_all.new.begun c.answer_all.ensures.none all.1 all.2
