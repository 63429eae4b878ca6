use Rattle.rx_drain.proofs.Standing.{handles_body, handles_bye, handles_next}
use Rattle.rx_drain.proofs.drainer.one_letter.handle.Goals as goal

pub returns-in-Body-clause-handles : goal.returns-in-Body-clause-handles
returns-in-Body-clause-handles g c =
    handles_body g.S.Sink.acts c.args.letter c.in-Body.out _ _ c.in-Body.is (handles_next g.S.Sink.acts _ _ _ c.handle_out.ensures.handles)

pub returns-in-Bye-clause-handles : goal.returns-in-Bye-clause-handles
returns-in-Bye-clause-handles g c = handles_bye g.S.Sink.acts c.args.letter _ _ c.in-Bye.is c.hear_bye.ensures.handles
