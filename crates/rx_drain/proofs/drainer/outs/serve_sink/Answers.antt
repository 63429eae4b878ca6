use Rattle.rx_drain.proofs.drainer.outs.serve_sink.Goals as goal

pub returns-clause-serves : goal.returns-clause-serves
returns-clause-serves g c = (c.attach-unserved.result.1, c.attach-unserved.ensures.attaches)
