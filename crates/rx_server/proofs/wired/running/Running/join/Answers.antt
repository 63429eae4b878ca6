use Rattle.std.proofs.Common.{map}
use Rattle.rx_server.proofs.Leaving.{drainer-first, pump-first}
use Rattle.rx_server.proofs.wired.running.Running.join.Goals as goal

pub returns-clause-failed : goal.returns-clause-failed
returns-clause-failed g c =
    let drainers = map (λ drainer. drainer.handle.promise.0.value) c.args.self.drainers.items in
    pump-first g.S.Sink.acts c.args.self.pumps.items drainers c.join_drainers-drained.new.ends.items c.join_drainers-drained.result c.in-Err.fault c.join_drainers-drained.ensures c.in-Err.ensures

pub returns-in-Ok-clause-failed : goal.returns-in-Ok-clause-failed
returns-in-Ok-clause-failed g c =
    let drainers = map (λ drainer. drainer.handle.promise.0.value) c.args.self.drainers.items in
    drainer-first g.S.Sink.acts c.args.self.pumps.items drainers c.join_pumps-pumped.new.ends.items c.join_drainers-drained.new.ends.items c.join_drainers-drained.result c.in-Ok.ensures c.join_drainers-drained.ensures
