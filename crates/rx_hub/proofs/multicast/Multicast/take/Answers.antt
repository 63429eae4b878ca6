use Rattle.rx_hub.proofs.Taking.{takes_as}
use Rattle.rx_hub.proofs.multicast.Multicast.take.Goals as goal

pub returns-in-Emit : goal.returns-in-Emit
returns-in-Emit c = takes_as _ _ _ _ _ _ _ _ c.in-Emit.is c.emit.ensures

pub returns-in-Join : goal.returns-in-Join
returns-in-Join c = takes_as _ _ _ _ _ _ _ _ c.in-Join.is (c.join.ensures c.args.port)

pub returns-in-Request : goal.returns-in-Request
returns-in-Request c = takes_as _ _ _ _ _ _ _ _ c.in-Request.is (c.request.ensures.takes c.args.port)

pub returns-in-Dispose : goal.returns-in-Dispose
returns-in-Dispose c = takes_as _ _ _ _ _ _ _ _ c.in-Dispose.is (c.dispose.ensures c.args.port c.args.outs.now.items)
