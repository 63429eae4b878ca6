use Rattle.rx_server.proofs.Desks.{desk-ends}
use Rattle.rx_caller.proofs.caller.Caller.finish.Goals as goal

pub invariant_of-result : goal.invariant_of-result
invariant_of-result g c =
    desk-ends c.self.inside.server.value.made c.self.inside.desk c.in-Ok.desk c.in-Ok.ensures.ended.0 c.in-Ok.ensures.ended.1 c.self.invariant
