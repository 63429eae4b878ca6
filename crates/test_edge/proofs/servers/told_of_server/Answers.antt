use Rattle.std.proofs.Common.{sym, subst, List}
use Rattle.rx_server.specs.Servers.{IsDeskOf}
use Rattle.test_edge.proofs.servers.told_of_server.Goals as goal

pub closed-requires : goal.closed-requires
closed-requires g c =
    let one = c.caller_of-caller in
    c.call_twice-ended.ensures one.new.server.made (subst (λ (l : List _). IsDeskOf l one.result.desk) (sym one.ensures.same) one.ensures.own)
