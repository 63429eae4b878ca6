use Rattle.std.proofs.Common.{sym, subst, List}
use Rattle.rx_server.proofs.Desks.{desk-goes, keeps-then}
use Rattle.rx_server.specs.Servers.{IsDeskOf}
use Rattle.test_edge.proofs.going_on.emit_to_many.Goals as goal

pub returns : goal.returns
returns g c =
    let one = c.caller_of-caller in
    let made = one.new.server.made in
    let own = subst (λ (l : List _). IsDeskOf l one.result.desk) (sym one.ensures.same) one.ensures.own in
    let joined = c.join_many.new.caller.desk in
    let emitted = c.emit_often.new.caller.desk in
    c.finish_alone.ensures made
    (desk-goes made one.result.desk emitted (keeps-then one.result.desk joined emitted c.join_many.ensures c.emit_often.ensures) own)
