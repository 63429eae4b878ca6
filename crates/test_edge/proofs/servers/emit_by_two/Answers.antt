use Rattle.std.proofs.Common.{◌∙◌, sym, subst, List}
use Rattle.rx_server.proofs.Desks.{desk-goes}
use Rattle.rx_server.specs.Servers.{IsDeskOf}
use Rattle.test_edge.proofs.servers.emit_by_two.Goals as goal

pub returns : goal.returns
returns g c =
    let one = c.caller_of-first in
    let two = c.caller_of-second in
    let made = two.new.server.made in
    let first = subst (λ (l : List _). IsDeskOf l one.result.desk) (sym (two.ensures.same ∙ one.ensures.same)) one.ensures.own in
    let second = subst (λ (l : List _). IsDeskOf l two.result.desk) (sym two.ensures.same) two.ensures.own in
    c.emit_both.ensures made (desk-goes made one.result.desk c.join.new.self.desk c.join.ensures first) second
