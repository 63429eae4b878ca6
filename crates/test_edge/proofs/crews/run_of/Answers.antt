use Rattle.std.proofs.Common.{◌∙◌, sym, subst, List}
use Rattle.rx_server.proofs.Desks.{desk-goes}
use Rattle.rx_server.specs.Servers.{IsDeskOf}
use Rattle.test_edge.proofs.crews.run_of.Goals as goal

pub closed-requires : goal.closed-requires
closed-requires g c =
    let one = c.caller_of-first in
    let made = c.serve-served.new.self.made in
    let own = subst (λ (l : List _). IsDeskOf l one.result.desk) (sym (c.serve-served.ensures.same.made ∙ one.ensures.same)) one.ensures.own in
    c.finish_alone-ended.ensures made (desk-goes made one.result.desk c.join.new.self.desk c.join.ensures own)
