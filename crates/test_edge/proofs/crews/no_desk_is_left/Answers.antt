use Rattle.std.proofs.Common.{◌∙◌, sym, subst, List}
use Rattle.rx_server.specs.Servers.{IsDeskOf}
use Rattle.test_edge.proofs.crews.no_desk_is_left.Goals as goal

pub closed-requires : goal.closed-requires
closed-requires g c =
    let one = c.caller_of-only in
    let made = c.serve-served.new.self.made in
    c.finish_alone-ended.ensures made (subst (λ (l : List _). IsDeskOf l one.result.desk) (sym (c.serve-served.ensures.same.made ∙ one.ensures.same)) one.ensures.own)
