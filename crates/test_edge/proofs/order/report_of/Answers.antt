use Rattle.std.proofs.Common.{◌∙◌, List, sym, subst}
use Rattle.rx_server.specs.Servers.{IsDeskOf}
use Rattle.test_edge.proofs.order.report_of.Goals as goal

pub closed-requires : goal.closed-requires
closed-requires g c =
    let first = c.caller_of in
    let second = c.caller_of-2 in
    let third = c.caller_of-3 in
    c.in_ok-ended.ensures third.new.server.made
    (subst (λ (l : List _). IsDeskOf l first.result.desk) (sym (third.ensures.same ∙ second.ensures.same ∙ first.ensures.same)) first.ensures.own)
    (subst (λ (l : List _). IsDeskOf l second.result.desk) (sym (third.ensures.same ∙ second.ensures.same)) second.ensures.own)
    (subst (λ (l : List _). IsDeskOf l third.result.desk) (sym third.ensures.same) third.ensures.own)
