use Rattle.rx_script.proofs.Audited.{learns-end, learns-on}
use Rattle.rx_script.proofs.audit.enter_all.Goals as goal

pub returns-in-Some : goal.returns-in-Some
returns-in-Some g c = learns-end c.in_ok-end.field-0 c.in-Some.end _ _ _ _ _ _ _ _ c.in-Some.is c.loop-end.invariant.0 c.in_ok-end.ensures

pub loop-end-preserved : goal.loop-end-preserved
loop-end-preserved g c =
    let on = learns-on c.in_ok-end.field-0 _ _ _ _ _ _ _ _ c.in_default.is c.loop-end.invariant.0 c.in_ok-end.ensures in (on.0, on.1.no_end)
