use Rattle.std.proofs.Common.{◌∙◌, ap, ℕ}
use Rattle.rx_pump.specs.Desks.{DeskView}
use Rattle.test_threads.specs.Wiring.{boxes_of}
use Rattle.test_threads.proofs.Wired.{boxes-same, boxes-byes}
use Rattle.test_threads.proofs.desks.emit_all.Goals as goal

pub returns-clause-ports : goal.returns-clause-ports
returns-clause-ports g c =
    ap boxes_of c.finish_desk.ensures.ports ∙ boxes-byes c.admit_posted.new.desk.ports
    ∙ boxes-same c.post_some.new.desk.ports c.admit_posted.new.desk.ports c.admit_posted.ensures.ports
    ∙ boxes-same c.loop.desk.ports c.post_some.new.desk.ports c.post_some.ensures.ports ∙ boxes-same c.desk_of-desk.result.ports c.loop.desk.ports c.loop.invariant.ports
    ∙ ap (λ (desk : DeskView ℕ). boxes_of desk.ports) c.desk_of-desk.ensures
