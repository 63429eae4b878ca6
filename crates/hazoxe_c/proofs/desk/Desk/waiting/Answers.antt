use Rattle.std.proofs.Common.{◌≡◌, ◌∙◌, sym, refl, subst, Ok, Err}
use Rattle.rx_history.specs.Histories.{History}
use Rattle.rx_hub.specs.Hubs.{StandsFor}
use Rattle.rx_hub.specs.Counts.{waiting_count}
use Rattle.hazoxe_c.specs.Desks.{DeskView}
use Rattle.hazoxe_c.proofs.desk.Desk.waiting.Goals as goal

pub returns-in-Ok : goal.returns-in-Ok
returns-in-Ok c =
    let Counted : DeskView → Type 0 = λ desk. (H : History) → StandsFor desk.hub.state H → Ok c.in-Ok.waiting ≡ waiting_count desk.hub.state.rules H c.args.who in
    record { count = Ok c.in-Ok.waiting; counted = subst Counted c.self.view_is (λ H stands. sym c.in-Ok.is ∙ c.waiting_of.ensures H stands); same = refl; came_to = refl; written = refl }

pub returns-in-Err : goal.returns-in-Err
returns-in-Err c =
    let Counted : DeskView → Type 0 = λ desk. (H : History) → StandsFor desk.hub.state H → Err (record {}) ≡ waiting_count desk.hub.state.rules H c.args.who in
    record { count = Err (record {}); counted = subst Counted c.self.view_is (λ H stands. sym c.in-Err.is ∙ c.waiting_of.ensures H stands); same = refl; came_to = refl; written = refl }
