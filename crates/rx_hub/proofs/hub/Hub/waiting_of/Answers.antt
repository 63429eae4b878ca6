use Rattle.std.proofs.Common.{◌≡◌, ap, subst}
use Rattle.rx_history.specs.Histories.{History}
use Rattle.rx_hub.specs.Counts.{waiting_count}
use Rattle.rx_hub.specs.Hubs.{HubState, HubView, StandsFor}
use Rattle.rx_hub.proofs.hub.Hub.waiting_of.Goals as goal

pub returns : goal.returns
returns c =
    let Counted : HubState → Type 0 = λ hub. (H : History) → StandsFor hub H → c.waiting_of.result ≡ waiting_count hub.rules H c.args.who in
    subst Counted (ap (λ (h : HubView). h.state) c.self.view_is) c.waiting_of.ensures
