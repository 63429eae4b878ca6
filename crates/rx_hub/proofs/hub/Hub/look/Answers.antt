use Rattle.std.proofs.Common.{OnOk, ap, subst}
use Rattle.rx_history.specs.Histories.{History}
use Rattle.rx_hub.specs.Hubs.{HubState, HubView, StandsFor}
use Rattle.rx_hub.specs.Looks.{IsSeen}
use Rattle.rx_hub.proofs.hub.Hub.look.Goals as goal

pub returns-clause-seen : goal.returns-clause-seen
returns-clause-seen c =
    let Seen : HubState → Type 0 = λ hub. OnOk c.look.result ((H : History) → StandsFor hub H → IsSeen hub.rules H c.look.new.seen) in
    subst Seen (ap (λ (h : HubView). h.state) c.self.view_is) c.look.ensures.seen
