use Rattle.std.proofs.Common.{ap, subst}
use Rattle.rx_hub.specs.Hubs.{HubState, HubView, Takes}
use Rattle.rx_hub.specs.Multicasts.{state_of}
use Rattle.rx_hub.proofs.Taking.{took_step, took_none}
use Rattle.rx_hub.proofs.hub.Hub.step.Goals as goal

pub returns-clause-step : goal.returns-clause-step
returns-clause-step c =
    let OfOld : HubState → Type 0 =
    λ old. Takes old (state_of c.take-result.new.self) c.args.outs.now.items c.take-result.new.outs.items c.take-result.result (c.args.port, c.args.event) in
    let takes = subst OfOld (ap (λ (h : HubView). h.state) c.self.view_is) c.take-result.ensures in
    took_step _ _ _ _ _ _ takes

pub returns-clause-accepted : goal.returns-clause-accepted
returns-clause-accepted c missed =
    let OfOld : HubState → Type 0 =
    λ old. Takes old (state_of c.take-result.new.self) c.args.outs.now.items c.take-result.new.outs.items c.take-result.result (c.args.port, c.args.event) in
    let takes = subst OfOld (ap (λ (h : HubView). h.state) c.self.view_is) c.take-result.ensures in
    (took_none _ _ _ _ _ _ takes missed).accepted
