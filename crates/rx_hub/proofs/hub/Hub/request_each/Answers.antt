use Rattle.std.proofs.Common.{◌≡◌, ◌≢◌, Ok, Err, ap, subst}
use Rattle.rx_note.specs.declared.event.Event.TheVariants.{Request}
use Rattle.rx_note.specs.declared.refusal.Refusal.TheVariants.{Memory}
use Rattle.rx_hub.specs.Hubs.{HubState, HubView, Takes}
use Rattle.rx_hub.specs.Multicasts.{state_of}
use Rattle.rx_hub.proofs.Taking.{took_step}
use Rattle.rx_hub.proofs.Singly.{RequestsEach-asked}
use Rattle.rx_hub.proofs.hub.Hub.request_each.Goals as goal

-- what the one request did
pub returns-in-Ok-clause-took : goal.returns-in-Ok-clause-took
returns-in-Ok-clause-took c =
    let OfOld : HubState → Type 0 =
    λ old. Takes old (state_of c.request.new.self) c.args.outs.now.items c.request.new.outs.items (Ok c.in-Ok.field-0) (c.args.port, Request c.args.who c.args.n) in
    let takes = subst OfOld (ap (λ (h : HubView). h.state) c.self.view_is) (c.in-Ok.ensures.takes c.args.port) in
    RequestsEach-asked c.args.self.now (record { state = state_of c.request.new.self; misses = c.self.inside.misses }) c.args.port c.args.who c.args.n
    c.args.outs.now.items c.request.new.outs.items c.in-Ok.field-0 takes.rules (ap (λ (h : HubView). h.misses) c.self.view_is)
    (took_step _ _ _ _ _ _ takes (λ is. cc))

pub returns-in-Ok-clause-rules : goal.returns-in-Ok-clause-rules
returns-in-Ok-clause-rules c =
    let OfOld : HubState → Type 0 =
    λ old. Takes old (state_of c.request.new.self) c.args.outs.now.items c.request.new.outs.items (Ok c.in-Ok.field-0) (c.args.port, Request c.args.who c.args.n) in
    let takes = subst OfOld (ap (λ (h : HubView). h.state) c.self.view_is) (c.in-Ok.ensures.takes c.args.port) in
    takes.rules
