use Rattle.std.proofs.Common.{◌≡◌, ◌∙◌, sym, ap, rules, [], ◌∷◌}
use Rattle.rx_mailbox.specs.Boxes.{Outgoing, Incoming}
use Rattle.test_threads.specs.Wiring.{boxes_of}
use Rattle.test_threads.proofs.Wired.{boxes-same}
use Rattle.test_threads.proofs.desks.exchange.Goals as goal

pub close_all-requires-clause-first : goal.close_all-requires-clause-first
close_all-requires-clause-first g c =
    let served = c.join-first.ensures.second in
    let box = served.1.box ∙ ap (λ (inbox : Incoming _). inbox.box) c.pump_of-pump.ensures.inbox in
    c.join-first.ensures.first.0 ∙ ap (λ b. b ∷ []) (ap (λ (port : Outgoing _). port.box) c.two-inbox.ensures.first_is ∙ sym box)

pub close_all-requires-clause-second : goal.close_all-requires-clause-second
close_all-requires-clause-second g c =
    let served = c.join-first.ensures.second in
    let box = served.1.box ∙ ap (λ (inbox : Incoming _). inbox.box) c.pump_of-pump.ensures.inbox in
    c.join-first.ensures.first.1 ∙ ap (λ b. b ∷ []) (ap (λ (port : Outgoing _). port.box) c.two-inbox.ensures.second_is ∙ sym box)

pub close_all-requires-clause-replies : goal.close_all-requires-clause-replies
close_all-requires-clause-replies g c =
    let served = c.join-first.ensures.second in
    let callers : c.expect-callers.result.items ≡ c.one-first_inbox.result.1 ∷ (c.one-second_inbox.result.1 ∷ []) = search rules in
    let first = ap (λ (port : Outgoing _). port.box) c.one-first_inbox.ensures.port_is ∙ sym c.join-first.ensures.first.2 in
    let second = ap (λ (port : Outgoing _). port.box) c.one-second_inbox.ensures.port_is ∙ sym c.join-first.ensures.first.3 in
    boxes-same c.pump_of-pump.result.replies c.join-first.result.1.replies.items served.1.callers
    ∙ ap boxes_of (c.pump_of-pump.ensures.callers ∙ callers)
    ∙ ap (λ b. b ∷ (c.one-second_inbox.result.1.box ∷ [])) first ∙ ap (λ b. c.join-first.result.0.0.inbox.box ∷ (b ∷ [])) second
