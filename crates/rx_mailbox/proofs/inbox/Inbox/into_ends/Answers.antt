use Rattle.std.proofs.Common.{rules, ◌≡◌, length, ◌+◌, ◌-◌, ◌^◌, min, ◌∙◌, sym, ap, subst}
use Rattle.rx_mailbox.specs.Boxes.{Incoming}
use Rattle.rx_mailbox.specs.Rests.{ReceivesMore}
use Rattle.rx_mailbox.specs.Settling.{letter_count}
use Rattle.rx_mailbox.proofs.Rests.{counted-hand, received-hand}
use Rattle.rx_mailbox.proofs.inbox.Inbox.into_ends.Goals as goal

pub returns-clause-received : goal.returns-clause-received
returns-clause-received g c =
    let inlet = c.self.inside.inlet in
    let all = received-hand inlet c.self.inside.from c.self.inside.hand.items c.self.invariant.0 in
    subst (λ (i : Incoming _). ReceivesMore c.args.self i) (sym c.into_ends-receiver.ensures.pass) (subst (λ (i : Incoming _). ReceivesMore i inlet) c.self.view_is all)

pub returns-clause-letters : goal.returns-clause-letters
returns-clause-letters g c =
    let inlet = c.self.inside.inlet in
    let many : c.len.result ≡ length c.self.inside.hand.items = search rules in
    c.saturating_add-letters.ensures ∙ ap (λ n. min (c.self.inside.letters + n) (2 ^ 64 - 1)) many ∙ counted-hand c.self.inside.letters inlet c.self.inside.from c.self.inside.hand.items c.self.invariant.0 c.self.invariant.1
    ∙ ap (λ (i : Incoming _). letter_count i.received) (sym c.into_ends-receiver.ensures.pass)
