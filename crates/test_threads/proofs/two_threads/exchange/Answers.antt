use Rattle.std.proofs.Common.{ℕ, ap}
use Rattle.test_threads.specs.declared.two_threads.TheConstants.{BODIES}
use Rattle.rx_mailbox.specs.Boxes.{Outgoing}
use Rattle.rx_mailbox.specs.Passes.{inbox_in}
use Rattle.test_threads.proofs.Bodies.{got_bodies}
use Rattle.test_threads.proofs.two_threads.exchange.Goals as goal

pub returns-clause-first : goal.returns-clause-first
returns-clause-first g c =
    got_bodies (inbox_in c.settle_two.result) c.two-inbox.result.1 c.join-first.result.0.0 0 BODIES
    (ap (λ (p : Outgoing ℕ). p.number) c.two-inbox.ensures.first_is) c.join-first.ensures.first.0 c.settle_two.ensures.first

pub returns-clause-second : goal.returns-clause-second
returns-clause-second g c =
    got_bodies (inbox_in c.settle_two.result) c.two-inbox.result.2 c.join-first.result.0.1 1 BODIES
    (ap (λ (p : Outgoing ℕ). p.number) c.two-inbox.ensures.second_is) c.join-first.ensures.first.1 c.settle_two.ensures.second
