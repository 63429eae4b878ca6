use Rattle.std.proofs.Common.{◌≡◌, ◌∙◌, ap}
use Rattle.crossbeam_channel.specs.Claims.{view}
use Rattle.rx_mailbox.specs.Boxes.{Outgoing}
use Rattle.rx_mailbox.specs.Batches.{unpacked}
use Rattle.rx_mailbox.specs.Letters.{share, has_bye}
use Rattle.rx_mailbox.specs.Passes.{taken_of}
use Rattle.rx_mailbox.proofs.Joins.{joined}
use Rattle.rx_mailbox.proofs.Rests.{not_received}
use Rattle.rx_mailbox.proofs.Steps.{may_join, may_show, is_reader}
use Rattle.rx_mailbox.proofs.channel.outlet.Outlet.show_open.Goals as goal

pub absorb-requires-clause-rule : goal.absorb-requires-clause-rule
absorb-requires-clause-rule g c = may_join _ _ _ _ _ _ c.requires.reader c.self.invariant.1

pub learn_as-requires-clause-rule : goal.learn_as-requires-clause-rule
learn_as-requires-clause-rule g c = may_show _ _ (is_reader _ _ _ _ (c.absorb.ensures.rule ∙ joined _ _ _ _ c.requires.reader c.self.invariant.1))

-- a Bye that was received would be one that the port put
pub returns-clause-open : goal.returns-clause-open
returns-clause-open g c =
    let number : c.self.inside.number ≡ c.args.self.number = ap (λ (p : Outgoing _). p.number) c.self.view_is in
    λ bye.
    not_received _ _ _ c.self.inside.number _ c.requires.reader c.self.invariant.1 c.absorb.ensures.rule c.learn_as.ensures.rule.1
    (ap (λ n. has_bye (share n (unpacked (taken_of (view c.args.pass.now))))) number ∙ bye)
