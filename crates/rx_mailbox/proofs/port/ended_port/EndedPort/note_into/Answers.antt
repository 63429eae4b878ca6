use Rattle.std.proofs.Common.{◌≡◌, ap}
use Rattle.crossbeam_channel.specs.Claims.{view}
use Rattle.rx_mailbox.specs.Boxes.{Outgoing}
use Rattle.rx_mailbox.specs.Batches.{unpacked}
use Rattle.rx_mailbox.specs.Passes.{own_of}
use Rattle.rx_mailbox.proofs.Joins.{joined_keeps}
use Rattle.rx_mailbox.proofs.Rests.{note_joined}
use Rattle.rx_mailbox.proofs.Steps.{may_join}
use Rattle.rx_mailbox.proofs.port.ended_port.EndedPort.note_into.Goals as goal

pub absorb-requires-clause-rule : goal.absorb-requires-clause-rule
absorb-requires-clause-rule g c = may_join _ _ _ _ _ _ c.requires.reader c.self.invariant.1

pub returns-clause-keeps : goal.returns-clause-keeps
returns-clause-keeps g c = joined_keeps _ _ _ _ _ c.requires.reader c.self.invariant.1 c.absorb.ensures.rule

pub returns-clause-joined : goal.returns-clause-joined
returns-clause-joined g c =
    let number : c.self.inside.number ≡ c.args.self.number = ap (λ (p : Outgoing _). p.number) c.self.view_is in
    let own : unpacked (own_of (view c.self.inside.pass)) ≡ c.args.self.own = ap (λ (p : Outgoing _). p.own) c.self.view_is in
    note_joined _ _ _ _ _ c.requires.reader c.self.invariant.1 c.absorb.ensures.rule number own
