use Rattle.std.proofs.Common.{rules, ◌≡◌, ◌∙◌, sym, ap, subst}
use Rattle.crossbeam_channel.specs.Claims.{view}
use Rattle.rx_mailbox.specs.Boxes.{Outgoing}
use Rattle.rx_mailbox.specs.Letters.{share, has_bye}
use Rattle.rx_mailbox.specs.Batches.{unpacked}
use Rattle.rx_mailbox.specs.Passes.{own_of, taken_of, IsNoted}
use Rattle.rx_mailbox.specs.Steps.{noted}
use Rattle.rx_mailbox.proofs.Batches.{bye_share}
use Rattle.rx_mailbox.proofs.Joins.{joined, joined_keeps, joined_notes}
use Rattle.rx_mailbox.proofs.Steps.{may_join, may_show, is_reader}
use Rattle.rx_mailbox.proofs.port.ended_port.EndedPort.join_into.Goals as goal

pub absorb-requires-clause-rule : goal.absorb-requires-clause-rule
absorb-requires-clause-rule g c = may_join _ _ _ _ _ _ c.requires.reader c.self.invariant.1

pub learn_as-requires-clause-rule : goal.learn_as-requires-clause-rule
learn_as-requires-clause-rule g c = may_show _ _ (is_reader _ _ _ _ (c.absorb.ensures.rule ∙ joined _ _ _ _ c.requires.reader c.self.invariant.1))

pub returns-clause-keeps : goal.returns-clause-keeps
returns-clause-keeps g c =
    let same : view c.learn_as.new.pass ≡ noted (view c.args.pass.now) (view c.self.inside.pass) = search rules in
    joined_keeps _ _ _ _ _ c.requires.reader c.self.invariant.1 same

pub returns-clause-noted : goal.returns-clause-noted
returns-clause-noted g c =
    let taken = taken_of (view c.args.pass.now) in
    let same : view c.learn_as.new.pass ≡ view c.absorb.new.pass = search rules in
    let number : c.self.inside.number ≡ c.args.self.number = ap (λ (p : Outgoing _). p.number) c.self.view_is in
    let own : unpacked (own_of (view c.self.inside.pass)) ≡ c.args.self.own = ap (λ (p : Outgoing _). p.own) c.self.view_is in
    let bye = ap (λ n. has_bye (share n taken)) number ∙ sym (bye_share c.args.self.number taken) ∙ c.requires.bye in
    subst (λ v. IsNoted v c.args.self) (sym same)
    (joined_notes _ _ _ _ _ _ _ c.requires.reader c.self.invariant.1 c.absorb.ensures.rule c.learn_as.ensures.rule.1 number own bye)
