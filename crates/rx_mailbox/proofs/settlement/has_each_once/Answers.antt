use Rattle.std.proofs.Common.{◌≡◌, ◌==◌, ◌∙◌, sym, refl, arith}
use Rattle.std.specs.List.{count_by}
use Rattle.rx_mailbox.specs.Boxes.{Outgoing}
use borrow.Author.Count.{below_more}
use Rattle.rx_mailbox.proofs.settlement.has_each_once.Goals as goal

pub returns-then-count-ne1 : goal.returns-then-count-ne1
returns-then-count-ne1 g c = ((λ no. cc), λ each. absurd (c.if-count-ne1.true (c.count.ensures ∙ each c.loop-number.number c.loop-number-test.true)))

pub loop-number-preserved : goal.loop-number-preserved
loop-number-preserved g c =
    below_more (λ number. count_by (λ (port : Outgoing _). port.number == number) c.args.ports.now ≡ 1) _ c.loop-number.invariant (sym c.count.ensures ∙ c.if-count-ne1.false)

pub returns : goal.returns
returns g c = ((λ _ number below. c.loop-number.invariant number (omega arith)), λ _. refl)
