use Rattle.std.proofs.Common.{rules, ◌≡◌, sym, subst, length, MatchResult}
use Rattle.std.proofs.lemmas.List.{nil_from_length}
use Rattle.rx_mailbox.specs.Batches.{carried}
use Rattle.rx_mailbox.specs.Boxes.{Incoming, with_letter}
use Rattle.rx_mailbox.specs.Hands.{so_far, IsHand}
use Rattle.rx_mailbox.specs.Settling.{letter_count}
use Rattle.rx_mailbox.proofs.Hands.{opens}
use Rattle.rx_mailbox.proofs.inbox.Inbox.look.Given as given
use Rattle.rx_mailbox.proofs.inbox.Inbox.look.Goals as goal

-- what came was opened
opened : (g : given.Over) (c : goal.After-open_batch g)
    → (IsHand c.take_by.new.inlet c.in-Ok.came.from c.open_batch.new.hand.items × (c.open_batch.new.letters ≡ letter_count (so_far c.take_by.new.inlet (length c.open_batch.new.hand.items)).received))
    × MatchResult c.open_batch.result
    (λ x. so_far c.take_by.new.inlet (length c.open_batch.new.hand.items) ≡ with_letter (so_far c.self.inside.inlet (length c.self.inside.hand.items)) x)
    (λ _. so_far c.take_by.new.inlet (length c.open_batch.new.hand.items) ≡ so_far c.self.inside.inlet (length c.self.inside.hand.items))
opened g c =
    let hand = c.self.inside.hand.items in
    let zero : length hand ≡ 0 = search rules in
    opens c.self.inside.inlet c.take_by.new.inlet c.in-Ok.came.from c.self.inside.letters c.open_batch.new.letters hand c.open_batch.new.hand.items (carried c.in-Ok.came) c.open_batch.result
    (nil_from_length hand zero) c.in-Ok.ensures.taken c.open_batch.ensures.opened c.open_batch.ensures.bodies c.in-Ok.ensures.port c.in-Ok.ensures.before_bye c.self.invariant.1 c.open_batch.ensures.letters

pub invariant_of-self : goal.invariant_of-self
invariant_of-self g c =
    let is = opened g c in
    (subst (λ from. IsHand c.take_by.new.inlet from c.open_batch.new.hand.items) (sym c.open_batch.ensures.from.0) is.0.0, is.0.1)

pub returns-in-Ok-clause-received : goal.returns-in-Ok-clause-received
returns-in-Ok-clause-received g c = subst (λ (i : Incoming _). MatchResult c.open_batch.result
    (λ x. so_far c.take_by.new.inlet (length c.open_batch.new.hand.items) ≡ with_letter i x)
    (λ _. so_far c.take_by.new.inlet (length c.open_batch.new.hand.items) ≡ i)) c.self.view_is (opened g c).1
