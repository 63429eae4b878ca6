use Rattle.std.proofs.Common.{◌∙◌, List, length, sym, ap, subst}
use Rattle.rx_mailbox.specs.declared.letter.Post.TheVariants.{Body}
use Rattle.rx_mailbox.specs.Letters.{letter}
use Rattle.rx_mailbox.specs.Hands.{so_far, IsHand}
use Rattle.rx_mailbox.specs.Settling.{letter_count}
use Rattle.rx_mailbox.proofs.Hands.{counted_more, handed_out}
use Rattle.rx_mailbox.proofs.inbox.Inbox.next_in_hand.Goals as goal

pub invariant_of-self : goal.invariant_of-self
invariant_of-self g c =
    let inlet = c.self.inside.inlet in
    let from = c.self.inside.from in
    let body = c.in-Some.body in
    let rest = c.pop_front.new.self.items in
    let items = c.in-Some.ensures.items in
    let out = handed_out inlet from body rest (subst (λ l. IsHand inlet from l) items c.self.invariant.0) in
    let count = c.self.invariant.1 ∙ ap (λ (l : List _). letter_count (so_far inlet (length l)).received) items in
    (out.0, c.saturating_add-self-inside.ensures ∙ counted_more c.self.inside.letters _ (letter from (Body body)) count ∙ ap letter_count (sym out.1))
