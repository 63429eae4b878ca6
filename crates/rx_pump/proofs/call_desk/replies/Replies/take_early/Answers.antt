-- The first letter of the subject that is held aside is told, or none is.
use Rattle.std.proofs.Common.{refl, sym, subst, arith}
use Rattle.rx_mailbox.specs.Boxes.{incoming, with_letter}
use Rattle.rx_pump.specs.Early.{HoldsAside}
use Rattle.rx_pump.proofs.Aside.{first-found, holds-early, share-none}
use Rattle.rx_pump.proofs.call_desk.replies.Replies.take_early.Goals as goal

pub returns-in_default : goal.returns-in_default
returns-in_default g c = (refl, rw (← c.self.view_is) (share-none c.args.subject c.self.inside.early.items (sym c.in_default.ensures)))

pub invariant_of-self : goal.invariant_of-self
invariant_of-self g c =
    let inside = c.self.inside in
    let told = incoming inside.inbox.box inside.inbox.ports inside.taken.items in
    let early = inside.early.items in
    let goes = rw (← c.self.view_is) at c.requires in
    let x = c.remove-early.result in
    let over = c.is_strange-self-inside.result in
    let found = first-found c.args.subject early c.in-Some.at x (sym c.in-Some.ensures) c.remove-early.ensures.value in (
      subst (λ l. HoldsAside (incoming inside.inbox.box inside.inbox.ports l) over inside.inbox c.remove-early.new.self.items) (sym c.and-self-inside.ensures)
          (subst (λ l. HoldsAside (with_letter told x) over inside.inbox l) (sym c.remove-early.ensures.items)
          (holds-early told inside.inbox over early c.args.subject c.in-Some.at x found.0 c.remove-early.ensures.value found.1 found.2
          (subst (λ b. HoldsAside told b inside.inbox early) goes c.self.invariant.0))),
      omega (arith, c.self.invariant.1, c.remove-early.ensures.len, c.remove-early.ensures.capacity),
    )
