-- The letter that came last is told, and what came before it is held aside.
use Rattle.std.proofs.Common.{false, sym, subst}
use Rattle.rx_mailbox.specs.Boxes.{incoming, with_letter}
use Rattle.rx_pump.specs.Early.{HoldsAside}
use Rattle.rx_pump.proofs.Aside.{holds-box, holds-came, holds-next}
use Rattle.rx_pump.proofs.call_desk.replies.Replies.take_next.Goals as goal

pub invariant_of-self : goal.invariant_of-self
invariant_of-self g c =
    let inside = c.self.inside in
    let after = c.next_letter.new in
    let told = incoming inside.inbox.box inside.inbox.ports inside.taken.items in
    let goes = rw (← c.self.view_is) at c.requires.goes in (
      subst (λ b. HoldsAside (incoming after.inbox.box after.inbox.ports inside.taken.items) b after.inbox after.early.items) (sym goes)
          (holds-box told false after.inbox after.early.items
          (holds-came told inside.inbox after.inbox inside.early.items after.early.items c.args.subject
          (subst (λ b. HoldsAside told b inside.inbox inside.early.items) goes c.self.invariant.0) c.in_default.ensures.came)),
      c.in_default.ensures.room,
    )

pub invariant_of-self-2 : goal.invariant_of-self-2
invariant_of-self-2 g c =
    let inside = c.self.inside in
    let after = c.next_letter.new in
    let told = incoming inside.inbox.box inside.inbox.ports inside.taken.items in
    let goes = rw (← c.self.view_is) at c.requires.goes in
    let apart = rw (← c.self.view_is) at c.requires.apart in
    let x = c.in-Some.letter in (
      subst (λ l. HoldsAside (incoming after.inbox.box after.inbox.ports l) c.is_strange-self-inside.result after.inbox after.early.items) (sym c.and-self-inside.ensures)
          (subst (λ b. HoldsAside (incoming after.inbox.box after.inbox.ports (with_letter told x).received) b after.inbox after.early.items) (sym c.is_strange-self-inside.ensures)
          (holds-box (with_letter told x) _ after.inbox after.early.items
          (holds-next told inside.inbox after.inbox inside.early.items after.early.items c.args.subject c.args.ticket x c.read-answered.result apart
          (subst (λ b. HoldsAside told b inside.inbox inside.early.items) goes c.self.invariant.0) c.in-Some.ensures.came c.read-answered.ensures))),
      c.in-Some.ensures.room,
    )
