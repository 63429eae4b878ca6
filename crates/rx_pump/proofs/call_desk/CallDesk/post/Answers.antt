use Rattle.std.proofs.Common.{◌≡◌, ◌≤◌, ◌+◌, ap, length, refl, sym, subst, arith}
use Rattle.rx_mailbox.specs.Boxes.{all_told}
use Rattle.rx_pump.specs.Desks.{AreUpTo, TicketsRise, DeskView, KeepsDesk}
use Rattle.rx_pump.specs.Early.{RepliesView, call_count}
use Rattle.rx_mailbox.proofs.Told.{told-length, told-count}
use Rattle.rx_pump.proofs.Desking.{AreUpTo-sent, TicketsRise-sent, KeepsDesk-sent}
use Rattle.rx_pump.proofs.call_desk.CallDesk.post.Goals as goal

pub invariant_of-self : goal.invariant_of-self
invariant_of-self g c = (
  c.self.invariant.0,
  c.self.invariant.1,
  c.self.invariant.2,
  λ _. c.self.invariant.3 (sym c.if-is_over.ensures),
  c.self.invariant.4,
  subst (λ (r : RepliesView _). call_count r ≤ c.self.inside.tickets) (sym c.in_default.ensures) c.self.invariant.5,
)

pub invariant_of-self-in-Ok-post_call : goal.invariant_of-self-in-Ok-post_call
invariant_of-self-in-Ok-post_call g c =
    let put = c.in-Ok-post_call.ensures in
    let old = c.self.inside.replies in
    let count : call_count c.await_reply.new.self ≡ length old.inbox.received + length old.early + (old.awaited + 1) = ap call_count c.in-Ok.ensures in (
      AreUpTo-sent c.self.inside.tickets c.args.subject _ (all_told c.self.inside.ports.items) (all_told c.post_call.new.ports.items) refl put c.self.invariant.0,
      TicketsRise-sent c.self.inside.tickets c.args.subject _ (all_told c.self.inside.ports.items) (all_told c.post_call.new.ports.items) refl put c.self.invariant.0 c.self.invariant.1,
      c.self.invariant.2,
      λ _. c.self.invariant.3 (sym c.if-is_over.ensures),
      omega (arith, c.self.invariant.4, put.count, told-length c.self.inside.ports.items, told-length c.post_call.new.ports.items),
      omega (arith, c.self.invariant.5, count),
    )

pub invariant_of-self-in-Err : goal.invariant_of-self-in-Err
invariant_of-self-in-Err g c =
    let same = c.in-Err.ensures.1 in
    let old = c.self.inside.replies in
    let new = c.await_one_less.new.self in
    let more : call_count c.await_reply.new.self ≡ length old.inbox.received + length old.early + (old.awaited + 1) = ap call_count c.in-Ok.ensures in
    let less : call_count c.await_reply.new.self ≡ length new.inbox.received + length new.early + (new.awaited + 1) = ap call_count c.await_one_less.ensures in (
      subst (AreUpTo c.self.inside.tickets) (sym same) c.self.invariant.0,
      subst TicketsRise (sym same) c.self.invariant.1,
      c.self.invariant.2,
      λ _. c.self.invariant.3 (sym c.if-is_over.ensures),
      omega (arith, c.self.invariant.4, told-count c.self.inside.ports.items c.post_call.new.ports.items same),
      omega (arith, c.self.invariant.5, more, less),
    )

pub returns-in-Ok-post_call-clause-kept : goal.returns-in-Ok-post_call-clause-kept
returns-in-Ok-post_call-clause-kept g c =
    let inside = c.self.inside in
    let awaits = c.await_reply.new.self in
    let before : DeskView _ = record { ports = all_told inside.ports.items; inbox = inside.replies.inbox; ended = inside.ended.items; tickets = inside.tickets; is_over = inside.replies.is_over } in
    let after : DeskView _ = record { ports = all_told c.post_call.new.ports.items; inbox = awaits.inbox; ended = inside.ended.items; tickets = inside.tickets + 1; is_over = awaits.is_over } in
    subst (λ (desk : DeskView _). KeepsDesk desk after) c.self.view_is
    (KeepsDesk-sent before after c.args.subject _ c.in-Ok-post_call.ensures (ap (λ (r : RepliesView _). r.inbox) c.in-Ok.ensures) refl)
