use Rattle.std.proofs.Common.{◌+◌, refl, subst, sym, arith}
use Rattle.rx_mailbox.specs.Boxes.{all_told}
use Rattle.rx_pump.specs.Desks.{DeskView, KeepsDesk}
use Rattle.rx_mailbox.proofs.Told.{told-length}
use Rattle.rx_pump.proofs.Desking.{AreUpTo-sent, TicketsRise-sent, KeepsDesk-call}
use Rattle.rx_pump.proofs.call_desk.CallDesk.call.Goals as goal

pub invariant_of-self-2 : goal.invariant_of-self-2
invariant_of-self-2 g c = (
  AreUpTo-sent c.self.inside.tickets c.args.subject _ (all_told c.self.inside.ports.items) (all_told c.send_call.new.ports.items) refl c.in_default.ensures c.self.invariant.0,
  TicketsRise-sent c.self.inside.tickets c.args.subject _ (all_told c.self.inside.ports.items) (all_told c.send_call.new.ports.items) refl c.in_default.ensures c.self.invariant.0 c.self.invariant.1,
  c.self.invariant.2,
  λ _. c.self.invariant.3 (sym c.if-is_over.ensures),
  omega (arith, c.self.invariant.4, c.in_default.ensures.count, told-length c.self.inside.ports.items, told-length c.send_call.new.ports.items),
  omega (arith, c.self.invariant.5, c.reply.ensures.count),
)

pub returns-clause-kept : goal.returns-clause-kept
returns-clause-kept g c =
    let inside = c.self.inside in
    let before : DeskView _ = record { ports = all_told inside.ports.items; inbox = inside.replies.inbox; ended = inside.ended.items; tickets = inside.tickets; is_over = inside.replies.is_over } in
    let after : DeskView _ = record {
      ports = all_told c.send_call.new.ports.items;
      inbox = c.reply.new.self.inbox;
      ended = inside.ended.items;
      tickets = inside.tickets + 1;
      is_over = c.reply.new.self.is_over;
    } in
    subst (λ (desk : DeskView _). KeepsDesk desk after) c.self.view_is
    (KeepsDesk-call before after c.args.subject (inside.tickets + 1) _ c.reply.result c.in_default.ensures c.reply.ensures.received refl)
