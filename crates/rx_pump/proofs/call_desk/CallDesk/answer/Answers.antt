use Rattle.std.proofs.Common.{sym, subst, arith}
use Rattle.rx_mailbox.proofs.Told.{told-count}
use Rattle.rx_pump.specs.Desks.{AreUpTo, TicketsRise}
use Rattle.rx_pump.proofs.call_desk.CallDesk.answer.Goals as goal

pub invariant_of-self : goal.invariant_of-self
invariant_of-self g c = (
  subst (AreUpTo c.self.inside.tickets) (sym c.ring_held.ensures) c.self.invariant.0,
  subst TicketsRise (sym c.ring_held.ensures) c.self.invariant.1,
  c.self.invariant.2,
  λ _. c.self.invariant.3 (sym c.if-is_over.ensures),
  omega (arith, c.self.invariant.4, told-count c.self.inside.ports.items c.ring_held.new.ports.items c.ring_held.ensures),
  omega (arith, c.self.invariant.5, c.awaited_reply.ensures.count),
)
