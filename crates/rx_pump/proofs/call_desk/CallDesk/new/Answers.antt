use Rattle.std.proofs.Common.{rules, ◌≡◌, ◌+◌, ◌∙◌, List, [], false, ap, length, sym, subst, arith}
use Rattle.std.proofs.lemmas.List.Elements.{All-nil}
use Rattle.rx_mailbox.specs.Boxes.{Outgoing}
use Rattle.rx_pump.specs.Early.{RepliesView, call_count}
use Rattle.rx_pump.specs.Desks.{AreUpTo, Rise, TicketsRise, tickets_in}
use Rattle.rx_pump.proofs.Desking.{AreUpTo-fresh, TicketsRise-fresh}
use Rattle.rx_mailbox.proofs.Told.{told-fresh}
use Rattle.rx_pump.proofs.call_desk.CallDesk.new.Goals as goal

pub invariant_of-result : goal.invariant_of-result
invariant_of-result g c =
    let none : c.in-Ok.ended.items ≡ [] = c.in-Ok.ensures.items in
    let count : call_count c.in-Ok-new.replies ≡ length c.args.inbox.received + 0 + 0 = ap call_count c.in-Ok-new.ensures in (
      subst (AreUpTo 0) (sym (told-fresh c.args.ports.items c.requires.ports)) (AreUpTo-fresh c.args.ports.items c.requires.ports),
      subst TicketsRise (sym (told-fresh c.args.ports.items c.requires.ports)) (TicketsRise-fresh c.args.ports.items c.requires.ports),
      subst TicketsRise (sym none) (All-nil (λ (port : Outgoing _). Rise (tickets_in port.own))),
      λ _. c.in-Ok.ensures.items,
      search rules,
      omega (arith, count, ap length c.requires.inbox),
    )

pub returns-in-Ok-new : goal.returns-in-Ok-new
returns-in-Ok-new g c =
    rw (told-fresh c.args.ports.items c.requires.ports)
    (ap (λ (r : RepliesView _). record { ports = c.args.ports.items; inbox = r.inbox; ended = c.in-Ok.ended.items; tickets = 0; is_over = r.is_over }) c.in-Ok-new.ensures
    ∙ ap (λ (l : List (Outgoing _)). record { ports = c.args.ports.items; inbox = c.args.inbox; ended = l; tickets = 0; is_over = false }) c.in-Ok.ensures.items)
