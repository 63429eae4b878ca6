use Rattle.std.proofs.Common.{◌≡◌, ◌≤◌, ◌+◌, ◌∙◌, true, false, ap, sym, subst, length, length-append, arith}
use Rattle.std.proofs.lemmas.List.{length-map}
use Rattle.rx_mailbox.specs.Boxes.{all_told}
use Rattle.rx_pump.specs.Early.{RepliesView, call_count}
use Rattle.rx_mailbox.proofs.Told.{told-length}
use Rattle.rx_pump.proofs.Desking.{AreUpTo-left, TicketsRise-left, TicketsRise-all, TicketsRise-ended}
use Rattle.rx_pump.proofs.call_desk.CallDesk.finish.Goals as goal

pub invariant_of-result : goal.invariant_of-result
invariant_of-result g c =
    let inside = c.self.inside in
    let ends = c.in-Err.ensures.ended.0 in
    let ports : length ends.done + length (all_told c.finish_all.new.ports.items) ≡ length (all_told inside.ports.items) = simp length-append at (ap length ends.parts) in
    let ended : length c.finish_all.new.ended.items ≡ length inside.ended.items + length ends.done = simp (length-append, length-map) at (ap length ends.ended) in (
      AreUpTo-left inside.tickets (all_told inside.ports.items) (all_told c.finish_all.new.ports.items) inside.ended.items c.finish_all.new.ended.items ends c.self.invariant.0,
      TicketsRise-left (all_told inside.ports.items) (all_told c.finish_all.new.ports.items) inside.ended.items c.finish_all.new.ended.items ends c.self.invariant.1,
      TicketsRise-ended (all_told inside.ports.items) (all_told c.finish_all.new.ports.items) inside.ended.items c.finish_all.new.ended.items ends c.self.invariant.1 c.self.invariant.2,
      λ wrong. (let no : true ≡ false = sym (ap (λ (r : RepliesView _). r.is_over) c.end.ensures) ∙ wrong in cc),
      omega (arith, c.self.invariant.4, c.in-Err.ensures.capacity, ports, ended, told-length c.finish_all.new.ports.items, told-length inside.ports.items),
      subst (λ (r : RepliesView _). call_count r ≤ inside.tickets) (sym c.end.ensures) c.self.invariant.5,
    )

pub returns-in-Ok-clause-tickets : goal.returns-in-Ok-clause-tickets
returns-in-Ok-clause-tickets g c =
    let inside = c.self.inside in
    TicketsRise-all (all_told inside.ports.items) inside.ended.items c.finish_all.new.ended.items c.in-Ok.ensures.ended.0 c.self.invariant.1 c.self.invariant.2

pub returns-in-Ok-clause-ended : goal.returns-in-Ok-clause-ended
returns-in-Ok-clause-ended g c = rw (← c.self.view_is) (c.in-Ok.ensures.ended.0, record { early = c.self.inside.replies.early; holds = c.into_inbox.ensures; count = omega (arith, c.self.invariant.5) })
