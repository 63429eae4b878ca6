use Rattle.std.proofs.Common.{[], ◌∷◌, ap, length, length-append, arith}
use Rattle.std.proofs.lemmas.List.Elements.{All-push, All-same}
use Rattle.rx_mailbox.specs.Parts.{IsEmpty}
use Rattle.rx_mailbox.proofs.settlement.deal_of_rows.parts_of.Goals as goal

pub loop-preserved : goal.loop-preserved
loop-preserved g c =
    let before = c.loop.invariant in
    let made = c.in_ok-new.ensures in
    record {
      count = omega (arith, before.count, ap length c.push_reserved.ensures.items, length-append c.loop.parts.items (c.in_ok-new.field-0 ∷ []));
      empty = All-same (IsEmpty c.args.senders) _ _ c.push_reserved.ensures.items
          (All-push (IsEmpty c.args.senders) c.loop.parts.items c.in_ok-new.field-0 before.empty (record { no_inbox = made.inbox; no_ports = made.ports; fits = made.room }));
      room = omega (arith, before.room, c.push_reserved.ensures.capacity);
    }
