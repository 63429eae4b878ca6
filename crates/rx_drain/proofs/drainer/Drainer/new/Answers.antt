use Rattle.std.proofs.Common.{◌≡◌, sym, refl, subst, List, [], ◌++◌, arith, rules}
use Rattle.std.specs.List.{All}
use Rattle.rx_mailbox.specs.Boxes.{Outgoing}
use Rattle.rx_pump.specs.Opened.{all_opened, opened_ports}
use Rattle.rx_mailbox.specs.PortRows.{IsFresh}
use Rattle.rx_pump.proofs.Asking.{all_opened-fresh}
use Rattle.rx_drain.proofs.Ending.{drained_fresh}
use Rattle.rx_drain.proofs.drainer.Drainer.new.Goals as goal

pub invariant_of-result : goal.invariant_of-result
invariant_of-result g c =
    let none : c.in-Ok.ended.items ≡ [] = c.in-Ok.ensures.items in
    let told = subst (λ (l : List (Outgoing _)). All IsFresh l) (sym (all_opened-fresh c.args.subjects.items c.requires.fresh)) c.requires.fresh in
    let fresh = subst (λ (l : List (Outgoing _)). All IsFresh (opened_ports l ++ all_opened c.args.subjects.items)) (sym none) told in (
      drained_fresh g.S.Sink.acts _ c.requires.received fresh c.in-Ok-room.ensures.items c.new.ensures.items c.new-2.ensures refl refl refl,
      record {
        leave_is = search rules;
        away_room = search rules;
        ended_room = search rules;
        open_ports = λ is. none;
        ended_ports = λ is. cc;
      },
      omega (arith, c.requires.senders, c.len-leave.ensures),
    )

pub returns : goal.returns
returns g c = rw (all_opened-fresh c.args.subjects.items c.requires.fresh) (search rules)
