use Rattle.std.proofs.Common.{sym}
use Rattle.rx_mailbox.proofs.Joins.{IsEachOnce-same}
use Rattle.rx_mailbox.proofs.settlement.is_each_once.Goals as goal

pub returns-then-are_below : goal.returns-then-are_below
returns-then-are_below g c =
    let made = c.ports-made.ensures in
    let ports = c.as_slice-ports.ensures.value in (
      λ yes. IsEachOnce-same _ _ _ _ made ports (c.are_below.ensures.0 c.if-are_below.true, c.has_each_once.ensures.0 yes),
      λ each. c.has_each_once.ensures.1 (IsEachOnce-same _ _ _ _ (sym made) (sym ports) each).1,
    )
