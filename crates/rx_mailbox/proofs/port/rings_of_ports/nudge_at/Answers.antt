use Rattle.rx_mailbox.proofs.Told.{told-set_same}
use Rattle.rx_mailbox.proofs.port.rings_of_ports.nudge_at.Goals as goal

pub returns-then-is_left-clause-told : goal.returns-then-is_left-clause-told
returns-then-is_left-clause-told g c =
    told-set_same c.args.ports.now.items c.args.place c.index_mut.result.now c.nudge-is_left.new.self c.index_mut.ensures.value c.nudge-is_left.ensures.same

pub returns-else-is_left-clause-told : goal.returns-else-is_left-clause-told
returns-else-is_left-clause-told g c =
    told-set_same c.args.ports.now.items c.args.place c.index_mut.result.now c.nudge-is_left.new.self c.index_mut.ensures.value c.nudge-is_left.ensures.same
