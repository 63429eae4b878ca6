use Rattle.rx_mailbox.proofs.Told.{told-set_same}
use Rattle.rx_mailbox.proofs.port.rings_of_ports.ring_at.Goals as goal

pub returns-clause-told : goal.returns-clause-told
returns-clause-told g c =
    told-set_same c.args.ports.now.items c.args.place c.index_mut.result.now c.ring-went.new.self c.index_mut.ensures.value c.ring-went.ensures.same
