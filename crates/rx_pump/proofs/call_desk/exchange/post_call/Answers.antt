use Rattle.std.proofs.Common.{ap, arith}
use Rattle.rx_mailbox.specs.Boxes.{told}
use Rattle.rx_pump.proofs.Putting.{Puts-told}
use Rattle.rx_pump.proofs.call_desk.exchange.post_call.Goals as goal

pub returns-in-Ok : goal.returns-in-Ok
returns-in-Ok g c =
    Puts-told c.args.ports.now.items c.args.subject c.index_mut.result.now c.hold_back.new.self c.args.call
    (omega (arith, c.requires)) c.index_mut.ensures.value (ap told c.in-Ok.ensures)
