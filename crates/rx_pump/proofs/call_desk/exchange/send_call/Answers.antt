use Rattle.std.proofs.Common.{ap, arith}
use Rattle.rx_mailbox.specs.Boxes.{told}
use Rattle.rx_pump.specs.declared.call.Call.{Call}
use Rattle.rx_mailbox.proofs.Told.{told-set_same}
use Rattle.rx_pump.proofs.Putting.{Puts-told}
use Rattle.rx_pump.proofs.call_desk.exchange.send_call.Goals as goal

pub returns-in-Ok : goal.returns-in-Ok
returns-in-Ok g c =
    Puts-told c.args.ports.now.items c.args.subject c.index_mut.result.now c.send.new.self c.args.call
    (omega (arith, c.requires)) c.index_mut.ensures.value (ap told c.in-Ok.ensures.sent)

pub returns-in-Err : goal.returns-in-Err
returns-in-Err g c = (
  ap (λ (call : Call _). call.sink) c.in-Err.ensures.sent.0,
  told-set_same c.args.ports.now.items c.args.subject c.index_mut.result.now c.send.new.self c.index_mut.ensures.value c.in-Err.ensures.sent.1,
)
