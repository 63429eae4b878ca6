use Rattle.std.proofs.Common.{◌∷◌, arith}
use Rattle.rx_pump.specs.Opened.{all_opened}
use Rattle.rx_pump.proofs.Asking.{opened-length}
use Rattle.rx_drain.proofs.Events.{SendsEvents-sent, SendsEvents-no_port, SendsEvents-back}
use Rattle.rx_drain.proofs.drainer.asks.send.Goals as goal

pub returns-then-place-len : goal.returns-then-place-len
returns-then-place-len g c = λ first rest is.
    SendsEvents-no_port (all_opened c.args.subjects.now.items) c.args.subject (first ∷ rest) (omega (arith, c.len.ensures, c.if-place-len.true, opened-length c.args.subjects.now.items))

pub returns-in_default : goal.returns-in_default
returns-in_default g c = λ first rest is.
    SendsEvents-back c.args.subjects.now.items c.args.subject first rest c.index_mut.result.now c.hold.new.self
    (omega (arith, c.len.ensures, c.if-place-len.false)) c.index_mut.ensures.value c.in_default.ensures.1

pub returns : goal.returns
returns g c = λ first rest is.
    SendsEvents-sent c.args.subjects.now.items c.args.subject c.args.event (first ∷ rest) c.index_mut.result.now c.hold.new.self
    (omega (arith, c.len.ensures, c.if-place-len.false)) c.index_mut.ensures.value c.in-Ok.ensures is
