use Rattle.std.proofs.Common.{refl, arith}
use Rattle.rx_mailbox.specs.Boxes.{all_told}
use Rattle.rx_pump.proofs.Putting.{Puts-told, Puts-no_place}
use Rattle.rx_mailbox.proofs.Told.{told-length, told-set_same}
use Rattle.rx_pump.proofs.pump.one_call.send_reply.Goals as goal

pub returns-then-place-len : goal.returns-then-place-len
returns-then-place-len g c =
    Puts-no_place (all_told c.args.callers.now.items) c.args.port c.args.reply (omega (arith, c.len.ensures, c.if-place-len.true, told-length c.args.callers.now.items))

pub returns : goal.returns
returns g c =
    Puts-told c.args.callers.now.items c.args.port c.index_mut.result.now c.hold.new.self c.args.reply
    (omega (arith, c.len.ensures, c.if-place-len.false)) c.index_mut.ensures.value c.in-Ok.ensures

pub returns-in_default : goal.returns-in_default
returns-in_default g c = (
  refl,
  told-set_same c.args.callers.now.items c.args.port c.index_mut.result.now c.hold.new.self c.index_mut.ensures.value c.in_default.ensures.1,
  omega (arith, c.len.ensures, c.if-place-len.false, told-length c.args.callers.now.items),
)
