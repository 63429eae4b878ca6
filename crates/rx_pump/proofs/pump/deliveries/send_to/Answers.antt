use Rattle.std.proofs.Common.{arith}
use Rattle.rx_pump.proofs.Putting.{PutsFor-placed, StopsAt-placed}
use Rattle.rx_pump.proofs.pump.deliveries.send_to.Goals as goal

pub returns : goal.returns
returns g c =
    PutsFor-placed c.args.drainers.now.items c.args.who c.len.result c.place_among-place.result c.index_mut.result.now c.send_quietly.new.self c.args.out
    c.place_among-place.ensures.place c.requires.of (omega (arith, c.len.ensures)) (omega (arith, c.requires.some)) c.index_mut.ensures.value c.in-Ok.ensures

pub returns-in_default : goal.returns-in_default
returns-in_default g c =
    StopsAt-placed c.args.drainers.now.items c.args.who c.len.result c.place_among-place.result c.index_mut.result.now c.send_quietly.new.self c.args.out
    c.place_among-place.ensures.place c.requires.of (omega (arith, c.len.ensures)) c.index_mut.ensures.value c.in_default.ensures.1
