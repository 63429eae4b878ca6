use Rattle.std.proofs.Common.{◌∙◌, ap, refl, arith}
use Rattle.rx_pump.proofs.pump.one_call.asked.Goals as goal
