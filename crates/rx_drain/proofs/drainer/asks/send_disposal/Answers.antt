use Rattle.std.proofs.Common.{refl, []}
use Rattle.rx_note.specs.declared.event.Event.TheVariants.{Dispose}
use Rattle.rx_drain.proofs.drainer.asks.send_disposal.Goals as goal

pub returns : goal.returns
returns g c = c.send.ensures (Dispose c.args.who) [] refl
