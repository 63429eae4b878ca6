use Rattle.std.proofs.Common.{sym, subst}
use Rattle.rx_pump.specs.Pumps.{PumpView, IsPumped}
use Rattle.rx_pump.proofs.pump.Pump.turn.Goals as goal

pub returns-clause-pumped : goal.returns-clause-pumped
returns-clause-pumped g c = subst (λ (p : PumpView _). IsPumped p) (sym c.send_held.ensures) c.take_one-outcome.ensures.pumped
