use Rattle.std.proofs.Common.{sym, subst}
use Rattle.rx_pump.specs.Pumps.{PumpView, IsPumped}
use Rattle.rx_pump.proofs.pump.Pump.take_one.Goals as goal

pub returns-clause-pumped : goal.returns-clause-pumped
returns-clause-pumped g c = subst (λ (p : PumpView _). IsPumped p) (sym c.pass_on.ensures) c.take_letter-outcome.ensures.pumped
