use Rattle.std.proofs.Common.{subst}
use Rattle.rx_pump.specs.Pumps.{PumpView, IsPumped}
use Rattle.rx_pump.proofs.pump.Pump.into_parts.Goals as goal

pub returns-clause-pumped : goal.returns-clause-pumped
returns-clause-pumped g c = subst (λ (p : PumpView _). IsPumped p) c.self.view_is c.self.invariant.0
