use Rattle.std.proofs.Common.{◌∙◌, refl, ap, subst}
use Rattle.rx_pump.specs.Pumps.{PumpView, pump_with}
use Rattle.rx_pump.specs.Serving.{PumpHasStopped}
use Rattle.rx_pump.specs.declared.pump.pump_stop.PumpStop.{PumpStop}
use Rattle.rx_pump.proofs.Leaving.{PumpHasStopped-turn}
use Rattle.rx_pump.proofs.pump.Pump.stop.Goals as goal

pub returns-clause-stopped : goal.returns-clause-stopped
returns-clause-stopped g c =
    let pump = pump_with c.self.inside.parts c.self.inside.tally.calls c.self.inside.tally.refused c.self.inside.misses_before c.self.inside.fault in
    let stop : PumpStop _ = record { fault = c.args.fault; parts = c.self.inside.parts; ended_drainers = c.self.inside.ended_drainers; ended_replies = c.self.inside.ended_replies } in
    subst (λ (p : PumpView _). PumpHasStopped p stop) c.self.view_is
    (PumpHasStopped-turn pump stop refl refl refl refl c.self.invariant.2 c.self.invariant.4
    (ap (λ (p : PumpView _). p.fault) c.self.view_is ∙ c.requires) c.self.invariant.0)
