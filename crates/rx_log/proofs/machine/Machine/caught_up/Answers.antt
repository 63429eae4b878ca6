use Rattle.std.proofs.Common.{sym, subst}
use Rattle.rx_log.specs.Senders.{SenderState}
use Rattle.rx_log.specs.Machines.{MachineState, Serves, StandsFor}
use Rattle.rx_log.proofs.Serving.{serves-caught_up}
use Rattle.rx_log.proofs.machine.Machine.caught_up.Goals as goal

pub returns-clause-stands : goal.returns-clause-stands
returns-clause-stands c = λ calls handed L stands.
    let before = subst (λ (m : MachineState). StandsFor m calls handed L) (sym c.self.view_is) stands in
    record {
      reads = before.reads;
      serves = subst (λ (s : SenderState). Serves c.self.inside.rule.span s calls handed L) (sym c.caught_up.ensures)
          (serves-caught_up c.self.inside.rule.span c.self.inside.sender calls handed L before.serves c.self.inside.sender.stage);
    }
