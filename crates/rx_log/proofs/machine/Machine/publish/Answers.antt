use Rattle.std.proofs.Common.{◌++◌, ◌∷◌, [], sym, subst}
use Rattle.rx_log.specs.Senders.{SenderState}
use Rattle.rx_log.specs.Machines.{MachineState, Serves, StandsFor}
use Rattle.rx_log.proofs.Options.{on-ok, on-ok_of_err}
use Rattle.rx_log.proofs.Serving.{serves-call}
use Rattle.rx_log.proofs.machine.Machine.publish.Goals as goal
use Rattle.rx_log.proofs.machine.Machine.publish.Goals.{in-Ok, in-Err}

pub returns-clause-stands : goal.returns-clause-stands
returns-clause-stands c =
    elim c.match-call-2.branch [
      | in-Ok w ↦ on-ok c.match-call-2.result _ (λ calls handed L stands.
          let before = subst (λ (m : MachineState). StandsFor m calls handed L) (sym c.self.view_is) stands in
          record {
            reads = before.reads;
            serves = subst (λ (s : SenderState). Serves c.self.inside.rule.span s (calls ++ c.args.call ∷ []) handed L) (sym w.in-Ok.ensures.ok)
                (serves-call c.self.inside.rule.span c.self.inside.sender calls handed L c.args.call before.serves);
          })
      | in-Err w ↦ on-ok_of_err c.match-call-2.result _ _ w.result-is
    ]
