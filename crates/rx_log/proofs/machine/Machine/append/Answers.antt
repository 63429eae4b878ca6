use Rattle.std.proofs.Common.{◌++◌, ◌∙◌, option_to_list, sym, subst}
use Rattle.rx_log.specs.Senders.{SenderState}
use Rattle.rx_log.specs.Machines.{MachineState, Serves, StandsFor, Tells}
use Rattle.rx_log.proofs.Options.{if-ok}
use Rattle.rx_log.proofs.Serving.{serves-handed, due-tells}
use Rattle.rx_log.proofs.machine.Machine.append.Goals as goal

pub returns-clause-stands : goal.returns-clause-stands
returns-clause-stands c = if-ok c.append.result _ _ (λ entry so calls handed L stands.
    let before = subst (λ (m : MachineState). StandsFor m calls handed L) (sym c.self.view_is) stands in
    record {
      reads = before.reads;
      serves = subst (λ (s : SenderState). Serves c.self.inside.rule.span s calls (option_to_list entry ++ handed) L) (sym so.1)
          (serves-handed c.self.inside.rule.span c.self.inside.sender calls handed L c.at-at.result c.total-total.result entry so.0 before.serves);
    }) c.append.ensures.ok

pub returns-clause-tells : goal.returns-clause-tells
returns-clause-tells c = if-ok c.append.result _ _ (λ entry so calls handed L stands.
    let before = subst (λ (m : MachineState). StandsFor m calls handed L) (sym c.self.view_is) stands in
    subst (λ (m : MachineState). Tells m.rule.span L entry) c.self.view_is
    (due-tells c.self.inside.rule.span L c.self.inside.sender c.at-at.result c.total-total.result entry so.0
    (c.at-at.ensures ∙ before.reads.at_is) (c.total-total.ensures ∙ before.reads.total_is))) c.append.ensures.ok
