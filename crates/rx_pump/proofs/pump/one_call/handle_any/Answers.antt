use Rattle.std.proofs.Common.{◌∙◌, subst, sym, List}
use Rattle.rx_hub.specs.Hubs.{HubView, Steps}
use Rattle.rx_note.specs.declared.given.Given.{Given}
use Rattle.rx_pump.specs.Turns.{ports_of, HandlesCall}
use Rattle.rx_pump.proofs.Calls.{handled_with}
use Rattle.rx_pump.proofs.pump.one_call.handle_any.Goals as goal

pub returns-clause-handles : goal.returns-clause-handles
returns-clause-handles g c =
    let hub = c.args.parts.now.hub in
    let before = ports_of c.args.parts.now in
    let then = ports_of c.send-fault.new.parts in
    let step = c.step-result in
    let none = c.clear.ensures.items in
    subst (λ (after : HubView). HandlesCall hub after before then c.is_memory.result c.send-fault.result c.args.port c.args.call) (sym c.send-fault.ensures.hub)
    (handled_with hub step.new.self before then step.result step.new.outs.items c.part-first.result.0 c.detach-last.result c.part-first.result.1 c.leaver-leaving.result
    c.items.result c.is_memory.result c.send-fault.result c.args.port c.args.call
    c.is_memory.ensures c.part-first.ensures.attached c.part-first.ensures.back c.leaver-leaving.ensures c.detach-last.ensures
    (record {
      step = λ other H stands. subst (λ (old : List Given). Steps hub.state step.new.self.state old step.new.outs.items step.result H (c.args.port, c.args.call.event)) none (step.ensures.step other H stands);
      kept = step.ensures.kept;
      missed = λ memory. ((step.ensures.missed memory).0, (step.ensures.missed memory).1 ∙ none);
      accepted = step.ensures.accepted;
      rules = step.ensures.rules;
    })
    c.items.ensures.count c.send-fault.ensures.sends)
