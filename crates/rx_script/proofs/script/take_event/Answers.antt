use Rattle.std.proofs.Common.{ap, subst, List, ◌∙◌}
use Rattle.rx_note.specs.declared.given.Given.{Given}
use Rattle.rx_hub.specs.Hubs.{HubView, Steps}
use Rattle.rx_script.proofs.Tellings.{told}
use Rattle.rx_lines.proofs.Written.{Puts-as}
use Rattle.rx_script.proofs.script.take_event.Goals as goal

pub returns-clause-took : goal.returns-clause-took
returns-clause-took g c subject stands =
    let t = told c.args.topic.now c.step-answered.new.self c.args.event c.args.version c.step-answered.result c.step-answered.new.outs.items subject
    (λ other H s. subst (λ (before : List Given). Steps c.args.topic.now.hub.state c.step-answered.new.self.state before c.step-answered.new.outs.items c.step-answered.result H (0, c.args.event))
    c.requires (c.step-answered.ensures.step other H s))
    (λ missed. (ap (λ (h : HubView). h.state) (c.step-answered.ensures.missed missed).0, (c.step-answered.ensures.missed missed).1 ∙ c.requires))
    c.step-answered.ensures.accepted c.step-answered.ensures.rules stands in (
      t.missed,
      t.accepted,
      Puts-as c.put_answer-put.result (g.W.Write.contents c.args.writer.now) (g.W.Write.contents c.put_answer-put.new.writer) c.args.outbox.now c.put_answer-put.new.outbox _ _ t.written c.put_answer-put.ensures,
      t.stands,
    )
