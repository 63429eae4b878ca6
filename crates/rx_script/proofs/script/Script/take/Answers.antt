use Rattle.std.proofs.Common.{refl, sym, subst, ◌∙◌}
use Rattle.std.proofs.lemmas.List.{get_or_default}
use Rattle.rx_script.specs.declared.topic.Topic.{Topic}
use Rattle.rx_script.specs.Scripts.{StandsForSubject}
use Rattle.rx_lines.proofs.Written.{Puts-fault}
use Rattle.rx_script.proofs.script.Script.take.Goals as goal

pub returns-in_err-take_event-clause-took : goal.returns-in_err-take_event-clause-took
returns-in_err-take_event-clause-took g c d subject stands =
    let topics = c.args.self.now.topics.items in
    let at = c.index_mut.ensures.value ∙ get_or_default topics c.args.place c.index_mut.result.now d c.requires in
    let t = c.in_err-take_event.ensures.took subject (subst (λ (topic : Topic). StandsForSubject topic subject) (sym at) stands) in
    (t.0, t.1, Puts-fault _ _ _ _ _ _ c.from_residual.ensures.0 t.2, c.take_event.new.topic, refl, t.3)

pub returns-clause-took : goal.returns-clause-took
returns-clause-took g c d subject stands =
    let topics = c.args.self.now.topics.items in
    let at = c.index_mut.ensures.value ∙ get_or_default topics c.args.place c.index_mut.result.now d c.requires in
    let t = c.in_ok-take_event.ensures.took subject (subst (λ (topic : Topic). StandsForSubject topic subject) (sym at) stands) in
    (t.0, t.1, t.2, c.take_event.new.topic, refl, t.3)
