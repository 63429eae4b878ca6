use Rattle.std.proofs.Common.{◌∙◌, ap, get_or, List, arith}
use Rattle.rx_config.specs.declared.subject_config.SubjectConfig.{SubjectConfig}
use Rattle.rx_server.proofs.Joining.{larger, most-more, observers-few}
use Rattle.rx_server.proofs.wired.most_observers.Goals as goal

pub loop-subject-preserved : goal.loop-subject-preserved
loop-subject-preserved c =
    let before = c.loop-subject.invariant in
    let subjects = c.args.subjects.now.items in
    let place = c.loop-subject.subject-index in
    let subject = c.subject-item.result in
    let here = c.subject-item.is ∙ ap (λ (l : List SubjectConfig). get_or l place subject) c.deref-subject-items.ensures.value in
    let more = most-more subjects place subject (omega (arith, c.loop-subject-test.true)) in
    let same = ap (λ (s : SubjectConfig). s.rules.limits.observers) here in
    let few = observers-few subject.rules.limits subject.limits_in_range in
    let greater = c.max-most.ensures ∙ larger c.loop-subject.most subject.rules.limits.observers in
    record {
      most = omega (arith, before.most, more, same, greater);
      bound = omega (arith, before.bound, few, greater);
    }
