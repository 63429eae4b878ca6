use Rattle.std.proofs.Common.{◌<◌, ◌≤◌, ◌∙◌, ap, length, get_or, List, subst, take, arith}
use Rattle.std.proofs.lemmas.List.{length-take-le, take_all}
use Rattle.std.proofs.lemmas.Result.{err_from_is_err_and}
use Rattle.rx_config.specs.declared.subject_config.SubjectConfig.{SubjectConfig}
use Rattle.rx_server.specs.declared.wired.start_fault.Role.TheVariants.{Pump}
use Rattle.rx_server.specs.Wirings.{AreHubsOf}
use Rattle.rx_server.proofs.Opening.{Hubs-none, Hubs-more}
use Rattle.rx_server.proofs.Joining.{hubs-count}
use Rattle.rx_server.proofs.StartFaults.{below}
use Rattle.rx_server.proofs.wired.makers.make_hubs.Goals as goal

pub loop-subject-init : goal.loop-subject-init
loop-subject-init c = Hubs-none _ c.in-Ok.ensures.items

pub loop-subject-preserved : goal.loop-subject-preserved
loop-subject-preserved c =
    Hubs-more c.args.subjects.now.items c.loop-subject.subject-index c.subject-item.result _ _ _ (omega (arith, c.loop-subject-test.true))
    (c.subject-item.is ∙ ap (λ (l : List SubjectConfig). get_or l c.loop-subject.subject-index c.subject-item.result) c.deref-subject-items.ensures.value)
    c.loop-subject.invariant c.in_ok-put_hub.ensures.hub.1 c.in_ok-put_hub.ensures.hub.2 c.in_ok-put_hub.ensures.hub.3 c.in_ok-put_hub.ensures.hub.4

pub returns-clause-hubs : goal.returns-clause-hubs
returns-clause-hubs c =
    let all : length c.args.subjects.now.items ≤ c.loop-subject.subject-index = omega arith in
    subst (λ (l : List SubjectConfig). AreHubsOf l c.loop-subject.hubs.items) (take_all c.loop-subject.subject-index c.args.subjects.now.items all) c.loop-subject.invariant

-- the one of this number had no memory
pub returns-in_err-put_hub-clause-fault : goal.returns-in_err-put_hub-clause-fault
returns-in_err-put_hub-clause-fault c =
    let p = err_from_is_err_and c.from_residual.result c.from_residual.ensures.1 in
    let subjects = c.args.subjects.now.items in
    let within : c.loop-subject.subject-index < length subjects = omega (arith, c.loop-subject-test.true) in
    let most = length-take-le c.loop-subject.subject-index subjects (omega (arith, within)) in
    let count = hubs-count (take c.loop-subject.subject-index subjects) c.loop-subject.hubs.items c.loop-subject.invariant in
    rw (p.1, p.2) (below Pump _ (length subjects) c.in_err-put_hub.field-0.0 (omega (arith, within, most, count, c.loop-subject.hubs.ok)) c.in_err-put_hub.ensures.fault)
