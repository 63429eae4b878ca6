-- A new subject stands for the history with no event.
use Rattle.std.proofs.Common.{ap, ◌∙◌}
use Rattle.rx_subject.specs.TapeSubjects.{TapeSubjectState}
use Rattle.rx_hub.proofs.Being.{at_first}
use Rattle.rx_hub.proofs.multicast.Multicast.new.Goals as goal

pub invariant_of-result-clause-stands : goal.invariant_of-result-clause-stands
invariant_of-result-clause-stands c =
    let kind = ap (λ (s : TapeSubjectState). s.kind) c.in_ok-subject.ensures.state in
    at_first c.args.limits c.in_ok-subject.subject c.in_ok-audience.audience c.in_ok-audience.ensures (λ items rules is. c.in_ok-subject.ensures.stands items rules (is ∙ kind))
