use Rattle.std.proofs.Common.{◌≡◌, IfOk, subst}
use Rattle.rx_note.specs.declared.rules.Rules.{Rules}
use Rattle.rx_history.specs.Histories.{History, signalled}
use Rattle.rx_subject.specs.Offers.{offer_signals}
use Rattle.rx_subject.specs.Subjects.{SubjectState, StandsFor}
use Rattle.rx_subject.proofs.subject.Subject.preview.Goals as goal

pub returns-clause-signalled : goal.returns-clause-signalled
returns-clause-signalled c =
    subst (λ (s : SubjectState). IfOk c.preview.result (λ offer. (rules : Rules) (H : History) → StandsFor s rules H → offer_signals offer ≡ signalled rules H c.args.port c.args.note.now))
    c.self.view_is (c.preview.ensures.signalled c.self.inside.tape.items)
