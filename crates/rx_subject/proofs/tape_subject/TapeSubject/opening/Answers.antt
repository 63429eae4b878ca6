use Rattle.std.proofs.Common.{ap, ◌∙◌}
use Rattle.rx_subject.specs.TapeSubjects.{TapeSubjectState, subject_on}
use Rattle.rx_subject.proofs.Standing.{items-opening}
use Rattle.rx_subject.proofs.tape_subject.TapeSubject.opening.Goals as goal

pub returns-clause-opens : goal.returns-clause-opens
returns-clause-opens c = λ rules H stands. record {
  items_are = c.in_ok-lead.ensures.items c.args.tape.now.items c.requires ∙ items-opening (subject_on c.args.tape.now.items c.args.self.now) rules H c.args.at stands;
  end_is = c.in_ok-end.ensures ∙ ap (λ (t : TapeSubjectState). t.terminal) c.self.view_is ∙ stands.end_is;
}
