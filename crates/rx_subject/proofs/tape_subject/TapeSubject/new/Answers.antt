use Rattle.std.proofs.Common.{ℕ, List, sym, subst}
use Rattle.rx_history.specs.Histories.{NoEvents}
use Rattle.rx_subject.specs.Subjects.{StandsFor}
use Rattle.rx_subject.specs.TapeSubjects.{tape_subject_at_first, subject_on}
use Rattle.rx_subject.proofs.Taped.{stands_at_first}
use Rattle.rx_subject.proofs.tape_subject.TapeSubject.new.Goals as goal

pub returns-clause-stands : goal.returns-clause-stands
returns-clause-stands c = λ items rules is.
    subst (λ (ss : List ℕ). StandsFor (subject_on items (record (tape_subject_at_first c.args.kind) { stamps = ss })) rules NoEvents) (sym c.new-stamps.ensures.items)
    (stands_at_first c.args.kind items rules is)
