use Rattle.rx_subject.proofs.Standing.{stands_join}
use Rattle.rx_subject.specs.TapeSubjects.{subject_on}
use Rattle.rx_subject.proofs.tape_subject.TapeSubject.joined.Goals as goal

pub returns-clause-stands : goal.returns-clause-stands
returns-clause-stands c = λ items rules H port policy first within joins stands.
    rw (c.pass_to.ensures.state items within) (stands_join (subject_on items c.args.self.now) rules H port policy first c.args.at joins stands)
