use Rattle.std.proofs.Common.{ap, ◌∙◌}
use Rattle.rx_subject.specs.TapeSubjects.{subject_on, pushed_all}
use Rattle.rx_subject.proofs.Standing.{not_ended, stands_placed}
use Rattle.rx_subject.proofs.Taped.{taped-alone}
use Rattle.rx_subject.proofs.tape_subject.TapeSubject.admit_on.Goals as goal

pub returns-clause-stands : goal.returns-clause-stands
returns-clause-stands c = λ from place rules H room stands.
    let s = subject_on c.args.tape.now.items c.args.self.now in
    let unended = not_ended s rules H c.requires.open stands in
    rw (c.in_ok-keep_item.ensures.state) (stands_placed s rules H c.args.item from place c.args.at unended room c.requires.next stands)

pub returns-clause-tape : goal.returns-clause-tape
returns-clause-tape c =
    c.in_ok-keep_item.ensures.tape ∙ ap (pushed_all c.args.tape.now) (taped-alone c.args.self.now.kind c.args.item c.requires.offered)
