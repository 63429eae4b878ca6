use Rattle.std.proofs.Common.{◌++◌, [], map, take, ap}
use Rattle.rx_note.specs.declared.kind.Kind.{Kind}
use Rattle.rx_note.specs.declared.note.Note.TheVariants.{Next}
use Rattle.rx_note.specs.Signals.{Offered}
use Rattle.rx_history.specs.Histories.{unstamped, offers_by}
use Rattle.rx_subject.specs.Subjects.{SubjectState}
use Rattle.rx_subject.specs.TapeSubjects.{subject_on}
use Rattle.rx_subject.proofs.Standing.{not_ended, stands_placed}
use Rattle.rx_subject.proofs.tape_subject.TapeSubject.keep_back.Goals as goal

pub returns-clause-stands : goal.returns-clause-stands
returns-clause-stands c = λ items from place rules H room stands.
    let s = subject_on items c.args.self.now in
    let unended = not_ended s rules H c.requires.open stands in
    rw (c.keep_own.ensures.state items) (stands_placed s rules H c.args.item from place c.args.at unended room c.requires.next stands)

pub returns-clause-offers : goal.returns-clause-offers
returns-clause-offers c = λ items from place.
    let kept = unstamped (take 1 (subject_on items c.args.self.now).window) in
    ap (λ (kind : Kind). map Offered (offers_by kind kept c.args.item.from c.args.self.now.count (Next (record { from = from; place = place; text = c.args.item.text }))) ++ []) c.requires.keeps_back

pub returns-clause-count : goal.returns-clause-count
returns-clause-count c = ap (λ (s : SubjectState). s.count) (c.keep_own.ensures.state [])
