use Rattle.std.proofs.Common.{max, ℕ, ◌+◌, sym, ap, subst, ◌∙◌}
use Rattle.rx_note.specs.declared.event.Event.TheVariants.{Emit}
use Rattle.rx_note.specs.declared.note.Note.TheVariants.{Next}
use Rattle.rx_history.specs.Histories.{◌▹◌}
use Rattle.rx_subject.specs.Subjects.{SubjectState, StandsFor}
use Rattle.rx_subject.specs.TapeSubjects.{TapeSubjectState, subject_on}
use Rattle.rx_subject.proofs.Standing.{not_ended, stands_item}
use Rattle.rx_subject.proofs.Taped.{passed_on}
use Rattle.rx_subject.proofs.tape_subject.TapeSubject.pass_item.Goals as goal

pub returns-clause-stands : goal.returns-clause-stands
returns-clause-stands c = λ items port item rules H room stands.
    let t = c.args.self.now in
    let s = subject_on items t in
    let unended = not_ended s rules H c.requires.open stands in
    let clock = ap (λ (u : TapeSubjectState). max u.clock c.args.at) (sym c.self.view_is) ∙ sym c.max-later.ensures in
    let same =
    passed_on t items (record { from = port; place = t.count; text = item.text }) c.args.at c.requires.publishes
    ∙ ap (λ (n : ℕ). subject_on items (record t { clock = n; count = t.count + 1 })) clock
    ∙ ap (subject_on items) (sym c.count_item.ensures) in
    subst (λ (u : SubjectState). StandsFor u rules (H ▹ (port, Emit (Next item) c.args.at))) same
    (stands_item s rules H port item c.args.at unended room stands)
