use Rattle.std.proofs.Common.{◌≡◌, length, drop, Option, Some, ℕ, subst, ap, ◌∙◌, arith}
use Rattle.rx_subject.specs.Subjects.{after_end}
use Rattle.rx_subject.specs.TapeSubjects.{TapeSubjectState, own_of, subject_on, old_count}
use Rattle.rx_subject.proofs.Taped.{ended_on}
use Rattle.rx_subject.proofs.tape_subject.TapeSubject.keep_end.Goals as goal

pub returns-clause-state : goal.returns-clause-state
returns-clause-state c = λ items within.
    let s = c.self.inside in
    let v : TapeSubjectState = record { kind = s.kind; terminal = s.terminal; clock = s.stamp; count = s.count; own = own_of s.own; stamps = s.stamps.items } in
    let count = ap (λ (t : TapeSubjectState). length t.stamps) c.self.view_is in
    let clock = c.max-self-inside.result in
    let stamps = c.drop_old_stamps.ensures ∙ ap (λ (a : Option ℕ). drop (old_count a clock s.stamps.items) s.stamps.items) c.age_kept.ensures in
    subst (λ (t : TapeSubjectState). subject_on items (record v { terminal = Some c.args.terminal; clock = clock; stamps = c.drop_old_stamps.new.stamps.items }) ≡ after_end (subject_on items t) c.args.terminal c.args.at) c.self.view_is
    (ended_on v items c.args.terminal c.args.at clock c.drop_old_stamps.new.stamps.items (omega (arith, within, count)) c.max-self-inside.ensures stamps)
