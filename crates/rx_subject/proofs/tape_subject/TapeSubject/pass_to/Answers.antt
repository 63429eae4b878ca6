use Rattle.std.proofs.Common.{◌≡◌, length, drop, Option, ℕ, subst, ap, ◌∙◌, arith, rules}
use Rattle.rx_subject.specs.Subjects.{after_join}
use Rattle.rx_subject.specs.TapeSubjects.{TapeSubjectState, own_of, subject_on, old_count}
use Rattle.rx_subject.proofs.Taped.{joined_on}
use Rattle.rx_subject.proofs.tape_subject.TapeSubject.pass_to.Goals as goal

pub returns-then-is_none-clause-state : goal.returns-then-is_none-clause-state
returns-then-is_none-clause-state c = λ items within.
    let s = c.self.inside in
    let v : TapeSubjectState = record { kind = s.kind; terminal = s.terminal; clock = s.stamp; count = s.count; own = own_of s.own; stamps = s.stamps.items } in
    let count = ap (λ (t : TapeSubjectState). length t.stamps) c.self.view_is in
    let clock = c.max-self-inside.result in
    let stamps = c.drop_old_stamps.ensures ∙ ap (λ (a : Option ℕ). drop (old_count a clock s.stamps.items) s.stamps.items) c.age_kept.ensures in
    subst (λ (t : TapeSubjectState). subject_on items (record v { clock = clock; stamps = c.drop_old_stamps.new.stamps.items }) ≡ after_join (subject_on items t) c.args.at) c.self.view_is
    (joined_on v items c.args.at clock c.drop_old_stamps.new.stamps.items (omega (arith, within, count)) c.if-is_none.ensures c.max-self-inside.ensures stamps)

-- once it ended its items stay
pub returns-else-is_none-clause-state : goal.returns-else-is_none-clause-state
returns-else-is_none-clause-state c = search rules
