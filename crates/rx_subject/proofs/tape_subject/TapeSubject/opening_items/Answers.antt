use Rattle.std.proofs.Common.{◌≡◌, ◌-◌, length, ℕ, max, subst, ap, ◌∙◌, arith}
use Rattle.std.proofs.lemmas.Grind.{common_steps}
use Rattle.std.proofs.lemmas.Bool.Decides.{nat_tests}
use Rattle.rx_note.specs.declared.kind.Kind.{Kind}
use Rattle.rx_tape.specs.Tapes.{last_items}
use Rattle.rx_subject.specs.Subjects.{items_by}
use Rattle.rx_subject.specs.Windows.{count_kept}
use Rattle.rx_subject.specs.TapeSubjects.{TapeSubjectState, own_of, window_on, beyond, old_count}
use Rattle.rx_subject.proofs.Taped.{last_opens, young_opens, all_open}
use Rattle.rx_subject.proofs.tape_subject.TapeSubject.opening_items.Goals as goal

pub returns-in-Behavior-None-2-clause-items : goal.returns-in-Behavior-None-2-clause-items
returns-in-Behavior-None-2-clause-items c = λ items within.
    let s = c.self.inside in
    let count = ap (λ (t : TapeSubjectState). length t.stamps) c.self.view_is in
    let few = subst (λ (k : Kind). beyond (count_kept k) (length s.stamps.items) ≡ 0) c.in-Behavior-None-2.is-0 c.self.invariant in
    let one : length s.stamps.items ≡ 1 = grind (arith, nat_tests, few, c.len-kept.ensures, c.if-kept-eq0.false) in
    subst (λ (t : TapeSubjectState). last_items items 1 ≡ items_by t.kind t.terminal (window_on t.kind items t.own t.stamps) (max t.clock c.args.at)) c.self.view_is
    (last_opens s.kind s.terminal c.in-Behavior-None-2.field-0-0 items (own_of s.own) s.stamps.items (max s.stamp c.args.at) c.in-Behavior-None-2.is-0 c.in-Behavior-None-2.is-1 (omega (arith, within, count)) one)

pub returns-in-Replay-None-clause-items : goal.returns-in-Replay-None-clause-items
returns-in-Replay-None-clause-items c = λ items within.
    let s = c.self.inside in
    let n = c.len-kept.result in
    let old = c.count_old_stamps-old.result in
    let count = ap (λ (t : TapeSubjectState). length t.stamps) c.self.view_is in
    let old_is = c.count_old_stamps-old.ensures.count ∙ ap (λ (now : ℕ). old_count c.in-Replay-None.age now s.stamps.items) c.max.ensures in
    subst (λ (t : TapeSubjectState). last_items items (n - old) ≡ items_by t.kind t.terminal (window_on t.kind items t.own t.stamps) (max t.clock c.args.at)) c.self.view_is
    (young_opens s.kind s.terminal c.in-Replay-None.count-0 c.in-Replay-None.age items (own_of s.own) s.stamps.items (max s.stamp c.args.at) n old c.in-Replay-None.is-0 c.in-Replay-None.is-1 (omega (arith, within, count)) (omega (arith, c.len-kept.ensures)) old_is)

pub returns-in-Replay-Some-clause-items : goal.returns-in-Replay-Some-clause-items
returns-in-Replay-Some-clause-items c = λ items within.
    let s = c.self.inside in
    let n = c.len-kept.result in
    let count = ap (λ (t : TapeSubjectState). length t.stamps) c.self.view_is in
    subst (λ (t : TapeSubjectState). last_items items n ≡ items_by t.kind t.terminal (window_on t.kind items t.own t.stamps) (max t.clock c.args.at)) c.self.view_is
    (all_open s.kind s.terminal c.in-Replay-Some.field-0-1 c.in-Replay-Some.count-0 c.in-Replay-Some.age-0 items (own_of s.own) s.stamps.items (max s.stamp c.args.at) n c.in-Replay-Some.is-0 c.in-Replay-Some.is-1 (omega (arith, within, count)) (omega (arith, c.len-kept.ensures)))

-- else a joiner is offered nothing
pub returns-in_default-clause-items : goal.returns-in_default-clause-items
returns-in_default-clause-items c = grind (arith, common_steps)
