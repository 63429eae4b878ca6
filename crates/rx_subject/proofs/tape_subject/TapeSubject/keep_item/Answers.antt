use Rattle.std.proofs.Common.{◌≡◌, ◌≢◌, ◌+◌, ◌∷◌, [], ◌++◌, List, length, drop, Option, ℕ, subst, ap, ◌∙◌, arith}
use Rattle.rx_note.specs.declared.kind.Kind.TheVariants.{Async}
use Rattle.rx_tape.specs.Tapes.{TapeState}
use Rattle.rx_subject.specs.Subjects.{after_item}
use Rattle.rx_subject.specs.TapeSubjects.{TapeSubjectState, own_of, subject_on, old_count, beyond}
use Rattle.rx_subject.proofs.Taped.{item_on}
use Rattle.rx_subject.proofs.tape_subject.TapeSubject.keep_item.Goals as goal

pub returns-clause-state : goal.returns-clause-state
returns-clause-state c =
    let s = c.self.inside in
    let items = c.args.tape.now.items in
    let item = c.args.item in
    let v : TapeSubjectState = record { kind = s.kind; terminal = s.terminal; clock = s.stamp; count = s.count; own = own_of s.own; stamps = s.stamps.items } in
    let count = ap (λ (t : TapeSubjectState). length t.stamps) c.self.view_is in
    let clock = c.max-stamp.result in
    let all = c.keep_stamp.new.stamps.items in
    let left = c.drop_old_stamps.new.stamps.items in
    let all_is =
    c.keep_stamp.ensures
    ∙ ap (λ (ss : List ℕ). drop (beyond c.count_kept-count.result (length (ss ++ clock ∷ []))) (ss ++ clock ∷ [])) c.in_ok-reserve_stamp.ensures.items
    ∙ ap (λ (n : Option ℕ). drop (beyond n (length (s.stamps.items ++ clock ∷ []))) (s.stamps.items ++ clock ∷ [])) c.count_kept-count.ensures in
    let left_is = c.drop_old_stamps.ensures ∙ ap (λ (a : Option ℕ). drop (old_count a clock all) all) c.age_kept.ensures in
    let other : s.kind ≢ Async = λ is. let e = c.if-is_async.ensures.1 is in cc in
    let w : TapeSubjectState = record v { clock = clock; count = s.count + 1; stamps = left } in
    ap (λ (tape : TapeState). subject_on tape.items c.count_item.new.self) c.in_ok-push.ensures.ok
    ∙ ap (subject_on (items ++ item ∷ [])) c.count_item.ensures
    ∙ subst (λ (t : TapeSubjectState). subject_on (items ++ item ∷ []) w ≡ after_item (subject_on items t) item c.args.at) c.self.view_is
    (item_on v items item c.args.at clock all left other (omega (arith, c.requires.stamps, count)) c.self.invariant c.max-stamp.ensures all_is left_is)
