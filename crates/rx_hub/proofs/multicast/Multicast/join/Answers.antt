use Rattle.std.proofs.Common.{◌≡◌, ℕ, ◌+◌, Ok, ◌∷◌, [], List, nat_lt, length, true, false, sym, subst, ◌∙◌, refl, ap, arith}
use Rattle.std.proofs.lemmas.List.{length-append}
use Rattle.std.proofs.lemmas.Bool.Decides.{nat_tests}
use Rattle.rx_note.specs.declared.item.Item.{Item}
use Rattle.rx_note.specs.declared.kind.Kind.{Kind}
use Rattle.rx_note.specs.declared.rules.Rules.{Rules}
use Rattle.rx_note.specs.declared.event.Event.TheVariants.{Join}
use Rattle.rx_history.specs.Histories.{◌▹◌}
use Rattle.rx_subject.specs.Subjects.{SubjectState}
use Rattle.rx_subject.specs.Subjects as subjects
use Rattle.rx_subject.specs.TapeSubjects.{subject_on}
use Rattle.rx_subject.proofs.Taped.{subject_kept}
use Rattle.rx_hub.specs.Subscriptions.{Observer}
use Rattle.rx_hub.specs.Hubs.{Takes}
use Rattle.rx_hub.specs.Multicasts.{state_of}
use Rattle.rx_hub.specs.States.{state_by}
use Rattle.rx_note.specs.declared.answer.Answer.TheVariants.{Joined}
use Rattle.rx_hub.proofs.Quiet.{join_full, join_spent}
use Rattle.rx_hub.proofs.Joining.{join_done}
use Rattle.rx_hub.proofs.Being.{of_history, same_history}
use Rattle.rx_hub.proofs.multicast.Multicast.join.Goals.{After-trim}
use Rattle.rx_hub.proofs.multicast.Multicast.join.Goals as goal

pub returns-then-len-self : goal.returns-then-len-self
returns-then-len-self c port = record {
  rules = refl;
  took = λ H stands.
      let full : nat_lt (length c.args.self.now.audience.observers) c.args.self.now.limits.observers ≡ false = grind (arith, nat_tests) in
      join_full (state_of c.args.self.now) c.args.outs.now.items H port c.args.policy c.args.first c.args.at full stands;
}

pub returns-then-self : goal.returns-then-self
returns-then-self c port = record {
  rules = refl;
  took = λ H stands.
      let free : nat_lt (length c.args.self.now.audience.observers) c.args.self.now.limits.observers ≡ true = grind (arith, nat_tests) in
      let spent : nat_lt c.args.self.now.joins c.args.self.now.limits.joins ≡ false = grind (arith, nat_tests) in
      join_spent (state_of c.args.self.now) c.args.outs.now.items H port c.args.policy c.args.first c.args.at free spent stands;
}

-- the Join was taken
taken : (c : After-trim) (port : ℕ) → Takes (state_of c.args.self.now) (state_by c.args.self.now.limits c.joined.new.self (c.args.self.now.joins + 1) c.trim.new.self)
    c.args.outs.now.items c.open.new.outs.items (Ok (Joined c.args.self.now.joins)) (port, Join c.args.policy c.args.first c.args.at)
taken c port =
    let old = c.args.self.now in
    let subject = c.joined.new.self in
    let now = subject_on c.trim.new.self.items subject in
    let free : nat_lt (length old.audience.observers) old.limits.observers ≡ true = grind (arith, nat_tests) in
    let left : nat_lt old.joins old.limits.joins ≡ true = grind (arith, nat_tests) in
    let joins = c.in-Ok.ensures.joins in
    let items = ap length c.in-Ok.ensures.items in
    let kept = c.trim.ensures.kept (length subject.stamps) (omega (arith, c.keep.ensures)) (omega (arith, c.joined.ensures.within, old.within, items)) in
    let same : now ≡ subject_on old.audience.items subject =
    subject_kept subject c.open.new.self.items c.trim.new.self.items kept.1 ∙ ap (λ (xs : List Item). subject_on xs subject) c.in-Ok.ensures.items in
    let ruled : Kind → Rules = λ kind. record { kind = kind; limits = old.limits } in
    join_done (state_of old) now (ruled subject.kind) c.trim.new.self.observers joins.lane joins.signals joins.begins.0 c.args.outs.now.items c.args.outs.now.items c.open.new.outs.items
    port c.args.policy c.args.first c.args.at free left (ap ruled c.joined.ensures.kind)
    (λ rules H may stands.
    subst (λ (s : SubjectState). subjects.StandsFor s rules (H ▹ (port, Join c.args.policy c.args.first c.args.at))) (sym same)
    (c.joined.ensures.stands old.audience.items rules H port c.args.policy c.args.first old.within may stands))
    joins.opens joins.begins.2 (c.trim.ensures.observers ∙ joins.news_are) refl joins.begins.1

pub invariant_of-self-2 : goal.invariant_of-self-2
invariant_of-self-2 c =
    let old = c.args.self.now in
    let joins = c.in-Ok.ensures.joins in
    let one : Observer = record { who = old.joins; lane = joins.lane } in
    let more = ap length (c.trim.ensures.observers ∙ joins.news_are) ∙ length-append old.audience.observers (one ∷ []) in
    let items = ap length c.in-Ok.ensures.items in
    let kept = c.trim.ensures.kept (length c.joined.new.self.stamps) (omega (arith, c.keep.ensures)) (omega (arith, c.joined.ensures.within, old.within, items)) in
    record {
      fits = (omega (arith, more, c.len.ensures, c.if-len-self.false), old.fits.1);
      within = kept.0;
      stands = of_history (state_of old) _ _ _ _ _ (taken c 0) old.stands;
      tight = omega (arith, c.trim.ensures.tight, c.keep.ensures);
    }

pub returns : goal.returns
returns c port = taken c.before port

pub invariant_of-self-in_default-clause-stands : goal.invariant_of-self-in_default-clause-stands
invariant_of-self-in_default-clause-stands c =
    let old = c.args.self.now in
    same_history old.limits old.joins refl c.in_default.ensures.err.0 old.stands

pub invariant_of-self-in_default-clause-tight : goal.invariant_of-self-in_default-clause-tight
invariant_of-self-in_default-clause-tight c = rw c.in_default.ensures.err.0 c.args.self.now.tight
