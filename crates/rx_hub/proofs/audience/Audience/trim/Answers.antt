use Rattle.std.proofs.Common.{◌≤◌, ℕ, max, length, false, sym, ap, subst, ◌∙◌, arith}
use Rattle.std.proofs.lemmas.Grind.{common_steps}
use Rattle.rx_tape.specs.Tapes.{TapeState, trimmed}
use Rattle.rx_hub.specs.Audiences.{AudienceState, AllOn, Owned, most_waiting, places_of, observers_on}
use Rattle.rx_hub.proofs.Places.{trimmed_all, trimmed_observers}
use Rattle.rx_hub.proofs.Tight.{trimmed_tight}
use Rattle.rx_hub.proofs.audience.Audience.trim.Goals as goal

pub invariant_of-self : goal.invariant_of-self
invariant_of-self c =
    let a = c.self.inside in
    let places = places_of a.subscriptions.items in (
      subst (λ (tape : TapeState). AllOn tape false places) (sym c.trim.ensures) (trimmed_all a.tape c.args.keep places c.self.invariant.0),
      c.self.invariant.1,
      subst (λ (tape : TapeState). Owned tape places) (sym c.trim.ensures) c.self.invariant.2,
      c.self.invariant.3,
    )

pub returns-clause-observers : goal.returns-clause-observers
returns-clause-observers c =
    let a = c.self.inside in
    let places = places_of a.subscriptions.items in
    ap (λ (tape : TapeState). observers_on tape.items places) c.trim.ensures
    ∙ trimmed_observers a.tape c.args.keep places c.self.invariant.0
    ∙ ap (λ (v : AudienceState). v.observers) c.self.view_is

pub returns-clause-tight : goal.returns-clause-tight
returns-clause-tight c =
    let a = c.self.inside in
    let places = places_of a.subscriptions.items in
    let same = trimmed_observers a.tape c.args.keep places c.self.invariant.0 in
    subst (λ (tape : TapeState). length tape.items ≤ max c.args.keep (most_waiting (observers_on tape.items places))) (sym c.trim.ensures)
    (subst (λ (n : ℕ). length (trimmed a.tape c.args.keep).items ≤ max c.args.keep n) (ap most_waiting (sym same))
    (trimmed_tight a.tape c.args.keep places c.self.invariant.0 c.self.invariant.2))

pub returns-clause-kept : goal.returns-clause-kept
returns-clause-kept c = grind (arith, common_steps)
