-- It stands at the place that is looked at; once all were looked at it stands nowhere.
use Rattle.std.proofs.Common.{◌≡◌, ◌∙◌, sym, ap, subst, ℕ, ◌+◌, ◌-◌, ◌<◌, ◌≤◌, min, inl, inr, List, get_or, length, Some, slice_get, arith}
use Rattle.std.proofs.lemmas.Bool.{cases_lt}
use Rattle.std.proofs.lemmas.Option.{slice_get-get_or, slice_get_within}
use Rattle.rx_sink.specs.declared.kept.Kept.{Kept}
use Rattle.rx_sink.specs.Attachments.{is_for}
use Rattle.rx_sink.proofs.Looking.{IsLookedAt, looked_all, looked_next, looked_none, position-none}
use Rattle.rx_sink.proofs.kept_sinks.find.Goals as goal

pub loop-step-init : goal.loop-step-init
loop-step-init g c = λ i one at looked. absurd (looked_none c.min-first.result i looked)

-- the place of this step is one of the list
within : (first steps place many : ℕ) → (steps ≤ first → place + steps ≡ first) → (first < steps → place ≡ steps) → first < many → steps < many → place < many
within first steps place many down up first_within lt =
    elim (cases_lt first steps) [
      | inl past ↦ (let is = up past in omega (arith, is, lt))
      | inr before ↦ (let is = down before in omega (arith, is, first_within))
    ]

-- the sink that is read there stands there
read_at : {X : Type 0} (kept : List X) (near last first steps place : ℕ) (one : X) → first ≡ min near last → last ≡ length kept - 1 → (steps ≤ first → place + steps ≡ first) → (first < steps → place ≡ steps)
    → steps < length kept → one ≡ get_or kept place one → slice_get kept place ≡ Some one
read_at kept near last first steps place one first_is last_is down up lt read =
    slice_get-get_or kept place one (within first steps place (length kept) down up (omega (arith, first_is, last_is, lt)) lt) ∙ ap Some (sym read)

pub returns-then-is_kept_for-clause-found : goal.returns-then-is_kept_for-clause-found
returns-then-is_kept_for-clause-found g c = (
  c.index-kept-place.result,
  read_at c.args.kept.now c.args.near c.saturating_sub.result c.min-first.result c.loop-step.step c.place_at-place.result c.index-kept-place.result c.min-first.ensures c.saturating_sub.ensures
      c.place_at-place.ensures.down c.place_at-place.ensures.up c.loop-step-test.true c.index-kept-place.is,
  sym c.is_kept_for.ensures ∙ c.if-is_kept_for.true,
)

pub loop-step-preserved : goal.loop-step-preserved
loop-step-preserved g c = λ i one at looked.
    elim (looked_next c.min-first.result c.loop-step.step c.place_at-place.result i c.place_at-place.ensures.down c.place_at-place.ensures.up looked) [
      | inl here ↦
          (let read = read_at c.args.kept.now c.args.near c.saturating_sub.result c.min-first.result c.loop-step.step c.place_at-place.result c.index-kept-place.result c.min-first.ensures c.saturating_sub.ensures
          c.place_at-place.ensures.down c.place_at-place.ensures.up c.loop-step-test.true c.index-kept-place.is in
          let both : Some one ≡ Some c.index-kept-place.result = sym (subst (λ (n : ℕ). slice_get c.args.kept.now n ≡ Some one) here at) ∙ read in
          let same : one ≡ c.index-kept-place.result = cc in
          ap (λ (k : Kept _). is_for c.args.subject c.args.who k) same ∙ sym c.is_kept_for.ensures ∙ c.if-is_kept_for.false)
      | inr before ↦ c.loop-step.invariant i one at before
    ]

pub returns-clause-none : goal.returns-clause-none
returns-clause-none g c = λ none. position-none (is_for c.args.subject c.args.who) c.args.kept.now
    (λ i one at.
    (let lt = slice_get_within c.args.kept.now i one at in
    let steps : c.loop-step.step ≡ length c.args.kept.now = omega (arith, c.loop-step-test.false, c.loop-step.auto.step-end) in
    c.loop-step.invariant i one at (subst (λ (n : ℕ). IsLookedAt c.min-first.result n i) (sym steps)
    (looked_all c.min-first.result (length c.args.kept.now) i (omega (arith, c.min-first.ensures, c.saturating_sub.ensures, lt)) lt))))
