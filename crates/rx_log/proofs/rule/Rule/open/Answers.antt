use Rattle.std.proofs.Common.{◌≡◌, ◌≢◌, ◌+◌, ◌≤◌, ℕ, true, List, sym, ap, subst, ◌∙◌, arith}
use Rattle.std.specs.Prelude.{nat_le}
use Rattle.std.specs.List.{All, Contains}
use Rattle.std.proofs.lemmas.Bool.{leb-true, leb-false}
use Rattle.std.proofs.lemmas.List.Elements.{All-contains}
use Rattle.rx_log.specs.declared.term.Term.{Term}
use Rattle.rx_log.specs.Logs.{Log, entries, is_open}
use Rattle.rx_log.specs.Rules.{RuleState, Knows}
use Rattle.rx_log.proofs.Options.{if-none, if-some}
use Rattle.rx_log.proofs.Within.{far-shut}
use Rattle.rx_log.proofs.Tenures.{shut-at-0, open-found, open-missed}
use Rattle.rx_log.proofs.Following.{has-of}
use Rattle.rx_log.proofs.rule.Rule.open.Goals as goal
use Rattle.rx_log.proofs.rule.Rule.open.Goals.{then-tenure-eq0-via-then-tenure-eq0, then-tenure-eq0-via-else-tenure-eq0+then-not-is_near}

pub returns-then-tenure-eq0-clause-none : goal.returns-then-tenure-eq0-clause-none
returns-then-tenure-eq0-clause-none c = λ L stands.
    let rule = c.args.self.now in
    elim c.then-tenure-eq0.branch [
      | then-tenure-eq0-via-then-tenure-eq0 w ↦ ap (is_open rule.span L) w.if-tenure-eq0.true ∙ shut-at-0 rule.span L
      | then-tenure-eq0-via-else-tenure-eq0+then-not-is_near w ↦ far-shut rule.span c.args.tenure L
          (let far = leb-false (rule.at + 1) (c.args.tenure + rule.span) (sym w.is_near.ensures ∙ w.if-not-is_near.true) in omega (arith, far, stands.at_is))
    ]

near : (at tenure span : ℕ) (L : Log) → at ≡ entries L → nat_le (at + 1) (tenure + span) ≡ true → entries L + 1 ≤ tenure + span
near at tenure span L is so = let le = leb-true (at + 1) (tenure + span) so in omega (arith, le, is)

pub returns-clause-none : goal.returns-clause-none
returns-clause-none c =
    let rule = c.args.self.now in
    let terms_are : c.self.inside.terms.items ≡ rule.terms = ap (λ (r : RuleState). r.terms) c.self.view_is in
    if-none c.term_at.result _ _ (λ none L stands.
    open-missed rule.span c.args.tenure L rule.terms (has-of rule L stands) (subst (All (λ (term : Term). term.current ≢ c.args.tenure)) terms_are none)
    (omega (arith, c.if-tenure-eq0.false)) (near rule.at c.args.tenure rule.span L stands.at_is (sym c.is_near.ensures ∙ c.if-not-is_near.false))) c.term_at.ensures.none

pub returns-clause-some : goal.returns-clause-some
returns-clause-some c =
    let rule = c.args.self.now in
    let terms_are : c.self.inside.terms.items ≡ rule.terms = ap (λ (r : RuleState). r.terms) c.self.view_is in
    if-some c.term_at.result _ _ (λ term found L stands.
    open-found rule.span c.args.tenure L term
    (All-contains (Knows rule.span L) rule.terms term stands.knows (subst (λ (terms : List Term). Contains terms term) terms_are found.0)) found.1
    (omega (arith, c.if-tenure-eq0.false)) (near rule.at c.args.tenure rule.span L stands.at_is (sym c.is_near.ensures ∙ c.if-not-is_near.false))) c.term_at.ensures.some
