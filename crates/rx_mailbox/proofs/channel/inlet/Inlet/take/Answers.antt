use Rattle.std.proofs.Common.{◌≡◌, rules, sym, ap, subst, ◌∙◌, true≢false, Result, Ok, IfOk, MatchResult}
use Rattle.crossbeam_channel.specs.Claims.{view}
use Rattle.rx_mailbox.specs.Boxes.{Incoming, HasBye}
use Rattle.rx_mailbox.specs.declared.letter.Letter.{Letter}
use Rattle.rx_mailbox.specs.declared.channel.rule.View.{View}
use Rattle.rx_mailbox.specs.Letters.{share, has_bye}
use Rattle.rx_mailbox.specs.Passes.{TakesOne, taken_of}
use Rattle.rx_mailbox.proofs.Batches.{bye_share}
use Rattle.rx_mailbox.proofs.Tally.{tally_more}
use Rattle.rx_mailbox.proofs.channel.inlet.Inlet.take.Goals as goal

-- the letter that came was taken
one : {B E : Type 0} (r : Result (Letter B) E) (x : Letter B) (before after : View B) → MatchResult r (λ x. TakesOne before x after) (λ _. after ≡ before) → r ≡ Ok x → TakesOne before x after
one r x before after taken is = subst (λ (r : Result _ _). MatchResult r (λ x. TakesOne before x after) (λ _. after ≡ before)) is taken

pub invariant_of-self : goal.invariant_of-self
invariant_of-self g c =
    let more = tally_more _ _ _ _ _ (one c.take-taken.result c.in-Ok.letter (view c.self.inside.pass) (view c.take-taken.new.pass) c.take-taken.ensures.taken c.in-Ok.is) c.self.invariant.2 c.mark.ensures in
    (search rules, more.0, more.1)

pub returns-in-Ok-clause-before_bye : goal.returns-in-Ok-clause-before_bye
returns-in-Ok-clause-before_bye g c =
    let from = c.in-Ok.letter.from in
    let seen = ap (λ (i : Incoming _). has_bye (share from i.received)) c.self.view_is in
    subst (λ (r : Result _ _). IfOk r (λ x. ¬ HasBye c.args.self.now x.from)) (sym c.in-Ok.is)
    (λ bye. true≢false (sym bye ∙ sym seen ∙ bye_share from (taken_of (view c.self.inside.pass)) ∙ (one c.take-taken.result c.in-Ok.letter (view c.self.inside.pass) (view c.take-taken.new.pass) c.take-taken.ensures.taken c.in-Ok.is).before_bye))
