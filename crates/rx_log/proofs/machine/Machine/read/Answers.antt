use Rattle.std.proofs.Common.{◌≡◌, ◌+◌, ℕ, sym, ap, subst, ◌∙◌, arith}
use Rattle.rx_log.specs.Logs.{◌▹◌, entries}
use Rattle.rx_log.specs.Totals.{standing}
use Rattle.rx_log.specs.Senders.{SenderState, is_late, heard, told}
use Rattle.rx_log.specs.Machines.{MachineState, Serves, StandsFor, IsHanded, Reads}
use Rattle.rx_log.proofs.Serving.{serves-asking}
use Rattle.rx_log.proofs.Hearing.{serves-heard, told-right}
use Rattle.rx_log.proofs.machine.Machine.read.Goals as goal

pub returns-clause-reads : goal.returns-clause-reads
returns-clause-reads c = λ calls handed L stands is_handed.
    let entry = c.args.entry.now in
    let inside : MachineState = record { rule = c.self.inside.rule; sender = c.self.inside.sender } in
    let s = c.self.inside.sender in
    let span = c.self.inside.rule.span in
    let before = subst (λ (m : MachineState). StandsFor m calls handed L) (sym c.self.view_is) stands in
    let handed_so = subst (λ (m : MachineState). IsHanded m.rule.span m.sender.holder handed L entry) (sym c.self.view_is) is_handed in
    let follows = c.in-Ok.ensures.ok L before.reads in
    let place_is : c.args.place ≡ entries L + 1 = omega (arith, c.at-at.ensures, before.reads.at_is, c.if-place-at.false, c.if-place-at-2.false) in
    let heard_is : c.hear-answers.new.self ≡ heard s (entries L + 1) entry (standing span L entry) =
    c.hear-answers.ensures.left ∙ ap (λ (place : ℕ). heard s place entry c.in-Ok.standing) place_is ∙ ap (heard s (entries L + 1) entry) follows.stands_is in
    let told_is = c.hear-answers.ensures.answers ∙ ap (told s entry) follows.stands_is ∙ told-right span s calls handed L entry before.serves in
    let serves = subst (λ (t : SenderState). Serves span t calls handed (L ▹ entry)) (sym heard_is) (serves-heard span s calls handed L entry handed_so before.serves) in
    let reached = subst (λ (t : SenderState). Serves span t calls handed (L ▹ entry)) (sym c.reached.ensures)
    (serves-asking span c.hear-answers.new.self calls handed (L ▹ entry) serves (is_late c.span.result c.args.place c.hear-answers.new.self.tenure)) in
    let reads = subst (λ (m : MachineState). Reads m (record { rule = c.step.new.self; sender = c.reached.new.self }) calls handed L entry (record { standing = c.in-Ok.standing; answers = c.hear-answers.result })) c.self.view_is
    (record {
      stands_is = follows.stands_is;
      answers_is = told_is;
      goes_on = record {
        reads = follows.goes_on;
        serves = subst (λ (n : ℕ). Serves n c.reached.new.self calls handed (L ▹ entry)) (sym c.in-Ok.ensures.span) reached;
      };
    }) in
    reads
