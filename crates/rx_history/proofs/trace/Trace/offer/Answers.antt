use Rattle.std.proofs.Common.{refl, sym, ◌∙◌, arith}
use Rattle.rx_history.proofs.Tracing.{offer_behind, given_sent, waits_sent, overflow_sent}
use Rattle.rx_history.proofs.trace.Trace.offer.Goals as goal

pub returns-then-is_some : goal.returns-then-is_some
returns-then-is_some c = λ s was. offer_behind c.args.self.now c.args.item s was (sym c.if-is_some.ensures)

pub returns-in_ok-push : goal.returns-in_ok-push
returns-in_ok-push c = λ s was.
    given_sent c.args.self.now _ c.args.item s was (sym c.if-is_some.ensures) c.if-self-gt0.true refl refl c.in_ok-push.ensures.items (omega (arith, c.push.new.self.ok.0)) refl refl

pub returns-in_ok-queue : goal.returns-in_ok-queue
returns-in_ok-queue c = λ s was.
    waits_sent c.args.self.now _ c.args.item s was (sym c.if-is_some.ensures) (omega arith) (sym c.overflows.ensures ∙ c.if-overflows.false)
    refl refl c.in_ok-queue.ensures.queued refl refl refl

pub returns-in_ok-overflow : goal.returns-in_ok-overflow
returns-in_ok-overflow c = λ s was.
    overflow_sent c.args.self.now _ c.args.item c.in_ok-overflow.overflow s was (sym c.if-is_some.ensures) (omega arith) (sym c.overflows.ensures ∙ c.if-overflows.true)
    c.in_ok-overflow.ensures (c.end.ensures s was)
