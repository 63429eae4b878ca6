use Rattle.std.proofs.Common.{length, drop, ap, ◌∙◌}
use Rattle.rx_note.specs.Signals.{given}
use Rattle.rx_history.proofs.Tracing.{waits_behind}
use Rattle.rx_history.proofs.trace.Trace.waiting.Goals as goal

pub returns : goal.returns
returns c = λ s is.
    c.in_ok-split_off.ensures.tail
    ∙ ap (λ n. drop n c.in_ok-line.line.items) (c.in_ok-line.ensures.given s is)
    ∙ ap (drop (length (given s))) (c.in_ok-line.ensures.line s is)
    ∙ waits_behind s
