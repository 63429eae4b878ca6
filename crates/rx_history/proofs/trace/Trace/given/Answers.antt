use Rattle.std.proofs.Common.{length, take, ap, ◌∙◌}
use Rattle.rx_note.specs.Signals.{given}
use Rattle.rx_note.proofs.Lines.{given-first}
use Rattle.rx_history.proofs.trace.Trace.given.Goals as goal

pub returns : goal.returns
returns c = λ s is.
    c.truncate.ensures.items
    ∙ ap (λ n. take n c.in_ok-line.line.items) (c.in_ok-line.ensures.given s is)
    ∙ ap (take (length (given s))) (c.in_ok-line.ensures.line s is)
    ∙ given-first s
