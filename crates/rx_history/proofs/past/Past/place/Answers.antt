use Rattle.std.proofs.Common.{min, ap, ◌∙◌}
use Rattle.rx_history.proofs.Remembering.{remembers_count}
use Rattle.rx_history.proofs.past.Past.place.Goals as goal

pub returns : goal.returns
returns c = λ rules H same was.
    c.min.ensures ∙ ap (λ n. min n c.args.limits.now.items) (c.len.ensures ∙ c.args.self.now.items.ok.0) ∙ remembers_count rules c.args.self.now H c.args.limits.now same was
