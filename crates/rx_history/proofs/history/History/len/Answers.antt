-- The vector knows how many entries it has.
use Rattle.std.proofs.Common.{length, ap, ◌∙◌}
use Rattle.rx_history.proofs.history.History.len.Goals as goal

pub returns : goal.returns
returns c = c.len.ensures ∙ c.self.inside.entries.ok.0 ∙ ap length c.self.view_is
