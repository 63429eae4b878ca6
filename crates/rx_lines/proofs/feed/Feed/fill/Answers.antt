use Rattle.rx_lines.proofs.Feeding.{comes_by}
use Rattle.rx_lines.proofs.feed.Feed.fill.Goals as goal

pub returns-clause-comes : goal.returns-clause-comes
returns-clause-comes g c rest is = comes_by c.come.result _ _ c.shed.new.self.skips _ _ rest _ _ c.shed.ensures.no_lf (c.shed.ensures.rest rest (rw c.has_line.ensures.unread is)) c.come.ensures.comes
