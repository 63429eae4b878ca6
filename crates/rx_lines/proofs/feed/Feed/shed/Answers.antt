use Rattle.rx_lines.specs.Steps.{unread}
use Rattle.rx_lines.proofs.Feeding.{IsRest-skipped}
use Rattle.rx_lines.proofs.feed.Feed.shed.Goals as goal

pub returns-clause-rest : goal.returns-clause-rest
returns-clause-rest c rest is =
    rw (rw c.if-not-shed.false at c.shed.ensures.unread) (IsRest-skipped c.args.self.now.skips (unread c.args.self.now.lines) rest c.requires (c.shed.ensures.long c.if-not-shed.false) is)
