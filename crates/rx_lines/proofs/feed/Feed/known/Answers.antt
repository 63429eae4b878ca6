-- A line behind a front that was let go is too long, whatever it is.
use Rattle.rx_lines.proofs.Feeding.{fewer_unread, is_whole, tells_line, tells_long, tells_none}
use Rattle.rx_lines.proofs.feed.Feed.known.Goals as goal

pub returns-then-self-clause-tells : goal.returns-then-self-clause-tells
returns-then-self-clause-tells c rest is = tells_long c.in-Some.step c.args.self.now.lines c.known.new.self rest c.in-Some.ensures.knows (rw c.if-self.true at is)

pub returns-in-None-clause-tells : goal.returns-in-None-clause-tells
returns-in-None-clause-tells c rest is =
    tells_none c.args.self.now.skips c.args.self.now.lines c.known.new.self rest c.args.self.now.open c.in-None.ensures.knows is

pub returns-else-self-clause-tells : goal.returns-else-self-clause-tells
returns-else-self-clause-tells c rest is =
    rw c.if-self.false (tells_line c.in-Some.step c.args.self.now.lines c.known.new.self rest c.in-Some.ensures.knows (rw c.if-self.false at is))

pub returns-else-self-clause-whole : goal.returns-else-self-clause-whole
returns-else-self-clause-whole c = is_whole c.in-Some.step c.args.self.now.lines c.known.new.self c.in-Some.ensures.knows

pub returns-then-self-clause-took : goal.returns-then-self-clause-took
returns-then-self-clause-took c = fewer_unread c.in-Some.step c.args.self.now.lines c.known.new.self c.in-Some.ensures.knows c.known.ensures.reads

pub returns-else-self-clause-took : goal.returns-else-self-clause-took
returns-else-self-clause-took c = fewer_unread c.in-Some.step c.args.self.now.lines c.known.new.self c.in-Some.ensures.knows c.known.ensures.reads
