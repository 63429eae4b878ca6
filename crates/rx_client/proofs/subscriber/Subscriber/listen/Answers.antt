use Rattle.std.proofs.Common.{◌∙◌}
use Rattle.rx_client.proofs.Written.{breaks-on, goes-on}
use Rattle.rx_client.proofs.subscriber.Subscriber.listen.Goals as goal

pub returns-in-Ok-Again-clause-follows : goal.returns-in-Ok-Again-clause-follows
returns-in-Ok-Again-clause-follows g c =
    goes-on c.args.self.now.format c.loop.self.format c.args.self.now.follower c.loop.self.follower c.hear_line.new.self.follower (g.W.Write.contents c.args.writer.now)
    (g.W.Write.contents c.loop.writer) (g.W.Write.contents c.hear_line.new.writer) c.loop.invariant.0 c.loop.invariant.1 c.in-Ok-Again.ensures.follows

pub returns-in-Ok-Over-clause-follows : goal.returns-in-Ok-Over-clause-follows
returns-in-Ok-Over-clause-follows g c =
    goes-on c.args.self.now.format c.loop.self.format c.args.self.now.follower c.loop.self.follower c.hear_line.new.self.follower (g.W.Write.contents c.args.writer.now)
    (g.W.Write.contents c.loop.writer) (g.W.Write.contents c.hear_line.new.writer) c.loop.invariant.0 c.loop.invariant.1 c.in-Ok-Over.ensures.follows

pub returns-in-Err-clause-follows : goal.returns-in-Err-clause-follows
returns-in-Err-clause-follows g c =
    breaks-on c.args.self.now.format c.loop.self.format c.args.self.now.follower c.loop.self.follower (g.W.Write.contents c.args.writer.now) (g.W.Write.contents c.loop.writer)
    (g.W.Write.contents c.hear_line.new.writer) c.loop.invariant.0 c.loop.invariant.1 c.in-Err.ensures.follows

pub loop-preserved : goal.loop-preserved
loop-preserved g c = (
  goes-on c.args.self.now.format c.loop.self.format c.args.self.now.follower c.loop.self.follower c.hear_line.new.self.follower (g.W.Write.contents c.args.writer.now)
      (g.W.Write.contents c.loop.writer) (g.W.Write.contents c.hear_line.new.writer) c.loop.invariant.0 c.loop.invariant.1 c.in-Ok-More.ensures.follows,
  c.hear_line.ensures.format ∙ c.loop.invariant.1,
)
