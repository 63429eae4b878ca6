use Rattle.rx_client.proofs.Written.{breaks-none, goes-so}
use Rattle.rx_client.proofs.subscriber.Subscriber.hear_line.Goals as goal

pub returns-in_default-clause-follows : goal.returns-in_default-clause-follows
returns-in_default-clause-follows g c = breaks-none c.args.self.now.format c.args.self.now.follower (g.W.Write.contents c.args.writer.now)

pub returns-in-Ok-clause-follows : goal.returns-in-Ok-clause-follows
returns-in-Ok-clause-follows g c =
    goes-so c.args.self.now.format c.next.result c.args.self.now.follower c.hear.new.self.follower (g.W.Write.contents c.args.writer.now) (g.W.Write.contents c.hear.new.writer)
    c.in-Ok.ensures.follows
