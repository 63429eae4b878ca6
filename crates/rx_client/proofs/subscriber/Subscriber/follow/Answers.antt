use Rattle.std.proofs.Common.{subst}
use Rattle.rx_client.proofs.Written.{follows-then}
use Rattle.rx_client.specs.Running.{Follows}
use Rattle.rx_client.specs.declared.format.Format.{Format}
use Rattle.rx_client.proofs.subscriber.Subscriber.follow.Goals as goal

pub returns-in-Ok-clause-follows : goal.returns-in-Ok-clause-follows
returns-in-Ok-clause-follows g c =
    let old = g.W.Write.contents c.args.writer.now in
    let mid = g.W.Write.contents c.begin.new.writer in
    let new = g.W.Write.contents c.listen.new.writer in
    follows-then c.args.self.now.format c.listen.result c.args.self.now.follower c.begin.new.self.follower c.listen.new.self.follower old mid new c.in-Ok.ensures.follows
    (subst (λ (format : Format). Follows format c.begin.new.self.follower c.listen.new.self.follower c.listen.result mid new) c.begin.ensures.format c.listen.ensures.follows)
