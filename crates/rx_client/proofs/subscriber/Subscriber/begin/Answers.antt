use Rattle.std.proofs.Common.{◌∙◌, Option, subst}
use Rattle.rx_client.proofs.Written.{follows-one}
use Rattle.rx_client.specs.Following.{Joins, listed}
use Rattle.rx_client.specs.Running.{Shows}
use Rattle.rx_client.specs.declared.told.Told.{Told}
use Rattle.rx_client.proofs.subscriber.Subscriber.begin.Goals as goal

pub returns-clause-follows : goal.returns-clause-follows
returns-clause-follows g c =
    let format = c.args.self.now.format in
    let old = g.W.Write.contents c.args.writer.now in
    let new = g.W.Write.contents c.show.new.writer in
    follows-one format c.show.result c.args.self.now.follower c.show.new.self.follower (Joins c.args.server) old new (c.show.ensures.follower ∙ c.join-lost.ensures.after)
    (subst (λ (told : Option Told). Shows format (listed told) c.show.result old new) c.join-lost.ensures.told c.show.ensures.shows)
