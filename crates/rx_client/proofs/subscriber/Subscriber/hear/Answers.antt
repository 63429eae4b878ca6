use Rattle.std.proofs.Common.{◌∙◌, ◌++◌, subst}
use Rattle.rx_client.proofs.Written.{breaks-one, follows-one, shows-both, shows-first, shows-so}
use Rattle.rx_client.specs.Following.{Hears, listed}
use Rattle.rx_client.specs.Running.{Broke, Shows}
use Rattle.rx_client.specs.declared.told.Telling.{Telling}
use Rattle.rx_client.proofs.subscriber.Subscriber.hear.Goals as goal

pub returns-in-Ok-clause-follows : goal.returns-in-Ok-clause-follows
returns-in-Ok-clause-follows g c =
    let format = c.args.self.now.format in
    let old = g.W.Write.contents c.args.writer.now in
    let mid = g.W.Write.contents c.show.new.writer in
    let new = g.W.Write.contents c.show-in-Ok.new.writer in
    let told = c.hear.result in
    follows-one format c.show-in-Ok.result c.args.self.now.follower c.show-in-Ok.new.self.follower (Hears c.args.heard) old new
    (c.show-in-Ok.ensures.follower ∙ c.show.ensures.follower ∙ c.hear.ensures.after)
    (subst (λ (t : Telling). Shows format (listed t.gap ++ listed t.note) c.show-in-Ok.result old new) c.hear.ensures.told
    (shows-both format c.show-in-Ok.result (listed told.gap) (listed told.note) old mid new c.in-Ok.ensures.shows
    (shows-so format c.show.new.self.format (listed told.note) c.show-in-Ok.result mid new c.show.ensures.format c.show-in-Ok.ensures.shows)))

pub returns-in-Err-clause-follows : goal.returns-in-Err-clause-follows
returns-in-Err-clause-follows g c =
    let format = c.args.self.now.format in
    let old = g.W.Write.contents c.args.writer.now in
    let new = g.W.Write.contents c.show.new.writer in
    let told = c.hear.result in
    breaks-one format c.args.self.now.follower (Hears c.args.heard) old new
    (subst (λ (t : Telling). Broke format (listed t.gap ++ listed t.note) old new) c.hear.ensures.told
    (shows-first format (listed told.gap) (listed told.note) old new c.in-Err.ensures.shows))
