use Rattle.std.proofs.Common.{◌∙◌, ℕ, List, [], ◌∷◌, ◌++◌, ap, subst}
use Rattle.rx_proto.specs.Bytes.{Writes}
use Rattle.rx_client.proofs.Written.{broke-none, shows-one}
use Rattle.rx_client.proofs.subscriber.Subscriber.show_one.Goals as goal

pub returns-in_default-clause-shows : goal.returns-in_default-clause-shows
returns-in_default-clause-shows g c = broke-none c.args.self.now.format (c.args.told.now ∷ []) (g.W.Write.contents c.args.writer.now)

pub returns-clause-shows : goal.returns-clause-shows
returns-clause-shows g c =
    let put = c.in-Ok.ensures in
    let old = g.W.Write.contents c.args.writer.now in
    let new = g.W.Write.contents c.write_out.new.writer in
    let text = c.as_slice.ensures.value ∙ put.2 ∙ ap (λ (t : List ℕ). t ++ put.0) c.clear.ensures.items in
    shows-one c.args.self.now.format c.write_out.result c.args.told.now put.0 old new put.1 (subst (λ (t : List ℕ). Writes c.write_out.result old new t) text c.write_out.ensures)
