use Rattle.std.proofs.Common.{◌∙◌, sym, map-id}
use Rattle.std.proofs.lemmas.Iterator.Consumers.{YieldsList-end}
use Rattle.std.proofs.lemmas.Iterator.Adapters.{YieldsList-from_vec}
use Rattle.std.proofs.lemmas.List.Elements.{All-same}
use Rattle.crossbeam_channel.specs.Claims.{view}
use Rattle.rx_mailbox.specs.Passes.{IsNoted}
use Rattle.rx_mailbox.proofs.Joins.{keeps_both, noted_more}
use Rattle.rx_mailbox.proofs.settlement.join_all.Goals as goal

pub loop-port-preserved : goal.loop-port-preserved
loop-port-preserved g c =
    let before = c.loop-port.invariant in
    record {
      reader = c.join_into.ensures.reader;
      free = c.join_into.ensures.free;
      same = c.join_into.ensures.same ∙ before.same;
      keeps = keeps_both _ _ _ before.keeps c.join_into.ensures.keeps;
      noted = noted_more (view c.loop-port.pass) (view c.join_into.new.pass) _ c.in-Some.port c.join_into.ensures.keeps c.join_into.ensures.noted before.noted;
    }

pub returns-clause-noted : goal.returns-clause-noted
returns-clause-noted g c =
    let items = c.args.ports.items in
    let given = c.into_iter-port-iterator.ensures.into_iter_gives in
    let ended = YieldsList-end (YieldsList-from_vec items given.0 (given.1 ∙ c.args.ports.ok.0)) c.loop-port.yielded _ c.loop-port.yielded_by c.next.result c.next.new.self c.in-None.is c.next.ensures.steps in
    All-same (IsNoted (view c.loop-port.pass)) items c.loop-port.yielded (sym ended.0 ∙ map-id c.loop-port.yielded) c.loop-port.invariant.noted
