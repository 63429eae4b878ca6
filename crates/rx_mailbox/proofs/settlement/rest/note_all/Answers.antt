use Rattle.std.proofs.Common.{◌∙◌, sym, map-id}
use Rattle.std.proofs.lemmas.Iterator.Consumers.{YieldsList-end}
use Rattle.std.proofs.lemmas.Iterator.Adapters.{YieldsList-from_vec}
use Rattle.std.proofs.lemmas.List.Elements.{All-same}
use Rattle.crossbeam_channel.specs.Claims.{view}
use Rattle.rx_mailbox.specs.Rests.{IsJoined}
use Rattle.rx_mailbox.proofs.Rests.{joined_more}
use Rattle.rx_mailbox.proofs.settlement.rest.note_all.Goals as goal

pub loop-port-preserved : goal.loop-port-preserved
loop-port-preserved g c =
    let before = c.loop-port.invariant in
    record {
      reader = c.note_into.ensures.reader;
      free = c.note_into.ensures.free;
      same = c.note_into.ensures.same ∙ before.same;
      joined = joined_more (view c.loop-port.pass) (view c.note_into.new.pass) _ c.in-Some.port c.note_into.ensures.keeps c.note_into.ensures.joined before.joined;
    }

pub returns-clause-joined : goal.returns-clause-joined
returns-clause-joined g c =
    let items = c.args.ports.items in
    let given = c.into_iter-port-iterator.ensures.into_iter_gives in
    let ended = YieldsList-end (YieldsList-from_vec items given.0 (given.1 ∙ c.args.ports.ok.0)) c.loop-port.yielded _ c.loop-port.yielded_by c.next.result c.next.new.self c.in-None.is c.next.ensures.steps in
    All-same (IsJoined (view c.loop-port.pass)) items c.loop-port.yielded (sym ended.0 ∙ map-id c.loop-port.yielded) c.loop-port.invariant.joined
