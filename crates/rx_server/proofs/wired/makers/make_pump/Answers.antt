use Rattle.std.proofs.Common.{◌∙◌, ap, length, arith}
use Rattle.std.proofs.lemmas.List.{length-map}
use Rattle.std.proofs.lemmas.List.Elements.{All-same}
use Rattle.rx_mailbox.specs.PortRows.{IsFresh}
use Rattle.rx_server.specs.Wirings.{next_port}
use Rattle.rx_server.proofs.Rows.{ports-fresh}
use Rattle.rx_server.proofs.wired.makers.make_pump.Goals as goal

pub new-requires-clause-some : goal.new-requires-clause-some
new-requires-clause-some g c =
    let count = ap length c.in_ok-heap.ensures.to_drainers ∙ length-map c.args.drainers.now.items next_port in
    omega (arith, c.requires.some)

pub new-requires-clause-callers : goal.new-requires-clause-callers
new-requires-clause-callers g c =
    let count = ap length c.in_ok-heap.ensures.to_callers ∙ length-map c.args.replies.now.items next_port in
    omega (arith, c.requires.ports)

pub new-requires-clause-fresh : goal.new-requires-clause-fresh
new-requires-clause-fresh g c = record {
  hub_is = c.requires.hub;
  inbox_is = c.requires.inbox;
  drainers_are = All-same IsFresh _ _ c.in_ok-heap.ensures.to_drainers (ports-fresh c.args.drainers.now.items);
  callers_are = All-same IsFresh _ _ c.in_ok-heap.ensures.to_callers (ports-fresh c.args.replies.now.items);
}
