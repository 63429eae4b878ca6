use Rattle.std.proofs.lemmas.List.Elements.{All-same}
use Rattle.rx_mailbox.specs.PortRows.{IsFresh}
use Rattle.rx_server.proofs.Rows.{ports-fresh}
use Rattle.rx_server.proofs.wired.makers.make_desk.Goals as goal

pub new-requires-clause-ports : goal.new-requires-clause-ports
new-requires-clause-ports g c = All-same IsFresh _ _ c.in_ok-subjects.ensures.ports (ports-fresh c.args.subjects.now.items)
