use Rattle.std.proofs.Common.{◌≡◌, ◌∙◌, ap, length, arith}
use Rattle.std.proofs.lemmas.List.{length-map}
use Rattle.std.proofs.lemmas.List.Elements.{All-same}
use Rattle.rx_mailbox.specs.PortRows.{IsFresh}
use Rattle.rx_server.specs.Wirings.{next_port}
use Rattle.rx_server.proofs.Rows.{ports-fresh}
use Rattle.rx_server.proofs.wired.makers.make_drainer.Goals as goal

pub new-requires-clause-fresh : goal.new-requires-clause-fresh
new-requires-clause-fresh g c = All-same IsFresh _ _ c.in_ok-subjects.ensures.ports (ports-fresh c.args.subjects.now.items)

pub new-requires-clause-senders : goal.new-requires-clause-senders
new-requires-clause-senders g c =
    let count : length c.in_ok-subjects.subjects.items ≡ length c.args.subjects.now.items = ap length c.in_ok-subjects.ensures.ports ∙ length-map c.args.subjects.now.items next_port in
    omega (arith, c.requires.senders)
