use Rattle.std.proofs.Common.{◌∙◌, ap, ℕ, arith, ◌++◌, ◌∷◌, []}
use Rattle.rx_mailbox.specs.Boxes.{Incoming}
use Rattle.rx_server.specs.Wirings.{RowView, whole_row}
use Rattle.rx_server.proofs.Opening.{ports-count, ports-whole}
use Rattle.rx_server.proofs.wired.opened.open_one.Goals as goal

pub new-requires-clause-ports : goal.new-requires-clause-ports
new-requires-clause-ports g c = ports-whole _ _ _ _ c.in-Ok-open.made.1.ok.0 c.in-Ok-open.ensures.ports

pub new-requires-clause-count : goal.new-requires-clause-count
new-requires-clause-count g c =
    let count = ports-count c.in-Ok-open.made.0.box c.args.senders c.in-Ok-open.made.1.items c.in-Ok-open.ensures.ports in
    omega (arith, c.requires.size.3)

pub returns-clause-opened : goal.returns-clause-opened
returns-clause-opened g c =
    let count = ports-count c.in-Ok-open.made.0.box c.args.senders c.in-Ok-open.made.1.items c.in-Ok-open.ensures.ports in (
      c.in-Ok-open.made.0.box,
      c.in-Ok-open.ensures.capacity,
      c.push_reserved-2.ensures.items ∙ ap (λ (inbox : Incoming _). c.args.opening.now.inboxes.items ++ inbox ∷ []) c.in-Ok-open.ensures.inbox,
      c.push_reserved.ensures.items
          ∙ ap (λ (row : RowView _). c.args.opening.now.rows.items ++ row ∷ [])
          (c.new.ensures ∙ ap (λ (n : ℕ). whole_row n c.in-Ok-open.made.0.box) (c.in-Ok-open.made.1.ok.0 ∙ count)),
    )
