use Rattle.std.proofs.Common.{◌≡◌, ◌∙◌, ap, sym, ℕ, length, vec_len, arith}
use Rattle.std.specs.Vec.Iter.{into_iter_items}
use Rattle.rx_mailbox.specs.Boxes.{Box, Incoming}
use Rattle.rx_server.specs.Wirings.{ports_from, whole_row}
use Rattle.rx_server.proofs.wired.port_row.PortRow.new.Goals as goal

pub invariant_of-result : goal.invariant_of-result
invariant_of-result g c =
    let left = into_iter_items c.into_iter.result in
    let box = c.args.inbox.now.box in
    let count : vec_len c.args.ports ≡ length left = omega (arith, ap length c.into_iter.ensures.rest, c.args.ports.ok) in (
      c.into_iter.ensures.rest ∙ c.requires.ports ∙ ap (λ (n : ℕ). ports_from box 0 n) count
          ∙ ap (λ (b : Box _). ports_from b 0 (length left)) (sym (ap (λ (inbox : Incoming _). inbox.box) c.of.ensures)),
      omega (arith, count, c.requires.count),
    )

pub returns : goal.returns
returns g c =
    let left = into_iter_items c.into_iter.result in
    let count : length left ≡ vec_len c.args.ports = omega (arith, ap length c.into_iter.ensures.rest, c.args.ports.ok) in
    ap (λ (inbox : Incoming _). whole_row (length left) inbox.box) c.of.ensures ∙ ap (λ (n : ℕ). whole_row n c.args.inbox.now.box) count
