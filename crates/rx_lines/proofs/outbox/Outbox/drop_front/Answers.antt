use Rattle.std.proofs.Common.{◌≤◌, ◌∙◌, ap, arith, drop, length}
use Rattle.std.proofs.lemmas.List.{length-take-le}
use Rattle.rx_lines.proofs.Blocks.{take-moved}
use Rattle.rx_lines.proofs.outbox.Outbox.drop_front.Goals as goal

pub returns : goal.returns
returns c =
    let i = c.self.inside in
    let room : i.len ≤ length i.block = omega (arith, c.self.invariant, c.self.told) in
    take-moved i.block c.copy_within.new.self c.args.len i.len (omega (arith, c.requires, ap length c.self.view_is, length-take-le i.len i.block room)) room c.copy_within.ensures.after
    ∙ ap (λ t. drop c.args.len t) c.self.view_is
