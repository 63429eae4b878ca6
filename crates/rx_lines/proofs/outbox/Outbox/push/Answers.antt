use Rattle.std.proofs.Common.{◌∙◌, ◌+◌, ◌++◌, ap, arith, length}
use Rattle.std.proofs.lemmas.Slice.{take-put_mid}
use Rattle.rx_lines.proofs.outbox.Outbox.push.Goals as goal

pub returns : goal.returns
returns c =
    let i = c.self.inside in
    take-put_mid i.len _ i.block c.copy_from_slice.new.self (i.len + length c.args.bytes.now) (omega (arith, ap length c.copy_from_slice.ensures.after)) (omega (arith, c.self.invariant, c.self.told))
    ∙ ap (λ t. t ++ c.copy_from_slice.new.self) c.self.view_is
    ∙ ap (λ t. c.args.self.now ++ t) c.copy_from_slice.ensures.after
