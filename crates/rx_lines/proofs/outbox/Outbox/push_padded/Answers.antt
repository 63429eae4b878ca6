use Rattle.std.proofs.Common.{◌∙◌, ◌++◌, take, ap, arith, length}
use Rattle.rx_lines.proofs.Blocks.{take-put_front}
use Rattle.rx_lines.proofs.outbox.Outbox.push_padded.Goals as goal

pub returns : goal.returns
returns g c =
    let i = c.self.inside in
    let copied = c.copy_from_slice.ensures.after ∙ c.as_slice.ensures in
    take-put_front i.block c.copy_from_slice.new.self i.len _ c.args.len (omega (arith, c.self.invariant, c.self.told)) (omega (arith, ap length copied, c.told-bytes, c.requires.within))
    ∙ ap (λ t. t ++ take c.args.len c.copy_from_slice.new.self) c.self.view_is
    ∙ ap (λ t. c.args.self.now ++ take c.args.len t) copied
