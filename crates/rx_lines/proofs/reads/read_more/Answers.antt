use Rattle.std.proofs.Common.{◌++◌, ◌∙◌, ap, arith, length, length-append}
use Rattle.rx_lines.proofs.Known.{Consumes-behind}
use Rattle.rx_lines.proofs.reads.read_more.Goals as goal

pub returns-in-Ok : goal.returns-in-Ok
returns-in-Ok g c =
    let i = c.loop-reads.invariant in
    let r = c.in-Ok.ensures.fills in (
      r.0,
      Consumes-behind _ _ _ r.0 i.0 r.1,
      r.2 ∙ ap (λ t. t ++ r.0) i.1,
      omega arith,
      omega (arith, ap length r.2, length-append c.loop-reads.window r.0, c.in-Ok.ensures.within),
    )
