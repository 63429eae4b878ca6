-- One write more: what it took stands behind what was written.
use Rattle.std.proofs.Common.{arith, sym, subst, List, ℕ}
use Rattle.std.specs.Io.KnownBytes.{Appends}
use Rattle.std.proofs.KnownBytes.{Appends-trans}
use Rattle.rx_lines.proofs.Blocks.{take-on}
use Rattle.rx_lines.proofs.outbox.write_front.Goals as goal

pub loop-done-preserved : goal.loop-done-preserved
loop-done-preserved g c =
    let bytes = c.args.bytes.now in
    let done = c.loop-done.done in
    let more = c.in-Ok.more in
    let appended = Appends-trans _ _ _ _ _ c.loop-done.invariant.1 c.in-Ok.ensures.bytes in (
      omega (arith, c.in-Ok.ensures.bound),
      subst (λ (xs : List ℕ). Appends (g.W.Write.contents c.args.writer.now) (g.W.Write.contents c.write.new.self) xs) (sym (take-on bytes done more)) appended,
    )
