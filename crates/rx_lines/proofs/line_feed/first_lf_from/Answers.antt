use Rattle.std.proofs.Common.{arith}
use Rattle.rx_lines.proofs.Lfs.{HasNoLf-more}
use Rattle.rx_lines.proofs.line_feed.first_lf_from.Goals as goal

pub loop-at-preserved : goal.loop-at-preserved
loop-at-preserved c = (omega arith, HasNoLf-more c.args.bytes.now c.loop-at.at (omega arith) c.loop-at.invariant.1 c.if-bytes-at-eq-LF.false)
