use Rattle.std.proofs.Common.{arith}
use Rattle.rx_lines.proofs.Lanes.{no_lf_lanes, first_ahead}
use Rattle.rx_lines.proofs.line_feed.first_lf.Goals as goal

pub returns-then-ahead-lt-LANES : goal.returns-then-ahead-lt-LANES
returns-then-ahead-lt-LANES c =
    first_ahead c.args.bytes.now c.loop-at.at c.before_lf-ahead.result (omega arith) c.loop-at.invariant.1 c.if-ahead-lt-LANES.true c.before_lf-ahead.ensures

pub loop-at-preserved : goal.loop-at-preserved
loop-at-preserved c =
    (omega arith, no_lf_lanes c.args.bytes.now c.loop-at.at c.before_lf-ahead.result (omega arith) c.loop-at.invariant.1 (omega (arith, c.if-ahead-lt-LANES.false)) c.before_lf-ahead.ensures)
