use Rattle.std.proofs.Common.{◌≤◌, ◌-◌, length, take}
use Rattle.rx_proto.specs.LineFeeds.{HasNoLf}
use Rattle.rx_lines.proofs.line_feed.first_lf.Given as goal

abbrev pub invariant-loop-at : goal.invariant-loop-at
invariant-loop-at l = (l.at ≤ length l.bytes) × HasNoLf (take l.at l.bytes)

abbrev pub decreases-loop-at : goal.decreases-loop-at
decreases-loop-at l = length l.bytes - l.at
