use Rattle.std.proofs.Common.{◌≡◌, length}
use Rattle.std.specs.List.{list_all}
use Rattle.rx_http.specs.Events.{is_plain_byte}
use Rattle.rx_http.proofs.stream_event.lines.is_plain.Given as goal

abbrev pub decreases-loop-front : goal.decreases-loop-front
decreases-loop-front l = length l.rest

abbrev pub invariant-loop-front : goal.invariant-loop-front
invariant-loop-front l = list_all is_plain_byte l.bytes ≡ list_all is_plain_byte l.rest
