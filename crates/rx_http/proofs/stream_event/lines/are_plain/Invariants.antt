use Rattle.std.proofs.Common.{◌≡◌, ◌&&◌, drop}
use Rattle.std.specs.List.{list_all}
use Rattle.rx_http.specs.Events.{is_plain_byte}
use Rattle.rx_http.proofs.stream_event.lines.are_plain.Given as goal

abbrev pub invariant-loop-byte : goal.invariant-loop-byte
invariant-loop-byte l = list_all is_plain_byte l.bytes ≡ (l.plain && list_all is_plain_byte (drop l.byte-index l.bytes))
