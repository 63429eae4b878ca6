use Rattle.std.proofs.Common.{◌≡◌, drop, map}
use Rattle.httparse.specs.Spans.{header_bytes}
use Rattle.rx_client.specs.Looking.{first_named}
use Rattle.rx_client.proofs.answer.first_named.Given as goal

abbrev pub invariant-loop-field : goal.invariant-loop-field
invariant-loop-field l =
    first_named l.name (map (header_bytes l.head) l.fields) ≡ first_named l.name (map (header_bytes l.head) (drop l.field-index l.fields))
