use Rattle.std.proofs.Common.{◌≡◌, drop, map}
use Rattle.httparse.specs.Spans.{header_bytes}
use Rattle.rx_http.specs.Asking.{field_in}
use Rattle.rx_http.proofs.request.field_in.Given as goal

abbrev pub invariant-loop-field : goal.invariant-loop-field
invariant-loop-field l =
    field_in l.name (map (header_bytes l.head) l.fields) ≡ field_in l.name (map (header_bytes l.head) (drop l.field-index l.fields))
