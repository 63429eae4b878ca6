use Rattle.std.proofs.Common.{◌≡◌, drop, true}
use Rattle.rx_http.specs.Queries.{value_from}
use Rattle.rx_http.proofs.request.query.value_of.Given as goal

abbrev pub invariant-loop-i : goal.invariant-loop-i
invariant-loop-i l = value_from true l.key l.query ≡ value_from l.begins l.key (drop l.i l.query)
