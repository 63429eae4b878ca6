use Rattle.std.proofs.Common.{ap, length, subst, sym}
use Rattle.rx_http.specs.Asking.{IsReadOfHead}
use Rattle.rx_exchange.proofs.came.found.Goals as goal

pub returns-in-Whole-clause-finds : goal.returns-in-Whole-clause-finds
returns-in-Whole-clause-finds c =
    let at = c.in-Whole.ensures.found in
    let is_read = subst (λ l. IsReadOfHead l c.read_request.result) c.head.ensures c.read_request.ensures.read in
    c.with_body.ensures c.find.new.self at.0 is_read (sym (ap length c.behind.ensures))
