-- Two keys are equal where their bytes are.
use Rattle.std.proofs.Common.{rules}
use Rattle.rx_http.proofs.request.idempotency_key.IdempotencyKeyPartialEq.eq.Goals as goal

pub returns : goal.returns
returns c = search rules
