use Rattle.std.proofs.Common.{inr}
use Rattle.rx_client.proofs.answer.hand_on.Goals as goal

pub returns-in-Err : goal.returns-in-Err
returns-in-Err g c = inr ((λ is. cc), c.loop.invariant.1)

pub returns-in-Ok-eq0 : goal.returns-in-Ok-eq0
returns-in-Ok-eq0 g c = inr ((λ is. cc), c.loop.invariant.1)

pub returns-in-Err-read_on : goal.returns-in-Err-read_on
returns-in-Err-read_on g c = inr ((λ is. cc), c.loop.invariant.1)

pub returns : goal.returns
returns g c = inr ((λ is. cc), c.loop.invariant.1)
