use Rattle.std.proofs.Common.{refl}
use Rattle.rx_history.proofs.Tracing.{opens}
use Rattle.rx_history.proofs.trace.Trace.joined.Goals as goal

pub returns : goal.returns
returns c = opens _ c.args.policy c.args.first c.strategy.ensures.strategy c.errors.ensures c.new.ensures.items refl refl refl
