-- Each setting is the standard one.
use Rattle.std.proofs.Common.{rules}
use Rattle.rx_config.proofs.config.Config.standard.Goals as goal

pub returns : goal.returns
returns c = search rules
