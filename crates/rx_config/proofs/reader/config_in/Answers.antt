-- A pool that the table does not allow is refused as such.
use Rattle.std.proofs.Common.{rules}
use Rattle.rx_config.proofs.reader.config_in.Goals as goal

pub returns-in_default-clause-refused : goal.returns-in_default-clause-refused
returns-in_default-clause-refused c = search rules
