use Rattle.rx_workers.proofs.WatchLogs.{asked-none}
use Rattle.rx_workers.proofs.watch_log.WatchLog.new.Goals as goal

pub returns : goal.returns
returns c = asked-none c.new.result.items c.new.ensures
