use Rattle.rx_workers.proofs.WatchLogs.{asked-one}
use Rattle.rx_workers.proofs.watch_log.WatchLog.and.Goals as goal

pub returns : goal.returns
returns c = asked-one c.args.self.now.calls.items c.and.result.items c.args.key c.args.aim c.and.ensures
