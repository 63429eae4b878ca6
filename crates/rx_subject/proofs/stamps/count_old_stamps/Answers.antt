use Rattle.std.proofs.Common.{sym}
use Rattle.rx_subject.proofs.Taped.{old_none}
use Rattle.rx_subject.proofs.stamps.count_old_stamps.Goals as goal

pub returns-in_default-clause-count : goal.returns-in_default-clause-count
returns-in_default-clause-count c = rw c.in_default.is (sym (old_none c.args.now c.args.stamps.now.items))
