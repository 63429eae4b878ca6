use Rattle.std.proofs.Common.{◌≡◌, ◌+◌, drop, Some}
use Rattle.rx_subject.specs.TapeSubjects.{old_count}
use Rattle.rx_subject.proofs.stamps.count_old_stamps.Given as goal

abbrev pub invariant-loop-place : goal.invariant-loop-place
invariant-loop-place l = old_count (Some l.age) l.now l.stamps.items ≡ l.place + old_count (Some l.age) l.now (drop l.place l.stamps.items)
