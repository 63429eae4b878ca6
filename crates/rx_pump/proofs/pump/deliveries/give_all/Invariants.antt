use Rattle.std.proofs.Common.{◌<◌, vec_len, reverse}
use Rattle.rx_mailbox.specs.Boxes.{all_told}
use Rattle.rx_pump.proofs.Giving.{Gave}
use Rattle.rx_pump.proofs.pump.deliveries.give_all.Given as goal

-- the notes before those that are left were sent
abbrev pub invariant-loop-given : goal.invariant-loop-given
invariant-loop-given g l = record {
  some : 0 < vec_len l.drainers;
  gave : Gave (reverse l.initial.outs.items) l.outs.items (all_told l.initial.drainers.items) (all_told l.drainers.items);
}

abbrev pub decreases-loop-given : goal.decreases-loop-given
decreases-loop-given g l = vec_len l.outs
