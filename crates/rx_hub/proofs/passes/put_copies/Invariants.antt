use Rattle.std.proofs.Common.{◌≡◌, ◌+◌, ◌-◌, ◌≤◌, ◌++◌, take, vec_len, vec_capacity}
use Rattle.rx_hub.specs.Audiences.{places_of, gifts}
use Rattle.rx_hub.proofs.passes.put_copies.Given as goal

abbrev pub invariant-loop-i : goal.invariant-loop-i
invariant-loop-i l = record {
  given : l.outs.items ≡ l.initial.outs.items ++ gifts l.fn.item (take l.i (places_of l.fn.subscriptions.items));
  len : vec_len l.outs ≡ vec_len l.initial.outs + l.i;
  capacity : vec_capacity l.outs ≡ vec_capacity l.initial.outs;
  room : vec_len l.outs + (l.fn.count - l.i) ≤ vec_capacity l.outs;
}
