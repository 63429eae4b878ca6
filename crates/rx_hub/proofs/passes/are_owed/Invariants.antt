use Rattle.std.proofs.Common.{◌<◌}
use Rattle.std.specs.List.{AllWithin}
use Rattle.rx_hub.specs.Seats.{owing_of}
use Rattle.rx_hub.specs.Audiences.{Place, places_of}
use Rattle.rx_hub.proofs.passes.are_owed.Given as goal

abbrev pub invariant-loop-i : goal.invariant-loop-i
invariant-loop-i l = record {
  owed : AllWithin (λ (p : Place). 0 < owing_of p.seat) (places_of l.fn.subscriptions.items) 0 l.i;
}
