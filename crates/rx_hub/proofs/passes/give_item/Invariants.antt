use Rattle.std.proofs.Common.{◌≡◌, false, ◌+◌, ◌-◌, ◌≤◌, ◌++◌, take, vec_len, vec_capacity}
use Rattle.std.specs.List.{AllWithin}
use Rattle.rx_hub.specs.declared.subscription.Subscription.{Subscription}
use Rattle.rx_hub.specs.Seats.{HoldsCopy, overflows_at}
use Rattle.rx_hub.specs.Audiences.{Place, places_of, gifts, AllAside}
use Rattle.rx_hub.proofs.passes.give_item.Given as goal

abbrev pub invariant-loop-i : goal.invariant-loop-i
invariant-loop-i l = record {
  places : places_of l.subscriptions.items ≡ places_of l.initial.subscriptions.items;
  len : vec_len l.subscriptions ≡ vec_len l.initial.subscriptions;
  fits : AllWithin (λ (p : Place). overflows_at p.seat ≡ false) (places_of l.initial.subscriptions.items) 0 l.i;
  given : l.outs.items ≡ l.initial.outs.items ++ gifts l.fn.item (take l.i (places_of l.initial.subscriptions.items));
  holds : AllWithin (λ (s : Subscription). HoldsCopy l.fn.item s.ready.item s.seat) l.subscriptions.items 0 l.i;
  aside : AllAside l.initial.subscriptions.items → AllAside l.subscriptions.items;
  room : vec_len l.outs + (vec_len l.initial.subscriptions - l.i) ≤ vec_capacity l.outs;
}
