use Rattle.std.proofs.Common.{◌≡◌, vec_len}
use Rattle.std.specs.List.{AllWithin}
use Rattle.rx_hub.specs.declared.subscription.Subscription.{Subscription}
use Rattle.rx_hub.specs.Seats.{IsIdle}
use Rattle.rx_hub.specs.Audiences.{places_of}
use Rattle.rx_hub.proofs.passes.forget_all.Given as goal

abbrev pub invariant-loop-i : goal.invariant-loop-i
invariant-loop-i l = record {
  places : places_of l.subscriptions.items ≡ places_of l.initial.subscriptions.items;
  len : vec_len l.subscriptions ≡ vec_len l.initial.subscriptions;
  idle : AllWithin (λ (s : Subscription). IsIdle s.ready) l.subscriptions.items 0 l.i;
}
