use Rattle.std.proofs.Common.{◌≡◌, ◌++◌, ◌∷◌, [], List, take, drop, true, vec_len}
use Rattle.std.specs.List.{All, AllWithin}
use Rattle.rx_note.specs.declared.item.Item.{Item}
use Rattle.rx_note.specs.Signals.{Offered}
use Rattle.rx_hub.specs.declared.subscription.Subscription.{Subscription}
use Rattle.rx_hub.specs.Seats.{HoldsCopy, IsIdle}
use Rattle.rx_hub.specs.Subscriptions.{AllFedInto}
use Rattle.rx_hub.specs.Audiences.{places_of, observers_on, gifts, AllAside}
use Rattle.rx_hub.specs.Audiences as audiences
use Rattle.rx_hub.proofs.Places.{Turning}
use Rattle.rx_hub.proofs.passes.pass_all.Given as goal

abbrev pub invariant-loop-i : goal.invariant-loop-i
invariant-loop-i l = record {
  rest : drop l.i l.subscriptions.items ≡ drop l.i l.initial.subscriptions.items;
  fed : (items : List Item) (item : Item) → l.initial.tape.items ≡ items ++ item ∷ [] → All (λ (s : Subscription). HoldsCopy item s.ready.item s.seat) l.initial.subscriptions.items
      → AllFedInto (Offered item ∷ []) (observers_on items (places_of (take l.i l.initial.subscriptions.items)))
      (observers_on l.initial.tape.items (places_of (take l.i l.subscriptions.items))) [] (gifts item (take l.i (places_of l.initial.subscriptions.items)));
  idle : AllAside l.initial.subscriptions.items → AllWithin (λ (s : Subscription). IsIdle s.ready) l.subscriptions.items 0 l.i;
  turning : Turning l.tape true (places_of l.subscriptions.items) l.i;
  cursors : audiences.cursors (places_of l.subscriptions.items) ≡ audiences.cursors (places_of l.initial.subscriptions.items);
  owned : audiences.Owned l.initial.tape (places_of l.initial.subscriptions.items) → audiences.Owned l.tape (places_of l.initial.subscriptions.items);
  items : l.tape.items ≡ l.initial.tape.items;
  len : vec_len l.subscriptions ≡ vec_len l.initial.subscriptions;
}
