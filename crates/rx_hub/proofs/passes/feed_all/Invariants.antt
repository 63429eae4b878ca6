use Rattle.std.proofs.Common.{◌≡◌, ◌+◌, ◌-◌, ◌*◌, ◌≤◌, ◌++◌, List, take, drop, is_some, option_to_list, vec_len, vec_capacity}
use Rattle.std.specs.List.{AllWithin}
use Rattle.rx_note.specs.declared.item.Item.{Item}
use Rattle.rx_subject.specs.Offers.{offer_signals, most_given}
use Rattle.rx_hub.specs.declared.subscription.Subscription.{Subscription}
use Rattle.rx_hub.specs.Seats.{IsIdle}
use Rattle.rx_hub.specs.Subscriptions.{AllFedInto}
use Rattle.rx_hub.specs.Audiences.{places_of, observers_on}
use Rattle.rx_hub.specs.Audiences as audiences
use Rattle.rx_hub.proofs.Places.{Turning}
use Rattle.rx_hub.proofs.passes.feed_all.Given as goal

abbrev pub invariant-loop-i : goal.invariant-loop-i
invariant-loop-i l = record {
  rest : drop l.i l.subscriptions.items ≡ drop l.i l.initial.subscriptions.items;
  fed : (items : List Item) → l.initial.tape.items ≡ items ++ option_to_list l.fn.offer.item
      → AllFedInto (offer_signals l.fn.offer) (observers_on items (places_of (take l.i l.initial.subscriptions.items)))
      (observers_on l.initial.tape.items (places_of (take l.i l.subscriptions.items))) l.initial.outs.items l.outs.items;
  idle : AllWithin (λ (s : Subscription). IsIdle s.ready) l.subscriptions.items 0 l.i;
  turning : Turning l.tape (is_some l.fn.offer.item) (places_of l.subscriptions.items) l.i;
  cursors : audiences.cursors (places_of l.subscriptions.items) ≡ audiences.cursors (places_of l.initial.subscriptions.items);
  owned : audiences.Owned l.initial.tape (places_of l.initial.subscriptions.items) → audiences.Owned l.tape (places_of l.initial.subscriptions.items);
  items : l.tape.items ≡ l.initial.tape.items;
  len : vec_len l.subscriptions ≡ vec_len l.initial.subscriptions;
  room : vec_len l.outs + (vec_len l.initial.subscriptions - l.i) * most_given l.fn.offer ≤ vec_capacity l.outs;
}
