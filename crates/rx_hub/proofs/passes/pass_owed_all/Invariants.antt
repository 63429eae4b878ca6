use Rattle.std.proofs.Common.{◌≡◌, ◌∷◌, [], List, false, take, drop, vec_len}
use Rattle.rx_note.specs.declared.item.Item.{Item}
use Rattle.rx_note.specs.Signals.{Offered}
use Rattle.rx_tape.specs.Tapes.{TapeState}
use Rattle.rx_hub.specs.Subscriptions.{AllFedInto}
use Rattle.rx_hub.specs.Audiences.{places_of, observers_on, gifts, AllOn, AllIdle}
use Rattle.rx_hub.specs.Audiences as audiences
use Rattle.rx_hub.proofs.passes.pass_owed_all.Given as goal

abbrev pub invariant-loop-i : goal.invariant-loop-i
invariant-loop-i l = record {
  rest : drop l.i l.subscriptions.items ≡ drop l.i l.initial.subscriptions.items;
  fed : (items : List Item) (item : Item) → AllFedInto (Offered item ∷ []) (observers_on items (places_of (take l.i l.initial.subscriptions.items)))
      (observers_on items (places_of (take l.i l.subscriptions.items))) [] (gifts item (take l.i (places_of l.initial.subscriptions.items)));
  idle : AllIdle l.initial.subscriptions.items → AllIdle l.subscriptions.items;
  on : (tape : TapeState) → AllOn tape false (places_of l.initial.subscriptions.items) → AllOn tape false (places_of l.subscriptions.items);
  cursors : audiences.cursors (places_of l.subscriptions.items) ≡ audiences.cursors (places_of l.initial.subscriptions.items);
  len : vec_len l.subscriptions ≡ vec_len l.initial.subscriptions;
}
