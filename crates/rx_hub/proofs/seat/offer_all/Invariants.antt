use Rattle.std.proofs.Common.{◌≡◌, ℕ, ◌+◌, ◌≤◌, ◌++◌, List, length, map, vec_len, vec_capacity}
use Rattle.rx_note.specs.declared.note.Note.{Note}
use Rattle.rx_note.specs.Signals.{Offered}
use Rattle.rx_history.specs.Histories.{addressed}
use Rattle.rx_lane.specs.Lanes.{HasRoomFor}
use Rattle.rx_hub.specs.Subscriptions.{Serves}
use Rattle.rx_hub.proofs.seat.offer_all.Given as goal

abbrev pub invariant-loop-item : goal.invariant-loop-item
invariant-loop-item l = record {
  served : (notes : List Note) × (l.outs.items ≡ l.initial.outs.items ++ addressed l.who notes) × Serves l.initial.lane.state l.lane.state (map Offered l.yielded) notes;
  room : (count : ℕ) → HasRoomFor l.lane count;
  len : vec_len l.outs ≤ vec_len l.initial.outs + length l.yielded;
  capacity : vec_capacity l.outs ≡ vec_capacity l.initial.outs;
}
