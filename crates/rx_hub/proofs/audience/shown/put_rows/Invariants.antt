use Rattle.std.proofs.Common.{◌≡◌, ◌+◌, ◌-◌, ◌≤◌, ◌++◌, map, take, false, vec_len, vec_capacity}
use Rattle.rx_tape.specs.Tapes.{TapeState}
use Rattle.rx_hub.specs.Audiences.{places_of, observers_on, AllOn}
use Rattle.rx_hub.specs.Looks.{row_at}
use Rattle.rx_hub.proofs.audience.shown.put_rows.Given as goal

-- the rows of the observers so far
abbrev pub invariant-loop-i : goal.invariant-loop-i
invariant-loop-i l = record {
  rows : (tape : TapeState) → AllOn tape false (places_of l.fn.subscriptions.items)
      → l.rows.items ≡ l.initial.rows.items ++ map row_at (take l.i (observers_on tape.items (places_of l.fn.subscriptions.items)));
  room : vec_len l.rows + (vec_len l.fn.subscriptions - l.i) ≤ vec_capacity l.rows;
}
