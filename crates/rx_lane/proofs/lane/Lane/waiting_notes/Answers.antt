-- A terminal that waits is one note more.
use Rattle.std.proofs.Common.{◌≡◌, ◌+◌, Option, length, map, option_to_list, ap, arith}
use Rattle.std.proofs.lemmas.List.{length-append, length-map}
use Rattle.rx_note.specs.declared.note.Note.{Note}
use Rattle.rx_note.specs.declared.note.Note.TheVariants.{Next}
use Rattle.rx_note.specs.Signals.{Signals, waiting, waiting_items, waiting_end}
use Rattle.rx_lane.specs.Lanes.{LaneState, LaneView, StandsFor}
use Rattle.rx_lane.proofs.lane.Lane.waiting_notes.Goals as goal

-- the notes that wait are the items and the terminal
all_notes : (lane : LaneState) (s : Signals) → StandsFor lane s → length lane.items + length lane.last ≡ length (waiting s)
all_notes lane s st =
    omega (arith, ap length st.items, ap length st.last, length-append (map Next (waiting_items s)) (waiting_end s), length-map (waiting_items s) Next)

pub returns-in-Some-clause-state : goal.returns-in-Some-clause-state
returns-in-Some-clause-state c =
    let last = ap (λ (v : LaneView). length v.state.last) c.self.view_is in
    let one = ap (λ (o : Option Note). length (option_to_list o)) c.in-Some.is in
    omega (arith, c.waiting_len-items.ensures.state, last, one)

pub returns-in-Some-clause-waiting : goal.returns-in-Some-clause-waiting
returns-in-Some-clause-waiting c = λ s st.
    let last = ap (λ (v : LaneView). length v.state.last) c.self.view_is in
    let one = ap (λ (o : Option Note). length (option_to_list o)) c.in-Some.is in
    let all = all_notes c.args.self.now.state s st in
    omega (arith, c.waiting_len-items.ensures.state, last, one, all)
