-- Seats on a tape: what others do to the tape leaves them as they are.
use Rattle.std.proofs.Common.{◌≡◌, ◌≢◌, ℕ, ◌+◌, ◌-◌, ◌<◌, ◌≤◌, nat_le, Bool, true, false, cond, not, ◌&&◌, ◌⊎◌, inl, inr, List, ◌++◌, length, drop, Option, Some, option_to_list, refl, sym, ap, ◌∙◌, arith}
use Rattle.std.proofs.lemmas.Bool.Decides.{nat_tests}
use Rattle.std.proofs.lemmas.List.{length-drop, drop-drop}
use Rattle.rx_history.proofs.Entries.{and_false}
use Rattle.rx_lane.specs.Lanes.{LaneView}
use Rattle.rx_lane.specs.Queues.{overfills}
use Rattle.rx_note.specs.declared.item.Item.{Item}
use Rattle.rx_tape.specs.Tapes.{TapeState, end_of, place_of, last_items, pushed, passed, trimmed, Spares}
use Rattle.rx_tape.proofs.Lows.{lowest-le}
use Rattle.rx_lane.specs.TapeLanes.{StandsBack}
use Rattle.rx_lane.proofs.Shared.{pushed_on}
use Rattle.rx_hub.specs.declared.seat.Seat.{Seat}
use Rattle.rx_hub.specs.declared.seat.Seat.TheVariants.{Shared, Own}
use Rattle.rx_hub.specs.Seats.{lane_of, cursor_of, owing_of, overflows_at, Stands, Leaves}

-- a cursor that did not move stands as it did
pub back_same : {old new : TapeState} {cursor back : ℕ} → new.front ≡ old.front → new.items ≡ old.items → place_of new.places cursor ≡ place_of old.places cursor
    → StandsBack old cursor back → StandsBack new cursor back
back_same {old = old} {new = new} {cursor = cursor} {back = back} front items place stands =
    let long = ap length items in
    let same : end_of old - back ≡ end_of new - back = omega (arith, front, long) in
    record { within = omega (arith, long, stands.within); place = place ∙ stands.place ∙ ap (λ (n : ℕ). Some n) same }

-- a seat whose cursor is another
pub unmoved : (old new : TapeState) (offered : Bool) (moved : Option ℕ) (seat : Seat) → Leaves old new moved → ((cursor : ℕ) → cursor_of seat ≡ Some cursor → moved ≢ Some cursor)
    → Stands old offered seat → Stands new offered seat
unmoved old new offered moved (Shared lane) leaves other stands = back_same leaves.front leaves.items (leaves.others lane.cursor (other lane.cursor refl)) stands
unmoved old new offered moved (Own lane) leaves other stands = stands

-- one cursor moved, and moved again
pub leaves_then : (a b c : TapeState) (moved : Option ℕ) → Leaves a b moved → Leaves b c moved → Leaves a c moved
leaves_then a b c moved first then = record {
  front = then.front ∙ first.front;
  items = then.items ∙ first.items;
  others = λ other differ. then.others other differ ∙ first.others other differ;
}

-- a lane that spares the others leaves them
pub leaves_others : (old new : TapeState) (cursor : ℕ) → Spares old new cursor → Leaves old new (Some cursor)
leaves_others old new cursor spares = record {
  front = spares.front;
  items = spares.items;
  others = λ other differ. spares.others other (λ e. differ (ap (λ (n : ℕ). Some n) (sym e)));
}

-- an item more on the tape
pub offered_on : (tape : TapeState) (item : Item) (seat : Seat) → Stands tape false seat → Stands (pushed tape item) true seat
offered_on tape item (Shared lane) stands = pushed_on tape item lane.cursor lane.back stands
offered_on tape item (Own lane) stands = stands

-- WHAT IS REMOVED

-- the last items stay that are to be kept
pub lasts_kept : (items : List Item) (gone count : ℕ) → gone + count ≤ length items → last_items (drop gone items) count ≡ last_items items count
lasts_kept items gone count h =
    let left = length-drop gone items in
    let same : gone + (length (drop gone items) - count) ≡ length items - count = omega (arith, left, h) in
    drop-drop (length (drop gone items) - count) gone items ∙ ap (λ n. drop n items) same

-- and so do those that a cursor waits for
pub back_passed : (tape : TapeState) (keep cursor back : ℕ) → StandsBack tape cursor back → passed tape keep + back ≤ length tape.items
back_passed tape keep cursor back stands =
    let low = lowest-le tape.places (end_of tape) cursor (end_of tape - back) stands.place in
    omega (arith, low, stands.within)

pub trimmed_back : (tape : TapeState) (keep cursor back : ℕ) → StandsBack tape cursor back → StandsBack (trimmed tape keep) cursor back
trimmed_back tape keep cursor back stands =
    let h = back_passed tape keep cursor back stands in
    let left = length-drop (passed tape keep) tape.items in
    let same : end_of tape - back ≡ end_of (trimmed tape keep) - back = omega (arith, left, h) in
    record { within = omega (arith, left, h); place = stands.place ∙ ap (λ (n : ℕ). Some n) same }

pub trimmed_seat : (tape : TapeState) (keep : ℕ) (seat : Seat) → Stands tape false seat → Stands (trimmed tape keep) false seat
trimmed_seat tape keep (Shared lane) stands = trimmed_back tape keep lane.cursor lane.back stands
trimmed_seat tape keep (Own lane) stands = stands

pub trimmed_lane : (tape : TapeState) (keep : ℕ) (seat : Seat) → Stands tape false seat → lane_of (trimmed tape keep).items seat ≡ lane_of tape.items seat
trimmed_lane tape keep (Shared lane) stands =
    let waiting = ap (λ rest. option_to_list lane.lead ++ rest) (lasts_kept tape.items (passed tape keep) lane.back (back_passed tape keep lane.cursor lane.back stands)) in
    ap (λ (items : List Item). record { policy = lane.policy; items = items; last = lane.last; ended = lane.ended; owing = lane.owing }) waiting
trimmed_lane tape keep (Own lane) stands = refl

-- A QUEUE OF ITS OWN

-- a seat that takes an item at once has not ended, and owes it
pub takes_now : (ended : Bool) (owing : ℕ) → 0 < cond ended 0 owing → (ended ≡ false) × (0 < owing)
takes_now true owing takes = absurd (omega (arith, takes))
takes_now false owing takes = (refl, takes)

-- it takes none where it has ended or owes none
pub takes_none : (ended : Bool) (owing : ℕ) → cond ended 0 owing ≡ 0 → (ended ≡ true) ⊎ ((ended ≡ false) × (owing ≡ 0))
takes_none true owing none = inl refl
takes_none false owing none = inr (refl, none)

-- an item that is taken at once does not overflow
pub taken_fits : (lane : LaneView) → 0 < owing_of (Own lane) → overflows_at (Own lane) ≡ false
taken_fits lane takes =
    let now = takes_now lane.state.ended lane.state.owing takes in
    let some : nat_le lane.state.owing 0 ≡ false = let more = now.1 in grind (arith, nat_tests) in
    ap (λ b. not lane.state.ended && (b && overfills lane.state.policy.strategy (length lane.state.items))) some ∙ and_false (not lane.state.ended)

-- one that fits and is not owed finds room
pub room_for : (ended : Bool) (owing : ℕ) (over : Bool) → (not ended && (nat_le owing 0 && over)) ≡ false → ended ≡ false → owing ≡ 0 → over ≡ false
room_for true owing over fits open_now none = cc
room_for false owing over fits open_now none =
    let zero_owed : nat_le owing 0 ≡ true = grind (arith, nat_tests) in
    sym (ap (λ b. b && over) zero_owed) ∙ fits
