-- Several observers on one tape: what contracts see of them, and how their cursors stand.
use Rattle.std.specs.Prelude.{◌≡◌, ◌<◌, ℕ, max, Bool, false, List, [], ◌∷◌, ◌++◌, map, length, get_or, Option, None, Some}
use Rattle.std.specs.List.{All}
use Rattle.rx_note.specs.declared.given.Given.{Given}
use Rattle.rx_note.specs.declared.item.Item.{Item}
use Rattle.rx_history.specs.Histories.{addressed}
use Rattle.rx_tape.specs.Tapes.{TapeState}
use Rattle.rx_tape.specs.Tapes as tapes
use Rattle.rx_lane.specs.Lanes.{MayBeSent}
use Rattle.rx_hub.specs.declared.seat.Seat.{Seat}
use Rattle.rx_hub.specs.declared.subscription.Subscription.{Subscription}
use Rattle.rx_hub.specs.Seats.{lane_of, cursor_of, owing_of, TakesMore, overflows_at, Stands, given_now, IsIdle, HoldsAside}
use Rattle.rx_hub.specs.Subscriptions.{Observer}

-- an observer's number and its seat
pub record Place : Type 0 where
  pub who : ℕ
  pub seat : Seat

-- the place of a subscription
abbrev pub place_of : Subscription → Place
place_of subscription = record { who = subscription.who; seat = subscription.seat }

-- the places of several
abbrev pub places_of : List Subscription → List Place
places_of subscriptions = map place_of subscriptions

-- the observer at a place, over the items of the tape
abbrev pub observer_on : List Item → Place → Observer
observer_on items place = record { who = place.who; lane = lane_of items place.seat }

-- the observers at several
abbrev pub observers_on : List Item → List Place → List Observer
observers_on items places = map (observer_on items) places

-- nothing is made ready for any of several: so it is between two steps
abbrev pub AllIdle : List Subscription → Type 0
AllIdle subscriptions = All (λ subscription. IsIdle subscription.ready) subscriptions

-- at most copies for queues of their own are
abbrev pub AllAside : List Subscription → Type 0
AllAside subscriptions = All (λ subscription. HoldsAside subscription.seat subscription.ready) subscriptions

-- each seat stands on the tape
abbrev pub AllOn : TapeState → Bool → List Place → Type 0
AllOn tape offered places = All (λ place. Stands tape offered place.seat) places

-- each of them is owed an item
abbrev pub AllOwed : List Place → Type 0
AllOwed places = All (λ place. 0 < owing_of place.seat) places

-- the subject may send more to each of them
abbrev pub AllTakeMore : List Place → Type 0
AllTakeMore places = All (λ place. TakesMore place.seat) places

-- the same, told by the observers
abbrev pub AllOpen : List Observer → Type 0
AllOpen observers = All (λ observer. MayBeSent observer.lane.policy observer.lane.ended) observers

-- an item that is offered now overflows at none of them
abbrev pub AllFit : List Place → Type 0
AllFit places = All (λ place. overflows_at place.seat ≡ false) places

-- what an item that is offered to several, and fits, gives at once, by rising place
abbrev pub gifts : Item → List Place → List Given
gifts item [] = []
gifts item (place ∷ places) = addressed place.who (given_now place.seat item) ++ gifts item places

-- the cursors of several places
abbrev pub cursors : List Place → List (Option ℕ)
cursors places = map (λ place. cursor_of place.seat) places

-- no two places have one cursor
abbrev pub Apart : List Place → Type 0
Apart places = (j k cursor : ℕ) → get_or (cursors places) j None ≡ Some cursor → get_or (cursors places) k None ≡ Some cursor → j ≡ k

-- each cursor on the tape is that of a place
abbrev pub Owned : TapeState → List Place → Type 0
Owned tape places = (cursor at : ℕ) → tapes.place_of tape.places cursor ≡ Some at → (k : ℕ) × (get_or (cursors places) k None ≡ Some cursor)

-- the most items that wait for one of several observers
abbrev pub most_waiting : List Observer → ℕ
most_waiting [] = 0
most_waiting (observer ∷ observers) = max (length observer.lane.items) (most_waiting observers)

-- the items of the tape and the observers
pub record AudienceState : Type 0 where
  pub items : List Item
  pub observers : List Observer

-- no item and no observer
abbrev pub audience_at_first : AudienceState
audience_at_first = record { items = []; observers = [] }
