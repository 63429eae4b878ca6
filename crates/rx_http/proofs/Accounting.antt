-- The id of the last event that a reader was told is that of what it knows.
use Rattle.std.proofs.Common.{◌≡◌, ℕ, ◌+◌, ◌==◌, Bool, true, false, cond, List, [], ◌∷◌, ◌++◌, Option, None, Some, refl, sym, ap, ◌∙◌, subst, add-one}
use Rattle.rx_note.specs.declared.item.Item.{Item}
use Rattle.rx_http.specs.Accounts.{AreCounted, BeginsWithId, HeardIsKnown, IdIsAccount, events_of, has_end, heard_by, id_by, known_behind, last_of, messages_by}
use Rattle.rx_http.specs.Events.{saying_of}
use Rattle.rx_http.specs.Ids.{id_bytes}
use Rattle.rx_http.specs.Laws.{Event, Heartbeat, Piece, Retry, id_behind, last_id_of, message_of, messages_of}
use Rattle.rx_http.specs.Reading.{Message}
use Rattle.rx_http.specs.Resuming.{Seeded, Told, account}
use Rattle.rx_http.specs.declared.stream_event.StreamEvent.{StreamEvent}
use Rattle.rx_http.specs.declared.stream_event.StreamEvent.TheVariants as events
use Rattle.rx_http.proofs.Cutting.{cut_stream_is_a_front}

-- WHICH EVENTS WERE TOLD

by_events : (epoch before : List ℕ) (pieces : List Piece) → messages_of epoch before pieces ≡ messages_by epoch before (events_of pieces)
by_events epoch before [] = refl
by_events epoch before (Event event ∷ pieces) =
    ap (λ l. message_of before (saying_of epoch event) ∷ l) (by_events epoch (id_behind before (saying_of epoch event).id) pieces)
by_events epoch before (Retry ms ∷ pieces) = by_events epoch before pieces
by_events epoch before (Heartbeat ∷ pieces) = by_events epoch before pieces

-- a front of the messages is that of a front of the events
abbrev IsFront : List ℕ → List ℕ → List StreamEvent → List Message → Type 0
IsFront epoch before all messages = (heard : List StreamEvent) × (rest : List StreamEvent) × (all ≡ heard ++ rest) × (messages ≡ messages_by epoch before heard)

front-of : (epoch before : List ℕ) (all : List StreamEvent) (messages rest : List Message) → messages_by epoch before all ≡ messages ++ rest → IsFront epoch before all messages
front-of epoch before all [] rest same = ([], all, refl, refl)
front-of epoch before [] (message ∷ messages) rest same = cc
front-of epoch before (event ∷ all) (message ∷ messages) rest same =
    let id = id_behind before (saying_of epoch event).id in
    let first : message_of before (saying_of epoch event) ≡ message = cc in
    let others : messages_by epoch id all ≡ messages ++ rest = cc in
    let more = front-of epoch id all messages rest others in
    let told : (message ∷ messages) ≡ messages_by epoch before (event ∷ more.0) = cc (first, more.3) in
    (event ∷ more.0, more.1, ap (λ l. event ∷ l) more.2, told)

-- THE ID BEHIND THEM

id_after : List ℕ → List ℕ → List StreamEvent → List ℕ
id_after epoch before [] = before
id_after epoch before (event ∷ more) = id_after epoch (id_behind before (saying_of epoch event).id) more

last-after : (epoch before : List ℕ) (heard : List StreamEvent) → last_id_of before (messages_by epoch before heard) ≡ id_after epoch before heard
unfolding id_after
last-after epoch before [] = refl
last-after epoch before (event ∷ more) = last-after epoch (id_behind before (saying_of epoch event).id) more

-- where the first event has an id, it doesn't matter which was known before
first-after : (epoch before inner : List ℕ) (heard : List StreamEvent) → BeginsWithId heard → last_id_of before (messages_by epoch inner heard) ≡ id_after epoch before heard
unfolding id_after
first-after epoch before inner [] begins = refl
first-after epoch before inner (events.Joined who place ∷ more) begins = last-after epoch (id_bytes epoch place false) more
first-after epoch before inner (events.Restarted sent ∷ more) begins = last-after epoch (id_bytes epoch None false) more
first-after epoch before inner (events.Next item ∷ more) begins = absurd begins
first-after epoch before inner (events.Missed count last ∷ more) begins = absurd begins
first-after epoch before inner (events.Completed place ∷ more) begins = absurd begins
first-after epoch before inner (events.Failed text place ∷ more) begins = absurd begins
first-after epoch before inner (events.Overflowed ∷ more) begins = absurd begins

begins-front : (heard rest : List StreamEvent) → BeginsWithId (heard ++ rest) → BeginsWithId heard
begins-front [] rest begins = tt
begins-front (events.Joined who place ∷ more) rest begins = tt
begins-front (events.Restarted sent ∷ more) rest begins = tt
begins-front (events.Next item ∷ more) rest begins = absurd begins
begins-front (events.Missed count last ∷ more) rest begins = absurd begins
begins-front (events.Completed place ∷ more) rest begins = absurd begins
begins-front (events.Failed text place ∷ more) rest begins = absurd begins
begins-front (events.Overflowed ∷ more) rest begins = absurd begins

-- IT IS THAT OF WHAT IS KNOWN

none-front : (heard rest : List StreamEvent) → heard ++ rest ≡ [] → heard ≡ []
none-front [] rest none = refl
none-front (event ∷ heard) rest none = cc

counted-front : (known : ℕ) (heard rest : List StreamEvent) → AreCounted known (heard ++ rest) → AreCounted known heard
counted-front known [] rest counted = tt
counted-front known (events.Joined who place ∷ more) rest counted = (counted.0, counted-front known more rest counted.1)
counted-front known (events.Next item ∷ more) rest counted = counted-front _ more rest counted
counted-front known (events.Missed count last ∷ more) rest counted = (counted.0, counted-front (known + count) more rest counted.1)
counted-front known (events.Restarted sent ∷ more) rest counted = (counted.0, counted-front known more rest counted.1)
counted-front known (events.Completed place ∷ more) rest counted = (counted.0, none-front more rest counted.1)
counted-front known (events.Failed text place ∷ more) rest counted = (counted.0, none-front more rest counted.1)
counted-front known (events.Overflowed ∷ more) rest counted = counted-front known more rest counted

abbrev Counts : List ℕ → ℕ → List StreamEvent → Type 0
Counts epoch known heard = id_after epoch (id_bytes epoch (last_of known) false) heard ≡ id_bytes epoch (last_of (known_behind known heard)) (has_end heard)

-- an item's place is the last of those known behind it
place-last : (place : ℕ) → Some place ≡ last_of (place + 1)
place-last place = rw (add-one) refl

counts-next : (seed : Bool) (epoch : List ℕ) (known : ℕ) (place : ℕ) (more : List StreamEvent) → ((k : ℕ) → AreCounted k more → Counts epoch k more)
    → AreCounted (cond seed known (place + 1)) more
    → id_after epoch (id_behind (id_bytes epoch (last_of known) false) (cond seed None (Some (id_bytes epoch (Some place) false)))) more
    ≡ id_bytes epoch (last_of (known_behind (cond seed known (place + 1)) more)) (has_end more)
counts-next true epoch known place more counts counted = counts known counted
counts-next false epoch known place more counts counted =
    ap (λ p. id_after epoch (id_bytes epoch p false) more) (place-last place) ∙ counts (place + 1) counted

-- behind an end there is nothing
counts-end : (epoch : List ℕ) (known : ℕ) (place : Option ℕ) (more : List StreamEvent) → place ≡ last_of known → more ≡ []
    → id_after epoch (id_bytes epoch place true) more ≡ id_bytes epoch (last_of (known_behind known more)) true
unfolding id_after
counts-end epoch known place [] is none = ap (λ p. id_bytes epoch p true) is
counts-end epoch known place (event ∷ more) is none = cc

counts : (epoch : List ℕ) (known : ℕ) (heard : List StreamEvent) → AreCounted known heard → Counts epoch known heard
unfolding id_after
counts epoch known [] counted = refl
counts epoch known (events.Joined who place ∷ more) counted =
    ap (λ p. id_after epoch (id_bytes epoch p false) more) counted.0 ∙ counts epoch known more counted.1
counts epoch known (events.Next item ∷ more) counted =
    counts-next (item.now.place == 4294967295) epoch known item.now.place more (λ k. counts epoch k more) counted
counts epoch known (events.Missed count last ∷ more) counted =
    ap (λ p. id_after epoch (id_bytes epoch p false) more) counted.0 ∙ counts epoch (known + count) more counted.1
counts epoch known (events.Restarted sent ∷ more) counted =
    ap (λ p. id_after epoch (id_bytes epoch p false) more) counted.0 ∙ counts epoch known more counted.1
counts epoch known (events.Completed place ∷ more) counted = counts-end epoch known place more counted.0 counted.1
counts epoch known (events.Failed text place ∷ more) counted = counts-end epoch known place more counted.0 counted.1
counts epoch known (events.Overflowed ∷ more) counted = counts epoch known more counted

by-known : (epoch before : List ℕ) (known : ℕ) (heard : List StreamEvent) → BeginsWithId heard → AreCounted known heard
    → last_id_of before (messages_by epoch [] heard) ≡ id_by epoch before known heard
by-known epoch before known [] begins counted = refl
by-known epoch before known (event ∷ more) begins counted =
    first-after epoch (id_bytes epoch (last_of known) false) [] (event ∷ more) begins ∙ counts epoch known (event ∷ more) counted

pub id_is_account : IdIsAccount
id_is_account epoch before come back known pieces is are counted begins cut =
    let told = cut_stream_is_a_front epoch before come back pieces is are cut in
    let front = front-of epoch [] (events_of pieces) _ told.rest (sym (by_events epoch [] pieces) ∙ told.front) in
    record {
      heard = front.0;
      rest = front.1;
      front = front.2;
      told = front.3;
      last_id =
          told.last_id ∙ ap (last_id_of before) front.3
          ∙ by-known epoch before known front.0 (begins-front front.0 front.1 (subst BeginsWithId front.2 begins))
          (counted-front known front.0 front.1 (subst (AreCounted known) front.2 counted));
    }

-- WHAT IS HEARD COMES TO IT

known-next : (seed here : Bool) (known next : ℕ) (item : Item) (more : List StreamEvent) → (item.place == known) ≡ here
    → ((k : ℕ) → account k (heard_by more) ≡ Some next → next ≡ known_behind k more)
    → account known (cond seed (Seeded item) (Told item) ∷ heard_by more) ≡ Some next → next ≡ known_behind (cond seed known (item.place + 1)) more
known-next true here known next item more is rest heard = rest known heard
known-next false here known next item more is rest heard = told here is heard
  where
    told : (b : Bool) → (item.place == known) ≡ b → cond (item.place == known) (account (item.place + 1) (heard_by more)) None ≡ Some next → next ≡ known_behind (item.place + 1) more
    told true is heard = rest (item.place + 1) (ap (λ b. cond b (account (item.place + 1) (heard_by more)) None) (sym is) ∙ heard)
    told false is heard = cc (ap (λ b. cond b (account (item.place + 1) (heard_by more)) None) (sym is) ∙ heard)

some-same : (a b : ℕ) → Some a ≡ Some b → b ≡ a
some-same a b same = cc

pub heard_is_known : HeardIsKnown
heard_is_known known next [] heard = some-same known next heard
heard_is_known known next (events.Joined who place ∷ more) heard = heard_is_known known next more heard
heard_is_known known next (events.Next item ∷ more) heard =
    known-next (item.now.place == 4294967295) (item.now.place == known) known next item.now more refl (λ k. heard_is_known k next more) heard
heard_is_known known next (events.Missed count last ∷ more) heard = heard_is_known (known + count) next more heard
heard_is_known known next (events.Restarted sent ∷ more) heard = heard_is_known known next more heard
heard_is_known known next (events.Completed place ∷ more) heard = heard_is_known known next more heard
heard_is_known known next (events.Failed text place ∷ more) heard = heard_is_known known next more heard
heard_is_known known next (events.Overflowed ∷ more) heard = heard_is_known known next more heard
