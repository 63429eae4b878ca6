-- Writing the events of a note.
use Rattle.std.proofs.Common.{◌≡◌, ℕ, ◌-◌, cond, List, [], ◌∷◌, Option, Some, Result, sym, ap, ◌∙◌, append-nil}
use Rattle.std.proofs.lemmas.Bool.{ne_eqb}
use Rattle.std.specs.Io.KnownBytes.{Appends}
use Rattle.std.specs.Result.{IsErr}
use Rattle.rx_proto.specs.Bytes.{AppendsPrefix, Writes}
use Rattle.rx_http.specs.Events.{event_bytes}
use Rattle.rx_http.specs.declared.stream_event.StreamEvent.{StreamEvent}
use Rattle.rx_proto.proofs.Writes.{Writes-as, Writes-fault, Writes-then}
use Rattle.rx_note.specs.declared.item.Item.{Item}
use Rattle.rx_http.specs.declared.stream_event.StreamEvent.TheVariants.{Missed, Next}
use Rattle.rx_events.specs.Telling.{item_events, told_bytes}

-- a call that writes one event
pub one-writes : {T E : Type 0} (result : Result T E) (old new : Option (List ℕ)) (epoch : List ℕ) (event : StreamEvent)
    → Writes result old new (event_bytes epoch event) → Writes result old new (told_bytes epoch (event ∷ []))
one-writes result old new epoch event writes = Writes-as result old new (event_bytes epoch event) _ (sym (append-nil (event_bytes epoch event))) writes

-- a call that writes one behind another
pub two-writes : {T E : Type 0} (result : Result T E) (old mid new : Option (List ℕ)) (epoch : List ℕ) (first second : StreamEvent)
    → Appends old mid (event_bytes epoch first) → Writes result mid new (event_bytes epoch second) → Writes result old new (told_bytes epoch (first ∷ second ∷ []))
two-writes result old mid new epoch first second told writes =
    Writes-then result old mid new (event_bytes epoch first) (told_bytes epoch (second ∷ [])) told (one-writes result mid new epoch second writes)

-- a call that ended by a fault in the first of two
pub two-fault : {T E : Type 0} (result : Result T E) (old new : Option (List ℕ)) (epoch : List ℕ) (first second : StreamEvent)
    → IsErr result → AppendsPrefix old new (event_bytes epoch first) → Writes result old new (told_bytes epoch (first ∷ second ∷ []))
two-fault result old new epoch first second fault front =
    Writes-fault result old new (event_bytes epoch first) (told_bytes epoch (second ∷ [])) fault front

-- the events of an item behind some that are left out
pub left-events : (count last : ℕ) (item : Item) → (count ≡ 0 → ⊥) → last ≡ item.place - 1
    → Missed count last ∷ Next (record { ref_ptr = (0, 0); now = item }) ∷ [] ≡ item_events (Some count) item
left-events count last item some is =
    let next : List StreamEvent = Next (record { ref_ptr = (0, 0); now = item }) ∷ [] in
    ap (λ n. Missed count n ∷ next) is ∙ sym (ap (λ b. cond b next (Missed count (item.place - 1) ∷ next)) (ne_eqb count 0 some))
