-- The stream of an event sink is an account.
use Rattle.std.proofs.Common.{◌≡◌, ℕ, zero, suc, ◌+◌, ◌-◌, ◌<◌, ◌≤◌, ◌^◌, ◌==◌, ◌||◌, Bool, true, false, cond, nat_lt, List, [], ◌∷◌, ◌++◌, Option, None, Some, refl, sym, ap, ◌∙◌, subst, add-one, arith}
use Rattle.std.proofs.lemmas.Bool.Decides.{nat_tests}
use Rattle.rx_note.specs.declared.item.Item.{Item}
use Rattle.rx_note.specs.declared.note.Note.{Note}
use Rattle.rx_note.specs.declared.note.Note.TheVariants.{Next, Completed, Failed}
use Rattle.rx_proto.specs.LineFeeds.{HasNoLf}
use Rattle.rx_http.specs.Accounts.{AreCounted, BeginsWithId, ComesBehind, events_of, last_of}
use Rattle.rx_http.specs.Laws.{ArePieces, Event, Heartbeat, IsPlace, Piece, Retry}
use Rattle.rx_http.specs.Reading.{read, reader_with}
use Rattle.rx_http.specs.declared.request.begin.Begin.{Begin}
use Rattle.rx_http.specs.declared.request.begin.Begin.TheVariants.{Fresh, Behind, Restarted}
use Rattle.rx_http.specs.declared.stream_event.StreamEvent.{StreamEvent}
use Rattle.rx_http.specs.declared.stream_event.StreamEvent.TheVariants as events
use Rattle.rx_http.proofs.Accounting.{id_is_account}
use Rattle.rx_events.specs.Hearing.{AreNotes, IsBegin, StreamIsAccount, stream_events, stream_pieces}
use Rattle.rx_events.specs.Telling.{begin_events, count_to, is_overflow, is_seed, item_events, left_out, notes_events, pieces_of, standing_at, standing_behind}
use Rattle.rx_events.specs.declared.standing.Standing.{Standing}
use Rattle.rx_events.specs.Written.{without_heartbeats}
use Rattle.rx_events.proofs.Written.{pieces-append}

-- THE PIECES ARE SUCH

-- so many items are left out before this one, or none are told
abbrev LeftFits : Option ℕ → Item → Type 0
LeftFits None item = Unit {0}
LeftFits (Some left) item = left ≤ item.place

left-fits : (s : Standing) (item : Item) → LeftFits (left_out s item) item
left-fits s item =
    let count = count_to s.known in
    elim (is_seed item || s.fresh) as (λ b. LeftFits (cond b (Some 0) (cond (nat_lt item.place count) None (Some (item.place - count)))) item) [
      | true ↦ omega arith
      | false ↦ elim (nat_lt item.place count) as (λ b. LeftFits (cond b None (Some (item.place - count))) item) [ true ↦ tt | false ↦ omega arith ]
    ]

item-pieces : (left : Option ℕ) (item : Item) → item.place < 2 ^ 32 → HasNoLf item.text → LeftFits left item → ArePieces (pieces_of (item_events left item))
item-pieces None item few none fits = tt
item-pieces (Some left) item few none fits =
    let next : List StreamEvent = events.Next (record { ref_ptr = (0, 0); now = item }) ∷ [] in
    elim (left == 0) as (λ b. ArePieces (pieces_of (cond b next (events.Missed left (item.place - 1) ∷ next)))) [
      | true ↦ ((few, none), tt)
      | false ↦ ((omega arith, omega arith), ((few, none), tt))
    ]

both-pieces : (xs ys : List StreamEvent) → ArePieces (pieces_of xs) → ArePieces (pieces_of ys) → ArePieces (pieces_of (xs ++ ys))
both-pieces [] ys p q = q
both-pieces (x ∷ xs) ys p q = (p.0, both-pieces xs ys p.1 q)

known-fits : (s : Standing) (item : Item) → item.place < 2 ^ 32 → IsPlace s.known → IsPlace (standing_behind s item).known
known-fits s item few fits =
    elim (left_out s item) as (λ left. IsPlace (elim left as (λ l. Standing) [ None ↦ s | Some n ↦ cond (is_seed item) s (record { known = Some item.place; fresh = false; bounded = s.bounded }) ]).known) [
      | None ↦ fits
      | Some n ↦ elim (is_seed item) as (λ b. IsPlace (cond b s (record { known = Some item.place; fresh = false; bounded = s.bounded })).known) [ true ↦ fits | false ↦ few ]
    ]

notes-pieces : (s : Standing) (notes : List Note) → IsPlace s.known → AreNotes notes → ArePieces (pieces_of (notes_events s notes))
notes-pieces s [] fits are = tt
notes-pieces s (Next item ∷ notes) fits are =
    both-pieces (item_events (left_out s item) item) (notes_events (standing_behind s item) notes)
    (item-pieces (left_out s item) item are.0.0 are.0.1 (left-fits s item))
    (notes-pieces (standing_behind s item) notes (known-fits s item are.0.0 fits) are.1)
notes-pieces s (Completed ∷ notes) fits are = (fits, notes-pieces s notes fits (subst AreNotes (sym are) tt))
notes-pieces s (Failed text ∷ notes) fits are =
    let rest = notes-pieces s notes fits (subst AreNotes (sym are.1) tt) in
    let failed : List StreamEvent = events.Failed (record { ref_ptr = (0, 0); now = text }) s.known ∷ [] in
    elim (is_overflow s.bounded text) as (λ b. ArePieces (pieces_of (cond b (events.Overflowed ∷ []) failed ++ notes_events s notes))) [
      | true ↦ (tt, rest)
      | false ↦ ((are.0, fits), rest)
    ]

-- THEY ARE COUNTED

last-known : (known : Option ℕ) → known ≡ last_of (count_to known)
last-known None = refl
last-known (Some place) = rw add-one refl

last-before : (n : ℕ) → (n ≡ 0 → ⊥) → Some (n - 1) ≡ last_of n
last-before zero some = absurd (some refl)
last-before (suc n) some = ap Some (omega arith)

item-counted : (s : Standing) (item : Item) (more : List StreamEvent) (seed fresh below none : Bool) → is_seed item ≡ seed → s.fresh ≡ fresh
    → nat_lt item.place (count_to s.known) ≡ below → (item.place - count_to s.known == 0) ≡ none
    → AreCounted (count_to (standing_behind s item).known) more → AreCounted (count_to s.known) (item_events (left_out s item) item ++ more)
item-counted s item more true true below none a b c d rest = simp (a, b) (simp (a, b) at rest)
item-counted s item more true false below none a b c d rest = simp (a, b) (simp (a, b) at rest)
item-counted s item more false true below none a b c d rest = simp (a, b) (simp (a, b) at rest)
item-counted s item more false false true none a b c d rest = simp (a, b, c) (simp (a, b, c) at rest)
item-counted s item more false false false true a b c d rest = simp (a, b, c, d) (simp (a, b, c) at rest)
item-counted s item more false false false false a b c d rest =
    let count = count_to s.known in
    let sum : count + (item.place - count) ≡ item.place = grind (arith, nat_tests) in
    let some : item.place ≡ 0 → ⊥ = λ zero. absurd (grind (arith, nat_tests)) in
    simp (a, b, c, d) (last-before item.place some ∙ ap last_of (sym sum), simp (a, b, c) at rest)

notes-counted : (s : Standing) (notes : List Note) → AreNotes notes → AreCounted (count_to s.known) (notes_events s notes)
notes-counted s [] are = tt
notes-counted s (Next item ∷ notes) are =
    item-counted s item (notes_events (standing_behind s item) notes) (is_seed item) s.fresh (nat_lt item.place (count_to s.known)) (item.place - count_to s.known == 0) refl refl refl refl
    (notes-counted (standing_behind s item) notes are.1)
notes-counted s (Completed ∷ notes) are = (last-known s.known, ap (notes_events s) are)
notes-counted s (Failed text ∷ notes) are =
    let failed : List StreamEvent = events.Failed (record { ref_ptr = (0, 0); now = text }) s.known ∷ [] in
    elim (is_overflow s.bounded text) as (λ b. AreCounted (count_to s.known) (cond b (events.Overflowed ∷ []) failed ++ notes_events s notes)) [
      | true ↦ notes-counted s notes (subst AreNotes (sym are.1) tt)
      | false ↦ (last-known s.known, ap (notes_events s) are.1)
    ]

-- WITH THE BEGIN

known-begun : (begin : Begin) (bounded : Bool) → IsBegin begin → IsPlace (standing_at begin bounded).known
known-begun Fresh bounded is = tt
known-begun (Behind place) bounded is = is
known-begun (Restarted id) bounded is = tt

begin-pieces : (begin : Begin) (bounded : Bool) (who : ℕ) → IsBegin begin → who < 2 ^ 32 → ArePieces (pieces_of (begin_events begin (standing_at begin bounded).known who))
begin-pieces Fresh bounded who is few = ((few, tt), tt)
begin-pieces (Behind place) bounded who is few = ((few, is), tt)
begin-pieces (Restarted id) bounded who is few = ((is.0, is.1), ((few, tt), tt))

begin-counted : (begin : Begin) (bounded : Bool) (who : ℕ) (more : List StreamEvent) → AreCounted (count_to (standing_at begin bounded).known) more
    → AreCounted (count_to (standing_at begin bounded).known) (begin_events begin (standing_at begin bounded).known who ++ more)
begin-counted Fresh bounded who more counted = (refl, counted)
begin-counted (Behind place) bounded who more counted = (last-known place, counted)
begin-counted (Restarted id) bounded who more counted = (refl, (refl, counted))

begins-with : (begin : Begin) (known : Option ℕ) (who : ℕ) (more : List StreamEvent) → BeginsWithId (begin_events begin known who ++ more)
begins-with Fresh known who more = tt
begins-with (Behind place) known who more = tt
begins-with (Restarted id) known who more = tt

of-pieces : (xs : List StreamEvent) → events_of (pieces_of xs) ≡ xs
of-pieces [] = refl
of-pieces (x ∷ xs) = ap (λ l. x ∷ l) (of-pieces xs)

-- WITH HEARTBEATS BETWEEN THEM

beaten-pieces : (beaten : List Piece) → ArePieces (without_heartbeats beaten) → ArePieces beaten
beaten-pieces [] are = tt
beaten-pieces (Event event ∷ beaten) are = (are.0, beaten-pieces beaten are.1)
beaten-pieces (Retry ms ∷ beaten) are = (are.0, beaten-pieces beaten are.1)
beaten-pieces (Heartbeat ∷ beaten) are = beaten-pieces beaten are

beaten-events : (beaten : List Piece) → events_of (without_heartbeats beaten) ≡ events_of beaten
beaten-events [] = refl
beaten-events (Event event ∷ beaten) = ap (λ l. event ∷ l) (beaten-events beaten)
beaten-events (Retry ms ∷ beaten) = beaten-events beaten
beaten-events (Heartbeat ∷ beaten) = beaten-events beaten

pub stream_is_account : StreamIsAccount
stream_is_account = record {
  pieces = λ begin bounded who notes.
      let s = standing_at begin bounded in
      ap (λ l. Retry 1000 ∷ l) (sym (pieces-append (begin_events begin s.known who) (notes_events s notes)));
  account = λ epoch before come back begin bounded who notes beaten is is_begin few are same cut.
      let s = standing_at begin bounded in
      let first = begin_events begin s.known who in
      let rest = notes_events s notes in
      let all = stream_events begin bounded who notes in
      let P : List StreamEvent → Type 0 = λ l. ComesBehind epoch before (count_to s.known) l (read come (reader_with before)) in
      let such : ArePieces (stream_pieces begin bounded who notes) = (omega arith, both-pieces first rest (begin-pieces begin bounded who is_begin few) (notes-pieces s notes (known-begun begin bounded is_begin) are)) in
      let events : events_of beaten ≡ all = sym (beaten-events beaten) ∙ ap events_of same ∙ of-pieces all in
      let counted : AreCounted (count_to s.known) all = begin-counted begin bounded who rest (notes-counted s notes are) in
      subst P events
      (id_is_account epoch before come back (count_to s.known) beaten is (beaten-pieces beaten (subst ArePieces (sym same) such))
      (subst (AreCounted (count_to s.known)) (sym events) counted)
      (subst BeginsWithId (sym events) (begins-with begin s.known who rest)) cut);
}
