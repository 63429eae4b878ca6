-- The places of several observers: how their cursors stand as one of them moves, joins or leaves.
use Rattle.std.proofs.Common.{◌≡◌, ◌≢◌, ◌⊎◌, ℕ, suc, zero, ◌+◌, ◌<◌, ◌≤◌, Bool, false, List, [], ◌∷◌, ◌++◌, length, map, take, drop, get_or, set, Option, None, Some, inl, inr, cond, not, is_some, option_to_list, nat_lt, position, refl, sym, ap, subst, ◌∙◌, arith}
use Rattle.std.specs.List.{AllWithin, position_or_len}
use Rattle.std.proofs.Math.Seq.{map-set_same}
use Rattle.std.proofs.lemmas.Bool.{cases_lt}
use Rattle.std.proofs.lemmas.List.{map-append, length-map, length-set, map-set, set-get_or, get_or-map, get_or-set_same, get_or-set_other}
use Rattle.std.proofs.lemmas.List.Elements.{All-push}
use Rattle.rx_note.specs.declared.item.Item.{Item}
use Rattle.rx_tape.specs.Tapes.{TapeState, trimmed}
use Rattle.rx_tape.specs.Tapes as tapes
use Rattle.rx_hub.specs.declared.seat.Seat.{Seat}
use Rattle.rx_hub.specs.declared.seat.Seat.TheVariants.{Shared, Own}
use Rattle.rx_hub.specs.declared.subscription.Subscription.{Subscription}
use Rattle.rx_hub.specs.Seats.{cursor_of, Stands, Leaves}
use Rattle.rx_hub.specs.Subscriptions.{Observer}
use Rattle.rx_hub.specs.Audiences.{Place, place_of, places_of, observer_on, observers_on, AllOn, cursors, Apart}
use Rattle.rx_subject.specs.TapeSubjects.{pushed_all}
use Rattle.rx_hub.proofs.Seats.{unmoved, offered_on, trimmed_seat, trimmed_lane}

-- the cursor at a place
pub cursor-at : (places : List Place) (k : ℕ) (d : Place) → k < length places → get_or (cursors places) k None ≡ cursor_of (get_or places k d).seat
cursor-at places k d lt = get_or-map (λ (p : Place). cursor_of p.seat) places k d None lt

-- other places have other cursors
pub away : (places : List Place) (j k : ℕ) (d e : Place) → Apart places → j < length places → k < length places → j ≢ k
    → (cursor : ℕ) → cursor_of (get_or places k d).seat ≡ Some cursor → cursor_of (get_or places j e).seat ≢ Some cursor
away places j k d e apart lt_j lt_k differ cursor is other = differ (apart j k cursor (cursor-at places j e lt_j ∙ other) (cursor-at places k d lt_k ∙ is))

-- places with the same cursors are as far apart
pub apart_same : (olds news : List Place) → cursors news ≡ cursors olds → Apart olds → Apart news
apart_same olds news same apart = λ j k cursor is_j is_k.
    apart j k cursor (ap (λ cs. get_or cs j None) (sym same) ∙ is_j) (ap (λ cs. get_or cs k None) (sym same) ∙ is_k)

-- ONE OF THEM MOVES

-- those before the i-th have been offered the last item of the tape, and the others have not
pub record Turning (tape : TapeState) (offered : Bool) (places : List Place) (i : ℕ) : Type 0 where
  pub done : AllWithin (λ (p : Place). Stands tape false p.seat) places 0 i
  pub left : AllWithin (λ (p : Place). Stands tape offered p.seat) places i (length places)

others_stand : (old new : TapeState) (offered : Bool) (places : List Place) (i k : ℕ) (before after d : Place) → Apart places → i < length places → k < length places → i ≢ k
    → before ≡ get_or places i before → Leaves old new (cursor_of before.seat) → Stands old offered (get_or places k d).seat → Stands new offered (get_or (set places i after) k d).seat
others_stand old new offered places i k before after d apart lt_i lt_k differ at leaves stands =
    let same : get_or (set places i after) k d ≡ get_or places k d = get_or-set_other places i k after d (λ e. differ (sym e)) in
    let moved = λ (cursor : ℕ) (is : cursor_of (get_or places k d).seat ≡ Some cursor) (e : cursor_of before.seat ≡ Some cursor).
    away places i k d before apart lt_i lt_k differ cursor is (ap (λ (p : Place). cursor_of p.seat) (sym at) ∙ e) in
    subst (λ (p : Place). Stands new offered p.seat) (sym same) (unmoved old new offered (cursor_of before.seat) (get_or places k d).seat leaves moved stands)

-- one turn more
pub Turning-more : (old new : TapeState) (offered : Bool) (places : List Place) (i : ℕ) (before after : Place) → Turning old offered places i → Apart places → i < length places
    → before ≡ get_or places i before → Leaves old new (cursor_of before.seat) → Stands new false after.seat → Turning new offered (set places i after) (i + 1)
Turning-more old new offered places i before after turning apart lt at leaves stands =
    let long = length-set places i after in
    record {
      done = λ k d low high.
          elim (cases_lt k i) [
            | inl less ↦ others_stand old new false places i k before after d apart lt (omega (arith, less, lt)) (omega (arith, less)) at leaves (turning.done k d (omega arith) less)
            | inr le ↦
                let same : k ≡ i = omega (arith, le, high) in
                let set_is : get_or (set places i after) k d ≡ after = ap (λ n. get_or (set places i after) n d) same ∙ get_or-set_same places i after d lt in
                subst (λ (p : Place). Stands new false p.seat) (sym set_is) stands
          ];
      left = λ k d low high.
          others_stand old new offered places i k before after d apart lt (omega (arith, high, long)) (omega (arith, low)) at leaves (turning.left k d (omega (arith, low)) (omega (arith, high, long)));
    }

-- WHAT IS REMOVED

pub trimmed_all : (tape : TapeState) (keep : ℕ) (places : List Place) → AllOn tape false places → AllOn (trimmed tape keep) false places
trimmed_all tape keep places all = λ k d lt. trimmed_seat tape keep (get_or places k d).seat (all k d lt)

pub trimmed_observers : (tape : TapeState) (keep : ℕ) (places : List Place) → AllOn tape false places → observers_on (trimmed tape keep).items places ≡ observers_on tape.items places
trimmed_observers tape keep [] all = refl
trimmed_observers tape keep (place ∷ places) all =
    let first : observer_on (trimmed tape keep).items place ≡ observer_on tape.items place =
    ap (λ lane. record { who = place.who; lane = lane }) (trimmed_lane tape keep place.seat (all 0 place (omega arith))) in
    ap (λ (o : Observer). o ∷ observers_on (trimmed tape keep).items places) first
    ∙ ap (λ (os : List Observer). observer_on tape.items place ∷ os) (trimmed_observers tape keep places (λ k d lt. all (suc k) d (omega (arith, lt))))

-- THE OBSERVER AT A PLACE

pub place-at : (subscriptions : List Subscription) (k : ℕ) (one : Subscription) (d : Place) → k < length subscriptions → one ≡ get_or subscriptions k one
    → get_or (places_of subscriptions) k d ≡ place_of one
place-at subscriptions k one d lt at = get_or-map place_of subscriptions k one d lt ∙ ap place_of (sym at)

pub observer-at : (items : List Item) (subscriptions : List Subscription) (k : ℕ) (one : Subscription) (d : Observer) → k < length subscriptions → one ≡ get_or subscriptions k one
    → get_or (observers_on items (places_of subscriptions)) k d ≡ observer_on items (place_of one)
observer-at items subscriptions k one d lt at =
    get_or-map (observer_on items) (places_of subscriptions) k (place_of one) d (omega (arith, lt, length-map subscriptions place_of))
    ∙ ap (observer_on items) (place-at subscriptions k one (place_of one) lt at)

pub observers-length : (items : List Item) (subscriptions : List Subscription) → length (observers_on items (places_of subscriptions)) ≡ length subscriptions
observers-length items subscriptions = length-map (places_of subscriptions) (observer_on items) ∙ length-map subscriptions place_of

-- ONE OF THEM IS ANOTHER

-- the tape changed by one of them alone
pub set_on : (old new : TapeState) (places : List Place) (i : ℕ) (before after : Place) → Apart places → i < length places
    → before ≡ get_or places i before → Leaves old new (cursor_of before.seat) → Stands new false after.seat → AllOn old false places → AllOn new false (set places i after)
set_on old new places i before after apart lt at leaves stands all =
    let long = length-set places i after in
    let turning : Turning old false places i = record {
      done = λ k d low high. all k d (omega (arith, high, lt));
      left = λ k d low high. all k d high;
    } in
    let turned = Turning-more old new false places i before after turning apart lt at leaves stands in
    λ k d within.
    elim (cases_lt k (i + 1)) [
      | inl less ↦ turned.done k d (omega arith) less
      | inr le ↦ turned.left k d le within
    ]

pub set_cursors : (places : List Place) (i : ℕ) (before after : Place) → before ≡ get_or places i before → cursor_of after.seat ≡ cursor_of before.seat
    → cursors (set places i after) ≡ cursors places
set_cursors places i before after at same = map-set_same (λ (p : Place). cursor_of p.seat) places i after before (same ∙ ap (λ (p : Place). cursor_of p.seat) at)

pub set_observers : (items later : List Item) (subscriptions : List Subscription) (k : ℕ) (new : Subscription) → later ≡ items
    → observers_on later (places_of (set subscriptions k new)) ≡ set (observers_on items (places_of subscriptions)) k (observer_on later (place_of new))
set_observers items later subscriptions k new same =
    ap (λ (xs : List Item). observers_on xs (places_of (set subscriptions k new))) same
    ∙ ap (observers_on items) (map-set place_of subscriptions k new)
    ∙ map-set (observer_on items) (places_of subscriptions) k (place_of new)
    ∙ ap (λ (xs : List Item). set (observers_on items (places_of subscriptions)) k (observer_on xs (place_of new))) (sym same)

pub set_unchanged : (items later : List Item) (subscriptions : List Subscription) (k : ℕ) (old new : Subscription) → later ≡ items → k < length subscriptions → old ≡ get_or subscriptions k old
    → observer_on later (place_of new) ≡ observer_on items (place_of old) → observers_on later (places_of (set subscriptions k new)) ≡ observers_on items (places_of subscriptions)
set_unchanged items later subscriptions k old new same lt at unchanged =
    let observers = observers_on items (places_of subscriptions) in
    let is = observer-at items subscriptions k old (observer_on items (place_of old)) lt at in
    set_observers items later subscriptions k new same
    ∙ ap (λ (o : Observer). set observers k o) (unchanged ∙ sym is)
    ∙ set-get_or observers k (observer_on items (place_of old))

-- ONE OF THEM LEAVES

left_below : {X : Type 0} (xs : List X) (k j : ℕ) (d : X) → j < k → get_or (take k xs ++ drop (suc k) xs) j d ≡ get_or xs j d
left_below xs zero j d lt = absurd (omega (arith, lt))
left_below [] (suc k) j d lt = refl
left_below (x ∷ xs) (suc k) zero d lt = refl
left_below (x ∷ xs) (suc k) (suc j) d lt = left_below xs k j d (omega (arith, lt))

left_above : {X : Type 0} (xs : List X) (k j : ℕ) (d : X) → k ≤ j → get_or (take k xs ++ drop (suc k) xs) j d ≡ get_or xs (suc j) d
left_above [] zero j d le = refl
left_above [] (suc k) j d le = refl
left_above (x ∷ xs) zero j d le = refl
left_above (x ∷ xs) (suc k) zero d le = absurd (omega (arith, le))
left_above (x ∷ xs) (suc k) (suc j) d le = left_above xs k j d (omega (arith, le))

left_length : {X : Type 0} (xs : List X) (k : ℕ) → k < length xs → length (take k xs ++ drop (suc k) xs) + 1 ≡ length xs
left_length [] k lt = absurd (omega (arith, lt))
left_length (x ∷ xs) zero lt = omega arith
left_length (x ∷ xs) (suc k) lt = let rest = left_length xs k (omega (arith, lt)) in omega (arith, rest)

-- one that stands at another place than the one that left
stays_on : (old new : TapeState) (places : List Place) (k m : ℕ) (gone d : Place) → Apart places → k < length places → m < length places → k ≢ m
    → gone ≡ get_or places k gone → Leaves old new (cursor_of gone.seat) → AllOn old false places → Stands new false (get_or places m d).seat
stays_on old new places k m gone d apart lt_k lt_m differ at leaves all =
    let moved = λ (cursor : ℕ) (is : cursor_of (get_or places m d).seat ≡ Some cursor) (e : cursor_of gone.seat ≡ Some cursor).
    away places k m d gone apart lt_k lt_m differ cursor is (ap (λ (p : Place). cursor_of p.seat) (sym at) ∙ e) in
    unmoved old new false (cursor_of gone.seat) (get_or places m d).seat leaves moved (all m d lt_m)

pub left_on : (old new : TapeState) (places : List Place) (k : ℕ) (gone : Place) → Apart places → k < length places
    → gone ≡ get_or places k gone → Leaves old new (cursor_of gone.seat) → AllOn old false places → AllOn new false (take k places ++ drop (suc k) places)
left_on old new places k gone apart lt at leaves all = λ j d lt_j.
    let long = left_length places k lt in
    elim (cases_lt j k) [
      | inl less ↦
          subst (λ (p : Place). Stands new false p.seat) (sym (left_below places k j d less))
          (stays_on old new places k j gone d apart lt (omega (arith, less, lt)) (omega (arith, less)) at leaves all)
      | inr le ↦
          subst (λ (p : Place). Stands new false p.seat) (sym (left_above places k j d le))
          (stays_on old new places k (suc j) gone d apart lt (omega (arith, lt_j, long)) (omega (arith, le)) at leaves all)
    ]

left_map : {A B : Type 0} (f : A → B) (xs : List A) (k : ℕ) → map f (take k xs ++ drop (suc k) xs) ≡ take k (map f xs) ++ drop (suc k) (map f xs)
left_map f [] zero = refl
left_map f [] (suc k) = refl
left_map f (x ∷ xs) zero = refl
left_map f (x ∷ xs) (suc k) = ap (λ ys. f x ∷ ys) (left_map f xs k)

pub left_places : (subscriptions : List Subscription) (k : ℕ) → places_of (take k subscriptions ++ drop (suc k) subscriptions) ≡ take k (places_of subscriptions) ++ drop (suc k) (places_of subscriptions)
left_places subscriptions k = left_map place_of subscriptions k

pub left_observers : (items : List Item) (places : List Place) (k : ℕ) → observers_on items (take k places ++ drop (suc k) places) ≡ take k (observers_on items places) ++ drop (suc k) (observers_on items places)
left_observers items places k = left_map (observer_on items) places k

pub left_cursors : (places : List Place) (k : ℕ) → cursors (take k places ++ drop (suc k) places) ≡ take k (cursors places) ++ drop (suc k) (cursors places)
left_cursors places k = left_map (λ (p : Place). cursor_of p.seat) places k

left_cursor : (cs : List (Option ℕ)) (k j cursor : ℕ) → get_or (take k cs ++ drop (suc k) cs) j None ≡ Some cursor
    → ((j < k) × (get_or cs j None ≡ Some cursor)) ⊎ ((k ≤ j) × (get_or cs (suc j) None ≡ Some cursor))
left_cursor cs k j cursor is =
    elim (cases_lt j k) [
      | inl less ↦ inl (less, sym (left_below cs k j None less) ∙ is)
      | inr le ↦ inr (le, sym (left_above cs k j None le) ∙ is)
    ]

pub left_apart : (places : List Place) (k : ℕ) → Apart places → Apart (take k places ++ drop (suc k) places)
left_apart places k apart = λ i j cursor is_i is_j.
    let same = left_map (λ (p : Place). cursor_of p.seat) places k in
    elim (left_cursor (cursors places) k i cursor (ap (λ cs. get_or cs i None) (sym same) ∙ is_i)) [
      | inl a ↦ elim (left_cursor (cursors places) k j cursor (ap (λ cs. get_or cs j None) (sym same) ∙ is_j)) [
        | inl b ↦ apart i j cursor a.1 b.1
        | inr b ↦ let e = apart i (suc j) cursor a.1 b.1 in omega (arith, e, a.0, b.0)
      ]
      | inr a ↦ elim (left_cursor (cursors places) k j cursor (ap (λ cs. get_or cs j None) (sym same) ∙ is_j)) [
        | inl b ↦ let e = apart (suc i) j cursor a.1 b.1 in omega (arith, e, a.0, b.0)
        | inr b ↦ let e = apart (suc i) (suc j) cursor a.1 b.1 in omega (arith, e)
      ]
    ]

-- ONE MORE JOINS

-- a cursor that stood nowhere is no other's
fresh_away : (tape : TapeState) (seat other : Seat) → ((cursor : ℕ) → cursor_of seat ≡ Some cursor → tapes.place_of tape.places cursor ≡ None) → Stands tape false other
    → (cursor : ℕ) → cursor_of other ≡ Some cursor → cursor_of seat ≢ Some cursor
fresh_away tape seat (Shared lane) fresh stands cursor is other =
    let same : lane.cursor ≡ cursor = cc in
    let none = fresh cursor other in
    let some = ap (tapes.place_of tape.places) (sym same) ∙ stands.place in
    absurd cc
fresh_away tape seat (Own lane) fresh stands cursor is other = absurd cc

pub joined_on : (old new : TapeState) (places : List Place) (one : Place) → ((cursor : ℕ) → cursor_of one.seat ≡ Some cursor → tapes.place_of old.places cursor ≡ None)
    → Leaves old new (cursor_of one.seat) → Stands new false one.seat → AllOn old false places → AllOn new false (places ++ one ∷ [])
joined_on old new places one fresh leaves stands all =
    All-push (λ (p : Place). Stands new false p.seat) places one
    (λ k d lt. unmoved old new false (cursor_of one.seat) (get_or places k d).seat leaves (fresh_away old one.seat (get_or places k d).seat fresh (all k d lt)) (all k d lt))
    stands

last_cursor : (cs : List (Option ℕ)) (last : Option ℕ) (j cursor : ℕ) → get_or (cs ++ last ∷ []) j None ≡ Some cursor
    → ((j < length cs) × (get_or cs j None ≡ Some cursor)) ⊎ ((j ≡ length cs) × (last ≡ Some cursor))
last_cursor [] last zero cursor is = inr (refl, is)
last_cursor [] last (suc j) cursor is = absurd cc
last_cursor (c ∷ cs) last zero cursor is = inl (omega arith, is)
last_cursor (c ∷ cs) last (suc j) cursor is =
    elim (last_cursor cs last j cursor is) [
      | inl a ↦ inl (omega (arith, a.0), a.1)
      | inr a ↦ inr (ap suc a.0, a.1)
    ]

-- the cursor of a place that stands
stood : (tape : TapeState) (places : List Place) (one : Place) (j cursor : ℕ) → ((cursor : ℕ) → cursor_of one.seat ≡ Some cursor → tapes.place_of tape.places cursor ≡ None)
    → AllOn tape false places → j < length (cursors places) → get_or (cursors places) j None ≡ Some cursor → cursor_of one.seat ≢ Some cursor
stood tape places one j cursor fresh all lt is =
    let within : j < length places = omega (arith, lt, length-map places (λ (p : Place). cursor_of p.seat)) in
    fresh_away tape one.seat (get_or places j one).seat fresh (all j one within) cursor (sym (cursor-at places j one within) ∙ is)

pub joined_apart : (tape : TapeState) (places : List Place) (one : Place) → ((cursor : ℕ) → cursor_of one.seat ≡ Some cursor → tapes.place_of tape.places cursor ≡ None)
    → AllOn tape false places → Apart places → Apart (places ++ one ∷ [])
joined_apart tape places one fresh all apart = λ i j cursor is_i is_j.
    let same = map-append (λ (p : Place). cursor_of p.seat) places (one ∷ []) in
    elim (last_cursor (cursors places) (cursor_of one.seat) i cursor (ap (λ cs. get_or cs i None) (sym same) ∙ is_i)) [
      | inl a ↦ elim (last_cursor (cursors places) (cursor_of one.seat) j cursor (ap (λ cs. get_or cs j None) (sym same) ∙ is_j)) [
        | inl b ↦ apart i j cursor a.1 b.1
        | inr b ↦ absurd (stood tape places one i cursor fresh all a.0 a.1 b.1)
      ]
      | inr a ↦ elim (last_cursor (cursors places) (cursor_of one.seat) j cursor (ap (λ cs. get_or cs j None) (sym same) ∙ is_j)) [
        | inl b ↦ absurd (stood tape places one j cursor fresh all b.0 b.1 a.1)
        | inr b ↦ a.0 ∙ sym b.0
      ]
    ]

-- THE FIRST OF THAT NUMBER

position_or_len-map : {X Y : Type 0} (f : X → Y) (p : Y → Bool) (xs : List X) → position_or_len (λ x. p (f x)) xs ≡ position_or_len p (map f xs)
position_or_len-map f p [] = refl
position_or_len-map f p (x ∷ xs) = ap (λ n. cond (not (p (f x))) (1 + n) 0) (position_or_len-map f p xs)

pub position-map : {X Y : Type 0} (f : X → Y) (p : Y → Bool) (xs : List X) → position (λ x. p (f x)) xs ≡ position p (map f xs)
position-map f p xs =
    ap (λ n. cond (nat_lt n (length xs)) (Some n) None) (position_or_len-map f p xs)
    ∙ ap (λ m. cond (nat_lt (position_or_len p (map f xs)) m) (Some (position_or_len p (map f xs))) None) (sym (length-map xs f))

-- AN ITEM IS OFFERED

-- where there is an item it is put on the tape
pub offered_all_on : (tape : TapeState) (item : Option Item) (places : List Place) → AllOn tape false places → AllOn (pushed_all tape (option_to_list item)) (is_some item) places
offered_all_on tape None places all = all
offered_all_on tape (Some item) places all = λ k d lt. offered_on tape item (get_or places k d).seat (all k d lt)
