-- A tape that was trimmed has no more items than the most that wait for one observer, or are kept for joiners.
use Rattle.std.proofs.Common.{◌≡◌, ◌≢◌, ◌⊎◌, ℕ, suc, zero, ◌+◌, ◌-◌, ◌<◌, ◌≤◌, min, max, false, List, [], ◌∷◌, ◌++◌, length, take, drop, get_or, Option, None, Some, inl, inr, option_to_list, refl, sym, ap, ◌∙◌, arith}
use Rattle.std.proofs.lemmas.Bool.{cases_lt}
use Rattle.std.proofs.lemmas.List.{length-drop, map-append}
use Rattle.rx_note.specs.declared.item.Item.{Item}
use Rattle.rx_tape.specs.Tapes.{TapeState, end_of, lowest, passed, trimmed, waits}
use Rattle.rx_tape.specs.Tapes as tapes
use Rattle.rx_tape.proofs.Lasts.{waits-length}
use Rattle.rx_subject.specs.TapeSubjects.{pushed_all}
use Rattle.rx_hub.specs.declared.seat.Seat.{Seat}
use Rattle.rx_hub.specs.declared.seat.Seat.TheVariants.{Shared, Own}
use Rattle.rx_hub.specs.Seats.{lane_of, cursor_of, Stands, Leaves}
use Rattle.rx_hub.specs.Audiences.{Place, observers_on, AllOn, cursors, Owned, most_waiting}
use Rattle.rx_hub.proofs.Places.{cursor-at}

-- EACH CURSOR IS A SEAT'S

-- a cursor that is there stands within the list
pub within : (cs : List (Option ℕ)) (k cursor : ℕ) → get_or cs k None ≡ Some cursor → k < length cs
within [] k cursor is = absurd cc
within (c ∷ cs) zero cursor is = omega arith
within (c ∷ cs) (suc k) cursor is = let rest = within cs k cursor is in omega (arith, rest)

same_or_not : (a b : ℕ) → (a ≡ b) ⊎ (a ≢ b)
same_or_not a b =
    elim (cases_lt a b) [
      | inl less ↦ inr (λ e. absurd (omega (arith, less, e)))
      | inr le ↦ elim (cases_lt b a) [
        | inl less ↦ inr (λ e. absurd (omega (arith, less, e)))
        | inr ge ↦ inl (omega (arith, le, ge))
      ]
    ]

-- whether a cursor is the one that moved
pub moved_or_not : (moved : Option ℕ) (cursor : ℕ) → (moved ≡ Some cursor) ⊎ (moved ≢ Some cursor)
moved_or_not None cursor = inr (λ e. cc)
moved_or_not (Some other) cursor =
    elim (same_or_not other cursor) [
      | inl same ↦ inl (ap (λ (n : ℕ). Some n) same)
      | inr differ ↦ inr (λ e. let same : other ≡ cursor = cc in absurd (differ same))
    ]

-- one of them moved
pub owned_moved : (old new : TapeState) (places : List Place) (i : ℕ) (one : Place) → i < length places → one ≡ get_or places i one
    → Leaves old new (cursor_of one.seat) → Owned old places → Owned new places
owned_moved old new places i one lt at leaves owned = λ cursor place is.
    elim (moved_or_not (cursor_of one.seat) cursor) [
      | inl same ↦ (i, cursor-at places i one lt ∙ ap (λ (p : Place). cursor_of p.seat) (sym at) ∙ same)
      | inr differ ↦ owned cursor place (sym (leaves.others cursor differ) ∙ is)
    ]

-- places with the same cursors
pub owned_same : (tape : TapeState) (olds news : List Place) → cursors news ≡ cursors olds → Owned tape olds → Owned tape news
owned_same tape olds news same owned = λ cursor place is.
    let by = owned cursor place is in (by.0, ap (λ cs. get_or cs by.0 None) same ∙ by.1)

-- items more on the tape
pub owned_pushed : (tape : TapeState) (item : Option Item) (places : List Place) → Owned tape places → Owned (pushed_all tape (option_to_list item)) places
owned_pushed tape None places owned = owned
owned_pushed tape (Some item) places owned = owned

-- one more joins
front_at : (cs : List (Option ℕ)) (last : Option ℕ) (k cursor : ℕ) → get_or cs k None ≡ Some cursor → get_or (cs ++ last ∷ []) k None ≡ Some cursor
front_at [] last k cursor is = absurd cc
front_at (c ∷ cs) last zero cursor is = is
front_at (c ∷ cs) last (suc k) cursor is = front_at cs last k cursor is

last_at : (cs : List (Option ℕ)) (last : Option ℕ) → get_or (cs ++ last ∷ []) (length cs) None ≡ last
last_at [] last = refl
last_at (c ∷ cs) last = last_at cs last

pub owned_joined : (old new : TapeState) (places : List Place) (one : Place) → Leaves old new (cursor_of one.seat) → Owned old places → Owned new (places ++ one ∷ [])
owned_joined old new places one leaves owned = λ cursor place is.
    let same = map-append (λ (p : Place). cursor_of p.seat) places (one ∷ []) in
    elim (moved_or_not (cursor_of one.seat) cursor) [
      | inl mine ↦
          (length (cursors places), ap (λ cs. get_or cs (length (cursors places)) None) same ∙ last_at (cursors places) (cursor_of one.seat) ∙ mine)
      | inr differ ↦
          let by = owned cursor place (sym (leaves.others cursor differ) ∙ is) in
          (by.0, ap (λ cs. get_or cs by.0 None) same ∙ front_at (cursors places) (cursor_of one.seat) by.0 cursor by.1)
    ]

-- one of them leaves, and its cursor is released
left_at : (cs : List (Option ℕ)) (k j cursor : ℕ) → get_or cs j None ≡ Some cursor → j ≢ k → (i : ℕ) × (get_or (take k cs ++ drop (suc k) cs) i None ≡ Some cursor)
left_at [] k j cursor is differ = absurd cc
left_at (c ∷ cs) zero zero cursor is differ = absurd (differ refl)
left_at (c ∷ cs) zero (suc j) cursor is differ = (j, is)
left_at (c ∷ cs) (suc k) zero cursor is differ = (zero, is)
left_at (c ∷ cs) (suc k) (suc j) cursor is differ =
    let rest = left_at cs k j cursor is (λ e. differ (ap suc e)) in (suc rest.0, rest.1)

pub owned_left : (old new : TapeState) (places lefts : List Place) (k : ℕ) (gone : Place) → k < length places → gone ≡ get_or places k gone → Leaves old new (cursor_of gone.seat)
    → ((cursor : ℕ) → cursor_of gone.seat ≡ Some cursor → tapes.place_of new.places cursor ≡ None)
    → cursors lefts ≡ take k (cursors places) ++ drop (suc k) (cursors places) → Owned old places → Owned new lefts
owned_left old new places lefts k gone lt at leaves released left owned = λ cursor place is.
    elim (moved_or_not (cursor_of gone.seat) cursor) [
      | inl mine ↦ let none = released cursor mine in absurd cc
      | inr differ ↦
          let by = owned cursor place (sym (leaves.others cursor differ) ∙ is) in
          let here = cursor-at places k gone lt ∙ ap (λ (p : Place). cursor_of p.seat) (sym at) in
          let other : by.0 ≢ k = λ e. differ (sym here ∙ ap (λ n. get_or (cursors places) n None) (sym e) ∙ by.1) in
          let stays = left_at (cursors places) k by.0 cursor by.1 other in
          (stays.0, ap (λ cs. get_or cs stays.0 None) left ∙ stays.1)
    ]

-- WHAT IS LEFT

-- the lowest place is the bound or a cursor's
lowest_held : (places : List (Option ℕ)) (bound : ℕ) → (lowest places bound ≡ bound) ⊎ ((cursor : ℕ) × (tapes.place_of places cursor ≡ Some (lowest places bound)))
lowest_held [] bound = inl refl
lowest_held (None ∷ places) bound = elim (lowest_held places bound) [ inl e ↦ inl e | inr by ↦ inr (suc by.0, by.1) ]
lowest_held (Some p ∷ places) bound =
    elim (cases_lt p (lowest places bound)) [
      | inl less ↦ let is : p ≡ min p (lowest places bound) = omega (arith, less) in inr (zero, ap (λ (n : ℕ). Some n) is)
      | inr le ↦
          let is : min p (lowest places bound) ≡ lowest places bound = omega (arith, le) in
          elim (lowest_held places bound) [
            | inl e ↦ inl (is ∙ e)
            | inr by ↦ inr (suc by.0, by.1 ∙ ap (λ (n : ℕ). Some n) (sym is))
          ]
    ]

-- what stands behind a seat's cursor waits for it
seat_waits : (tape : TapeState) (seat : Seat) (cursor place : ℕ) → cursor_of seat ≡ Some cursor → tapes.place_of tape.places cursor ≡ Some place → Stands tape false seat
    → end_of tape ≤ place + length (lane_of tape.items seat).items
seat_waits tape (Shared lane) cursor place is at stands =
    let same : lane.cursor ≡ cursor = cc in
    let both = sym at ∙ ap (tapes.place_of tape.places) (sym same) ∙ stands.place in
    let here : place ≡ end_of tape - lane.back = cc in
    let long = waits-length lane.lead tape.items lane.back (λ some. stands.within) in
    omega (arith, here, long, stands.within)
seat_waits tape (Own lane) cursor place is at stands = absurd cc

seats_wait : (tape : TapeState) (places : List Place) (k cursor place : ℕ) → AllOn tape false places → get_or (cursors places) k None ≡ Some cursor → tapes.place_of tape.places cursor ≡ Some place
    → end_of tape ≤ place + most_waiting (observers_on tape.items places)
seats_wait tape [] k cursor place all is at = absurd cc
seats_wait tape (p ∷ places) zero cursor place all is at = let here = seat_waits tape p.seat cursor place is at (all 0 p (omega arith)) in omega (arith, here)
seats_wait tape (p ∷ places) (suc k) cursor place all is at =
    let rest = seats_wait tape places k cursor place (λ j d lt. all (suc j) d (omega (arith, lt))) is at in omega (arith, rest)

pub trimmed_tight : (tape : TapeState) (keep : ℕ) (places : List Place) → AllOn tape false places → Owned tape places
    → length (trimmed tape keep).items ≤ max keep (most_waiting (observers_on tape.items places))
trimmed_tight tape keep places all owned =
    let left = length-drop (passed tape keep) tape.items in
    elim (lowest_held tape.places (end_of tape)) [
      | inl none ↦ omega (arith, left, none)
      | inr by ↦
          let mine = owned by.0 (lowest tape.places (end_of tape)) by.1 in
          let waits = seats_wait tape places mine.0 by.0 (lowest tape.places (end_of tape)) all mine.1 by.1 in
          omega (arith, left, waits)
    ]
