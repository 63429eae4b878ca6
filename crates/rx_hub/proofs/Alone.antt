-- An observer that is alone: its cursor is the only one on the tape.
use Rattle.std.proofs.Common.{◌≡◌, ◌⊎◌, ℕ, suc, zero, ◌<◌, false, List, [], ◌∷◌, length, get_or, set, Option, None, Some, inl, inr, refl, ap, ◌∙◌, arith}
use Rattle.rx_note.specs.declared.item.Item.{Item}
use Rattle.rx_tape.specs.Tapes.{TapeState}
use Rattle.rx_tape.specs.Tapes as tapes
use Rattle.rx_hub.specs.declared.subscription.Subscription.{Subscription}
use Rattle.rx_hub.specs.Seats.{cursor_of, Stands, IsAlone}
use Rattle.rx_hub.specs.Audiences.{Place, place_of, places_of, observer_on, observers_on, AllOn, Owned, cursors}
use Rattle.rx_hub.proofs.Tight.{moved_or_not}

none_or_some : (o : Option ℕ) → (o ≡ None) ⊎ ((n : ℕ) × (o ≡ Some n))
none_or_some None = inl refl
none_or_some (Some n) = inr (n, refl)

-- the only one of several cursors
only : (places : List Place) (k j : ℕ) (one : Place) (cursor : ℕ) → length places ≡ 1 → k < length places → one ≡ get_or places k one
    → get_or (cursors places) j None ≡ Some cursor → cursor_of one.seat ≡ Some cursor
only [] k j one cursor alone lt at is = absurd (omega (arith, alone))
only (p ∷ []) zero zero one cursor alone lt at is = ap (λ (q : Place). cursor_of q.seat) at ∙ is
only (p ∷ []) zero (suc j) one cursor alone lt at is = absurd cc
only (p ∷ []) (suc k) j one cursor alone lt at is = absurd (omega (arith, lt))
only (p ∷ q ∷ places) k j one cursor alone lt at is = absurd (omega (arith, alone))

-- where each cursor is a seat's and there is one seat, no other cursor is there
pub alone : (tape : TapeState) (places : List Place) (k : ℕ) (one : Place) → length places ≡ 1 → k < length places → one ≡ get_or places k one
    → Owned tape places → IsAlone tape (cursor_of one.seat)
alone tape places k one single lt at owned = λ other differ.
    elim (none_or_some (tapes.place_of tape.places other)) [
      | inl none ↦ none
      | inr by ↦ let mine = owned other by.0 by.1 in absurd (differ (only places k mine.0 one other single lt at mine.1))
    ]

-- and where no other cursor is there, each is a seat's
pub owned_alone : (tape : TapeState) (places : List Place) (k : ℕ) (one : Place) → length places ≡ 1 → k < length places
    → IsAlone tape (cursor_of one.seat) → Owned tape (set places k one)
owned_alone tape [] k one single lt free = absurd (omega (arith, single))
owned_alone tape (p ∷ []) zero one single lt free = λ cursor place is.
    elim (moved_or_not (cursor_of one.seat) cursor) [
      | inl same ↦ (zero, same)
      | inr differ ↦ let none = free cursor differ in absurd cc
    ]
owned_alone tape (p ∷ []) (suc k) one single lt free = absurd (omega (arith, lt))
owned_alone tape (p ∷ q ∷ places) k one single lt free = absurd (omega (arith, single))

stands_first : (tape : TapeState) (one : Place) (k : ℕ) (d : Place) → k < 1 → Stands tape false one.seat → Stands tape false (get_or (one ∷ []) k d).seat
stands_first tape one zero d lt stands = stands
stands_first tape one (suc k) d lt stands = absurd (omega (arith, lt))

-- the only seat stands on the tape
pub alone_on : (tape : TapeState) (places : List Place) (k : ℕ) (one : Place) → length places ≡ 1 → k < length places
    → Stands tape false one.seat → AllOn tape false (set places k one)
alone_on tape [] k one single lt stands = absurd (omega (arith, single))
alone_on tape (p ∷ []) zero one single lt stands = λ j d inside. stands_first tape one j d inside stands
alone_on tape (p ∷ []) (suc k) one single lt stands = absurd (omega (arith, lt))
alone_on tape (p ∷ q ∷ places) k one single lt stands = absurd (omega (arith, single))

-- the only observer is another, and the tape has other items
pub alone_observers : (items later : List Item) (subscriptions : List Subscription) (k : ℕ) (new : Subscription) → length subscriptions ≡ 1 → k < length subscriptions
    → observers_on later (places_of (set subscriptions k new)) ≡ set (observers_on items (places_of subscriptions)) k (observer_on later (place_of new))
alone_observers items later [] k new single lt = absurd (omega (arith, single))
alone_observers items later (s ∷ []) zero new single lt = refl
alone_observers items later (s ∷ []) (suc k) new single lt = absurd (omega (arith, lt))
alone_observers items later (s ∷ t ∷ subscriptions) k new single lt = absurd (omega (arith, single))
