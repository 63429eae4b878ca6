-- An audience that stands as it did, or took an item on its tape.
use Rattle.std.proofs.Common.{◌≡◌, ℕ, List, get_or, Option, None, Result, Ok, Err, OnErr, is_some, option_to_list, false, sym, ap, subst, ◌∙◌}
use Rattle.rx_note.specs.declared.item.Item.{Item}
use Rattle.rx_tape.specs.Tapes.{TapeState}
use Rattle.rx_lane.specs.TapeLanes.{HoldsSame}
use Rattle.rx_subject.specs.TapeSubjects.{pushed_all}
use Rattle.rx_hub.specs.Seats.{Leaves}
use Rattle.rx_hub.specs.Audiences.{AudienceState, Place, observers_on, AllOn, Apart, Owned, cursors}
use Rattle.rx_hub.proofs.Places.{offered_all_on}
use Rattle.rx_hub.proofs.Seats.{unmoved}
use Rattle.rx_hub.proofs.Tight.{owned_same, owned_pushed}

-- what is known anyway is known of a refusal
pub on_err_known : {A E P : Type 0} (result : Result A E) → P → OnErr result P
on_err_known (Ok value) known = tt
on_err_known (Err error) known = known

-- the items and the places are as they were
pub shown : (items later : List Item) (olds news : List Place) → later ≡ items → news ≡ olds
    → ◌≡◌ {A = AudienceState} (record { items = later; observers = observers_on later news }) (record { items = items; observers = observers_on items olds })
shown items later olds news same same_places = cc

-- so is the tape, and of what was made ready something else is known
pub stays : {I J : Type 0} (tape later : TapeState) (olds news : List Place) → later ≡ tape → news ≡ olds → J
    → AllOn tape false olds × Apart olds × Owned tape olds × I → AllOn later false news × Apart news × Owned later news × J
stays tape later olds news same same_places idle stands =
    let kept =
    subst (λ (t : TapeState). AllOn t false news × Apart news × Owned t news) (sym same)
    (subst (λ (ps : List Place). AllOn tape false ps × Apart ps × Owned tape ps) (sym same_places) (stands.0, stands.1, stands.2)) in
    (kept.0, kept.1, kept.2, idle)

-- the tape holds what it held
pub stays_held : {I J : Type 0} (old new : TapeState) (olds news : List Place) → HoldsSame old new → news ≡ olds → J
    → AllOn old false olds × Apart olds × Owned old olds × I → AllOn new false news × Apart news × Owned new news × J
stays_held old new olds news held same_places idle stands =
    let none : Option ℕ = None in
    let leaves : Leaves old new none = record { front = held.front; items = held.items; others = λ other differ. held.places other } in
    let kept =
    subst (λ (ps : List Place). AllOn new false ps × Apart ps × Owned new ps) (sym same_places) (
      λ k d lt. unmoved old new false none (get_or olds k d).seat leaves (λ cursor is e. absurd cc) (stands.0 k d lt),
      stands.1,
      λ cursor at is. stands.2 cursor at (sym (held.places cursor) ∙ is),
    ) in
    (kept.0, kept.1, kept.2, idle)

-- an item more on the tape
pub on_pushed : (tape later : TapeState) (item : Option Item) (olds news : List Place) → later ≡ pushed_all tape (option_to_list item) → news ≡ olds
    → AllOn tape false olds → AllOn later (is_some item) news
on_pushed tape later item olds news pushed same on =
    subst (λ (t : TapeState). AllOn t (is_some item) news) (sym pushed)
    (subst (λ (ps : List Place). AllOn (pushed_all tape (option_to_list item)) (is_some item) ps) (sym same) (offered_all_on tape item olds on))

pub owned_by : (tape later : TapeState) (item : Option Item) (olds news : List Place) → later ≡ pushed_all tape (option_to_list item) → news ≡ olds
    → Owned tape olds → Owned later news
owned_by tape later item olds news pushed same owned =
    subst (λ (t : TapeState). Owned t news) (sym pushed) (owned_pushed tape item news (owned_same tape olds news (ap cursors same) owned))
