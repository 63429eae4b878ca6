-- An emission that was admitted, by what is known of its parts.
use Rattle.std.proofs.Common.{◌≡◌, ◌≢◌, ◌≤◌, ℕ, true, false, is_some, List, [], ◌∷◌, ◌++◌, length, map, take, refl, sym, ap, subst, ◌∙◌, append-nil}
use Rattle.rx_note.specs.declared.event.Event.TheVariants.{Emit}
use Rattle.rx_note.specs.declared.given.Given.{Given}
use Rattle.rx_note.specs.declared.item.Item.{Item}
use Rattle.rx_note.specs.declared.kind.Kind.{Kind}
use Rattle.rx_note.specs.declared.kind.Kind.TheVariants.{Publish, Behavior, Async, Replay}
use Rattle.rx_note.specs.declared.note.Note.TheVariants.{Next}
use Rattle.rx_note.specs.declared.rules.Rules.{Rules}
use Rattle.rx_note.specs.Signals.{Signal, Offered, given}
use Rattle.rx_history.specs.Histories.{History, ◌▹◌, has_room, item_count, unstamped, offers_by}
use Rattle.rx_subject.specs.Subjects.{signals_by}
use Rattle.rx_subject.specs.Subjects as subjects
use Rattle.rx_subject.specs.TapeSubjects.{subject_on}
use Rattle.rx_subject.proofs.Standing.{signals-written, not_ended, stands_item}
use Rattle.rx_hub.specs.Subscriptions.{Observer, Feeds, AllFed, AllFedInto}
use Rattle.rx_hub.specs.Emissions.{Delivery, Admits, of_item}

-- NOTHING OFFERED

unfed : (o : Observer) → Feeds o o [] []
unfed o = record { number = refl; serves = record { gives = λ s stands. sym (append-nil (given s)); goes_on = λ s stands. stands } }

none_fed : (os : List Observer) → AllFed [] os os []
none_fed [] = refl
none_fed (o ∷ os) = ([], [], refl, unfed o, none_fed os)

-- by no signal nothing is given, and every queue stays
pub none_fed_into : (signals : List Signal) (os : List Observer) (before : List Given) → signals ≡ [] → AllFedInto signals os os before before
none_fed_into signals os before none =
    subst (λ (xs : List Signal). AllFedInto xs os os before before) (sym none) ([], sym (append-nil before), none_fed os)

-- AN ITEM

-- but for Async an item is offered at once
offers_now : (kind : Kind) (last : List Item) (from place : ℕ) (item : Item) → kind ≢ Async
    → map Offered (offers_by kind last item.from item.place (Next (record { from = from; place = place; text = item.text }))) ++ [] ≡ Offered item ∷ []
offers_now Publish last from place item other = refl
offers_now (Behavior seed) last from place item other = refl
offers_now Async last from place item other = absurd (other refl)
offers_now (Replay count age) last from place item other = refl

-- what the subject does with an item by the port that it names, where it finds room
abbrev pub TakesItem : Delivery → Delivery → Item → ℕ → Type 0
TakesItem old new item at =
    (from place : ℕ) (rules : Rules) (H : History) → has_room rules.limits (item_count rules H) (Next item) ≡ true
    → subjects.StandsFor (subject_on old.audience.items old.subject) rules H
    → subjects.StandsFor (subject_on new.audience.items new.subject) rules (H ▹ (item.from, Emit (Next (record { from = from; place = place; text = item.text })) at))

-- an item that each observer was fed
pub item_admitted : (old new : Delivery) (item : Item) (at : ℕ) → old.subject.kind ≢ Async → item.place ≡ old.subject.count → TakesItem old new item at
    → AllFedInto (Offered item ∷ []) old.audience.observers new.audience.observers old.given new.given
    → length new.subject.stamps ≤ length new.audience.items → new.subject.kind ≡ old.subject.kind
    → (from place : ℕ) → Admits old new (of_item from place item at)
item_admitted old new item at other next takes fed within kind from place =
    let last = unstamped (take 1 (subject_on old.audience.items old.subject).window) in
    let By : List Signal → Type 0 = λ signals. AllFedInto signals old.audience.observers new.audience.observers old.given new.given in
    let written : Item = record { from = from; place = place; text = item.text } in
    let offers = ap (λ (n : ℕ). map Offered (offers_by old.subject.kind last item.from n (Next written)) ++ []) (sym next) ∙ offers_now old.subject.kind last from place item other in
    record {
      stands = takes from place;
      fed = subst By (sym offers) fed;
      within = within;
      kind = kind;
    }

-- whatever port and place its producer wrote in the item
pub wrote_another : (old new : Delivery) (item : Item) (at : ℕ) → is_some old.subject.terminal ≡ false → Admits old new (of_item item.from item.place item at)
    → (from place : ℕ) → Admits old new (of_item from place item at)
wrote_another old new item at unended admits from place =
    let s = subject_on old.audience.items old.subject in
    let other : Item = record { from = from; place = place; text = item.text } in
    let By : List Signal → Type 0 = λ signals. AllFedInto signals old.audience.observers new.audience.observers old.given new.given in
    record {
      stands = λ rules H room stands.
          let now = admits.stands rules H room stands in
          let none = not_ended s rules H unended stands in
          let this = stands_item s rules H item.from item at none room stands in
          let that = stands_item s rules H item.from other at none room stands in
          record { kind_is = now.kind_is; end_is = now.end_is; stamp_is = now.stamp_is; count_is = now.count_is; window_is = now.window_is ∙ sym this.window_is ∙ that.window_is };
      fed = subst By (sym (signals-written s item.from from place item)) admits.fed;
      within = admits.within;
      kind = admits.kind;
    }
