use Rattle.std.proofs.Common.{◌≡◌, ◌==◌, ℕ, zero, suc, ◌<◌, List, [], ◌∷◌, length, get_or, Option, None, Some, IfSome, position, sym, ap, subst, ◌∙◌, arith}
use Rattle.rx_note.specs.declared.item.Item.{Item}
use Rattle.rx_hub.specs.declared.subscription.Subscription.{Subscription}
use Rattle.rx_hub.specs.Subscriptions.{Observer, IsAt}
use Rattle.rx_hub.specs.Audiences.{AudienceState, Place, place_of, places_of, observer_on, observers_on}
use Rattle.rx_hub.proofs.Asking.{nobody, named}
use Rattle.rx_hub.proofs.Places.{position-map, observers-length}
use Rattle.rx_hub.proofs.audience.Audience.place_of.Goals.{After-place_in}
use Rattle.rx_hub.proofs.audience.Audience.place_of.Goals as goal

-- the number of the subscription at a place is that of the observer there
number_at : (items : List Item) (subs : List Subscription) (k who : ℕ) → k < length subs → ((d : Subscription) → (get_or subs k d).who ≡ who)
    → (d : Observer) → (get_or (observers_on items (places_of subs)) k d).who ≡ who
number_at items [] k who lt at d = absurd (omega (arith, lt))
number_at items (s ∷ subs) zero who lt at d = at s
number_at items (s ∷ subs) (suc k) who lt at d = number_at items subs k who (omega (arith, lt)) at d

-- where the order tells it
at_known : (a_items : List Item) (subs : List Subscription) (who : ℕ) (known : Option ℕ)
    → IfSome known (λ place. (place < length subs) × ((d : Subscription) → (get_or subs place d).who ≡ who))
    → IfSome known (λ place. IsAt (observers_on a_items (places_of subs)) place who)
at_known items subs who None is = tt
at_known items subs who (Some place) is = record {
  within = omega (arith, is.0, observers-length items subs);
  number = number_at items subs place who is.0 is.1;
}

pub returns-then-is_some-clause-found : goal.returns-then-is_some-clause-found
returns-then-is_some-clause-found c =
    let a = c.self.inside in
    subst (λ (v : AudienceState). IfSome c.place_by_order-known.result (λ place. IsAt v.observers place c.args.who)) c.self.view_is
    (at_known a.tape.items a.subscriptions.items c.args.who c.place_by_order-known.result c.place_by_order-known.ensures)

-- where it is found by a walk
walked : (c : After-place_in) → c.place_in.result ≡ position (λ (o : Observer). o.who == c.args.who) c.args.self.now.observers
walked c =
    let a = c.self.inside in
    c.place_in.ensures
    ∙ position-map place_of (λ (p : Place). p.who == c.args.who) a.subscriptions.items
    ∙ position-map (observer_on a.tape.items) (λ (o : Observer). o.who == c.args.who) (places_of a.subscriptions.items)
    ∙ ap (λ (v : AudienceState). position (λ (o : Observer). o.who == c.args.who) v.observers) c.self.view_is

at_some : (observers : List Observer) (who : ℕ) (found : Option ℕ) → found ≡ position (λ (o : Observer). o.who == who) observers → IfSome found (λ place. IsAt observers place who)
at_some observers who None is = tt
at_some observers who (Some place) is = record {
  within = (named observers who place nobody is).0;
  number = λ d. (named observers who place d is).1;
}

pub returns-clause-found : goal.returns-clause-found
returns-clause-found c = at_some c.args.self.now.observers c.args.who c.place_in.result (walked c)

pub returns-clause-none : goal.returns-clause-none
returns-clause-none c = λ none. sym (walked c) ∙ none
