use Rattle.std.proofs.Common.{◌≡◌, ◌+◌, ◌<◌, ◌++◌, suc, false, List, length, take, drop, sym, ap, subst, ◌∙◌, add-one, arith}
use Rattle.std.proofs.lemmas.List.{length-map}
use Rattle.std.proofs.lemmas.List.Elements.{All-append, All-take, All-drop}
use Rattle.rx_note.specs.declared.item.Item.{Item}
use Rattle.rx_hub.specs.declared.subscription.Subscription.{Subscription}
use Rattle.rx_hub.specs.Seats.{IsIdle}
use Rattle.rx_hub.specs.Audiences.{AudienceState, Place, AllOn, AllIdle, Apart, cursors, place_of, places_of, observers_on}
use Rattle.rx_hub.proofs.Places.{observers-length, place-at, left_on, left_apart, left_cursors, left_places, left_observers}
use Rattle.rx_hub.proofs.Tight.{owned_left}
use Rattle.rx_hub.proofs.audience.Audience.remove.Goals as goal

abbrev Idle : Subscription → Type 0
Idle s = IsIdle s.ready

pub invariant_of-self : goal.invariant_of-self
invariant_of-self c =
    let a = c.self.inside in
    let subs = a.subscriptions.items in
    let k = c.args.place in
    let gone = c.remove-seat.result in
    let lt : k < length subs = omega (arith, c.requires, ap (λ (v : AudienceState). length v.observers) c.self.view_is, observers-length a.tape.items subs) in
    let within : k < length (places_of subs) = omega (arith, lt, length-map subs place_of) in
    let left : places_of c.remove-seat.new.self.items ≡ take k (places_of subs) ++ drop (suc k) (places_of subs) =
    ap places_of c.remove-seat.ensures.by_index.2 ∙ ap (λ n. places_of (take k subs ++ drop n subs)) (add-one k) ∙ left_places subs k in (
      subst (λ (ps : List Place). AllOn c.close.new.tape false ps) (sym left)
          (left_on a.tape c.close.new.tape (places_of subs) k (place_of gone) c.self.invariant.1 within
          (sym (place-at subs k gone (place_of gone) lt c.remove-seat.ensures.value)) c.close.ensures.leaves c.self.invariant.0),
      subst (λ (ps : List Place). Apart ps) (sym left) (left_apart (places_of subs) k c.self.invariant.1),
      owned_left a.tape c.close.new.tape (places_of subs) (places_of c.remove-seat.new.self.items) k (place_of gone) within
          (sym (place-at subs k gone (place_of gone) lt c.remove-seat.ensures.value)) c.close.ensures.leaves c.close.ensures.released
          (ap cursors left ∙ left_cursors (places_of subs) k) c.self.invariant.2,
      subst AllIdle (sym c.remove-seat.ensures.by_index.2)
          (All-append Idle (take k subs) (drop (k + 1) subs) (All-take Idle k subs c.self.invariant.3) (All-drop Idle (k + 1) subs c.self.invariant.3)),
    )

pub returns-clause-observers : goal.returns-clause-observers
returns-clause-observers c =
    let a = c.self.inside in
    let subs = a.subscriptions.items in
    let k = c.args.place in
    let left : places_of c.remove-seat.new.self.items ≡ take k (places_of subs) ++ drop (suc k) (places_of subs) =
    ap places_of c.remove-seat.ensures.by_index.2 ∙ ap (λ n. places_of (take k subs ++ drop n subs)) (add-one k) ∙ left_places subs k in
    ap (λ (items : List Item). observers_on items (places_of c.remove-seat.new.self.items)) c.close.ensures.leaves.items
    ∙ ap (observers_on a.tape.items) left
    ∙ left_observers a.tape.items (places_of subs) k
    ∙ ap (λ (v : AudienceState). take k v.observers ++ drop (suc k) v.observers) c.self.view_is
    ∙ ap (λ n. take k c.args.self.now.observers ++ drop n c.args.self.now.observers) (sym (add-one k))
