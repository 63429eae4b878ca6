-- The loop that feeds each observer: what it has done at its i-th turn.
use Rattle.std.proofs.Common.{◌≡◌, ℕ, suc, ◌+◌, ◌<◌, List, [], ◌∷◌, ◌++◌, length, take, drop, get_or, set, refl, sym, ap, ◌∙◌, subst, arith, append_assoc, append-nil}
use Rattle.std.proofs.Math.Seq.{take-append_seam}
use Rattle.std.proofs.lemmas.List.{take_more, take_more_set, drop-drop, get_or-drop, map-append, drop-set-lt}
use Rattle.rx_note.specs.declared.item.Item.{Item}
use Rattle.rx_note.specs.declared.given.Given.{Given}
use Rattle.rx_note.specs.declared.note.Note.{Note}
use Rattle.rx_note.specs.Signals.{Signal}
use Rattle.rx_history.specs.Histories.{addressed}
use Rattle.rx_hub.specs.declared.subscription.Subscription.{Subscription}
use Rattle.rx_hub.specs.Subscriptions.{AllFed, AllFedInto, FeedsInto, Feeds, Observer}
use Rattle.rx_hub.specs.Seats.{given_now}
use Rattle.rx_hub.specs.Audiences.{Place, place_of, places_of, observer_on, observers_on, gifts}

-- what stood before is in front
pub front_of : {A : Type 0} (n : ℕ) (xs ys zs : List A) → n ≡ length xs → zs ≡ xs ++ ys → take n zs ≡ xs
front_of n xs ys zs long is = ap (λ k. take k zs) long ∙ ap (take (length xs)) is ∙ take-append_seam xs ys

-- one observer more was fed
pub AllFed-push : (signals : List Signal) (olds news : List Observer) (outs : List Given) (old new : Observer) (notes : List Note)
    → AllFed signals olds news outs → Feeds old new signals notes
    → AllFed signals (olds ++ old ∷ []) (news ++ new ∷ []) (outs ++ addressed old.who notes)
AllFed-push signals [] [] outs old new notes all feeds =
    (notes, [], ap (λ os. os ++ addressed old.who notes) all ∙ sym (append-nil (addressed old.who notes)), feeds, refl)
AllFed-push signals [] (n ∷ news) outs old new notes all feeds = absurd all
AllFed-push signals (o ∷ olds) [] outs old new notes all feeds = absurd all
AllFed-push signals (o ∷ olds) (n ∷ news) outs old new notes all feeds = (
  all.0,
  all.1 ++ addressed old.who notes,
  ap (λ os. os ++ addressed old.who notes) all.2 ∙ append_assoc (addressed o.who all.0) all.1 (addressed old.who notes),
  all.3,
  AllFed-push signals olds news all.1 old new notes all.4 feeds,
)

-- those that were fed are as many as before
pub AllFed-length : (signals : List Signal) (olds news : List Observer) (outs : List Given) → AllFed signals olds news outs → length news ≡ length olds
AllFed-length signals [] [] outs fed = refl
AllFed-length signals [] (new ∷ news) outs fed = absurd fed
AllFed-length signals (old ∷ olds) [] outs fed = absurd fed
AllFed-length signals (old ∷ olds) (new ∷ news) outs fed = ap suc (AllFed-length signals olds news fed.1 fed.4)

-- the observer of the next turn is still the old one
pub still-at : (olds news : List Subscription) (i : ℕ) (d : Subscription) → drop i news ≡ drop i olds → get_or news i d ≡ get_or olds i d
still-at olds news i d rest =
    let e : get_or (drop i news) 0 d ≡ get_or (drop i olds) 0 d = ap (λ xs. get_or xs 0 d) rest in
    grind (arith, get_or-drop)

-- and so are those after it
pub rest-more : (olds news : List Subscription) (i : ℕ) (new : Subscription) → drop i news ≡ drop i olds → drop (i + 1) (set news i new) ≡ drop (i + 1) olds
rest-more olds news i new rest = drop-set-lt (i + 1) news i new (omega arith) ∙ sym (drop-drop 1 i news) ∙ ap (drop 1) rest ∙ drop-drop 1 i olds

-- the observers of one turn more
observers-more : (items : List Item) (xs : List Subscription) (i : ℕ) (x : Subscription) → i < length xs → x ≡ get_or xs i x
    → observers_on items (places_of (take (i + 1) xs)) ≡ observers_on items (places_of (take i xs)) ++ observer_on items (place_of x) ∷ []
observers-more items xs i x lt is =
    ap (λ ys. observers_on items (places_of ys)) (take_more xs i x lt ∙ ap (λ y. take i xs ++ y ∷ []) (sym is))
    ∙ ap (observers_on items) (map-append place_of (take i xs) (x ∷ []))
    ∙ map-append (observer_on items) (places_of (take i xs)) (place_of x ∷ [])

observers-set : (items : List Item) (xs : List Subscription) (i : ℕ) (x : Subscription) → i < length xs
    → observers_on items (places_of (take (i + 1) (set xs i x))) ≡ observers_on items (places_of (take i xs)) ++ observer_on items (place_of x) ∷ []
observers-set items xs i x lt =
    ap (λ ys. observers_on items (places_of ys)) (take_more_set xs i x lt)
    ∙ ap (observers_on items) (map-append place_of (take i xs) (x ∷ []))
    ∙ map-append (observer_on items) (places_of (take i xs)) (place_of x ∷ [])

-- one turn more
pub fed-more : (signals : List Signal) (items later : List Item) (olds news : List Subscription) (i : ℕ) (before middle after : List Given) (old new : Subscription)
    → drop i news ≡ drop i olds → i < length olds → length news ≡ length olds → old ≡ get_or news i old
    → AllFedInto signals (observers_on items (places_of (take i olds))) (observers_on later (places_of (take i news))) before middle
    → FeedsInto (observer_on items (place_of old)) (observer_on later (place_of new)) signals middle after
    → AllFedInto signals (observers_on items (places_of (take (i + 1) olds))) (observers_on later (places_of (take (i + 1) (set news i new)))) before after
fed-more signals items later olds news i before middle after old new rest lt len at so_far fed =
    let e_old = observers-more items olds i old lt (at ∙ still-at olds news i old rest) in
    let e_new = observers-set later news i new (omega (arith, lt, len)) in
    let Fed : List Observer → List Observer → Type 0 = λ os ns. AllFed signals os ns (so_far.0 ++ addressed old.who fed.0) in (
      so_far.0 ++ addressed old.who fed.0,
      fed.1 ∙ ap (λ os. os ++ addressed old.who fed.0) so_far.1 ∙ append_assoc before so_far.0 (addressed old.who fed.0),
      subst (λ (os : List Observer). Fed os (observers_on later (places_of (take (i + 1) (set news i new))))) (sym e_old)
          (subst (λ (ns : List Observer). Fed (observers_on items (places_of (take i olds)) ++ observer_on items (place_of old) ∷ []) ns) (sym e_new)
          (AllFed-push signals (observers_on items (places_of (take i olds))) (observers_on later (places_of (take i news))) so_far.0
          (observer_on items (place_of old)) (observer_on later (place_of new)) fed.0 so_far.2 fed.2)),
    )

-- WHAT AN ITEM GIVES AT ONCE

gifts-append : (item : Item) (xs ys : List Place) → gifts item (xs ++ ys) ≡ gifts item xs ++ gifts item ys
gifts-append item [] ys = refl
gifts-append item (x ∷ xs) ys =
    ap (λ gs. addressed x.who (given_now x.seat item) ++ gs) (gifts-append item xs ys)
    ∙ sym (append_assoc (addressed x.who (given_now x.seat item)) (gifts item xs) (gifts item ys))

-- one observer more
pub gifts-more : (item : Item) (xs : List Place) (i : ℕ) (x : Place) → i < length xs → x ≡ get_or xs i x
    → gifts item (take (i + 1) xs) ≡ gifts item (take i xs) ++ addressed x.who (given_now x.seat item)
gifts-more item xs i x lt is =
    ap (gifts item) (take_more xs i x lt ∙ ap (λ y. take i xs ++ y ∷ []) (sym is))
    ∙ gifts-append item (take i xs) (x ∷ [])
    ∙ ap (λ gs. gifts item (take i xs) ++ gs) (append-nil (addressed x.who (given_now x.seat item)))
