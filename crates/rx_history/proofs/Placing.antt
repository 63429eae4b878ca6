-- The places of items: those accepted stand one after the other, and so they rise along every line.
use Rattle.std.proofs.Common.{◌≡◌, ℕ, ◌+◌, ◌≤◌, ◌==◌, Bool, true, false, cond, not, List, [], ◌∷◌, ◌++◌, length, Option, None, Some, refl, sym, subst, ◌∙◌, arith}
use Rattle.std.specs.List.{filter, items_where_true}
use Rattle.std.proofs.lemmas.List.{append-nil, length-map}
use Rattle.rx_note.specs.declared.item.Item.{Item}
use Rattle.rx_note.specs.declared.text.Text.{Text}
use Rattle.rx_note.specs.declared.note.Note.{Note}
use Rattle.rx_note.specs.declared.note.Note.TheVariants.{Next, Completed, Failed}
use Rattle.rx_note.specs.declared.event.Event.TheVariants.{Emit, Join, Request, Dispose}
use Rattle.rx_note.specs.declared.kind.Kind.{Kind}
use Rattle.rx_note.specs.declared.kind.Kind.TheVariants.{Publish, Behavior, Async, Replay}
use Rattle.rx_note.specs.declared.rules.Rules.{Rules}
use Rattle.rx_history.specs.Histories.{History, NoEvents, ◌▹◌, Stamped, item_count, accepts, item_in, items}
use Rattle.rx_history.specs.Delivery.{emitted, seed_of, AreCounted, Rise, unseeded, IsSubsequence, PlacesAreCounted, PlacesRise}
use Rattle.rx_history.proofs.Accepting.{item_count-length, item_count-within}
use Rattle.rx_history.proofs.Delivered.{line_in_order}
use Rattle.rx_history.proofs.Offers.{emitted-accepted, emitted-refused, offers_in_order}
use Rattle.rx_history.proofs.Subsequences.{some_of_some, filtered}

-- COUNTED

-- an item more, at the next place
counted-more : (n : ℕ) (xs : List Item) (item : Item) → item.place ≡ n + length xs → AreCounted n xs → AreCounted n (xs ++ item ∷ [])
counted-more n [] item here counted = (omega (arith, here), tt)
counted-more n (x ∷ xs) item here counted = (counted.0, counted-more (n + 1) xs item (omega (arith, here)) counted.1)

counted-note : (xs : List Item) (port place : ℕ) (note : Note) → place ≡ length xs → AreCounted 0 xs → AreCounted 0 (xs ++ item_in port place note)
counted-note xs port place (Next item) same counted = counted-more 0 xs (record item { from = port; place = place }) (omega (arith, same)) counted
counted-note xs port place Completed same counted = subst (AreCounted 0) (sym (append-nil xs)) counted
counted-note xs port place (Failed text) same counted = subst (AreCounted 0) (sym (append-nil xs)) counted

emitted-length : (rules : Rules) (H : History) → length (emitted rules H) ≡ item_count rules H
emitted-length rules H = length-map (items rules H) (λ (each : Stamped). each.0) ∙ sym (item_count-length rules H)

counted-emit : (rules : Rules) (H : History) (port : ℕ) (note : Note) (at : ℕ) (b : Bool) → accepts rules H note ≡ b → AreCounted 0 (emitted rules H)
    → AreCounted 0 (emitted rules (H ▹ (port, Emit note at)))
counted-emit rules H port note at true accepted counted =
    subst (AreCounted 0) (sym (emitted-accepted rules H port note at accepted))
    (counted-note (emitted rules H) port (item_count rules H) note (sym (emitted-length rules H)) counted)
counted-emit rules H port note at false refused counted = subst (AreCounted 0) (sym (emitted-refused rules H port note at refused)) counted

-- the accepted items stand one after the other
counted : (rules : Rules) (H : History) → AreCounted 0 (emitted rules H)
counted rules NoEvents = tt
counted rules (H ▹ (port, Emit note at)) = counted-emit rules H port note at (accepts rules H note) refl (counted rules H)
counted rules (H ▹ (port, Join policy first at)) = counted rules H
counted rules (H ▹ (port, Request who n)) = counted rules H
counted rules (H ▹ (port, Dispose who)) = counted rules H

pub places_are_counted : PlacesAreCounted
places_are_counted rules H = (counted rules H, emitted-length rules H, item_count-within rules H)

-- RISING

rise-from : (n m : ℕ) (xs : List Item) → m ≤ n → Rise n xs → Rise m xs
rise-from n m [] le rise = tt
rise-from n m (x ∷ xs) le rise = let above : n ≤ x.place = rise.0 in (omega arith, rise.1)

rise-counted : (n : ℕ) (xs : List Item) → AreCounted n xs → Rise n xs
rise-counted n [] counted = tt
rise-counted n (x ∷ xs) counted =
    let here : x.place ≡ n = counted.0 in
    (omega arith, rise-from (n + 1) (x.place + 1) xs (omega arith) (rise-counted (n + 1) xs counted.1))

-- some of rising items rise
rise-some : (n : ℕ) (mask : List Bool) (xs : List Item) → Rise n xs → Rise n (items_where_true mask xs)
rise-some n [] xs rise = tt
rise-some n (b ∷ mask) [] rise = tt
rise-some n (true ∷ mask) (x ∷ xs) rise = (rise.0, rise-some (x.place + 1) mask xs rise.1)
rise-some n (false ∷ mask) (x ∷ xs) rise =
    let above : n ≤ x.place = rise.0 in rise-from (x.place + 1) n (items_where_true mask xs) (omega arith) (rise-some (x.place + 1) mask xs rise.1)

rise-kept : (b : Bool) (n : ℕ) (x : Item) (xs : List Item) → n ≤ x.place → Rise (x.place + 1) xs → Rise n (cond b (x ∷ xs) xs)
rise-kept true n x xs above rise = (above, rise)
rise-kept false n x xs above rise = rise-from (x.place + 1) n xs (omega arith) rise

rise-filter : (p : Item → Bool) (n : ℕ) (xs : List Item) → Rise n xs → Rise n (filter p xs)
rise-filter p n [] rise = tt
rise-filter p n (x ∷ xs) rise = rise-kept (p x) n x (filter p xs) rise.0 (rise-filter p (x.place + 1) xs rise.1)

-- without the seed all that a subject can give are its accepted items
unseeded-seed : (seed : Option Text) (xs : List Item) → unseeded (seed_of (Behavior seed) ++ xs) ≡ unseeded xs
unseeded-seed None xs = refl
unseeded-seed (Some text) xs = refl

unseeded-all : (kind : Kind) (xs : List Item) → unseeded (seed_of kind ++ xs) ≡ unseeded xs
unseeded-all Publish xs = refl
unseeded-all (Behavior seed) xs = unseeded-seed seed xs
unseeded-all Async xs = refl
unseeded-all (Replay count age) xs = refl

rise-subsequence : (some all : List Item) → IsSubsequence some all → Rise 0 all → Rise 0 some
rise-subsequence some all of rise = subst (Rise 0) (sym of.2) (rise-some 0 of.0 all rise)

pub places_rise : PlacesRise
places_rise rules H o =
    let all = seed_of rules.kind ++ emitted rules H in
    let risen : Rise 0 (unseeded all) =
    subst (Rise 0) (sym (unseeded-all rules.kind (emitted rules H)))
    (rise-filter (λ item. not (item.place == 4294967295)) 0 (emitted rules H) (rise-counted 0 (emitted rules H) (counted rules H))) in
    rise-subsequence _ _
    (filtered (λ item. not (item.place == 4294967295)) _ _ (some_of_some _ _ _ (line_in_order rules H o) (offers_in_order rules H o)))
    risen
