-- The items of a line are offered ones in the order of their offers.
use Rattle.std.proofs.Common.{◌≡◌, ℕ, zero, suc, Bool, true, false, not, cond, List, [], ◌∷◌, ◌++◌, length, take, refl, sym, ap, ◌∙◌, arith}
use Rattle.std.specs.List.{items_where_true}
use Rattle.std.proofs.lemmas.List.{length-append}
use Rattle.rx_note.specs.declared.item.Item.{Item}
use Rattle.rx_note.specs.Signals.{Requested, Offered, Ended, Signals, Start, ◌▸◌, policy_of, demand, offered_count, lost_places, is_lost, without, kept, goes_ahead, line_items}
use Rattle.rx_note.proofs.Laws.{offered}

-- where one more item is asked about, it is picked or not
picks-more : (bs : List Bool) (xs : List Item) (b : Bool) (x : Item) → length bs ≡ length xs → items_where_true (bs ++ b ∷ []) (xs ++ x ∷ []) ≡ cond b (items_where_true bs xs ++ x ∷ []) (items_where_true bs xs)
picks-more [] [] true x h = refl
picks-more [] [] false x h = refl
picks-more [] (y ∷ xs) b x h = absurd (omega arith)
picks-more (c ∷ bs) [] b x h = absurd (omega arith)
picks-more (true ∷ bs) (y ∷ xs) true x h = ap (λ items. y ∷ items) (picks-more bs xs true x (omega arith))
picks-more (true ∷ bs) (y ∷ xs) false x h = ap (λ items. y ∷ items) (picks-more bs xs false x (omega arith))
picks-more (false ∷ bs) (y ∷ xs) b x h = picks-more bs xs b x (omega arith)

-- the first of the items picked are picked too
picks-take : (n : ℕ) (bs : List Bool) (xs : List Item) → (cs : List Bool) × (take n (items_where_true bs xs) ≡ items_where_true cs xs)
picks-take zero bs xs = ([], refl)
picks-take (suc n) [] xs = ([], refl)
picks-take (suc n) (b ∷ bs) [] = ([], refl)
picks-take (suc n) (true ∷ bs) (x ∷ xs) = let rest = picks-take n bs xs in (true ∷ rest.0, ap (λ items. x ∷ items) rest.1)
picks-take (suc n) (false ∷ bs) (x ∷ xs) = let rest = picks-take (suc n) bs xs in (false ∷ rest.0, rest.1)

-- for each item offered, whether its place is kept
abbrev places_kept : List ℕ → Signals → List Bool
places_kept lost (Start policy) = []
places_kept lost (s ▸ Requested n) = places_kept lost s
places_kept lost (s ▸ Offered item) = places_kept lost s ++ not (is_lost lost (offered_count s)) ∷ []
places_kept lost (s ▸ Ended terminal) = places_kept lost s

length-places_kept : (lost : List ℕ) (s : Signals) → length (places_kept lost s) ≡ length (offered s)
length-places_kept lost (Start policy) = refl
length-places_kept lost (s ▸ Requested n) = length-places_kept lost s
length-places_kept lost (s ▸ Offered item) =
    omega (arith, length-places_kept lost s, length-append (places_kept lost s) (not (is_lost lost (offered_count s)) ∷ []), length-append (offered s) (item ∷ []))
length-places_kept lost (s ▸ Ended terminal) = length-places_kept lost s

kept_or_lost : (b : Bool) (xs : List Item) (x : Item) → cond b xs (xs ++ x ∷ []) ≡ cond (not b) (xs ++ x ∷ []) xs
kept_or_lost true xs x = refl
kept_or_lost false xs x = refl

without-places : (lost : List ℕ) (s : Signals) → without lost s ≡ items_where_true (places_kept lost s) (offered s)
without-places lost (Start policy) = refl
without-places lost (s ▸ Requested n) = without-places lost s
without-places lost (s ▸ Offered item) =
    let gone = is_lost lost (offered_count s) in
    ap (λ items. cond gone items (items ++ item ∷ [])) (without-places lost s)
    ∙ kept_or_lost gone (items_where_true (places_kept lost s) (offered s)) item
    ∙ sym (picks-more (places_kept lost s) (offered s) (not gone) item (length-places_kept lost s))
without-places lost (s ▸ Ended terminal) = without-places lost s

cut_in_order : (b : Bool) (n : ℕ) (bs : List Bool) (items all : List Item) → items ≡ items_where_true bs all → (cs : List Bool) × (cond b (take n items) items ≡ items_where_true cs all)
cut_in_order true n bs items all e = let front = picks-take n bs all in (front.0, ap (take n) e ∙ front.1)
cut_in_order false n bs items all e = (bs, e)

-- the items of the line are items offered, each at its place and none twice
pub line_items-in_order : (s : Signals) → (bs : List Bool) × (line_items s ≡ items_where_true bs (offered s))
line_items-in_order (Start policy) = ([], refl)
line_items-in_order (s ▸ Requested n) = line_items-in_order s
line_items-in_order (s ▸ Offered item) = (_, without-places (lost_places (s ▸ Offered item)) (s ▸ Offered item))
line_items-in_order (s ▸ Ended terminal) =
    cut_in_order (goes_ahead (policy_of s).errors terminal) (demand s) (places_kept (lost_places s) s) (kept s) (offered s) (without-places (lost_places s) s)
