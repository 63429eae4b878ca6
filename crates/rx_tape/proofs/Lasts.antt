-- The last of several items.
use Rattle.std.proofs.Common.{◌≡◌, ℕ, ◌+◌, ◌-◌, ◌<◌, ◌≤◌, List, [], ◌∷◌, ◌++◌, length, drop, Option, inl, inr, sym, ap, ◌∙◌, append_assoc, option_to_list, arith}
use Rattle.std.proofs.lemmas.Bool.{cases_lt}
use Rattle.std.proofs.lemmas.List.{length-append, length-drop, drop-drop, drop-append-le, drop_all}
use Rattle.rx_note.specs.declared.item.Item.{Item}
use Rattle.rx_tape.specs.Tapes.{last_items, waits}

-- none of the last items
pub none_back : (items : List Item) → last_items items 0 ≡ []
none_back items = drop_all (length items - 0) items (omega arith)

-- one item more stands behind the last ones
pub lasts-more : (items : List Item) (item : Item) (back : ℕ) → back ≤ length items → last_items (items ++ item ∷ []) (back + 1) ≡ last_items items back ++ item ∷ []
lasts-more items item back h =
    let same : length (items ++ item ∷ []) - (back + 1) ≡ length items - back = omega (arith, length-append items (item ∷ [])) in
    ap (λ n. drop n (items ++ item ∷ [])) same
    ∙ drop-append-le (length items - back) items (item ∷ []) (omega arith)

-- and behind those that wait
pub waits-more : (lead : Option Item) (items : List Item) (item : Item) (back : ℕ) → back ≤ length items → waits lead (items ++ item ∷ []) (back + 1) ≡ waits lead items back ++ item ∷ []
waits-more lead items item back h =
    ap (λ rest. option_to_list lead ++ rest) (lasts-more items item back h)
    ∙ sym (append_assoc (option_to_list lead) (last_items items back) (item ∷ []))

-- fewer of the last items are those without the first of them
pub fewer_last : (items : List Item) (back more : ℕ) → more ≤ back → (0 < back → back ≤ length items) → last_items items (back - more) ≡ drop more (last_items items back)
fewer_last items back more h within =
    let same : length items - (back - more) ≡ length items - back + more =
    elim (cases_lt 0 back) [ inl lt ↦ let le = within lt in omega (arith, h, le) | inr none ↦ omega (arith, h, none) ] in
    ap (λ n. drop n items) same ∙ sym (drop-drop more (length items - back) items)

-- so many wait
pub waits-length : (lead : Option Item) (items : List Item) (back : ℕ) → (0 < back → back ≤ length items) → length (waits lead items back) ≡ length (option_to_list lead) + back
waits-length lead items back within =
    let some : length items - (length items - back) ≡ back = elim (cases_lt 0 back) [ inl lt ↦ let le = within lt in omega (arith, le) | inr none ↦ omega (arith, none) ] in
    length-append (option_to_list lead) (last_items items back)
    ∙ ap (λ n. length (option_to_list lead) + n) (length-drop (length items - back) items ∙ some)
