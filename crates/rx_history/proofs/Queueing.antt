-- An item that is not owed, in a list whose first n items were given: what it makes of the list, by strategy.
use Rattle.std.proofs.Common.{◌≡◌, ℕ, ◌+◌, ◌-◌, ◌<◌, ◌≤◌, cond, List, [], ◌∷◌, ◌++◌, length, take, drop, sym, ap, ◌∙◌, arith}
use Rattle.std.proofs.lemmas.Bool.{lt-ltb}
use Rattle.std.proofs.lemmas.List.{append_assoc, take-append-drop, take-append-le, drop-append-le, drop-drop}
use Rattle.rx_note.specs.declared.item.Item.{Item}
use Rattle.rx_note.specs.declared.strategy.Strategy.TheVariants.{Buffer, Drop, Latest}
use Rattle.rx_note.specs.Queues.{queued}

-- with Buffer it comes last
pub buffered : (n : ℕ) (items : List Item) (item : Item) → items ++ item ∷ [] ≡ take n items ++ queued Buffer (drop n items) item
buffered n items item =
    ap (λ xs. xs ++ item ∷ []) (sym (take-append-drop n items)) ∙ append_assoc (take n items) (drop n items) (item ∷ [])

-- with Drop it comes last too, where there is room
pub drop_keeps : (room n : ℕ) (items : List Item) (item : Item) → length (drop n items) < room → items ++ item ∷ [] ≡ take n items ++ queued (Drop room) (drop n items) item
drop_keeps room n items item free =
    let waiting = drop n items in
    buffered n items item
    ∙ ap (λ b. take n items ++ cond b (waiting ++ item ∷ []) waiting) (sym (lt-ltb (length waiting) room free))

-- and so with Latest
pub latest_keeps : (room n : ℕ) (items : List Item) (item : Item) → length (drop n items) < room → items ++ item ∷ [] ≡ take n items ++ queued (Latest room) (drop n items) item
latest_keeps room n items item free =
    let waiting = drop n items in
    let none_lost : 0 ≡ length waiting + 1 - room = omega arith in
    buffered n items item ∙ ap (λ k. take n items ++ drop k (waiting ++ item ∷ [])) none_lost

-- where there is none, the oldest that waits is lost: the one behind those given
pub latest_replaces : (room n : ℕ) (items : List Item) (item : Item) → n ≤ length items → length (drop n items) ≡ room
    → take n (items ++ item ∷ []) ++ drop (n + 1) (items ++ item ∷ []) ≡ take n items ++ queued (Latest room) (drop n items) item
latest_replaces room n items item within full =
    let waiting = drop n items in
    let one_lost : 1 ≡ length waiting + 1 - room = omega arith in
    ap (λ front. front ++ drop (n + 1) (items ++ item ∷ [])) (take-append-le n items (item ∷ []) within)
    ∙ ap (λ back. take n items ++ back) (sym (drop-drop 1 n (items ++ item ∷ [])))
    ∙ ap (λ xs. take n items ++ drop 1 xs) (drop-append-le n items (item ∷ []) within)
    ∙ ap (λ k. take n items ++ drop k (waiting ++ item ∷ [])) one_lost
