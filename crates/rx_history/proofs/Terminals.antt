-- Terminals: the end of a history is one, and a terminal stands in a line at its end alone.
use Rattle.std.proofs.Common.{◌≡◌, true, List, [], ◌∷◌, ◌++◌, map, Option, None, Some, is_some, option_to_list, refl, sym, ap, ◌∙◌}
use Rattle.std.specs.Option.{option_or}
use Rattle.std.proofs.lemmas.Bool.{false≢true}
use Rattle.rx_note.specs.declared.item.Item.{Item}
use Rattle.rx_note.specs.declared.note.Note.{Note}
use Rattle.rx_note.specs.declared.note.Note.TheVariants.{Next, Completed, Failed}
use Rattle.rx_note.specs.declared.event.Event.TheVariants.{Emit, Join, Request, Dispose}
use Rattle.rx_history.specs.Histories.{History, NoEvents, ◌▹◌, terminal_in, end_of}
use Rattle.rx_history.specs.Delivery.{items_among, IsTerminal}

-- the terminal in a note is one
pub in_a_note : (note end : Note) → terminal_in note ≡ Some end → IsTerminal end
in_a_note (Next item) end is = cc
in_a_note Completed end is = let same : Completed ≡ end = cc in ap (λ note. is_some (terminal_in note)) (sym same)
in_a_note (Failed text) end is = let same : Failed text ≡ end = cc in ap (λ note. is_some (terminal_in note)) (sym same)

ends_first : (before : Option Note) (note end : Note) → ((t : Note) → before ≡ Some t → IsTerminal t) → option_or before (terminal_in note) ≡ Some end → IsTerminal end
ends_first None note end first is = in_a_note note end is
ends_first (Some t) note end first is = first end is

-- and so is the end of a history
pub end_is_terminal : (H : History) (end : Note) → end_of H ≡ Some end → IsTerminal end
end_is_terminal NoEvents end is = cc
end_is_terminal (H ▹ (port, Emit note at)) end is = ends_first (end_of H) note end (end_is_terminal H) is
end_is_terminal (H ▹ (port, Join policy first at)) end is = end_is_terminal H end is
end_is_terminal (H ▹ (port, Request who n)) end is = end_is_terminal H end is
end_is_terminal (H ▹ (port, Dispose who)) end is = end_is_terminal H end is

-- the items among the notes of items are these, and there is none in a terminal
pub items_among-items : (xs : List Item) → items_among (map Next xs) ≡ xs
items_among-items [] = refl
items_among-items (x ∷ xs) = ap (λ ys. x ∷ ys) (items_among-items xs)

pub items_among-append : (notes more : List Note) → items_among (notes ++ more) ≡ items_among notes ++ items_among more
items_among-append [] more = refl
items_among-append (Next item ∷ notes) more = ap (λ xs. item ∷ xs) (items_among-append notes more)
items_among-append (Completed ∷ notes) more = items_among-append notes more
items_among-append (Failed text ∷ notes) more = items_among-append notes more

items_among-terminal : (note : Note) → IsTerminal note → items_among (note ∷ []) ≡ []
items_among-terminal (Next item) is = cc
items_among-terminal Completed is = refl
items_among-terminal (Failed text) is = refl

pub items_among-last : (end : Option Note) → ((t : Note) → end ≡ Some t → IsTerminal t) → items_among (option_to_list end) ≡ []
items_among-last None is = refl
items_among-last (Some t) is = items_among-terminal t (is t refl)

-- a list with a note in it is not empty
pub not_empty : (front : List Note) (note : Note) (back : List Note) → [] ≡ front ++ note ∷ back → ⊥
not_empty [] note back is = cc
not_empty (other ∷ front) note back is = cc

item_no_terminal : (item : Item) (note : Note) → Next item ≡ note → IsTerminal note → ⊥
item_no_terminal item note same is =
    let none : is_some (terminal_in (Next item)) ≡ true = ap (λ n. is_some (terminal_in n)) same ∙ is in
    false≢true none

-- behind a terminal in such a line there is nothing
pub last_only : (xs : List Item) (end : Option Note) (front : List Note) (note : Note) (back : List Note) → IsTerminal note
    → map Next xs ++ option_to_list end ≡ front ++ note ∷ back → back ≡ []
last_only [] None front note back is same = absurd (not_empty front note back same)
last_only [] (Some t) [] note back is same = cc
last_only [] (Some t) (other ∷ front) note back is same = let rest : [] ≡ front ++ note ∷ back = cc in absurd (not_empty front note back rest)
last_only (x ∷ xs) end [] note back is same = let first : Next x ≡ note = cc in absurd (item_no_terminal x note first is)
last_only (x ∷ xs) end (other ∷ front) note back is same =
    let rest : map Next xs ++ option_to_list end ≡ front ++ note ∷ back = cc in
    last_only xs end front note back is rest
