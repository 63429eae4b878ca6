-- What a signal that a subject sends adds to those of an observer.
use Rattle.std.proofs.Common.{◌≡◌, ℕ, ◌+◌, ◌-◌, ◌<◌, ◌≤◌, Bool, true, false, cond, List, [], ◌++◌, length, Option, None, Some, is_some, ◌⊎◌, inl, inr, refl, sym, ap, ◌∙◌, arith}
use Rattle.std.proofs.lemmas.Bool.{lt-ltb, le-ltb}
use Rattle.std.proofs.lemmas.List.{append-nil, length-drop}
use Rattle.rx_note.specs.declared.item.Item.{Item}
use Rattle.rx_note.specs.declared.note.Note.{Note}
use Rattle.rx_note.specs.declared.strategy.Strategy.{Strategy}
use Rattle.rx_note.specs.declared.strategy.Strategy.TheVariants.{Buffer, Drop, Latest, Bounded}
use Rattle.rx_note.specs.Signals.{Signal, Requested, Offered, Ended, Signals, ◌▸◌, policy_of, demand, offered_count, terminal_of, overflow, are_too_many, overflows, sent, line_items, given, waiting_items, owed}
use Rattle.rx_note.proofs.Kept.{counted, losses-none}
use Rattle.rx_note.proofs.Laws.{given-grows}
use Rattle.rx_note.proofs.Lines.{line_items-open, owed-rest}

-- BEHIND AN END

-- nothing follows an end but requests
pub sent-behind : (s : Signals) (end : Note) (item : Item) → terminal_of s ≡ Some end → sent s (Offered item) ≡ s
sent-behind s end item ended = ap (λ t. cond (is_some t) s (cond (overflows s) (s ▸ Ended overflow) (s ▸ Offered item))) ended

pub sent-second : (s : Signals) (end terminal : Note) → terminal_of s ≡ Some end → sent s (Ended terminal) ≡ s
sent-second s end terminal ended = ap (λ t. cond (is_some t) s (s ▸ Ended terminal)) ended

-- BEFORE THE END

-- the end of the subject is one of an observer that has none yet
pub sent-end : (s : Signals) (terminal : Note) → terminal_of s ≡ None → sent s (Ended terminal) ≡ s ▸ Ended terminal
sent-end s terminal open_now = ap (λ t. cond (is_some t) s (s ▸ Ended terminal)) open_now

sent-open : (s : Signals) (item : Item) (b : Bool) → terminal_of s ≡ None → overflows s ≡ b → sent s (Offered item) ≡ cond b (s ▸ Ended overflow) (s ▸ Offered item)
sent-open s item b open_now is =
    ap (λ t. cond (is_some t) s (cond (overflows s) (s ▸ Ended overflow) (s ▸ Offered item))) open_now
    ∙ ap (λ over. cond over (s ▸ Ended overflow) (s ▸ Offered item)) is

-- an item that fits is offered
pub sent-fits : (s : Signals) (item : Item) → terminal_of s ≡ None → overflows s ≡ false → sent s (Offered item) ≡ s ▸ Offered item
sent-fits s item open_now fits = sent-open s item false open_now fits

-- one that overflows ends the observer
pub sent-overflow : (s : Signals) (item : Item) → terminal_of s ≡ None → overflows s ≡ true → sent s (Offered item) ≡ s ▸ Ended overflow
sent-overflow s item open_now over = sent-open s item true open_now over

-- WHAT OVERFLOWS

pub overflows-by : (g : Strategy) (s : Signals) → (policy_of s).strategy ≡ g → overflows s ≡ are_too_many g (offered_count s + 1 - demand s)
overflows-by g s e = ap (λ g'. are_too_many g' (offered_count s + 1 - demand s)) e

-- under Bounded every item offered is in the line of an observer without an end
all_in_line : (room : ℕ) (s : Signals) → (policy_of s).strategy ≡ Bounded room → terminal_of s ≡ None → length (line_items s) ≡ offered_count s
all_in_line room s e open_now =
    omega (arith, (counted s).count, losses-none (Bounded room) s e (λ ahead. refl), ap length (line_items-open s open_now))

-- an item is too many under Bounded where nothing is owed and the room is full
pub overflows-full : (room : ℕ) (s : Signals) → (policy_of s).strategy ≡ Bounded room → terminal_of s ≡ None → owed s ≡ 0 → room ≤ length (waiting_items s) → overflows s ≡ true
overflows-full room s e open_now owes full =
    overflows-by (Bounded room) s e
    ∙ lt-ltb room (offered_count s + 1 - demand s)
    (omega (arith, all_in_line room s e open_now, owed-rest s, length-drop (demand s) (line_items s)))

-- it is not where it is owed, or there is room
pub overflows-free : (room : ℕ) (s : Signals) → (policy_of s).strategy ≡ Bounded room → terminal_of s ≡ None → (0 < owed s) ⊎ (length (waiting_items s) < room) → overflows s ≡ false
overflows-free room s e open_now free =
    overflows-by (Bounded room) s e
    ∙ le-ltb room (offered_count s + 1 - demand s)
    (elim free [
      | inl owes ↦ omega (arith, all_in_line room s e open_now, owed-rest s)
      | inr fits ↦ omega (arith, all_in_line room s e open_now, owed-rest s, length-drop (demand s) (line_items s))
    ])

-- an item that is owed never is, by any strategy
pub overflows-owed : (g : Strategy) (s : Signals) → (policy_of s).strategy ≡ g → terminal_of s ≡ None → 0 < owed s → overflows s ≡ false
overflows-owed Buffer s e open_now owes = overflows-by Buffer s e
overflows-owed (Drop room) s e open_now owes = overflows-by (Drop room) s e
overflows-owed (Latest room) s e open_now owes = overflows-by (Latest room) s e
overflows-owed (Bounded room) s e open_now owes = overflows-free room s e open_now (inl owes)

-- so one that is owed is offered
pub sent-owed : (s : Signals) (item : Item) → terminal_of s ≡ None → 0 < owed s → sent s (Offered item) ≡ s ▸ Offered item
sent-owed s item open_now owes = sent-fits s item open_now (overflows-owed (policy_of s).strategy s refl open_now owes)

-- WHAT NO SIGNAL CHANGES

chosen_policy : (a b : Bool) (s t u : Signals) → policy_of t ≡ policy_of s → policy_of u ≡ policy_of s → policy_of (cond a s (cond b t u)) ≡ policy_of s
chosen_policy true b s t u one other = refl
chosen_policy false true s t u one other = one
chosen_policy false false s t u one other = other

-- the policy stays
pub policy_of-sent : (s : Signals) (signal : Signal) → policy_of (sent s signal) ≡ policy_of s
policy_of-sent s (Requested n) = refl
policy_of-sent s (Offered item) = chosen_policy (is_some (terminal_of s)) (overflows s) s (s ▸ Ended overflow) (s ▸ Offered item) refl refl
policy_of-sent s (Ended terminal) = chosen_policy (is_some (terminal_of s)) true s (s ▸ Ended terminal) s refl refl

-- notes behind those that were given
abbrev pub Grows : Signals → Signals → Type 0
Grows s t = (notes : List Note) × (given t ≡ given s ++ notes)

grows_none : (s : Signals) → Grows s s
grows_none s = ([], sym (append-nil (given s)))

grows_open : (b : Bool) (s : Signals) (item : Item) → terminal_of s ≡ None → Grows s (cond b (s ▸ Ended overflow) (s ▸ Offered item))
grows_open true s item open_now = given-grows s (Ended overflow) open_now
grows_open false s item open_now = given-grows s (Offered item) open_now

grows_along : (s t u : Signals) → t ≡ u → Grows s u → Grows s t
grows_along s t u e grown = (grown.0, ap given e ∙ grown.1)

item_grows : (s : Signals) (item : Item) (end : Option Note) → terminal_of s ≡ end → Grows s (sent s (Offered item))
item_grows s item None open_now = grows_along s _ _ (sent-open s item (overflows s) open_now refl) (grows_open (overflows s) s item open_now)
item_grows s item (Some end) ended = grows_along s _ _ (sent-behind s end item ended) (grows_none s)

end_grows : (s : Signals) (terminal : Note) (end : Option Note) → terminal_of s ≡ end → Grows s (sent s (Ended terminal))
end_grows s terminal None open_now = grows_along s _ _ (sent-end s terminal open_now) (given-grows s (Ended terminal) open_now)
end_grows s terminal (Some end) ended = grows_along s _ _ (sent-second s end terminal ended) (grows_none s)

-- what was given is never taken back, whatever is sent
pub sent-grows : (s : Signals) (signal : Signal) → Grows s (sent s signal)
sent-grows s (Requested n) = given-grows s (Requested n) tt
sent-grows s (Offered item) = item_grows s item (terminal_of s) refl
sent-grows s (Ended terminal) = end_grows s terminal (terminal_of s) refl
