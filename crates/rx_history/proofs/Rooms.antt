-- No more items wait for an observer than there is room for.
use Rattle.std.proofs.Common.{◌≡◌, ℕ, ◌-◌, ◌≤◌, nat_lt, false, ◌⊎◌, inl, inr, length, refl, sym, ap, ◌∙◌, arith}
use Rattle.std.proofs.lemmas.Bool.Decides.{nat_tests}
use Rattle.std.proofs.lemmas.List.{length-drop}
use Rattle.rx_note.specs.declared.strategy.Strategy.{Strategy}
use Rattle.rx_note.specs.declared.strategy.Strategy.TheVariants.{Buffer, Drop, Latest, Bounded}
use Rattle.rx_note.specs.Signals.{Signals, policy_of, demand, offered_count, are_too_many, beyond_room, line_items, waiting_items}
use Rattle.rx_note.proofs.Kept.{counted, within_drop, within_latest}
use Rattle.rx_note.proofs.Laws.{line_items-within}

-- the items that wait are not beyond the room
pub waits_in_room : (g : Strategy) (s : Signals) → (policy_of s).strategy ≡ g → beyond_room g (length (waiting_items s)) ≡ 0
waits_in_room Buffer s e = refl
waits_in_room (Drop room) s e =
    omega (arith, within_drop room s e, line_items-within s, length-drop (demand s) (line_items s))
waits_in_room (Latest room) s e =
    omega (arith, within_latest room s e, line_items-within s, length-drop (demand s) (line_items s))
waits_in_room (Bounded room) s e = refl

-- under Bounded no more wait than are ahead of the demand
bounded_within : (room : ℕ) (s : Signals) → are_too_many (policy_of s).strategy (offered_count s - demand s) ≡ false → (policy_of s).strategy ≡ Bounded room → length (waiting_items s) ≤ room
bounded_within room s fits e =
    let few : nat_lt room (offered_count s - demand s) ≡ false = ap (λ g. are_too_many g (offered_count s - demand s)) (sym e) ∙ fits in
    let le : offered_count s - demand s ≤ room = grind (arith, nat_tests) in
    omega (arith, le, (counted s).count, line_items-within s, length-drop (demand s) (line_items s))

-- so that under Drop, Latest and Bounded no more of them wait than there is room for
pub waits_within : (room : ℕ) (s : Signals) → are_too_many (policy_of s).strategy (offered_count s - demand s) ≡ false
    → ((policy_of s).strategy ≡ Drop room) ⊎ ((policy_of s).strategy ≡ Latest room) ⊎ ((policy_of s).strategy ≡ Bounded room) → length (waiting_items s) ≤ room
waits_within room s fits (inl drops) = omega (arith, waits_in_room (Drop room) s drops)
waits_within room s fits (inr (inl latest)) = omega (arith, waits_in_room (Latest room) s latest)
waits_within room s fits (inr (inr bounded)) = bounded_within room s fits bounded
