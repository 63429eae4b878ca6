-- What is so of an observer's first signals, and what each signal leaves, is so of its signals after every history.
use Rattle.std.proofs.Common.{◌≡◌, ℕ, ◌+◌, ◌-◌, ◌≤◌, ◌==◌, max, Bool, true, false, cond, ◌&&◌, List, [], ◌∷◌, ◌++◌, map, Option, None, Some, inl, inr, refl, subst, arith}
use Rattle.std.specs.Option.{option_map}
use Rattle.std.proofs.lemmas.Bool.Decides.{nat_tests}
use Rattle.rx_note.specs.declared.item.Item.{Item}
use Rattle.rx_note.specs.declared.note.Note.{Note}
use Rattle.rx_note.specs.declared.event.Event.TheVariants.{Emit, Join, Request, Dispose}
use Rattle.rx_note.specs.declared.policy.Policy.{Policy}
use Rattle.rx_note.specs.declared.rules.Rules.{Rules}
use Rattle.rx_note.specs.declared.strategy.Strategy.{Strategy}
use Rattle.rx_note.specs.declared.strategy.Strategy.TheVariants.{Buffer, Drop, Latest, Bounded}
use Rattle.rx_note.specs.Signals.{Requested, Offered, Ended, Signals, Start, ◌▸◌, policy_of, demand, offered_count, terminal_of, overflow, are_too_many, overflows, sent, ending}
use Rattle.rx_history.specs.Histories.{History, NoEvents, ◌▹◌, terminal_in, end_of, item_count, accepts, joins, is_held, may_join, stamp, opening_by, followed_by, ended_by, opened, last_item, offers_by, signalled, may_request, signals}
use Rattle.rx_history.specs.Delivery.{items_among, IsTerminal}
use Rattle.rx_history.proofs.Cases.{chosen, mapped}
use Rattle.rx_history.proofs.Feeding.{item_sent, end_sent}
use Rattle.rx_history.proofs.Terminals.{in_a_note, end_is_terminal, items_among-last}

-- a fact that is so of the first signals, and that each signal leaves
pub record Stays (P : Signals → Type 0) : Type 0 where
  pub starts : (policy : Policy) → P (Start policy)
  pub asks : (s : Signals) (n : ℕ) → P s → P (s ▸ Requested n)
  pub offers : (s : Signals) (item : Item) → terminal_of s ≡ None → overflows s ≡ false → P s → P (s ▸ Offered item)
  pub ends : (s : Signals) (terminal : Note) → IsTerminal terminal → terminal_of s ≡ None → P s → P (s ▸ Ended terminal)

stays-items : (P : Signals → Type 0) (s : Signals) (items : List Item) (last : Option Note) → Stays P → ((t : Note) → last ≡ Some t → IsTerminal t)
    → P s → P (followed_by s (map Offered items ++ ended_by last))
stays-items P s [] None stays is so = so
stays-items P s [] (Some terminal) stays is so = end_sent P s terminal so (λ open_now. stays.ends s terminal (is terminal refl) open_now so)
stays-items P s (item ∷ items) last stays is so =
    stays-items P (sent s (Offered item)) items last stays is
    (item_sent P s item so (λ open_now over. stays.ends s overflow refl open_now so) (λ open_now fits. stays.offers s item open_now fits so))

asked : (P : Signals → Type 0) (b : Bool) (s : Signals) (n : ℕ) → Stays P → P s → P (cond b (s ▸ Requested n) s)
asked P true s n stays so = stays.asks s n so
asked P false s n stays so = so

pub stays : (P : Signals → Type 0) (rules : Rules) (H : History) (o : ℕ) (s : Signals) → Stays P → signals rules H o ≡ Some s → P s
stays P rules NoEvents o s each is = cc
stays P rules (H ▹ (port, Emit note at)) o s each is =
    elim (chosen (is_held rules H o && accepts rules H note) (option_map (λ t. followed_by t (signalled rules H port note)) (signals rules H o)) (signals rules H o) (Some s) is) [
      | inl fed ↦
          let found = mapped (λ (t : Signals). followed_by t (signalled rules H port note)) (signals rules H o) s fed.1 in
          subst P found.2
          (stays-items P found.0 (offers_by rules.kind (last_item rules H) port (item_count rules H) note) (terminal_in note) each (in_a_note note) (stays P rules H o found.0 each found.1))
      | inr same ↦ stays P rules H o s each same.1
    ]
stays P rules (H ▹ (port, Join policy first at)) o s each is =
    elim (chosen ((joins rules H == o) && may_join rules H) (Some (opened rules H policy first at)) (signals rules H o) (Some s) is) [
      | inl joined ↦
          let same : opened rules H policy first at ≡ s = let e = joined.1 in cc in
          subst P same
          (stays-items P (Start policy ▸ Requested first) (opening_by rules.kind rules H (max (stamp rules H) at)) (end_of H) each (end_is_terminal H)
          (each.asks (Start policy) first (each.starts policy)))
      | inr same ↦ stays P rules H o s each same.1
    ]
stays P rules (H ▹ (port, Request who n)) o s each is =
    elim (chosen ((who == o) && is_held rules H o) (option_map (λ t. cond (may_request n t) (t ▸ Requested n) t) (signals rules H o)) (signals rules H o) (Some s) is) [
      | inl own ↦
          let found = mapped (λ (t : Signals). cond (may_request n t) (t ▸ Requested n) t) (signals rules H o) s own.1 in
          subst P found.2 (asked P (may_request n found.0) found.0 n each (stays P rules H o found.0 each found.1))
      | inr same ↦ stays P rules H o s each same.1
    ]
stays P rules (H ▹ (port, Dispose who)) o s each is = stays P rules H o s each is

-- THEIR END IS A TERMINAL

abbrev EndsInATerminal : Signals → Type 0
EndsInATerminal s = (t : Note) → terminal_of s ≡ Some t → IsTerminal t

this_terminal : (terminal t : Note) → IsTerminal terminal → Some terminal ≡ Some t → IsTerminal t
this_terminal terminal t is same = let e : terminal ≡ t = cc in subst IsTerminal e is

terminals_stay : Stays EndsInATerminal
terminals_stay = record {
  starts = λ policy t ended. cc;
  asks = λ s n so. so;
  offers = λ s item open_now fits so. so;
  ends = λ s terminal is open_now so t ended. this_terminal terminal t is ended;
}

-- the end of an observer's signals is a terminal, whether it is held or not
pub ends_in_a_terminal : (rules : Rules) (H : History) (o : ℕ) (s : Signals) (t : Note) → signals rules H o ≡ Some s → terminal_of s ≡ Some t → IsTerminal t
ends_in_a_terminal rules H o s t is ended = stays EndsInATerminal rules H o s terminals_stay is t ended

pub items_among-ending : (rules : Rules) (H : History) (o : ℕ) (s : Signals) → signals rules H o ≡ Some s → items_among (ending s) ≡ []
items_among-ending rules H o s is = items_among-last (terminal_of s) (λ t. ends_in_a_terminal rules H o s t is)

-- NO MORE THAN THERE IS ROOM FOR

-- the items ahead of the demand are not too many
abbrev pub IsInRoom : Signals → Type 0
IsInRoom s = are_too_many (policy_of s).strategy (offered_count s - demand s) ≡ false

none_too_many : (g : Strategy) → are_too_many g 0 ≡ false
none_too_many Buffer = refl
none_too_many (Drop room) = refl
none_too_many (Latest room) = refl
none_too_many (Bounded room) = grind (arith, nat_tests)

fewer_too_many : (g : Strategy) (few many : ℕ) → few ≤ many → are_too_many g many ≡ false → are_too_many g few ≡ false
fewer_too_many Buffer few many le fits = refl
fewer_too_many (Drop room) few many le fits = refl
fewer_too_many (Latest room) few many le fits = refl
fewer_too_many (Bounded room) few many le fits = grind (arith, nat_tests)

rooms_stay : Stays IsInRoom
rooms_stay = record {
  starts = λ policy. none_too_many policy.strategy;
  asks = λ s n so. fewer_too_many (policy_of s).strategy (offered_count s - (demand s + n)) (offered_count s - demand s) (omega arith) so;
  offers = λ s item open_now fits so. fits;
  ends = λ s terminal is open_now so. so;
}

pub are_in_room : (rules : Rules) (H : History) (o : ℕ) (s : Signals) → signals rules H o ≡ Some s → IsInRoom s
are_in_room rules H o s is = stays IsInRoom rules H o s rooms_stay is
